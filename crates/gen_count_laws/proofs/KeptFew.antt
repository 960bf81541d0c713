-- Few operations of a hart are kept.
use Rattle.std.proofs.Common.{ℕ, zero, suc, ◌≡◌, ◌+◌, ◌*◌, ◌<◌, ◌≤◌, ◌==◌, List, [], ◌∷◌, ◌++◌, length}
use Rattle.std.proofs.Common.{Bool, true, false, nat_lt, cond, refl, ap, sym, subst, ◌∙◌, arith, inl, inr, Some, None}
use Rattle.std.specs.List.{filter}
use Rattle.std.specs.declared.option.Option.{Option}
use Rattle.std.proofs.lemmas.Bool.{cases_Bool, cases_lt, both_ways, eqb-true, eq-eqb, ltb-true, lt-ltb, and_parts}
use Rattle.std.proofs.lemmas.Bool.{and_from}
use Rattle.std.proofs.lemmas.Bool.{or_cases}
use Rattle.tandem_base.specs.declared.names.Place.{Place}
use Rattle.tandem_base.specs.Places.{earlier}
use Rattle.msg_frames.specs.declared.message.Message.{Message}
use Rattle.matching.specs.declared.reports.OpenReport.{OpenReport}
use Rattle.matching.specs.Fates.{fate, place_of}
use Rattle.matching.specs.Reports.{live, early, place_of_report}
use Rattle.matching.specs.Tags.{last_tag}
use Rattle.rvwmo_model.specs.declared.operations.Op.{Op}
use Rattle.trace_model.specs.declared.access.Access.{Access}
use Rattle.trace_model.specs.Groups.{parts_below, part_at, same_place, some_below}
use Rattle.trace_model.specs.Entries.{Entry, MemoryUse, Places, byte_places, memory_ops, entry_ops}
use Rattle.trace_model.specs.Kept.{earlier_of, earliest_place, oldest_place, is_after_place, is_kept}
use Rattle.trace_model.specs.Traces.{entries, places, trace_of}
use Rattle.trace_model.proofs.AreEntries.{AreEntries, entry_own}
use Rattle.trace_model.proofs.Groups.{part_from}
use Rattle.trace_model.proofs.Growing.{are_entries}
use Rattle.trace_model.proofs.Lists.{In, in_cases, from_filter}
use Rattle.trace_model.proofs.Suits.{Suited}
use Rattle.trace_gen.specs.declared.rounds.Progress.{Progress}
use Rattle.trace_gen.specs.Program.{made_image, own_addr}
use Rattle.trace_gen.specs.Rounds.{tag_of}
use Rattle.gen_laws.proofs.Own.{early_at}
use Rattle.gen_order_laws.proofs.Logs.{Perf}
use Rattle.gen_order_laws.proofs.Entered.{IsOfLog}
use Rattle.gen_order_laws.proofs.Entered as entered
use Rattle.gen_order_laws.proofs.Kept.{IsKept}
use Rattle.gen_count_laws.proofs.FewEntries.{flat_few, is_recent, top_of, few_recent}
use Rattle.gen_count_laws.proofs.Recent.{IsRecent, IsAfter, fixed_ops}
use Rattle.gen_count_laws.proofs.Uses.{weight_of}

-- ---- the oldest report

-- the place, if there is one, is of a message after message n
abbrev pub IsOldAfter : ℕ → Option Place → Type 0
IsOldAfter n None = Unit {0}
IsOldAfter n (Some p) = (n < p.message) × (p.time + 1 ≡ p.message)

earliest_after : (n : ℕ) (rs : List OpenReport) → ((r : OpenReport) → In r rs → IsAfter n r)
    → IsOldAfter n (earliest_place rs)
earliest_after n [] are = tt
earliest_after n (r ∷ rs) are =
    at (earliest_place rs) (earliest_after n rs (λ x i. are x (inr i)))
  where
    on : (b : Bool) (q : Place) → IsOldAfter n (Some q) → IsOldAfter n (Some (cond b q (place_of_report r)))
    on true q after = after
    on false q after = are r (inl refl)

    at : (o : Option Place) → IsOldAfter n o → IsOldAfter n (Some (earlier_of (place_of_report r) o))
    at None after = are r (inl refl)
    at (Some q) after = on (earlier q (place_of_report r)) q after

pub oldest_after : (before : List Message) (h round n : ℕ) → IsRecent before h round n
    → IsOldAfter n (oldest_place before h)
oldest_after before h round n is = earliest_after n (live before h ++ early_at h (early before)) all
  where
    all : (r : OpenReport) → In r (live before h ++ early_at h (early before)) → IsAfter n r
    all r i = elim (in_cases (live before h) (early_at h (early before)) r i) [
      | inl j ↦ is.reads r j
      | inr j ↦
          let p = from_filter (λ (x : OpenReport). x.hart == h) (early before) r j in
          is.earlies r p.0 (eqb-true r.hart h p.1)
    ]

earlier_first : (a b : Place) → a.time + 1 ≡ a.message → b.time + 1 ≡ b.message → earlier a b ≡ true
    → a.message ≤ b.message
earlier_first a b p q e = elim (or_cases (nat_lt a.time b.time) _ e) [
  | inl lt ↦ let l = ltb-true a.time b.time lt in omega (arith, p, q, l)
  | inr same ↦ let s = eqb-true a.time b.time (and_parts (a.time == b.time) _ same).0 in omega (arith, p, q, s)
]

-- ---- how many an instruction has

parts_few : (a : Access) (f : ℕ → Option Place) (n : ℕ) → length (parts_below a f n) ≤ n
parts_few a f zero = omega arith
parts_few a f (suc n) = at (some_below (λ k. same_place (f k) (f n)) n) (parts_few a f n)
  where
    at : (b : Bool) → length (parts_below a f n) ≤ n
        → length (cond b (parts_below a f n) (part_at a f (f n) ∷ parts_below a f n)) ≤ suc n
    at true le = omega (arith, le)
    at false le = omega (arith, le)

module _ (harts c h n : ℕ) (progress : ℕ → Progress) (before : List Message) (kept : IsKept harts c progress before)
    (suits : Suited made_image before) (is : IsRecent before h (progress h).round n)
    (ones : (e : Entry) → In e (entries made_image before) → weight_of e.memory ≤ 1)
    (last : top_of (last_tag before h) ≤ 7 * (progress h).round + 7) where
  abbrev g : Places
  g = places before

  abbrev es : List Entry
  es = entries made_image before

  abbrev low : ℕ
  low = 7 * (progress h).round

  few_ops : (e : Entry) → In e es → length (entry_ops g e) ≤ 8
  few_ops e i = by (kept.entered.known e i)
    where
      by : IsOfLog kept.log e → length (entry_ops g e) ≤ 8
      by (inl q) = omega (arith, ap (λ (u : MemoryUse). length (memory_ops g u)) q)
      by (inr (inl f)) =
          omega (arith, ap (λ (u : MemoryUse). length (memory_ops g u)) f.2.is, ap weight_of f.2.is, ones e i)
      by (inr (inr f)) =
          let a = f.2.access in
          omega (
            arith,
            ap (λ (u : MemoryUse). length (memory_ops g u)) f.2.is,
            f.2.len,
            parts_few a (byte_places g a) a.extent.len,
          )

  -- where an operation of an earlier round was performed
  abbrev IsOld : Op → Type 0
  IsOld o = (q : Place) × (o.place ≡ Some q) × (q.message ≤ n) × (q.time + 1 ≡ q.message)

  old_store : (e : Entry) (o : Op) (f : Perf) → In f kept.log → entered.IsStoredBy f e → In o (entry_ops g e)
      → o.name.hart ≡ h → o.name.tag ≤ low → IsOld o
  old_store e o f i by j hart tag =
      let a = by.access in
      let part = part_from a (byte_places g a) a.extent.len o
      (subst (λ (u : MemoryUse). In o (memory_ops g u)) by.is j) in
      let k = part.0 in
      let named : o.name.tag ≡ a.tag = ap (λ (x : Op). x.name.tag) part.2 in
      let own : a.hart ≡ h = sym (ap (λ (x : Op). x.name.hart) part.2) ∙ hart in
      let round : f.round < (progress h).round = omega (arith, tag, named, by.tag) in
      let s = is.stored f.round k round (omega (arith, part.1, by.len)) in (
        s.0,
        ap (λ (x : Op). x.place) part.2
            ∙ ap (λ (x : ℕ). place_of (fate before x a.tag (a.extent.addr + k))) own
            ∙ ap (λ (x : ℕ). place_of (fate before h x (a.extent.addr + k))) by.tag
            ∙ ap (λ (x : ℕ). place_of (fate before h (tag_of f.round 1) (x + k))) by.addr
            ∙ ap (λ (x : ℕ). place_of (fate before h (tag_of f.round 1) (own_addr x + k))) (sym by.hart ∙ own)
            ∙ ap place_of s.1,
        s.2,
        s.3,
      )

  old_one : (e : Entry) (o : Op) → In e es → In o (entry_ops g e) → e.insn.hart ≡ h → o.name.hart ≡ h
      → e.insn.tag ≤ low → o.name.tag ≤ low → IsOld o
  old_one e o i j hart named tag below = by (kept.entered.known e i)
    where
      by : IsOfLog kept.log e → IsOld o
      by (inl q) = absurd (subst (λ (u : MemoryUse). In o (memory_ops g u)) q j)
      by (inr (inl f)) =
          let inside = subst (λ (u : MemoryUse). In o (memory_ops g u)) f.2.is j in
          let op = f.2.all o inside in (
            f.0.place,
            op.place,
            is.fixed e o f.0.place i hart tag (subst (λ (u : MemoryUse). In o (fixed_ops u)) (sym f.2.is) inside)
                op.place,
            kept.logged.timed f.0 f.1,
          )
      by (inr (inr f)) = old_store e o f.0 f.1 f.2 j named below

  -- what is kept is of a recent instruction
  module _ (oldest : Option Place) (after : IsOldAfter n oldest) where
    not_old : (o : Op) → IsOld o → is_kept h oldest o ≡ true → ⊥
    not_old o old pass = by oldest after pass
      where
        by : (p : Option Place) → IsOldAfter n p → is_kept h p o ≡ true → ⊥
        by None a t = absurd (cc)
        by (Some p) a t =
            let e = (and_parts (o.name.hart == h) (is_after_place p o.place) t).1 in
            let q : earlier p old.0 ≡ true = sym (ap (is_after_place p) old.1) ∙ e in
            let le = earlier_first p old.0 a.1 old.3 q in
            omega (arith, le, a.0, old.2)

    of_hart : (o : Op) → is_kept h oldest o ≡ true → o.name.hart ≡ h
    of_hart o pass = by oldest pass
      where
        by : (p : Option Place) → is_kept h p o ≡ true → o.name.hart ≡ h
        by None t = absurd (cc)
        by (Some p) t = eqb-true o.name.hart h (and_parts (o.name.hart == h) (is_after_place p o.place) t).0

    of_recent : (e : Entry) (o : Op) → In e es → In o (entry_ops g e) → is_kept h oldest o ≡ true
        → is_recent h low e ≡ true
    of_recent e o i j pass =
        let good : AreEntries es = are_entries made_image before suits in
        let own = entry_own g e (good.each e i) e.memory refl o j in
        let named = of_hart o pass in
        let hart : e.insn.hart ≡ h = sym own.0 ∙ named in
        elim (cases_lt low e.insn.tag) [
          | inl lt ↦
              and_from (e.insn.hart == h) (nat_lt low e.insn.tag) (eq-eqb e.insn.hart h hart)
              (lt-ltb low e.insn.tag lt)
          | inr le ↦
              absurd (not_old o (old_one e o i j hart named le (omega (arith, le, own.1))) pass)
        ]

    none_old : (e : Entry) → In e es → is_recent h low e ≡ false → (o : Op) → In o (entry_ops g e)
        → is_kept h oldest o ≡ false
    none_old e i off o j = elim (cases_Bool (is_kept h oldest o)) [
      | inl pass ↦ absurd (both_ways (is_recent h low e) off (of_recent e o i j pass))
      | inr not_kept ↦ not_kept
    ]

    pub kept_few : length (filter (is_kept h oldest) (trace_of made_image before).ops) ≤ 56
    kept_few =
        let few = flat_few (is_kept h oldest) (is_recent h low) (entry_ops g) es few_ops none_old in
        omega (arith, few, few_recent before suits h low, last)

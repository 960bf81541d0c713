-- How many operations come of the instructions that retire at each step of a hart.
use Rattle.std.proofs.Common.{ℕ, ◌⊎◌, inl, inr, ◌≡◌, ◌+◌, ◌*◌, ◌^◌, ◌<◌, ◌≤◌, List, [], ◌∷◌, length}
use Rattle.std.proofs.Common.{true, false, refl, ap, ◌∙◌, arith, Some, None, pos, negsuc, lit<, lit≤}
use Rattle.std.specs.List.{cons_option}
use Rattle.std.specs.declared.option.Option.{Option}
use Rattle.std.proofs.lemmas.Bool.{le-leb}
use Rattle.tandem_base.specs.Signs.{sign_extended}
use Rattle.tandem_base.specs.declared.extent.Extent.{Extent}
use Rattle.msg_frames.specs.declared.message.Head.{Head}
use Rattle.msg_frames.specs.declared.message.Body.TheVariants as body
use Rattle.msg_frames.specs.declared.message.Message.{Message}
use Rattle.rv_decode.specs.declared.instruction.Insn.{Insn}
use Rattle.rv_decode.specs.declared.instruction.Insn.TheVariants.{Load, Store, Fence, Jal, Amo}
use Rattle.rv_decode.specs.declared.operations.LoadOp.TheVariants.{Ld, Lw}
use Rattle.rv_decode.specs.declared.operations.StoreOp.TheVariants.{Sd}
use Rattle.rv_decode.specs.declared.operations.AmoOp.TheVariants as amo_op
use Rattle.rv_step.specs.Steps.{load, store, amo, plain}
use Rattle.rvwmo_model.specs.declared.operations.OpKind.TheVariants as kind
use Rattle.matching.specs.declared.reports.OpenReport.{OpenReport}
use Rattle.matching.specs.Reports.{live, early, counting, place_counted, bytes_counted}
use Rattle.trace_model.specs.Entries.{Entry, MemoryUse, Fixed, Stores}
use Rattle.trace_model.specs.Extents.{extent_of, is_extent}
use Rattle.trace_model.specs.Retirements.{entry, load_ops, load_access, read_places, amo_ops, atomic_ops}
use Rattle.trace_model.specs.Retirements.{store_access, acquire_of, release_of}
use Rattle.trace_model.specs.Traces.{entries, entry_in, stored_at}
use Rattle.trace_model.proofs.Extents.{extent_is}
use Rattle.trace_gen.specs.declared.rounds.Step.{Step}
use Rattle.trace_gen.specs.declared.rounds.Step.TheVariants as step
use Rattle.trace_gen.specs.declared.rounds.Progress.{Progress}
use Rattle.trace_gen.specs.Program.{made_image, counter_addr, own_addr}
use Rattle.trace_gen.specs.Rounds.{tag_of, bytes_of_number, low_half_of, rd_with, sayings_at, moved_by, says_read}
use Rattle.trace_gen.specs.Schedule.{said, all_said}
use Rattle.trace_gen.proofs.Fitting.{AreSaid}
use Rattle.gen_laws.proofs.Own.{early_of_own}
use Rattle.gen_laws.proofs.Says.{Seen, seen, Runs, Left, say_all}
use Rattle.gen_laws.proofs.States.{IsBefore, IsNext, HasRead}
use Rattle.gen_laws.proofs.Plans.{plan_0, plan_1, plan_2, plan_3, plan_4, plan_5, plan_6}
use Rattle.gen_laws.proofs.Moves.{found_early}
use Rattle.gen_laws.proofs.Parts.{read_fine}
use Rattle.gen_laws.proofs.ReadBytes.{counts}
use Rattle.gen_laws.proofs.FirstSteps.{one_read, next_with}
use Rattle.gen_order_laws.proofs.Retirings.{retire_head, retire_of, entry_is}
use Rattle.gen_count_laws.proofs.OneParts.{one_part}

-- how many operations an instruction has, where its store is one
abbrev pub weight_of : MemoryUse → ℕ
weight_of (Fixed ops) = length ops
weight_of (Stores a) = 1

-- how many all have
abbrev pub weigh : List Entry → ℕ
weigh [] = 0
weigh (e ∷ es) = weight_of e.memory + weigh es

with_new : (o : Option Entry) (e : Entry) (es : List Entry) → o ≡ Some e → cons_option o es ≡ e ∷ es
with_new o e es is = ap (λ (x : Option Entry). cons_option x es) is

-- a load
module _ (h n round k : ℕ) (rs : List OpenReport) (insn : Insn) (addr len : ℕ) (bytes : List ℕ)
    (extent : is_extent addr len ≡ true) (has : HasRead round k addr bytes rs) (le : len ≤ length bytes)
    (some : 0 < len) where
  abbrev load_head : Head
  load_head = record { hart = h; time = n; tag = tag_of round k }

  abbrev ext : Extent
  ext = extent_of addr len

  size : ext.len ≡ len
  size = (extent_is addr len extent).len_is

  here : (i : ℕ) → i < ext.len → read_places rs (tag_of round k) ext i ≡ place_counted (Some has.own)
  here i lt =
      ap (λ (a : ℕ). place_counted (counting rs (tag_of round k) (a + i))) (extent_is addr len extent).addr_is
      ∙ ap (λ (xs : List OpenReport). place_counted (counting xs (tag_of round k) (addr + i))) has.is
      ∙ ap place_counted
      (counts has.own (has.ahead ∷ []) (tag_of round k) addr bytes has.tag has.piece i (omega (arith, lt, size, le)))

  load_one : length (load_ops rs load_head insn ext) ≡ 1
  load_one =
      one_part (load_access rs load_head insn ext) (read_places rs (tag_of round k) ext) (place_counted (Some has.own))
      (omega (arith, size, some)) here

-- how many operations are behind a step of the round
abbrev pub used_before : Step → ℕ
used_before step.ReadAhead = 0
used_before step.ReadCounter = 0
used_before step.RetireRead = 0
used_before step.RetireStore = 1
used_before step.ForwardStore = 2
used_before step.InsertStore = 3
used_before step.WriteStore = 3
used_before step.AddOne = 3
used_before step.RetireAdd = 3
used_before step.RetireFence = 4
used_before step.ReadAgain = 4
used_before step.RetireReadAgain = 4
used_before step.RetireJump = 5

-- how many of a hart are
abbrev pub used_of : Progress → ℕ
used_of p = 5 * p.round + used_before p.step

-- how many come at it
abbrev pub gain_at : Step → ℕ
gain_at step.ReadAhead = 0
gain_at step.ReadCounter = 0
gain_at step.RetireRead = 1
gain_at step.RetireStore = 1
gain_at step.ForwardStore = 1
gain_at step.InsertStore = 0
gain_at step.WriteStore = 0
gain_at step.AddOne = 0
gain_at step.RetireAdd = 1
gain_at step.RetireFence = 0
gain_at step.ReadAgain = 0
gain_at step.RetireReadAgain = 1
gain_at step.RetireJump = 0

used_more : (s : Step) (c : ℕ) (p : Progress) → used_of (moved_by s c p) ≡ gain_at s + (5 * p.round + used_before s)
used_more step.ReadAhead c p = omega arith
used_more step.ReadCounter c p = omega arith
used_more step.RetireRead c p = omega arith
used_more step.RetireStore c p = omega arith
used_more step.ForwardStore c p = omega arith
used_more step.InsertStore c p = omega arith
used_more step.WriteStore c p = omega arith
used_more step.AddOne c p = omega arith
used_more step.RetireAdd c p = omega arith
used_more step.RetireFence c p = omega arith
used_more step.ReadAgain c p = omega arith
used_more step.RetireReadAgain c p = omega arith
used_more step.RetireJump c p = omega arith

module _ (harts h c : ℕ) (p : Progress) (before : List Message) (runs : Runs harts before) (mine : h < harts)
    (h16 : h < 16) where
  abbrev n : ℕ
  n = length before

  abbrev es : List Entry
  es = entries made_image before

  -- the entry of the instruction that retires at a step, with so many operations
  abbrev pub Gains : Step → Type 0
  Gains s = (e : Entry) × (entries made_image (all_said h before (sayings_at s h c p)) ≡ e ∷ entries made_image before)
      × (weight_of e.memory ≡ gain_at s)

  -- what a step adds to the entries
  abbrev pub Adds : Step → Type 0
  Adds s = AreSaid h (sayings_at s h c p) → IsBefore harts h s p (seen before h)
      → ((entries made_image (all_said h before (sayings_at s h c p)) ≡ entries made_image before) × (gain_at s ≡ 0))
      ⊎ Gains s

  retire_read : Adds step.RetireRead
  retire_read are b =
      let rd = rd_with 5 p.taken in
      let insn : Insn = Load Ld 5 10 (pos 0) in
      let head : Head = retire_head h before p.round 0 in
      let e : Entry = entry head insn false (Fixed (load_ops (live before h) head insn (extent_of counter_addr 8))) in
      let is = entry_is harts h before p.round 0 rd runs (load insn counter_addr 8)
      (plan_0 harts h p.round (seen before h).table mine b.next) in
      let one = load_one h n p.round 0 (live before h) insn counter_addr 8 (bytes_of_number p.taken) refl b.reads
      (lit≤ tt) (lit< tt) in
      inr (e, with_new (entry_in made_image before head (body.Retire (retire_of 0 rd))) e es is, one)

  retire_store : Adds step.RetireStore
  retire_store are b =
      let insn : Insn = Store Sd 11 5 (pos 0) in
      let head : Head = retire_head h before p.round 1 in
      let plan = plan_1 harts h p.round (seen before h).table mine h16 b.next in
      let doing = store insn (own_addr h) 8 in
      let put = stored_at made_image before head (retire_of 1 None) in
      let e : Entry = entry head insn false (Stores (store_access head insn (extent_of (own_addr h) 8) put)) in
      let is = entry_is harts h before p.round 1 None runs doing plan in
      inr (e, with_new (entry_in made_image before head (body.Retire (retire_of 1 None))) e es is, refl)

  forward_store : Adds step.ForwardStore
  forward_store are b =
      let bytes = low_half_of p.taken in
      let read = says_read p.round 2 (own_addr h) bytes in
      let first : List Message = said h before read in
      let v = seen before h in
      let Q : Seen → Type 0 = λ w. IsNext harts h p.round 2 w.table × HasRead p.round 2
      (own_addr h) bytes w.table.live in
      let left : Left harts h before first Q =
      say_all harts h (read ∷ []) before Q mine runs (are.0, tt) (
        refl,
        read_fine h n v p.round 2 (7 * p.round + 2) (own_addr h) bytes b.next.last (omega arith) (omega (arith, h16)),
        (
          next_with harts h 0 p mine h16 (lit< tt) n v p.round 2 2 (own_addr h) bytes b.next,
          one_read h n v p.round 2 (own_addr h) bytes b.reads,
        ),
      ) in
      let rd = rd_with 9 (sign_extended 32 p.taken) in
      let insn : Insn = Load Lw 9 11 (pos 0) in
      let head : Head = retire_head h first p.round 2 in
      let fits : is_extent (own_addr h) 4 ≡ true = le-leb (own_addr h + 4) (2 ^ 64) (omega (arith, h16)) in
      let e : Entry = entry head insn false (Fixed (load_ops (live first h) head insn (extent_of (own_addr h) 4))) in
      let is = entry_is harts h first p.round 2 rd left.runs (load insn (own_addr h) 4)
      (plan_2 harts h p.round (seen first h).table mine h16 left.own.0) in
      let one = load_one h (length first) p.round 2 (live first h) insn (own_addr h) 4 bytes fits left.own.1 (lit≤ tt)
      (lit< tt) in
      inr (e, with_new (entry_in made_image first head (body.Retire (retire_of 2 rd))) e es is, one)

  retire_add : Adds step.RetireAdd
  retire_add are b =
      let rd = rd_with 6 p.added in
      let insn : Insn = Amo amo_op.Add true false false 6 10 12 in
      let head : Head = retire_head h before p.round 3 in
      let v = seen before h in
      let ext = extent_of counter_addr 8 in
      let e : Entry = entry head insn false (Fixed (amo_ops (live before h) (early before) head insn ext)) in
      let is = entry_is harts h before p.round 3 rd runs (amo insn counter_addr 8)
      (plan_3 harts h p.round v.table mine b.next) in
      let found = early_of_own (early before) h (tag_of p.round 3)
      ∙ found_early h p.round (p.added + 1) v.early b.early in
      let one : length (amo_ops (live before h) (early before) head insn ext) ≡ 1 =
      ap (λ (o : Option OpenReport). length (atomic_ops kind.Both ext
      (bytes_counted (live before h) (tag_of p.round 3) ext.addr ext.len) (acquire_of insn)
      (release_of insn) o)) found in
      inr (e, with_new (entry_in made_image before head (body.Retire (retire_of 3 rd))) e es is, one)

  retire_fence : Adds step.RetireFence
  retire_fence are b =
      let insn : Insn = Fence 0b0000 0b0011 0b0011 0 0 in
      let head : Head = retire_head h before p.round 4 in
      let e : Entry = entry head insn false (Fixed []) in
      let is = entry_is harts h before p.round 4 None runs (plain insn)
      (plan_4 harts h p.round (seen before h).table mine b.next) in
      inr (e, with_new (entry_in made_image before head (body.Retire (retire_of 4 None))) e es is, refl)

  retire_read_again : Adds step.RetireReadAgain
  retire_read_again are b =
      let rd = rd_with 8 p.taken in
      let insn : Insn = Load Ld 8 11 (pos 0) in
      let head : Head = retire_head h before p.round 5 in
      let e : Entry = entry head insn false (Fixed (load_ops (live before h) head insn (extent_of (own_addr h) 8))) in
      let is = entry_is harts h before p.round 5 rd runs (load insn (own_addr h) 8)
      (plan_5 harts h p.round (seen before h).table mine h16 b.next) in
      let fits : is_extent (own_addr h) 8 ≡ true = le-leb (own_addr h + 8) (2 ^ 64) (omega (arith, h16)) in
      let one = load_one h n p.round 5 (live before h) insn (own_addr h) 8 (bytes_of_number p.taken) fits b.reads
      (lit≤ tt) (lit< tt) in
      inr (e, with_new (entry_in made_image before head (body.Retire (retire_of 5 rd))) e es is, one)

  retire_jump : Adds step.RetireJump
  retire_jump are b =
      let insn : Insn = Jal 0 (negsuc 23) in
      let head : Head = retire_head h before p.round 6 in
      let e : Entry = entry head insn false (Fixed []) in
      let is = entry_is harts h before p.round 6 None runs (plain insn)
      (plan_6 harts h p.round (seen before h).table mine b.next) in
      inr (e, with_new (entry_in made_image before head (body.Retire (retire_of 6 None))) e es is, refl)

  pub adds_uses : (s : Step) → Adds s
  adds_uses step.ReadAhead are b = inl (refl, refl)
  adds_uses step.ReadCounter are b = inl (refl, refl)
  adds_uses step.RetireRead are b = retire_read are b
  adds_uses step.RetireStore are b = retire_store are b
  adds_uses step.ForwardStore are b = forward_store are b
  adds_uses step.InsertStore are b = inl (refl, refl)
  adds_uses step.WriteStore are b = inl (refl, refl)
  adds_uses step.AddOne are b = inl (refl, refl)
  adds_uses step.RetireAdd are b = retire_add are b
  adds_uses step.RetireFence are b = retire_fence are b
  adds_uses step.ReadAgain are b = inl (refl, refl)
  adds_uses step.RetireReadAgain are b = retire_read_again are b
  adds_uses step.RetireJump are b = retire_jump are b

  -- so their weight
  pub weighs_more : (s : Step) → AreSaid h (sayings_at s h c p) → IsBefore harts h s p (seen before h)
      → weigh (entries made_image (all_said h before (sayings_at s h c p))) + (5 * p.round + used_before s)
      ≡ weigh (entries made_image before) + used_of (moved_by s c p)
  weighs_more s are b = elim (adds_uses s are b) [
    | inl q ↦ omega (arith, ap weigh q.0, q.1, used_more s c p)
    | inr q ↦ omega (arith, ap weigh q.1, q.2, used_more s c p)
  ]

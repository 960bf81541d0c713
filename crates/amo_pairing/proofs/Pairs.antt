-- The pair of an SC that retires.
use Rattle.std.proofs.Common.{ℕ, ◌+◌, ◌-◌, ◌<◌, ◌≤◌, ◌≡◌, Bool, true, false, cond, Option, Some, None}
use Rattle.std.proofs.Common.{refl, sym, ap, subst, ◌∙◌, arith}
use Rattle.std.proofs.lemmas.Bool.{both_ways, and_parts, and_from}
use Rattle.std.specs.List.{Contains}
use Rattle.tandem_base.specs.declared.extent.Extent.{Extent}
use Rattle.tandem_base.specs.Extents.{Covers, is_among}
use Rattle.tandem_base.specs.declared.names.Position.{Position}
use Rattle.tandem_base.specs.Places.{comes_before}
use Rattle.rv_decode.specs.Kinds.{is_lr, is_sc}
use Rattle.rvwmo_model.specs.Atomicity.{IsPair, IsCoveredBy}
use Rattle.rvwmo_model.specs.declared.instructions.Retired.{Retired}
use Rattle.rvwmo_model.specs.declared.operations.Op.{Op}
use Rattle.rvwmo_model.specs.declared.traces.Trace.{Trace}
use Rattle.rvwmo_model.specs.InsnKinds.{has_stored}
use Rattle.rvwmo_model.specs.ProgramOrder.{insn_at, insn_of, is_one}
use Rattle.rvwmo_model.specs.Rules.{Reserves}
use Rattle.rvwmo_model.proofs.Extents.{bounds_of, from_bounds}
use Rattle.rvwmo_model.proofs.LookUp.{found_in}
use Rattle.rvwmo_model.proofs.Tested.{one_some}
use Rattle.growth_laws.proofs.Insns.{more_new, with_other, insn_is}
use Rattle.byte_memory.specs.declared.capture.Foreign.{Foreign}
use Rattle.byte_memory.specs.declared.capture.StoreCapture.{StoreCapture}
use Rattle.amo_pairing.specs.Breaches.{lies_in, origin_of_writer, block_answer, answer_by, IsScJudgedIn, IsScJudged}
use Rattle.amo_pairing.specs.declared.reservation.Breach.{Breach}
use Rattle.amo_pairing.specs.declared.reservation.Reservation.{Reservation}
use Rattle.amo_pairing.specs.declared.sc.Sc.{Sc}
use Rattle.amo_pairing.specs.declared.sc.Sc.TheVariants as sc
use Rattle.amo_pairing.specs.Reservations.{HasWholeExtent, IsOpenLr, IsOfOpenLr}
use Rattle.amo_pairing.specs.ScAnswers.{IsScMore, IsPairedWhole, SaysPair}
use Rattle.amo_pairing.proofs.Opens.{takes_part}

-- ---- extents

-- the first and the last byte inside, and so each
pub lies_bounds : (a b : Extent) → lies_in a b ≡ true → (b.addr ≤ a.addr) × (a.addr + a.len ≤ b.addr + b.len)
lies_bounds a b q =
    let p = and_parts (is_among b.addr b.len a.addr) (is_among b.addr b.len (a.addr + (a.len - 1))) q in
    let f = bounds_of b a.addr p.0 in
    let l = bounds_of b (a.addr + (a.len - 1)) p.1 in
    let s = a.sized.0 in
    (f.0, omega (arith, l.1, s))

-- bytes of an operation that lie in those of another that has all of its own
pub covered_in : (w l : Op) → HasWholeExtent l → lies_in w.extent l.extent ≡ true → IsCoveredBy w l
covered_in w l whole q x h =
    let c : Covers w.extent x = (and_parts (is_among w.extent.addr w.extent.len x) _ h).0 in
    let i = bounds_of w.extent x c in
    let b = lies_bounds w.extent l.extent q in
    whole x (from_bounds l.extent x (omega (arith, i.0, b.0)) (omega (arith, i.1, b.1)))

-- and one that has all of its own, where each is one of the other
pub lies_covered : (w l : Op) → HasWholeExtent w → IsCoveredBy w l → lies_in w.extent l.extent ≡ true
lies_covered w l whole q =
    let s = w.extent.sized.0 in
    let last : w.extent.addr + (w.extent.len - 1) < w.extent.addr + w.extent.len = omega (arith, s) in
    and_from _ _ (at w.extent.addr (from_bounds w.extent w.extent.addr (omega arith) (omega (arith, s))))
    (at (w.extent.addr + (w.extent.len - 1))
    (from_bounds w.extent (w.extent.addr + (w.extent.len - 1)) (omega arith) last))
  where
    at : (x : ℕ) → Covers w.extent x → is_among l.extent.addr l.extent.len x ≡ true
    at x c = (and_parts (is_among l.extent.addr l.extent.len x) _ (q x (whole x c))).0

-- ---- pairs

module _ (t t' : Trace) (r : Retired) (w : Op) (m : IsScMore t t' r w) where
  before : (h j : ℕ) → (h ≡ r.hart → j < r.tag) → insn_at t'.insns h j ≡ insn_at t.insns h j
  before h j less = m.keeps.insns h j ∙ with_other t r h j less

  insn_w : insn_of t' w ≡ Some r
  insn_w = insn_is t' r w (more_new t t' r m.keeps) m.own

  -- what is found of the hart before is older
  older : (j : ℕ) (v : Retired) → insn_at t.insns r.hart j ≡ Some v → j < r.tag
  older j v e =
      let f = found_in t.insns r.hart j v e in
      let l : v.tag < r.tag = m.younger v f.0 f.1 in
      omega (arith, f.2)

  -- the LR of a pair is the open one
  pub pair_open : (l : Op) → IsPair t' l w → IsOpenLr t r.hart l.name.tag
  pair_open l p = record {
    lr = ap (is_one is_lr) (sym (before r.hart l.name.tag (λ e. less)))
        ∙ subst (λ (g : ℕ). is_one is_lr (insn_at t'.insns g l.name.tag) ≡ true) hart p.paired.0;
    last = λ j more q.
        let v = one_some takes_part (insn_at t.insns r.hart j) q in
        let j_less : j < r.tag = older j v.0 v.1 in
        p.paired.2 (
          j,
          more,
          omega (arith, m.own.1),
          subst (λ (g : ℕ). Reserves t' g j) (sym hart)
              (ap (is_one takes_part) (before r.hart j (λ e. j_less)) ∙ q),
        );
  }
    where
      hart : l.name.hart ≡ r.hart
      hart = sym p.one_hart ∙ m.own.0

      less : l.name.tag < r.tag
      less = let o = p.in_order in omega (arith, m.own.1)

  -- the open LR is that of a pair
  pub open_pair : (l : Op) → Contains t.ops l → l.name.hart ≡ r.hart → IsOpenLr t r.hart l.name.tag → IsPair t' l w
  open_pair l i hart o =
      let v = one_some is_lr (insn_at t.insns r.hart l.name.tag) o.lr in
      let less : l.name.tag < r.tag = older l.name.tag v.0 v.1 in
      record {
        lr_in = m.ops_on l i;
        sc_in = m.added;
        one_hart = m.own.0 ∙ sym hart;
        in_order = omega (arith, m.own.1);
        paired = (
          subst (λ (g : ℕ). is_one is_lr (insn_at t'.insns g l.name.tag) ≡ true) (sym hart)
              (ap (is_one is_lr) (before r.hart l.name.tag (λ e. less)) ∙ o.lr),
          ap (is_one is_sc) insn_w ∙ m.conditional,
          λ b. between b.0 b.1 b.2 (subst (λ (g : ℕ). Reserves t' g b.0) hart b.3),
        );
        stored = ap has_stored insn_w ∙ and_from (is_sc r.insn) r.stored m.conditional m.stored;
      }
    where
      between : (j : ℕ) → l.name.tag < j → j < w.name.tag → Reserves t' r.hart j → ⊥
      between j more j_less q =
          let below : j < r.tag = omega (arith, m.own.1) in
          o.last j more (ap (is_one takes_part) (sym (before r.hart j (λ e. below))) ∙ q)

  -- ---- answers

  -- an answer by the block says that there is a pair
  by_block : (place : Position) (found : Option Foreign) → IsPairedWhole t' w → SaysPair t' w (block_answer place found)
  by_block place None p = p
  by_block place (Some f) p = at (comes_before place f.writer.place)
    where
      at : (b : Bool) → SaysPair t' w (cond b (sc.Atomicity f.at (origin_of_writer f.writer)) sc.Fine)
      at true = p
      at false = p

  module _ (l : Op) (o : IsOfOpenLr t r.hart l) (kept : Reservation) (same : kept.extent ≡ l.extent) where
    paired : lies_in w.extent kept.extent ≡ true → IsPairedWhole t' w
    paired q = (
      l,
      open_pair l o.here o.hart o.latest,
      covered_in w l o.whole (subst (λ (e : Extent). lies_in w.extent e ≡ true) same q),
    )

    outside : lies_in w.extent kept.extent ≡ false → SaysPair t' w sc.Outside
    outside q = (
      l,
      open_pair l o.here o.hart o.latest,
      λ c. both_ways _ (subst (λ (e : Extent). lies_in w.extent e ≡ false) same q) (lies_covered w l m.whole c),
    )

    by_breach : (found : Option Breach) (place : Position) (foreign : Option Foreign) → IsPairedWhole t' w
        → SaysPair t' w (answer_by found (block_answer place foreign))
    by_breach None place foreign p = by_block place foreign p
    by_breach (Some b) place foreign p = p

    pub says_pair : (h : ℕ) (seen : StoreCapture) (answer : Sc) → IsScJudged kept h w.extent seen answer
        → SaysPair t' w answer
    says_pair h seen answer = at (lies_in w.extent kept.extent) refl
      where
        at : (b : Bool) → lies_in w.extent kept.extent ≡ b → IsScJudgedIn b kept h seen answer → SaysPair t' w answer
        at false q e = subst (λ (z : Sc). SaysPair t' w z) (sym e) (outside q)
        at true q e =
            subst (λ (z : Sc). SaysPair t' w z) (sym e.2) (by_breach e.0 kept.place seen.foreign (paired q))

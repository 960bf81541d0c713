-- No pair of preserved program order is broken in a made stream.
use Rattle.std.proofs.Common.{ℕ, suc, ◌≡◌, ◌<◌, ◌||◌, List, Bool, true, false, refl, ap, sym}
use Rattle.std.proofs.Common.{◌∙◌, arith, Some, None, inl, inr, pos}
use Rattle.std.specs.declared.option.Option.{Option}
use Rattle.std.proofs.lemmas.Bool.{and_parts, both_ways, or_cases}
use Rattle.rv_decode.specs.declared.instruction.Insn.{Insn}
use Rattle.rv_decode.specs.declared.instruction.Insn.TheVariants.{Store}
use Rattle.rv_decode.specs.declared.operations.StoreOp.TheVariants.{Sd}
use Rattle.rv_decode.specs.declared.registers.Register.{Register}
use Rattle.rv_decode.specs.Kinds.{is_amo_or_sc, is_lr}
use Rattle.rv_decode.specs.Registers.{sets}
use Rattle.rvwmo_model.specs.declared.instructions.Retired.{Retired}
use Rattle.rvwmo_model.specs.declared.operations.Op.{Op}
use Rattle.rvwmo_model.specs.declared.operations.OpKind.TheVariants as kind
use Rattle.rvwmo_model.specs.declared.operations.Ann.TheVariants as ann
use Rattle.rvwmo_model.specs.declared.traces.Trace.{Trace}
use Rattle.rvwmo_model.specs.Annotations.{is_annotated, is_rcsc}
use Rattle.rvwmo_model.specs.Dependencies.{Flow, Dep, direct, along}
use Rattle.rvwmo_model.specs.Flows.{flows, flow_of}
use Rattle.rvwmo_model.specs.Order.{has_byte, op_stores, op_loads, kind_stores, kind_loads}
use Rattle.rvwmo_model.specs.ProgramOrder.{insn_of, is_one}
use Rattle.rvwmo_model.specs.declared.preserved.Rule.{Rule}
use Rattle.rvwmo_model.specs.declared.preserved.Rule.TheVariants.{R1, R2, R3, R4, R5, R6, R7, R8, R9, R10, R11, R12}
use Rattle.rvwmo_model.specs.declared.preserved.Rule.TheVariants.{R13}
use Rattle.rvwmo_model.specs.Rules.{Broken, Orders}
use Rattle.rvwmo_model.proofs.LookUp.{found_in}
use Rattle.trace_model.proofs.Lists.{listed}
use Rattle.trace_gen.specs.declared.rounds.Progress.{Progress}
use Rattle.trace_gen.specs.Rounds.{tag_of}
use Rattle.gen_order_laws.proofs.Logs.{Perf, IsLog, insn_of_access}
use Rattle.gen_order_laws.proofs.MadeOps.{IsMade, precedes_sooner, tags_turns, kind_of_access}

dep_before : (code : ℕ → Flow) (j : ℕ) (r : Register) (i : ℕ) (s : Register) → Dep code j r i s → i < j
dep_before code _ _ _ _ (direct j i s lt w none) = lt
dep_before code _ _ _ _ (along j r k p q i s lt d c f) = let b = dep_before code k p i s d in omega (arith, b, lt)

-- nothing depends on an instruction without a destination, of those right behind it
none_depends : (code : ℕ → Flow) (j : ℕ) (r : Register) (i : ℕ) (s : Register) → Dep code j r i s → j ≡ suc i
    → ((q : Register) → (code i).sets q ≡ false) → ⊥
none_depends code _ _ _ _ (direct j i s lt w none) e quiet = both_ways ((code i).sets s) (quiet s) w
none_depends code _ _ _ _ (along j r k p q i s lt d c f) e quiet =
    let b = dep_before code k p i s d in absurd (omega (arith, b, lt, e))

module _ (log : List Perf) (t : Trace) (made : IsMade log t) (a b : Op) (j : ℕ) (tag : a.name.tag ≡ tag_of j 1)
    (next : b.name.tag ≡ suc a.name.tag) (ka : a.kind ≡ kind.Store) (kb : b.kind ≡ kind.Load)
    (acquire : a.acquire ≡ ann.None) (acquires : a.release ≡ ann.None) (release : b.release ≡ ann.None) where
  is_store : (w : Retired) → insn_of t a ≡ Some w → w.insn ≡ Store Sd 11 5 (pos 0)
  is_store w e =
      let found = found_in t.insns a.name.hart a.name.tag w e in
      (made.insns w (listed t.insns w found.0)).store j (found.2 ∙ tag)

  no_test : (test : Insn → Bool) → test (Store Sd 11 5 (pos 0)) ≡ false → is_one test (insn_of t a) ≡ false
  no_test test fails = at (insn_of t a) refl
    where
      at : (o : Option Retired) → insn_of t a ≡ o → is_one test o ≡ false
      at None e = refl
      at (Some w) e = ap test (is_store w e) ∙ fails

  quiet : (q : Register) → (flows t.insns a.name.hart a.name.tag).sets q ≡ false
  quiet q = at (insn_of t a) refl
    where
      at : (o : Option Retired) → insn_of t a ≡ o → (flow_of o).sets q ≡ false
      at None e = refl
      at (Some w) e = ap (λ (i : Insn). sets i w.stored q) (is_store w e)

  no_store : op_stores b ≡ true → ⊥
  no_store e = both_ways (op_stores b) (ap kind_stores kb) e

  no_load : op_loads a ≡ true → ⊥
  no_load e = both_ways (op_loads a) (ap kind_loads ka) e

  none_between : (k : ℕ) → a.name.tag < k → k < b.name.tag → ⊥
  none_between k low high = absurd (omega (arith, low, high, next))

  by_rule : (k : Rule) → Orders k t a b → ⊥
  by_rule R1 q = no_store (and_parts (op_stores b) (has_byte q.0 b) q.2).0
  by_rule R2 q = no_load (and_parts (op_loads a) (has_byte q.0 a) q.1).0
  by_rule R3 q = both_ways (is_one is_amo_or_sc (insn_of t a)) (no_test is_amo_or_sc refl) q.0
  by_rule R4 q = none_between q.0 q.1 q.2
  by_rule R5 q = both_ways (is_annotated a.acquire) (ap is_annotated acquire) q
  by_rule R6 q = both_ways (is_annotated b.release) (ap is_annotated release) q
  by_rule R7 q =
      let r = and_parts (is_rcsc a.acquire || is_rcsc a.release) _ q in
      elim (or_cases (is_rcsc a.acquire) (is_rcsc a.release) r.0) [
        | inl e ↦ both_ways (is_rcsc a.acquire) (ap is_rcsc acquire) e
        | inr e ↦ both_ways (is_rcsc a.release) (ap is_rcsc acquires) e
      ]
  by_rule R8 q = both_ways (is_one is_lr (insn_of t a)) (no_test is_lr refl) q.0
  by_rule R9 q =
      none_depends (flows t.insns a.name.hart) b.name.tag q.0 a.name.tag q.2.0 q.2.1 next quiet
  by_rule R10 q =
      none_depends (flows t.insns a.name.hart) b.name.tag q.0 a.name.tag q.2.0 q.2.1 next quiet
  by_rule R11 q = no_store q.0
  by_rule R12 q = none_between q.0 q.1 q.2
  by_rule R13 q = no_store q.0

-- so none is broken
pub made_ordered : (log : List Perf) (harts n : ℕ) (progress : ℕ → Progress) (t : Trace) → IsLog log harts n progress
    → IsMade log t → (k : Rule) (a b : Op) → Broken k t a b → ⊥
made_ordered log harts n progress t is made k a b broken =
    let fa = made.ops a broken.first_in in
    let gb = made.ops b broken.second_in in
    let f = fa.0 in
    let g = gb.0 in
    let sooner = precedes_sooner log harts n progress is g f b a gb.1 fa.1 gb.2 fa.2 broken.against in
    let hart : f.hart ≡ g.hart = sym fa.2.hart ∙ sym broken.one_hart ∙ gb.2.hart in
    elim (tags_turns log harts n progress is f g a b fa.1 gb.1 fa.2 gb.2 broken.in_order) [
      | inl lt ↦ let up = is.rising f g fa.1 gb.1 hart lt in absurd (omega (arith, up, sooner))
      | inr pair ↦
          let ta : a.name.tag ≡ tag_of f.round 1 = fa.2.tag ∙ ap (λ x. tag_of f.round (insn_of_access x)) pair.0 in
          let tb : b.name.tag ≡ tag_of g.round 2 = gb.2.tag ∙ ap (λ x. tag_of g.round (insn_of_access x)) pair.1 in
          by_rule log t made a b f.round ta (omega (arith, ta, tb, pair.2))
          (fa.2.kind ∙ ap kind_of_access pair.0) (gb.2.kind ∙ ap kind_of_access pair.1) fa.2.acquire fa.2.release
          gb.2.release k broken.rule
    ]

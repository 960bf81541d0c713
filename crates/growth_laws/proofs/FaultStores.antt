-- What a message that performs stores can break in a legal trace.
use Rattle.std.proofs.Common.{ℕ, ◌<◌, ◌≡◌, ◌⊎◌, inl, inr, true, List, refl, sym, ap, subst, ◌∙◌, arith}
use Rattle.std.proofs.lemmas.Bool.{both_ways, cases_Bool, and_parts}
use Rattle.std.specs.List.{Contains}
use Rattle.std.proofs.lemmas.List.Elements.{Contains-append_left}
use Rattle.rvwmo_model.specs.declared.operations.Op.{Op}
use Rattle.rvwmo_model.specs.declared.preserved.Rule.{Rule}
use Rattle.rvwmo_model.specs.declared.preserved.Rule.TheVariants.{R1, R2, R3, R4, R5, R6, R7, R8, R9, R10, R11, R12}
use Rattle.rvwmo_model.specs.declared.preserved.Rule.TheVariants.{R13}
use Rattle.rvwmo_model.specs.declared.traces.Trace.{Trace}
use Rattle.rvwmo_model.specs.Order.{standing, has_byte, op_loads, kind_loads}
use Rattle.rvwmo_model.specs.ProgramOrder.{insn_at, insn_of, is_one}
use Rattle.rvwmo_model.specs.Rules.{Orders, Broken}
use Rattle.rvwmo_model.specs.InForm.{IsPlaced}
use Rattle.rvwmo_model.specs.Legal.{Legal}
use Rattle.rvwmo_model.specs.Report.{number}
use Rattle.rvwmo_model.proofs.Orders.{before_asym}
use Rattle.rv_decode.specs.Kinds.{is_store, is_lr, is_sc}
use Rattle.growth_laws.specs.Kinds.{IsPlainStore, SameInsn, WellKinded}
use Rattle.growth_laws.specs.Growth.{Performs}
use Rattle.growth_laws.specs.Laws.{HasBroken, HasOverlap, IsLeastRule, BrokenByStores, StoresBreakPairs}
use Rattle.growth_laws.proofs.Places.{not_both, placed_first}
use Rattle.growth_laws.proofs.Facts.{plain_kind}
use Rattle.growth_laws.proofs.Links.{IsLike, Chain}
use Rattle.growth_laws.proofs.Growths.{chain_kinded, performs_chain}
use Rattle.growth_laws.proofs.Pairs.{second_placed}
use Rattle.growth_laws.proofs.PlainStores.{plain_not, store_lr, store_sc, plain_first}
use Rattle.growth_laws.proofs.Parts.{IsOfWaiting, Stems, stems_old, stems_part, stems_left, performs_insns}
use Rattle.growth_laws.proofs.Parts.{performs_back}
use Rattle.growth_laws.proofs.ChainsBack.{chain_broken_back, chain_value_back, chain_torn_back}
use Rattle.rvwmo_model.specs.InsnKinds.{fence_orders}

first_or_later : (j : Rule) → (j ≡ R1) ⊎ (number R1 < number j)
first_or_later R1 = inl refl
first_or_later R2 = inr (omega arith)
first_or_later R3 = inr (omega arith)
first_or_later R4 = inr (omega arith)
first_or_later R5 = inr (omega arith)
first_or_later R6 = inr (omega arith)
first_or_later R7 = inr (omega arith)
first_or_later R8 = inr (omega arith)
first_or_later R9 = inr (omega arith)
first_or_later R10 = inr (omega arith)
first_or_later R11 = inr (omega arith)
first_or_later R12 = inr (omega arith)
first_or_later R13 = inr (omega arith)

module _ (initial : ℕ → ℕ) (t t' : Trace) (h : ℕ) (parts : List Op) (k : WellKinded t) (legal : Legal initial t)
    (s : Performs h t parts t') where
  chain : Chain t t'
  chain = performs_chain h t t' parts k s

  k' : WellKinded t'
  k' = chain_kinded t t' k chain

  stem : (v : Op) → Contains t'.ops v → Stems t parts v
  stem v i = performs_back h t t' parts s v i

  insns : (g n : ℕ) → insn_at t'.insns g n ≡ insn_at t.insns g n
  insns = performs_insns h t t' parts s

  -- what has bytes of a store that wasn't performed is of a plain store
  of_plain : (v o : Op) → IsOfWaiting t v o → IsPlainStore t' v
  of_plain v o w =
      rw (w.same.0, w.same.1)
      (ap (is_one is_store) (insns o.name.hart o.name.tag) ∙ k.unperformed o w.was w.unperformed)

  -- what is of no plain store was there and performed
  old : (v : Op) → Contains t'.ops v → (IsPlainStore t' v → ⊥) → Contains t.ops v × IsPlaced v
  old v i other = at (stem v i)
    where
      at : Stems t parts v → Contains t.ops v × IsPlaced v
      at (stems_old j p) = (j, p)
      at (stems_part j p above o w) = absurd (other (of_plain v o w))
      at (stems_left e o w) = absurd (other (of_plain v o w))

  only_pairs : (HasBroken t' → ⊥) → Legal initial t'
  only_pairs none = record {
    ordered = λ r a b p. none (r, a, b, p);
    valued = λ i x v.
        let j = old i v.load_in
        (λ p. both_ways _ (ap kind_loads (plain_kind t' i k' v.load_in p))
        (and_parts (op_loads i) (has_byte x i) v.loads).0) in
        elim (chain_value_back initial t t' i x chain j.0 j.1 v) [ inl w ↦ legal.valued i x w | inr c ↦ whole c ];
    paired = λ w u. let r = k'.paired w u.sc_in u.stored in u.alone r.0 r.1 r.2;
    atomic = λ r w p.
        let i = old r p.pair.lr_in (λ q. plain_not is_lr t' r store_lr q p.pair.paired.0) in
        let j = old w p.pair.sc_in (λ q. plain_not is_sc t' w store_sc q p.pair.paired.1) in
        elim (chain_torn_back t t' r w chain i.0 i.1 j.0 j.1 p) [ inl q ↦ legal.atomic r w q | inr c ↦ whole c ];
  }
    where
      whole : HasOverlap t' → ⊥
      whole c = none (R1, c.0, c.1, c.2)

  -- the least rule is 1, 4 or 6
  least_rule : (j : Rule) (a b : Op) → IsLeastRule t' j → Broken j t' a b → (j ≡ R1) ⊎ (j ≡ R4) ⊎ (j ≡ R6)
  least_rule j a b least p = elim (cases_Bool (is_one is_store (insn_of t' a))) [
    | inl plain ↦ plain_first t' j a b k' p.first_in plain p.rule
    | inr other ↦ elim (first_or_later j) [
      | inl one ↦ inl one
      | inr more ↦ absurd (at more (old a p.first_in (λ q. both_ways _ other q)) (stem b p.second_in))
    ]
  ]
    where
      at : number R1 < number j → Contains t.ops a × IsPlaced a → Stems t parts b → ⊥
      at more (ha, pa) (stems_old hb pb) =
          elim (chain_broken_back t t' j a b chain ha pa hb pb p) [
            | inl q ↦ legal.ordered j a b q
            | inr c ↦ least R1
                more c.0 c.1 c.2
          ]
      at more (ha, pa) (stems_part m pb above o w) =
          both_ways _ (before_asym (standing a) (standing b) (above a (Contains-append_left t.ops t.early a ha) pa))
          p.against
      at more (ha, pa) (stems_left e o w) = not_both b (second_placed t' j a b p) e

  -- these rules held before, of what had the bytes of a
  held : (j : Rule) (a o b : Op) → (j ≡ R1) ⊎ (j ≡ R4) ⊎ (j ≡ R6) → SameInsn a o → IsLike a o
      → ((x : ℕ) → has_byte x a ≡ true → has_byte x o ≡ true) → Orders j t' a b → Orders j t o b
  held j a o b r same like bytes = at r
    where
      at : (j ≡ R1) ⊎ (j ≡ R4) ⊎ (j ≡ R6) → Orders j t' a b → Orders j t o b
      at (inl q) = subst (λ (z : Rule). Orders z t' a b → Orders z t o b) (sym q) (λ e. (e.0, bytes e.0 e.1, e.2))
      at (inr (inl q)) = subst (λ (z : Rule). Orders z t' a b → Orders z t o b) (sym q)
          (λ e. (
            e.0,
            rw (← same.1) e.1,
            e.2,
            rw (← same.0, ← like.kind)
                (ap (is_one (λ w. fence_orders w a.kind b.kind)) (sym (insns a.name.hart e.0)) ∙ e.3),
          ))
      at (inr (inr q)) = subst (λ (z : Rule). Orders z t' a b → Orders z t o b) (sym q) (λ e. e)

  -- the second operation wasn't performed before
  second_new : (j : Rule) (a b : Op) → IsLeastRule t' j → Broken j t' a b → Contains t.ops b → IsPlaced b → ⊥
  second_new j a b least p hb pb = at (stem a p.first_in)
    where
      rule : (j ≡ R1) ⊎ (j ≡ R4) ⊎ (j ≡ R6)
      rule = least_rule j a b least p

      waits : (o : Op) → IsOfWaiting t a o → ⊥
      waits o w = legal.ordered j o b (record {
        first_in = w.was;
        second_in = hb;
        one_hart = p.one_hart ∙ w.same.0;
        in_order = rw (← w.same.1) p.in_order;
        rule = held j a o b rule w.same w.like w.bytes p.rule;
        against = placed_first b o pb w.unperformed;
      })

      at : Stems t parts a → ⊥
      at (stems_old ha pa) = legal.ordered j a b (record {
        first_in = ha;
        second_in = hb;
        one_hart = p.one_hart;
        in_order = p.in_order;
        rule = held j a a b rule (refl, refl) (record { kind = refl; acquire = refl; release = refl }) (λ x q. q)
            p.rule;
        against = p.against;
      })
      at (stems_part m pa above o w) = waits o w
      at (stems_left e o w) = waits o w

  broken_pair : (j : Rule) (a b : Op) → IsLeastRule t' j → Broken j t' a b → BrokenByStores t' parts a b
  broken_pair j a b least p = at (stem b p.second_in) (stem a p.first_in)
    where
      at : Stems t parts b → Stems t parts a → BrokenByStores t' parts a b
      at (stems_old hb pb) from = absurd (second_new j a b least p hb pb)
      at (stems_left e o w) from = absurd (not_both b (second_placed t' j a b p) e)
      at (stems_part m pb above o w) (stems_old ha pa) =
          absurd (both_ways _
          (before_asym (standing a) (standing b) (above a (Contains-append_left t.ops t.early a ha) pa)) p.against)
      at (stems_part m pb above o w) (stems_part n pa over z y) =
          record { second = m; plain = of_plain a z y; first = inr (n, p.against) }
      at (stems_part m pb above o w) (stems_left e z y) = record { second = m; plain = of_plain a z y; first = inl e }

pub stores_break_pairs : StoresBreakPairs
stores_break_pairs initial t t' h parts k legal s = record {
  only_pairs = only_pairs initial t t' h parts k legal s;
  rule = least_rule initial t t' h parts k legal s;
  pair = broken_pair initial t t' h parts k legal s;
}

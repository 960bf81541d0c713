-- A performed operation below all places that are still to come precedes all that comes, and so does what it forces.
use Rattle.std.proofs.Common.{ℕ, ◌<◌, ◌≡◌, ◌⊎◌, inl, inr, true, refl, sym, ap, subst, ◌∙◌, arith}
use Rattle.std.proofs.lemmas.Bool.{both_ways, cases_Bool, and_parts}
use Rattle.std.specs.List.{Contains}
use Rattle.std.proofs.lemmas.List.Elements.{Contains-append_left}
use Rattle.rvwmo_model.specs.declared.operations.Op.{Op}
use Rattle.rvwmo_model.specs.declared.preserved.Rule.{Rule}
use Rattle.rvwmo_model.specs.declared.preserved.Rule.TheVariants.{R1, R9, R10}
use Rattle.rvwmo_model.specs.declared.traces.Trace.{Trace}
use Rattle.rvwmo_model.specs.Order.{standing, precedes, has_byte, op_loads}
use Rattle.rvwmo_model.specs.ProgramOrder.{insn_at}
use Rattle.rvwmo_model.specs.Rules.{Orders}
use Rattle.rvwmo_model.specs.InForm.{IsPlaced}
use Rattle.rvwmo_model.specs.Legal.{Legal}
use Rattle.rvwmo_model.proofs.Orders.{before_asym, before_trans}
use Rattle.growth_laws.specs.Kinds.{SameInsn, WellKinded}
use Rattle.growth_laws.specs.Growth.{Grows}
use Rattle.growth_laws.specs.Laws.{IsPreserved, IsLater, IsBelow, PrecedesLater, Windows}
use Rattle.growth_laws.proofs.Places.{place_cases, placed_first}
use Rattle.growth_laws.proofs.Facts.{op_insn, alike}
use Rattle.growth_laws.proofs.Links.{Chain}
use Rattle.growth_laws.proofs.Growths.{chain_kinded, grows_chain}
use Rattle.growth_laws.proofs.Chains.{chain_stays}
use Rattle.growth_laws.proofs.SameInsns.{address_on, data_on}
use Rattle.growth_laws.proofs.Comings.{Comes, comes_old, comes_part, comes_new, grows_back, chain_insns}

module _ (initial : ℕ → ℕ) (t t' : Trace) (a : Op) (k : WellKinded t) (legal : Legal initial t) (g : Grows t t')
    (below : IsBelow t t' a) where
  chain : Chain t t'
  chain = grows_chain t t' k g

  k' : WellKinded t'
  k' = chain_kinded t t' k chain

  pa : IsPlaced a
  pa = below.placed

  -- a precedes what comes later
  before : (b : Op) → IsLater t t' a b → precedes a b ≡ true
  before b l = elim (place_cases b) [
    | inr e ↦ placed_first a b pa e
    | inl pb ↦ elim (cases_Bool (precedes a b)) [
      | inl q ↦ q
      | inr q ↦ absurd (
          let same : a ≡ b =
          alike t' a b k' (Contains-append_left t'.ops t'.early a (chain_stays t t' a chain below.in_ops pa))
          (Contains-append_left t'.ops t'.early b l.in_ops) q (below.below b l pb) in
          let w = op_insn t a k below.in_ops in
          let less : w.0.tag < b.name.tag = l.younger w.0 w.1 (w.2 ∙ sym l.one_hart) in
          omega (arith, w.3, ap (λ (o : Op). o.name.tag) same))
    ]
  ]

  insns : (n : ℕ) → (n < a.name.tag) ⊎ (n ≡ a.name.tag) → insn_at t.insns a.name.hart n ≡ insn_at t'.insns a.name.hart n
  insns n le = sym (chain_insns t t' chain a below.in_ops pa n le)

  -- rules 1, 9 and 10 held before, of what had the bytes of c
  held : (r : Rule) (c o : Op) → (r ≡ R1) ⊎ (r ≡ R9) ⊎ (r ≡ R10) → a.name.hart ≡ c.name.hart → SameInsn c o
      → ((x : ℕ) → has_byte x c ≡ true → has_byte x o ≡ true) → Orders r t' c a → Orders r t o a
  held r c o rule one same bytes = at rule
    where
      still : (n : ℕ) → (n < a.name.tag) ⊎ (n ≡ a.name.tag) → insn_at t.insns o.name.hart n ≡ insn_at t'.insns
          o.name.hart n
      still n le = subst (λ (h : ℕ). insn_at t.insns h n ≡ insn_at t'.insns h n) (one ∙ same.0) (insns n le)

      at : (r ≡ R1) ⊎ (r ≡ R9) ⊎ (r ≡ R10) → Orders r t' c a → Orders r t o a
      at (inl q) = subst (λ (z : Rule). Orders z t' c a → Orders z t o a) (sym q) (λ e. (e.0, bytes e.0 e.1, e.2))
      at (inr (inl q)) = subst (λ (z : Rule). Orders z t' c a → Orders z t o a) (sym q)
          (λ e. address_on t' t o.name.hart a.name.tag still a.name.tag o.name.tag (inr refl)
          (rw (← same.0, ← same.1) e))
      at (inr (inr q)) = subst (λ (z : Rule). Orders z t' c a → Orders z t o a) (sym q)
          (λ e. data_on t' t o.name.hart a.name.tag still a.name.tag o.name.tag (inr refl) (rw (← same.0, ← same.1) e))

  -- what they put before a precedes a
  forced : (r : Rule) (c : Op) → (r ≡ R1) ⊎ (r ≡ R9) ⊎ (r ≡ R10) → IsPreserved r t' c a → precedes c a ≡ true
  forced r c rule p = at (grows_back t t' k g c p.first_in)
    where
      unbroken : (o : Op) → Contains t.ops o → SameInsn c o → ((x : ℕ) → has_byte x c ≡ true → has_byte x o ≡ true)
          → precedes a o ≡ true → ⊥
      unbroken o i same bytes q = legal.ordered r o a (record {
        first_in = i;
        second_in = below.in_ops;
        one_hart = p.one_hart ∙ same.0;
        in_order = rw (← same.1) p.in_order;
        rule = held r c o rule p.one_hart same bytes p.rule;
        against = q;
      })

      at : Comes t c → precedes c a ≡ true
      at (comes_new y) =
          absurd (let l : a.name.tag < c.name.tag = y a below.in_ops pa p.one_hart in let m = p.in_order in omega arith)
      at (comes_part o w) = absurd (unbroken o w.was w.same w.bytes (placed_first a o pa w.unperformed))
      at (comes_old i) = elim (cases_Bool (precedes c a)) [
        | inl q ↦ q
        | inr q ↦ elim (cases_Bool (precedes a c)) [
          | inl z ↦ absurd (unbroken c i (refl, refl) (λ x s. s) z)
          | inr z ↦ absurd (let same : c ≡ a = alike t c a k (Contains-append_left t.ops t.early c i)
              (Contains-append_left t.ops t.early a below.in_ops) q z in let m = p.in_order in
              omega (arith, ap (λ (o : Op). o.name.tag) same))
        ]
      ]

  pub precedes_later : (b : Op) → IsLater t t' a b → PrecedesLater t t' a b
  precedes_later b l = record {
    before = ab;
    unbroken = λ r p. both_ways _ (before_asym (standing a) (standing b) ab) p.against;
    forced = both;
    loads = λ c x i one lt q w.
        (both R1 c (inl refl)
        (record {
          first_in = i;
          second_in = chain_stays t t' a chain below.in_ops pa;
          one_hart = one;
          in_order = lt;
          rule = (x, (and_parts (op_loads c) (has_byte x c) q).1, w);
        })).1;
    dependent = λ r j c rule p q. both_ways _ (before_asym (standing c) (standing b) (both r c (inr rule) p).1)
        q.against;
  }
    where
      ab : precedes a b ≡ true
      ab = before b l

      both : (r : Rule) (c : Op) → (r ≡ R1) ⊎ (r ≡ R9) ⊎ (r ≡ R10) → IsPreserved r t' c a → (precedes c a ≡ true)
          × (precedes c b ≡ true)
      both r c rule p = let q = forced r c rule p in (q, before_trans (standing c) (standing a) (standing b) q ab)

pub windows : Windows
windows initial t t' a b k legal g below l = precedes_later initial t t' a k legal g below b l

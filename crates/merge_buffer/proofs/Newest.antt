-- Merging gives the newest byte.
use Rattle.std.proofs.Common.{ℕ, ◌≡◌, ◌<◌, inl, inr, true, List, [], ◌∷◌, Option, None, Some, is_some, refl}
use Rattle.std.proofs.Common.{sym, ap, ◌∙◌, subst, arith}
use Rattle.std.specs.List.{Contains}
use Rattle.slab.proofs.SlabLemmas.{Contains-cons, Contains-cons_cases}
use Rattle.tandem_base.specs.FirstFault.{◌or_else◌}
use Rattle.merge_buffer.specs.declared.waiting.Part.{Part}
use Rattle.msg_frames.specs.Pieces.{byte_in}
use Rattle.merge_buffer.specs.Parts.{Falls, AllBelow, IsNewestAt, latest_byte}

nothing : (p : Part) → Contains [] p → ⊥
nothing p c = omega (arith, c.1)

lower : (n : ℕ) (ps : List Part) (p : Part) → AllBelow n ps → Contains ps p → p.number < n
lower n [] p b c = absurd (nothing p c)
lower n (q ∷ ps) p b c = elim (Contains-cons_cases q p ps c) [
  | inl e ↦ subst (λ (x : Part). x.number < n) e b.0
  | inr t ↦ lower n ps p b.1 t
]

first_of : (a b : Option ℕ) → is_some a ≡ true → (a or_else b) ≡ a
first_of None b e = cc
first_of (Some x) b e = refl

pub newest_byte : (ps : List Part) → Falls ps → (x : ℕ) (p : Part) → IsNewestAt ps x p
    → latest_byte ps x ≡ byte_in p.piece x
newest_byte [] f x p n = absurd (nothing p n.among)
newest_byte (q ∷ ps) f x p n = elim (Contains-cons_cases q p ps n.among) [
  | inl e ↦
      let here : is_some (byte_in q.piece x) ≡ true = subst (λ (y : Part). is_some (byte_in y.piece x) ≡ true) (sym e)
      n.there in
      first_of (byte_in q.piece x) (latest_byte ps x) here ∙ ap (λ (y : Part). byte_in y.piece x) e
  | inr t ↦
      ap (λ (o : Option ℕ). o or_else latest_byte ps x) (none t (byte_in q.piece x) refl)
      ∙ newest_byte ps f.1 x p (record {
        among = t;
        there = n.there;
        newest = λ r c b. n.newest r (Contains-cons q r ps c) b;
      })
]
  where
    none : Contains ps p → (o : Option ℕ) → byte_in q.piece x ≡ o → byte_in q.piece x ≡ None
    none t None e = e
    none t (Some b) e =
        let l = lower q.number ps p f.0 t in
        let m = n.newest q (0, omega arith, refl) (ap is_some e) in
        absurd (omega (arith, l, m))

pub no_byte : (ps : List Part) (x : ℕ) → ((p : Part) → Contains ps p → byte_in p.piece x ≡ None)
    → latest_byte ps x ≡ None
no_byte [] x n = refl
no_byte (q ∷ ps) x n =
    ap (λ (o : Option ℕ). o or_else latest_byte ps x) (n q (0, omega arith, refl))
    ∙ no_byte ps x (λ p c. n p (Contains-cons q p ps c))

-- The example with an LR and its SC grows as it says.
use Rattle.std.proofs.Common.{ℕ, ◌<◌, ◌≡◌, inl, inr, true, [], ◌∷◌, Some, refl, sym, subst, ◌∙◌, arith}
use Rattle.std.proofs.lemmas.Bool.{false≢true}
use Rattle.tandem_base.specs.declared.names.Place.{Place}
use Rattle.tandem_base.specs.Extents.{IsAligned}
use Rattle.rvwmo_model.specs.declared.instructions.Retired.{Retired}
use Rattle.rvwmo_model.specs.declared.operations.Op.{Op}
use Rattle.rvwmo_model.specs.declared.operations.OpKind.TheVariants as kind
use Rattle.rvwmo_model.specs.Order.{everything, stands_before, precedes}
use Rattle.rvwmo_model.specs.Rules.{SomeBetween, Reserves}
use Rattle.rvwmo_model.specs.Atomicity.{IsPair}
use Rattle.rvwmo_model.specs.InForm.{IsPlaced}
use Rattle.rvwmo_model.proofs.Membership.{nothing_in, head_in}
use Rattle.growth_laws.specs.Growth.{AddEarly, AddInsn, adds_loads, adds_atomic}
use Rattle.growth_laws.specs.Laws.{nothing_yet}
use Rattle.memory_traces.specs.Example.{other_word, name, place, bytes, reserve, addition, success, failure, lr_of_word}
use Rattle.memory_traces.specs.Example.{conditional, u1, u2, u3, u4, u5, PairOccurs}
use Rattle.memory_traces.proofs.ExampleInsns.{whole_op, named_op, before}
use Rattle.memory_traces.proofs.Formed.{once_by}
use Rattle.memory_traces.proofs.Occurring.{Among, among, contained, are_one, add_one, add_none, members_self}

-- each instruction is of hart 0, and below those that follow
below : (w r : Retired) (n : ℕ) → w ≡ r → r.tag < n → w.tag < n
below w r n e l = subst (λ (z : Retired). z.tag < n) (sym e) l

first_old : (w : Retired) → Among w u1.insns → w.tag < 2
first_old w (inl e) = below w reserve 2 e (omega arith)
first_old w (inr f) = absurd f

two_old : (w : Retired) → Among w u2.insns → w.tag < 3
two_old w (inl e) = below w reserve 3 e (omega arith)
two_old w (inr (inl e)) = below w addition 3 e (omega arith)
two_old w (inr (inr f)) = absurd f

three_old : (w : Retired) → Among w u4.insns → w.tag < 4
three_old w (inl e) = below w reserve 4 e (omega arith)
three_old w (inr (inl e)) = below w addition 4 e (omega arith)
three_old w (inr (inr (inl e))) = below w success 4 e (omega arith)
three_old w (inr (inr (inr f))) = absurd f

alone : (a b : Op) (p : Place) → Among a (lr_of_word ∷ []) → Among b (everything u1) → a.place ≡ Some p
    → b.place ≡ Some p → a ≡ b
alone a b p (inl i) (inl j) e q = i ∙ sym j
alone a b p (inl i) (inr f) e q = absurd f
alone a b p (inr f) j e q = absurd f

four_bytes : IsAligned other_word
four_bytes = (inr (inr (inl refl)), refl)

add_reserve : AddInsn (nothing_yet 16) u1 reserve (lr_of_word ∷ [])
add_reserve = add_one (nothing_yet 16) reserve lr_of_word [] (λ i j d a b. absurd (omega arith)) (once_by u1.ops refl)
    (λ w i e. absurd (nothing_in w i)) (λ v i. absurd (nothing_in v i))
    (are_one reserve lr_of_word (refl, refl) refl
    (whole_op kind.Load (name 0 1 0) other_word 15 0 0 (place 1) refl (omega arith) (omega arith))
    (named_op kind.Load 0 1 other_word (bytes 0) (bytes 0) (place 1) refl refl))
    (adds_loads (record {
      loads = refl;
      early = members_self [];
      placed = λ v i. elim (among (lr_of_word ∷ []) v i) [
        | inl e ↦ subst (λ (z : Op). IsPlaced z) (sym e)
            (record { time = 1; message = 1; insert = 1 }, refl)
        | inr f ↦ absurd f
      ];
      places = λ a b p i j. alone a b p (among (lr_of_word ∷ []) a i) (among (everything u1) b j);
      reserves = λ e. (lr_of_word, refl, λ l. four_bytes);
    }))

add_plain : AddInsn u1 u2 addition []
add_plain = add_none u1 addition add_reserve.keeps.rising (once_by u1.ops refl)
    (λ w i e. first_old w (among u1.insns w i)) (λ v i. absurd (nothing_in v i)) refl

above_two : (v : Op) → Among v (everything u2) → IsPlaced v → precedes v conditional ≡ true
unfolding stands_before
above_two v (inl s) p = before v lr_of_word conditional s refl
above_two v (inr f) p = absurd f

add_early : AddEarly u2 u3 conditional
add_early = record {
  keeps = record { insns = λ h k. refl; rising = add_plain.keeps.rising; once = add_plain.keeps.once; granule = refl };
  ops = members_self u2.ops;
  early_on = λ v i. absurd (nothing_in v i);
  early_back = λ v i. elim (among (conditional ∷ []) v i) [ inl e ↦ inl e | inr f ↦ absurd f ];
  added = head_in conditional [];
  kind = refl;
  whole = whole_op kind.Store (name 0 3 0) other_word 15 0 1 (place 2) refl (omega arith) (omega arith);
  placed = (_, refl);
  above = λ v i. above_two v (among (everything u2) v i);
  younger = λ w i q. two_old w (among u2.insns w i);
  fresh = λ v i s. absurd (nothing_in v i);
}

none_between : SomeBetween (Reserves u4 0) lr_of_word conditional → ⊥
none_between s =
    let k : s.0 ≡ 2 = (let l = s.1 in let h = s.2 in omega arith) in
    false≢true (subst (λ (n : ℕ). Reserves u4 0 n) k s.3)

pair : IsPair u4 lr_of_word conditional
pair = record {
  lr_in = contained u4.ops lr_of_word (inl refl);
  sc_in = contained u4.ops conditional (inr (inl refl));
  one_hart = refl;
  in_order = omega arith;
  paired = (refl, refl, none_between);
  stored = refl;
}

add_success : AddInsn u3 u4 success (conditional ∷ [])
add_success = add_one u3 success conditional [] add_plain.keeps.rising (once_by u4.ops refl)
    (λ w i e. two_old w (among u2.insns w i)) (λ v i. absurd (nothing_in v i))
    (are_one success conditional (refl, refl) refl
    (whole_op kind.Store (name 0 3 0) other_word 15 0 1 (place 2) refl (omega arith) (omega arith))
    (named_op kind.Store 0 3 other_word (bytes 0) (bytes 1) (place 2) refl refl))
    (adds_atomic conditional conditional (record {
      atomic = refl;
      was = head_in conditional [];
      early_on = λ v i. elim (among (conditional ∷ []) v i) [ inl e ↦ inl e | inr f ↦ absurd f ];
      early_back = λ v i. absurd (nothing_in v i);
      gone = λ i. nothing_in conditional i;
      one = refl;
      same = (refl, refl);
      place = refl;
      extent = refl;
      mask = refl;
      put = λ x q. refl;
      pair = λ e. (lr_of_word, pair, λ x c. c);
    }))

add_failure : AddInsn u4 u5 failure []
add_failure = add_none u4 failure add_success.keeps.rising (once_by u4.ops refl)
    (λ w i e. three_old w (among u4.insns w i)) (λ v i. absurd (nothing_in v i)) refl

pub pair_occurs : PairOccurs
pair_occurs = record {
  reserves = add_reserve;
  nothing = add_plain;
  performs_early = add_early;
  stores = add_success;
  pair = pair;
  fails = add_failure;
}

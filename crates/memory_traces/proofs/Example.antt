-- The example grows as it says.
use Rattle.std.proofs.Common.{ℕ, ◌+◌, ◌<◌, ◌≤◌, ◌≡◌, ◌⊎◌, inl, inr, true, [], ◌∷◌, Option, Some, None, refl, sym, ap}
use Rattle.std.proofs.Common.{subst, ◌∙◌, arith}
use Rattle.std.proofs.lemmas.Bool.{false≢true}
use Rattle.std.specs.List.{Contains}
use Rattle.tandem_base.specs.declared.names.Origin.{Origin}
use Rattle.tandem_base.specs.declared.names.Place.{Place}
use Rattle.rvwmo_model.specs.declared.operations.Op.{Op}
use Rattle.rvwmo_model.specs.declared.operations.OpKind.TheVariants as kind
use Rattle.rvwmo_model.specs.declared.preserved.Rule.TheVariants.{R1}
use Rattle.rvwmo_model.specs.Order.{everything, stands_before, has_byte, precedes, put_at}
use Rattle.rvwmo_model.specs.Sources.{origin}
use Rattle.rvwmo_model.specs.Rules.{Broken}
use Rattle.rvwmo_model.specs.InForm.{IsPlaced}
use Rattle.growth_laws.specs.Growth.{IsPartOf, PerformsPart, Performs, no_parts, more_parts}
use Rattle.memory_traces.specs.Example.{word, op, name, drained_place, bytes, first_store, second_store, load_of_word}
use Rattle.memory_traces.specs.Example.{amo_of_word, low}
use Rattle.memory_traces.specs.Example.{left, high, t5, t6, t7, EachGrowthOccurs}
use Rattle.growth_laws.proofs.Places.{not_both}
use Rattle.memory_traces.proofs.ExampleInsns.{whole_op, waits, before, add_first, add_second, add_third, add_early}
use Rattle.memory_traces.proofs.ExampleInsns.{add_amo}
use Rattle.memory_traces.proofs.Formed.{once_by}
use Rattle.memory_traces.proofs.Occurring.{Among, among, contained, members_self, each_byte}

-- ---- the parts of the second store

low_part : IsPartOf low second_store
low_part = record {
  same = (refl, refl);
  kind = refl;
  extent = refl;
  acquire = refl;
  release = refl;
  bytes = λ x q. each_byte (λ y. has_byte y low ≡ true → (has_byte y second_store ≡ true)
      × (put_at low y ≡ put_at second_store y)) low refl (λ e. (refl, refl)) (λ e. (refl, refl))
      (λ e. absurd (false≢true e)) (λ e. absurd (false≢true e)) x q q;
  whole = whole_op kind.Store (name 0 2 0) word 3 0 2 (drained_place 3) refl (omega arith) (omega arith);
  named = record {
    here = refl;
    lowest = λ x q. each_byte (λ y. 4098 + 0 ≤ y) low refl (omega arith) (omega arith)
        (omega arith) (omega arith) x q;
  };
}

upper_part : (p : Option Place) → IsPartOf (op kind.Store (name 0 2 2) word 12 (bytes 0) (bytes 0) p) second_store
upper_part p = record {
  same = (refl, refl);
  kind = refl;
  extent = refl;
  acquire = refl;
  release = refl;
  bytes = λ x q. each_byte (λ y. has_byte y left ≡ true → (has_byte y second_store ≡ true)
      × (put_at left y ≡ put_at second_store y)) left refl (λ e. absurd (false≢true e)) (λ e. absurd (false≢true e))
      (λ e. (refl, refl)) (λ e. (refl, refl)) x q q;
  whole = whole_op kind.Store (name 0 2 2) word 12 0 0 p refl (omega arith) (omega arith);
  named = record {
    here = refl;
    lowest = λ x q. each_byte (λ y. has_byte y left ≡ true → 4098 + 2 ≤ y) left refl
        (λ e. absurd (false≢true e)) (λ e. absurd (false≢true e)) (λ e. omega arith) (λ e. omega arith) x q q;
  };
}

high_part : IsPartOf high left
high_part = let u = upper_part high.place in
    record {
      same = (refl, refl);
      kind = refl;
      extent = refl;
      acquire = refl;
      release = refl;
      bytes = λ x q. (q, refl);
      whole = u.whole;
      named = u.named;
    }

above_five : (v : Op) → Among v (everything t5) → IsPlaced v → precedes v low ≡ true
unfolding stands_before
above_five v (inl s) p = absurd (waits v first_store s refl p)
above_five v (inr (inl s)) p = absurd (waits v second_store s refl p)
above_five v (inr (inr (inl s))) p = before v load_of_word low s refl
above_five v (inr (inr (inr (inl s)))) p = before v amo_of_word low s refl
above_five v (inr (inr (inr (inr f)))) p = absurd f

above_six : (v : Op) → Among v (everything t6) → IsPlaced v → precedes v high ≡ true
unfolding stands_before
above_six v (inl s) p = absurd (waits v first_store s refl p)
above_six v (inr (inl s)) p = before v low high s refl
above_six v (inr (inr (inl s))) p = absurd (waits v left s refl p)
above_six v (inr (inr (inr (inl s)))) p = before v load_of_word high s refl
above_six v (inr (inr (inr (inr (inl s))))) p = before v amo_of_word high s refl
above_six v (inr (inr (inr (inr (inr f))))) p = absurd f

five_on : (v : Op) → Among v t5.ops → (v ≡ second_store) ⊎ Among v t6.ops
five_on v (inl s) = inr (inl s)
five_on v (inr (inl s)) = inl s
five_on v (inr (inr (inl s))) = inr (inr (inr (inr (inl s))))
five_on v (inr (inr (inr (inl s)))) = inr (inr (inr (inr (inr (inl s)))))
five_on v (inr (inr (inr (inr f)))) = absurd f

six_back : (v : Op) → Among v t6.ops → (v ≡ low) ⊎ (Some left ≡ Some v) ⊎ Among v t5.ops
six_back v (inl s) = inr (inr (inl s))
six_back v (inr (inl s)) = inl s
six_back v (inr (inr (inl s))) = inr (inl (ap (λ (z : Op). Some z) (sym s)))
six_back v (inr (inr (inr (inl s)))) = inr (inr (inr (inr (inl s))))
six_back v (inr (inr (inr (inr (inl s))))) = inr (inr (inr (inr (inr (inl s)))))
six_back v (inr (inr (inr (inr (inr f))))) = absurd f

six_on : (v : Op) → Among v t6.ops → (v ≡ left) ⊎ Among v t7.ops
six_on v (inl s) = inr (inl s)
six_on v (inr (inl s)) = inr (inr (inl s))
six_on v (inr (inr (inl s))) = inl s
six_on v (inr (inr (inr i))) = inr (inr (inr (inr i)))

seven_back : (v : Op) → Among v t7.ops → (v ≡ high) ⊎ (None ≡ Some v) ⊎ Among v t6.ops
seven_back v (inl s) = inr (inr (inl s))
seven_back v (inr (inl s)) = inr (inr (inr (inl s)))
seven_back v (inr (inr (inl s))) = inl s
seven_back v (inr (inr (inr i))) = inr (inr (inr (inr (inr i))))

-- operations with other masks, tags or harts are others
other_mask : (a b : Op) → a ≡ b → a.mask < b.mask ⊎ b.mask < a.mask → ⊥
other_mask a b e (inl l) = omega (arith, ap (λ (z : Op). z.mask) e, l)
other_mask a b e (inr l) = omega (arith, ap (λ (z : Op). z.mask) e, l)

other_tag : (a b : Op) → a ≡ b → a.name.tag < b.name.tag ⊎ b.name.tag < a.name.tag → ⊥
other_tag a b e (inl l) = omega (arith, ap (λ (z : Op). z.name.tag) e, l)
other_tag a b e (inr l) = omega (arith, ap (λ (z : Op). z.name.tag) e, l)

second_gone : Among second_store t6.ops → ⊥
second_gone (inl s) = other_tag second_store first_store s (inr (omega arith))
second_gone (inr (inl s)) = other_mask second_store low s (inr (omega arith))
second_gone (inr (inr (inl s))) = other_mask second_store left s (inr (omega arith))
second_gone (inr (inr (inr (inl s)))) = other_tag second_store load_of_word s (inl (omega arith))
second_gone (inr (inr (inr (inr (inl s))))) = other_tag second_store amo_of_word s (inr (omega arith))
second_gone (inr (inr (inr (inr (inr f))))) = f

left_gone : Among left t7.ops → ⊥
left_gone (inl s) = other_tag left first_store s (inr (omega arith))
left_gone (inr (inl s)) = other_mask left low s (inr (omega arith))
left_gone (inr (inr (inl s))) = not_both high (_, refl) (ap (λ (z : Op). z.place) (sym s))
left_gone (inr (inr (inr (inl s)))) = other_tag left load_of_word s (inl (omega arith))
left_gone (inr (inr (inr (inr (inl s))))) = other_tag left amo_of_word s (inr (omega arith))
left_gone (inr (inr (inr (inr (inr f))))) = f

some_is : (a b : Op) → Some a ≡ Some b → a ≡ b
some_is a b e = cc

none_is : (b : Op) → None ≡ Some b → ⊥
none_is b e = absurd (cc)

perform_low : PerformsPart t5 t6 second_store low (Some left)
perform_low = record {
  keeps = record { insns = λ h k. refl; rising = add_amo.keeps.rising; once = once_by t6.ops refl; granule = refl };
  early = members_self [];
  was = contained t5.ops second_store (inr (inl refl));
  unperformed = refl;
  ops_on = λ v i. elim (five_on v (among t5.ops v i)) [ inl e ↦ inl e | inr j ↦ inr (contained t6.ops v j) ];
  ops_back =
      λ v i. elim (six_back v (among t6.ops v i)) [
        | inl e ↦ inl e
        | inr r ↦ elim r [ inl e ↦ inr (inl e) | inr j ↦ inr (inr (contained t5.ops v j)) ]
      ];
  gone = λ i. second_gone (among t6.ops second_store i);
  added = contained t6.ops low (inr (inl refl));
  placed = (_, refl);
  above = λ v i. above_five v (among (everything t5) v i);
  part = low_part;
  left = λ m e. subst (λ (z : Op). Contains t6.ops z × (z.place ≡ None) × IsPartOf z second_store) (some_is left m e)
      (contained t6.ops left (inr (inr (inl refl))), refl, upper_part None);
  all = λ x q. each_byte (λ y. (has_byte y low ≡ true) ⊎ ((m : Op) × (Some left ≡ Some m) × (has_byte y m ≡ true)))
      second_store refl (inl refl) (inl refl) (inr (left, refl, refl)) (inr (left, refl, refl)) x q;
  disjoint = λ m x e p q. each_byte (λ y. has_byte y low ≡ true → has_byte y left ≡ true → ⊥) low refl
      (λ a b. false≢true b) (λ a b. false≢true b) (λ a b. false≢true a) (λ a b. false≢true a) x p p
      (subst (λ (z : Op). has_byte x z ≡ true) (sym (some_is left m e)) q);
}

perform_high : PerformsPart t6 t7 left high None
perform_high = record {
  keeps = record { insns = λ h k. refl; rising = add_amo.keeps.rising; once = once_by t7.ops refl; granule = refl };
  early = members_self [];
  was = contained t6.ops left (inr (inr (inl refl)));
  unperformed = refl;
  ops_on = λ v i. elim (six_on v (among t6.ops v i)) [ inl e ↦ inl e | inr j ↦ inr (contained t7.ops v j) ];
  ops_back =
      λ v i. elim (seven_back v (among t7.ops v i)) [
        | inl e ↦ inl e
        | inr r ↦ elim r [ inl e ↦ inr (inl e) | inr j ↦ inr (inr (contained t6.ops v j)) ]
      ];
  gone = λ i. left_gone (among t7.ops left i);
  added = contained t7.ops high (inr (inr (inl refl)));
  placed = (_, refl);
  above = λ v i. above_six v (among (everything t6) v i);
  part = high_part;
  left = λ m e. absurd (none_is m e);
  all = λ x q. inl q;
  disjoint = λ m x e. absurd (none_is m e);
}

performed : Performs 0 t5 (high ∷ low ∷ []) t7
performed =
    more_parts (low ∷ []) t6 t7 left high None
    (more_parts [] t5 t6 second_store low (Some left) no_parts refl perform_low) refl perform_high

-- ---- what comes of it

abbrev key : ℕ → Origin
key tag = record { hart = 0; tag = tag }

other_key : Some (key 1) ≡ Some (key 2) → ⊥
other_key e = let same : key 1 ≡ key 2 = cc in omega (arith, ap (λ (z : Origin). z.tag) same)

source_before : origin t5 load_of_word 4098 ≡ Some (key 2)
unfolding stands_before
source_before = refl

source_after : origin t7 load_of_word 4098 ≡ Some (key 1)
unfolding stands_before
source_after = refl

against : precedes low first_store ≡ true
unfolding stands_before
against = refl

broken : Broken R1 t7 first_store low
broken = record {
  first_in = contained t7.ops first_store (inl refl);
  second_in = contained t7.ops low (inr (inl refl));
  one_hart = refl;
  in_order = omega arith;
  rule =
      (4098, refl, refl);
  against = against;
}

pub each_growth_occurs : EachGrowthOccurs
each_growth_occurs = record {
  store = add_first;
  younger = add_second;
  loads = add_third;
  performs_early = add_early;
  atomic = add_amo;
  performed = performed;
  source = λ e. other_key (sym source_after ∙ e ∙ source_before);
  broken = broken;
}

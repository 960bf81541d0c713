-- The example: its instructions and its early store.
use Rattle.std.proofs.Common.{ℕ, ◌+◌, ◌<◌, ◌≤◌, ◌≡◌, inl, inr, true, List, [], ◌∷◌, Option, Some, None, refl, sym, ap}
use Rattle.std.proofs.Common.{subst, ◌∙◌, arith}
use Rattle.std.proofs.lemmas.Bool.{false≢true}
use Rattle.tandem_base.specs.declared.extent.Extent.{Extent}
use Rattle.tandem_base.specs.declared.names.OpName.{OpName}
use Rattle.tandem_base.specs.declared.names.Place.{Place}
use Rattle.rvwmo_model.specs.declared.instructions.Retired.{Retired}
use Rattle.rvwmo_model.specs.declared.operations.Op.{Op}
use Rattle.rvwmo_model.specs.declared.operations.OpKind.{OpKind}
use Rattle.rvwmo_model.specs.declared.operations.OpKind.TheVariants as kind
use Rattle.rvwmo_model.specs.Order.{stands_before, has_byte, precedes, everything}
use Rattle.rvwmo_model.specs.InForm.{IsPlaced, IsWhole}
use Rattle.growth_laws.specs.Kinds.{IsNamed}
use Rattle.growth_laws.specs.Growth.{AddEarly, AddInsn, adds_loads, adds_store, adds_atomic}
use Rattle.growth_laws.specs.Laws.{nothing_yet}
use Rattle.memory_traces.specs.Example.{word, other_word, op, name, place, bytes, first, second, third, other}
use Rattle.memory_traces.specs.Example.{first_store, second_store, load_of_word, amo_early_store, amo_of_word}
use Rattle.memory_traces.specs.Example.{t1, t2, t3, t4, t5}
use Rattle.growth_laws.proofs.Places.{not_both}
use Rattle.rvwmo_model.proofs.Membership.{nothing_in, head_in}
use Rattle.memory_traces.proofs.Formed.{once_by}
use Rattle.memory_traces.proofs.Occurring.{Among, among, are_one, add_one, members_self, each_covered, each_byte}

-- ---- operations of one word

pub whole_op : (k : OpKind) (n : OpName) (e : Extent) (mask a b : ℕ) (p : Option Place) → e.len ≡ 4 → 0 < mask
    → mask < 16 → IsWhole (op k n e mask (bytes a) (bytes b) p)
whole_op k n e mask a b p four some less = record { some = some; within = rw four less; got = sym four; put = sym four }

pub named_op : (k : OpKind) (h t : ℕ) (e : Extent) (got put : List ℕ) (p : Option Place) → e.len ≡ 4
    → has_byte (e.addr + 0) (op k (name h t 0) e 15 got put p) ≡ true → IsNamed (op k (name h t 0) e 15 got put p)
named_op k h t e got put p four here = record {
  here = here;
  lowest = λ x q. each_byte (λ y. e.addr + 0 ≤ y) (op k (name h t 0) e 15 got put p) four (omega arith) (omega arith)
      (omega arith) (omega arith) x q;
}

-- ---- who is older

is_older : (w r : Retired) (n : ℕ) → w ≡ r → r.tag < n → w.tag < n
is_older w r n e l = subst (λ (z : Retired). z.tag < n) (sym e) l

is_foreign : (w r : Retired) (h : ℕ) → w ≡ r → r.hart < h → w.hart ≡ h → ⊥
is_foreign w r h e l q = omega (arith, ap (λ (z : Retired). z.hart) e, l, q)

second_last : (w : Retired) → Among w t1.insns → w.hart ≡ second.hart → w.tag < second.tag
second_last w (inl e) q = is_older w first 2 e (omega arith)
second_last w (inr f) q = absurd f

third_last : (w : Retired) → Among w t2.insns → w.hart ≡ third.hart → w.tag < third.tag
third_last w (inl e) q = is_older w first 3 e (omega arith)
third_last w (inr (inl e)) q = is_older w second 3 e (omega arith)
third_last w (inr (inr f)) q = absurd f

pub none_other : (w : Retired) → Among w t3.insns → w.hart ≡ 1 → ⊥
none_other w (inl e) q = is_foreign w first 1 e (omega arith) q
none_other w (inr (inl e)) q = is_foreign w second 1 e (omega arith) q
none_other w (inr (inr (inl e))) q = is_foreign w third 1 e (omega arith) q
none_other w (inr (inr (inr f))) q = f

-- ---- what is performed

pub waits : (v o : Op) → v ≡ o → o.place ≡ None → IsPlaced v → ⊥
waits v o e n p = not_both v p (ap (λ (z : Op). z.place) e ∙ n)

pub before : (v o n : Op) → v ≡ o → precedes o n ≡ true → precedes v n ≡ true
before v o n e p = subst (λ (z : Op). precedes z n ≡ true) (sym e) p

-- ---- instructions

pub add_first : AddInsn (nothing_yet 0) t1 first (first_store ∷ [])
add_first = add_one (nothing_yet 0) first first_store [] (λ i j d a b. absurd (omega arith)) (once_by t1.ops refl)
    (λ w i e. absurd (nothing_in w i)) (λ v i. absurd (nothing_in v i))
    (are_one first first_store (refl, refl) refl
    (whole_op kind.Store (name 0 1 0) word 15 0 1 None refl (omega arith) (omega arith))
    (named_op kind.Store 0 1 word (bytes 0) (bytes 1) None refl refl))
    (adds_store first_store (record {
      stores = refl;
      early = members_self [];
      one = refl;
      unperformed = refl;
      all = λ x i. each_covered (λ y. has_byte y first_store ≡ true) first_store.extent refl refl refl refl refl x i;
      plain = (refl, refl);
    }))

pub add_second : AddInsn t1 t2 second (second_store ∷ [])
add_second = add_one t1 second second_store [] add_first.keeps.rising (once_by t2.ops refl)
    (λ w i. second_last w (among t1.insns w i)) (λ v i. absurd (nothing_in v i))
    (are_one second second_store (refl, refl) refl
    (whole_op kind.Store (name 0 2 0) word 15 0 2 None refl (omega arith) (omega arith))
    (named_op kind.Store 0 2 word (bytes 0) (bytes 2) None refl refl))
    (adds_store second_store (record {
      stores = refl;
      early = members_self [];
      one = refl;
      unperformed = refl;
      all = λ x i. each_covered (λ y. has_byte y second_store ≡ true) second_store.extent refl refl refl refl refl x i;
      plain = (refl, refl);
    }))

load_alone : (a b : Op) (p : Place) → Among a (load_of_word ∷ []) → Among b (everything t3) → a.place ≡ Some p
    → b.place ≡ Some p → a ≡ b
load_alone a b p (inr f) j e q = absurd f
load_alone a b p (inl i) (inl s) e q = absurd (waits b first_store s refl (p, q))
load_alone a b p (inl i) (inr (inl s)) e q = absurd (waits b second_store s refl (p, q))
load_alone a b p (inl i) (inr (inr (inl s))) e q = i ∙ sym s
load_alone a b p (inl i) (inr (inr (inr f))) e q = absurd f

pub add_third : AddInsn t2 t3 third (load_of_word ∷ [])
add_third = add_one t2 third load_of_word [] add_second.keeps.rising (once_by t3.ops refl)
    (λ w i. third_last w (among t2.insns w i)) (λ v i. absurd (nothing_in v i))
    (are_one third load_of_word (refl, refl) refl
    (whole_op kind.Load (name 0 3 0) word 15 2 0 (place 1) refl (omega arith) (omega arith))
    (named_op kind.Load 0 3 word (bytes 2) (bytes 0) (place 1) refl refl))
    (adds_loads (record {
      loads = refl;
      early = members_self [];
      placed = λ v i. elim (among (load_of_word ∷ []) v i) [
        | inl e ↦ subst (λ (z : Op). IsPlaced z) (sym e)
            (record { time = 1; message = 1; insert = 1 }, refl)
        | inr f ↦ absurd f
      ];
      places = λ a b p i j. load_alone a b p (among (load_of_word ∷ []) a i) (among (everything t3) b j);
      reserves = λ e. absurd (false≢true e);
    }))

above_three : (v : Op) → Among v (everything t3) → IsPlaced v → precedes v amo_early_store ≡ true
unfolding stands_before
above_three v (inl s) p = absurd (waits v first_store s refl p)
above_three v (inr (inl s)) p = absurd (waits v second_store s refl p)
above_three v (inr (inr (inl s))) p = before v load_of_word amo_early_store s refl
above_three v (inr (inr (inr f))) p = absurd f

pub add_early : AddEarly t3 t4 amo_early_store
add_early = record {
  keeps = record { insns = λ h k. refl; rising = add_third.keeps.rising; once = add_third.keeps.once; granule = refl };
  ops = members_self t3.ops;
  early_on = λ v i. absurd (nothing_in v i);
  early_back = λ v i. elim (among (amo_early_store ∷ []) v i) [ inl e ↦ inl e | inr f ↦ absurd f ];
  added = head_in amo_early_store [];
  kind = refl;
  whole = whole_op kind.Store (name 1 1 0) other_word 15 0 1 (place 2) refl (omega arith) (omega arith);
  placed = (_, refl);
  above = λ v i. above_three v (among (everything t3) v i);
  younger = λ w i q. absurd (none_other w (among t3.insns w i) q);
  fresh = λ v i s. absurd (nothing_in v i);
}

pub add_amo : AddInsn t4 t5 other (amo_of_word ∷ [])
add_amo = add_one t4 other amo_of_word [] add_third.keeps.rising (once_by t5.ops refl)
    (λ w i q. absurd (none_other w (among t3.insns w i) q)) (λ v i. absurd (nothing_in v i))
    (are_one other amo_of_word (refl, refl) refl
    (whole_op kind.Both (name 1 1 0) other_word 15 0 1 (place 2) refl (omega arith) (omega arith))
    (named_op kind.Both 1 1 other_word (bytes 0) (bytes 1) (place 2) refl refl))
    (adds_atomic amo_early_store amo_of_word (record {
      atomic = refl;
      was = head_in amo_early_store [];
      early_on = λ v i. elim (among (amo_early_store ∷ []) v i) [ inl e ↦ inl e | inr f ↦ absurd f ];
      early_back = λ v i. absurd (nothing_in v i);
      gone = λ i. nothing_in amo_early_store i;
      one = refl;
      same = (refl, refl);
      place = refl;
      extent = refl;
      mask = refl;
      put = λ x q. refl;
      pair = λ e. absurd (false≢true e);
    }))

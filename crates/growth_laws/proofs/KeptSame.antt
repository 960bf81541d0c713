-- Nothing, and an early store more, keep a trace well kinded.
use Rattle.std.proofs.Common.{◌<◌, ◌≡◌, ◌⊎◌, inl, inr, Some, None, sym, ap, subst, ◌∙◌}
use Rattle.std.proofs.lemmas.Bool.{both_ways}
use Rattle.std.specs.List.{Contains}
use Rattle.std.proofs.lemmas.List.Elements.{Contains-append_cases, Contains-append_left, Contains-append_right}
use Rattle.tandem_base.specs.declared.names.Place.{Place}
use Rattle.rvwmo_model.specs.declared.instructions.Retired.{Retired}
use Rattle.rvwmo_model.specs.declared.operations.Op.{Op}
use Rattle.rvwmo_model.specs.declared.operations.OpKind.TheVariants as kind
use Rattle.rvwmo_model.specs.declared.traces.Trace.{Trace}
use Rattle.rvwmo_model.specs.ProgramOrder.{insn_of, is_one}
use Rattle.rvwmo_model.specs.InForm.{IsPlaced, IsWhole, HasOne, InForm}
use Rattle.tandem_base.specs.Granules.{IsGranule}
use Rattle.growth_laws.proofs.Facts.{names_apart}
use Rattle.rvwmo_model.proofs.Totality.{one_name}
use Rattle.rv_decode.specs.Kinds.{is_store, is_lr}
use Rattle.growth_laws.specs.Kinds.{SameInsn, IsPlainStore, WellKinded}
use Rattle.growth_laws.specs.Growth.{SameMembers, Keeps, Same, AddEarly}
use Rattle.growth_laws.proofs.Insns.{insns_back, one_place}
use Rattle.growth_laws.proofs.Links.{OpsGo}
use Rattle.growth_laws.proofs.Lawful.{pair_on}
use Rattle.growth_laws.proofs.Operations.{same_ops, early_ops}
use Rattle.growth_laws.proofs.Steps.{grows}
use Rattle.rvwmo_model.specs.Order.{everything}
use Rattle.rvwmo_model.specs.InsnKinds.{has_stored}

-- what is asked of the early stores, and of all operations together
pub record EarlyFit (t : Trace) : Type 0 where
  pub placed : (o : Op) → Contains t.early o → IsPlaced o
  pub places : (a b : Op) (p : Place) → Contains (everything t) a → Contains (everything t) b → a.place ≡ Some p
      → b.place ≡ Some p → a ≡ b
  pub whole : (o : Op) → Contains (everything t) o → IsWhole o
  pub stores : (o : Op) → Contains t.early o → o.kind ≡ kind.Store
  pub apart : (a b : Op) → Contains t.early a → Contains t.early b → SameInsn a b → a ≡ b
  pub younger : (o : Op) (w : Retired) → Contains t.early o → Contains t.insns w → w.hart ≡ o.name.hart
      → w.tag < o.name.tag

-- where operations and instructions stay, the rest is so
module _ (t t' : Trace) (k : WellKinded t) (s : Keeps t t' None) (ops : SameMembers t.ops t'.ops) (g : OpsGo t t') where
  same_of : (o : Op) → insn_of t' o ≡ insn_of t o
  same_of o = s.insns o.name.hart o.name.tag

  plain_back : (o : Op) → IsPlainStore t' o → IsPlainStore t o
  plain_back o p = ap (is_one is_store) (sym (same_of o)) ∙ p

  one_on : (w : Retired) → HasOne t w → HasOne t' w
  one_on w h = (h.0, ops.on h.0 h.1, h.2, λ v i f. h.3 v (ops.back v i) f)

  still_form : EarlyFit t' → InForm t'
  still_form e = record {
    rising = s.rising;
    named = λ o h. let w = k.form.named o (ops.back o h) in (w.0, same_of o ∙ w.1);
    apart = names_apart t'.ops s.once (λ a b h i. one_name t a b k.form (ops.back a h) (ops.back b i));
    waiting = λ a b h i. k.form.waiting a b (ops.back a h) (ops.back b i);
    early = e.placed;
    places = e.places;
    whole = e.whole;
    single = λ w h q. one_on w (k.form.single w (insns_back t t' s w h) q);
    granule = subst IsGranule (sym s.granule) k.form.granule;
    aligned = λ o h l q. k.form.aligned o (ops.back o h) (rw (← s.granule) l) (ap (is_one is_lr) (sym (same_of o)) ∙ q);
  }

  pub still_kinded : EarlyFit t' → WellKinded t'
  still_kinded e = record {
    form = still_form e;
    kinds = λ o w h q. k.kinds o w (ops.back o h) (sym (same_of o) ∙ q);
    amo = λ a b h i. k.amo a b (ops.back a h) (ops.back b i);
    early_stores = e.stores;
    unperformed = λ o h q. ap (is_one is_store) (same_of o) ∙ k.unperformed o (ops.back o h) q;
    extents = λ a b h i. k.extents a b (ops.back a h) (ops.back b i);
    disjoint = λ a b x h i. k.disjoint a b x (ops.back a h) (ops.back b i);
    parts = λ o h. k.parts o (ops.back o h);
    cover = λ o x h p i. let v = k.cover o x (ops.back o h) (plain_back o p) i in (v.0, ops.on v.0 v.1, v.2, v.3);
    plain = λ o h p. k.plain o (ops.back o h) (plain_back o p);
    early_apart = e.apart;
    early_younger = e.younger;
    paired = λ w h q. let r = k.paired w (ops.back w h) (ap has_stored (sym (same_of w)) ∙ q) in
        (r.0, pair_on t t' k g r.0 w r.1, r.2);
  }

pub same_kinded : (t t' : Trace) → WellKinded t → Same t t' → WellKinded t'
same_kinded t t' k s = still_kinded t t' k s.keeps s.ops (same_ops t t' s) (record {
  placed = λ o h. k.form.early o (s.early.back o h);
  places = λ a b p h i. k.form.places a b p (back a h) (back b i);
  whole = λ o h. k.form.whole o (back o h);
  stores = λ o h. k.early_stores o (s.early.back o h);
  apart = λ a b h i. k.early_apart a b (s.early.back a h) (s.early.back b i);
  younger = λ o w h i. k.early_younger o w (s.early.back o h) (insns_back t t' s.keeps w i);
})
  where
    back : (o : Op) → Contains (everything t') o → Contains (everything t) o
    back = grows t' t s.ops.back s.early.back

pub early_kinded : (t t' : Trace) (e : Op) → WellKinded t → AddEarly t t' e → WellKinded t'
early_kinded t t' e k s = still_kinded t t' k s.keeps s.ops (early_ops t t' e s) (record {
  placed = λ o h. elim (s.early_back o h) [ inl q ↦ subst IsPlaced (sym q) s.placed | inr i ↦ k.form.early o i ];
  places = λ a b p h i. two a b p (back a h) (back b i);
  whole = λ o h. elim (back o h) [ inl q ↦ subst IsWhole (sym q) s.whole | inr i ↦ k.form.whole o i ];
  stores = λ o h. elim (s.early_back o h) [ inl q ↦ ap (λ (z : Op). z.kind) q ∙ s.kind | inr i ↦ k.early_stores o i ];
  apart = λ a b h i. apart a b (s.early_back a h) (s.early_back b i);
  younger = λ o w h i q. elim (s.early_back o h) [
    | inl f ↦ subst (λ (z : Op). w.tag < z.name.tag) (sym f)
        (s.younger w (insns_back t t' s.keeps w i) (q ∙ ap (λ (z : Op). z.name.hart) f))
    | inr j ↦ k.early_younger o w j (insns_back t t' s.keeps w i) q
  ];
})
  where
    back : (o : Op) → Contains (everything t') o → (o ≡ e) ⊎ Contains (everything t) o
    back o h = elim (Contains-append_cases t'.ops t'.early o h) [
      | inl a ↦ inr (Contains-append_left t.ops t.early o (s.ops.back o a))
      | inr b ↦ elim (s.early_back o b) [ inl q ↦ inl q | inr c ↦ inr (Contains-append_right t.ops t.early o c) ]
    ]

    meets : (b : Op) (p : Place) → Contains (everything t) b → e.place ≡ Some p → b.place ≡ Some p → ⊥
    meets b p h f g = both_ways _ (one_place b e p g f) (s.above b h (p, g))

    two : (a b : Op) (p : Place) → (a ≡ e) ⊎ Contains (everything t) a → (b ≡ e) ⊎ Contains (everything t) b
        → a.place ≡ Some p → b.place ≡ Some p → a ≡ b
    two a b p (inl f) (inl g) q r = f ∙ sym g
    two a b p (inl f) (inr i) q r = absurd (meets b p i (sym (ap (λ (z : Op). z.place) f) ∙ q) r)
    two a b p (inr i) (inl g) q r = absurd (meets a p i (sym (ap (λ (z : Op). z.place) g) ∙ r) q)
    two a b p (inr i) (inr j) q r = k.form.places a b p i j q r

    apart : (a b : Op) → (a ≡ e) ⊎ Contains t.early a → (b ≡ e) ⊎ Contains t.early b → SameInsn a b → a ≡ b
    apart a b (inl f) (inl g) q = f ∙ sym g
    apart a b (inl f) (inr i) q =
        absurd (s.fresh b i (sym q.0 ∙ ap (λ (z : Op). z.name.hart) f, sym q.1 ∙ ap (λ (z : Op). z.name.tag) f))
    apart a b (inr i) (inl g) q =
        absurd (s.fresh a i (q.0 ∙ ap (λ (z : Op). z.name.hart) g, q.1 ∙ ap (λ (z : Op). z.name.tag) g))
    apart a b (inr i) (inr j) q = k.early_apart a b i j q

-- A trace has one answer at its newest step, in whatever order its operations are listed.
use Rattle.std.proofs.Common.{ℕ, ◌≡◌, true, Option, Some, None, refl, sym, ap, subst, ◌∙◌}
use Rattle.std.proofs.lemmas.Bool.{false≢true, or_right}
use Rattle.std.specs.List.{Contains}
use Rattle.rv_decode.specs.Kinds.{is_lr}
use Rattle.tandem_base.specs.declared.names.OpName.{OpName}
use Rattle.tandem_base.specs.declared.names.Origin.{Origin}
use Rattle.rvwmo_model.specs.declared.answers.Last.{Last}
use Rattle.rvwmo_model.specs.declared.answers.Last.TheVariants as last
use Rattle.rvwmo_model.specs.declared.instructions.Retired.{Retired}
use Rattle.rvwmo_model.specs.declared.operations.Op.{Op}
use Rattle.rvwmo_model.specs.declared.traces.Trace.{Trace}
use Rattle.rvwmo_model.specs.InForm.{InForm}
use Rattle.rvwmo_model.specs.InsnKinds.{has_stored}
use Rattle.rvwmo_model.specs.Order.{got_at}
use Rattle.rvwmo_model.specs.ProgramOrder.{insn_at, is_one}
use Rattle.rvwmo_model.specs.Sources.{source, byte_from, key_of}
use Rattle.rvwmo_model.specs.Atomicity.{IsPair}
use Rattle.rvwmo_model.specs.Report.{number, IsLeast, TornBy}
use Rattle.rvwmo_model.specs.Last.{IsRetiring, RetiresWrong, RetiresRight, IsLast}
use Rattle.rvwmo_model.specs.Laws.{LastIsOne, LastOfMembers}
use Rattle.rvwmo_model.proofs.LookUp.{found_in}
use Rattle.rvwmo_model.proofs.Reports.{report_one}
use Rattle.rvwmo_model.proofs.Uniqueness.{least_one, lowest_one, lr_one, shown_one}
use Rattle.rvwmo_model.proofs.Reordered.{Alike, alike, flip, wrong_on, torn_on, least_on, lowest_on, all_ordered_on}
use Rattle.rvwmo_model.proofs.Reordered.{shown_on, reported_on}
use Rattle.rvwmo_model.proofs.LastAnswered.{fine_is}

-- ---- one SC retires

-- a successful SC has one operation
sc_one : (t : Trace) (w v : Op) → InForm t → Contains t.ops w → Contains t.ops v → v.name.hart ≡ w.name.hart
    → v.name.tag ≡ w.name.tag → has_stored (insn_at t.insns w.name.hart w.name.tag) ≡ true → w ≡ v
sc_one t w v f hw hv h g e = at (insn_at t.insns w.name.hart w.name.tag) refl e
  where
    at : (o : Option Retired) → insn_at t.insns w.name.hart w.name.tag ≡ o → has_stored o ≡ true → w ≡ v
    at None q s = absurd (false≢true s)
    at (Some r) q s =
        let i = found_in t.insns w.name.hart w.name.tag r q in
        let one = f.single r i.0 (or_right (is_one is_lr (Some r)) (has_stored (Some r)) s) in
        one.3 w hw (sym i.1, sym i.2) ∙ sym (one.3 v hv (h ∙ sym i.1, g ∙ sym i.2))

-- operations of the retiring instruction have one hart and tag
one_tag : (hart : ℕ) (tag : Option ℕ) (w v : Op) → IsRetiring hart tag w → IsRetiring hart tag v
    → v.name.tag ≡ w.name.tag
one_tag hart tag w v h k = let q : Some v.name.tag ≡ Some w.name.tag = sym k.1 ∙ h.1 in cc

-- ---- the answer is one

value_made : (x y a b c d : ℕ) → x ≡ y → a ≡ b → c ≡ d → last.Value x a c ≡ last.Value y b d
value_made x y a b c d e f g = λ k. last.Value (e k) (f k) (g k)

order_made : (j k : ℕ) (m n p q : OpName) → j ≡ k → m ≡ n → p ≡ q → last.Order j m p ≡ last.Order k n q
order_made j k m n p q e f g = λ i. last.Order (e i) (f i) (g i)

torn_made : (x y : ℕ) (s u : Origin) → x ≡ y → s ≡ u → last.Atomicity x s ≡ last.Atomicity y u
torn_made x y s u e f = λ i. last.Atomicity (e i) (f i)

pub last_one : LastIsOne
last_one initial t hart tag f last.Fine q h k = sym ((fine_is initial t hart tag q k).1 h)
last_one initial t hart tag f p last.Fine h k = (fine_is initial t hart tag p h).1 k
last_one initial t hart tag f (last.Value x a b) (last.Value y c d) h k =
    let at : x ≡ y = lowest_one _ x y h.lowest k.lowest in
    let least : IsLeast (RetiresWrong initial t hart tag y) h.load =
    subst (λ (z : ℕ). IsLeast (RetiresWrong initial t hart tag z) h.load) at h.least in
    let same : h.load ≡ k.load =
    least_one t (RetiresWrong initial t hart tag y) h.load k.load f (λ o u. u.1.load_in) least k.least in
    let want : byte_from initial (source t h.load x) x ≡ byte_from initial (source t k.load y) y =
    λ i. byte_from initial (source t (same i) (at i)) (at i) in
    let got : got_at h.load x ≡ got_at k.load y = λ i. got_at (same i) (at i) in
    value_made x y a c b d at (h.wanted ∙ want ∙ sym k.wanted) (h.loaded ∙ got ∙ sym k.loaded)
last_one initial t hart tag f (last.Value x a b) (last.Order rule first second) h k =
    absurd (k.right x h.lowest.here.0 h.lowest.here.1)
last_one initial t hart tag f (last.Value x a b) (last.Atomicity y store) h k =
    absurd (k.right x h.lowest.here.0 h.lowest.here.1)
last_one initial t hart tag f (last.Order rule first second) (last.Value y c d) h k =
    absurd (h.right y k.lowest.here.0 k.lowest.here.1)
last_one initial t hart tag f (last.Order rule first second) (last.Order rule' first' second') h k =
    let one = report_one t f h.broken k.broken h.before h.after k.before k.after h.reported k.reported in
    order_made rule rule' first first' second second' (h.numbered ∙ ap number one.0 ∙ sym k.numbered)
    (sym h.first_named ∙ ap (λ (o : Op). o.name) one.1 ∙ k.first_named)
    (sym h.second_named ∙ ap (λ (o : Op). o.name) one.2 ∙ k.second_named)
last_one initial t hart tag f (last.Order rule first second) (last.Atomicity y store) h k =
    absurd (k.ordered h.broken h.before h.after h.reported.first.here)
last_one initial t hart tag f (last.Atomicity x store) (last.Value y c d) h k =
    absurd (h.right y k.lowest.here.0 k.lowest.here.1)
last_one initial t hart tag f (last.Atomicity x store) (last.Order rule first second) h k =
    absurd (h.ordered k.broken k.before k.after k.reported.first.here)
last_one initial t hart tag f (last.Atomicity x store) (last.Atomicity y store') h k =
    let sc : h.sc ≡ k.sc =
    sc_one t h.sc k.sc f h.torn.1.pair.sc_in k.torn.1.pair.sc_in (k.torn.0.0 ∙ sym h.torn.0.0)
    (one_tag hart tag h.sc k.sc h.torn.0 k.torn.0) h.torn.1.pair.stored in
    let lr : h.lr ≡ k.lr = lr_one t h.lr k.lr k.sc f (subst (λ (z : Op). IsPair t h.lr z) sc h.torn.1.pair)
    k.torn.1.pair in
    let shown : TornBy t k.lr k.sc x h.blamed =
    subst (λ (z : Op). TornBy t k.lr z x h.blamed) sc (subst (λ (z : Op). TornBy t z h.sc x h.blamed) lr h.shown) in
    let one = shown_one t k.lr k.sc x h.blamed y k.blamed f shown k.shown in
    torn_made x y store store' one.0 (sym h.keyed ∙ ap key_of one.1 ∙ k.keyed)

-- ---- the order of the lists

module _ (t t' : Trace) (a : Alike t t') (z : Alike t' t) (initial : ℕ → ℕ) (hart : ℕ) (tag : Option ℕ) where
  retires_on : (x : ℕ) (i : Op) → RetiresWrong initial t hart tag x i → RetiresWrong initial t' hart tag x i
  retires_on x i h = (h.0, wrong_on t t' a z initial i x h.1)

  retires_back : (x : ℕ) (i : Op) → RetiresWrong initial t' hart tag x i → RetiresWrong initial t hart tag x i
  retires_back x i h = (h.0, wrong_on t' t z a initial i x h.1)

  right_on : RetiresRight initial t hart tag → RetiresRight initial t' hart tag
  right_on r x i h = r x i (retires_back x i h)

  last_on : (l : Last) → IsLast initial t hart tag l → IsLast initial t' hart tag l
  last_on last.Fine h = record {
    right = right_on h.right;
    ordered = all_ordered_on t t' a z h.ordered;
    atomic = λ r w p. h.atomic r w (p.0, torn_on t' t z a r w p.1);
  }
  last_on (last.Value x want got) h = record {
    lowest =
        lowest_on (λ y. (i : Op) × RetiresWrong initial t hart tag y i)
        (λ y. (i : Op) × RetiresWrong initial t' hart tag y i) x (λ y q. (q.0, retires_on y q.0 q.1))
        (λ y q. (q.0, retires_back y q.0 q.1)) h.lowest;
    load = h.load;
    least =
        least_on (RetiresWrong initial t hart tag x) (RetiresWrong initial t' hart tag x) h.load (retires_on x)
        (retires_back x) h.least;
    wanted = h.wanted ∙ ap (λ (o : Option Op). byte_from initial o x) (sym (a.sources h.load x));
    loaded = h.loaded;
  }
  last_on (last.Order rule first second) h = record {
    right = right_on h.right;
    broken = h.broken;
    before = h.before;
    after = h.after;
    numbered = h.numbered;
    first_named = h.first_named;
    second_named = h.second_named;
    reported = reported_on t t' a z h.broken h.before h.after h.reported;
  }
  last_on (last.Atomicity x store) h = record {
    right = right_on h.right;
    ordered = all_ordered_on t t' a z h.ordered;
    sc = h.sc;
    lr = h.lr;
    blamed = h.blamed;
    torn = (h.torn.0, torn_on t t' a z h.lr h.sc h.torn.1);
    shown = shown_on t t' a z h.lr h.sc x h.blamed h.shown;
    keyed = h.keyed;
  }

pub last_of_members : LastOfMembers
last_of_members initial t t' hart tag l f f' r =
    let a = alike t t' f r in
    let z = alike t' t f' (flip t t' r) in
    (last_on t t' a z initial hart tag l, last_on t' t z a initial hart tag l)

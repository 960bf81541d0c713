-- A trace has one answer.
use Rattle.std.proofs.Common.{ℕ, ◌<◌, ◌≡◌, inl, inr, true, ◌||◌, Option, Some, None, sym, ap, subst, ◌∙◌, arith}
use Rattle.std.proofs.lemmas.Bool.{cases_order, or_left}
use Rattle.std.specs.List.{Contains}
use Rattle.tandem_base.specs.declared.names.OpName.{OpName}
use Rattle.tandem_base.specs.declared.names.Origin.{Origin}
use Rattle.rv_decode.specs.declared.instruction.Insn.{Insn}
use Rattle.rvwmo_model.specs.declared.answers.Judged.TheVariants as judged
use Rattle.rvwmo_model.specs.declared.instructions.Retired.{Retired}
use Rattle.rvwmo_model.specs.declared.operations.Op.{Op}
use Rattle.rvwmo_model.specs.declared.traces.Trace.{Trace}
use Rattle.rvwmo_model.specs.Order.{got_at, everything}
use Rattle.rvwmo_model.specs.ProgramOrder.{insn_at, is_one}
use Rattle.rvwmo_model.specs.Sources.{source, byte_from, key_of}
use Rattle.rvwmo_model.specs.Rules.{Rule}
use Rattle.rvwmo_model.specs.Atomicity.{IsPair, Unpaired, IsLate, WritesBlock, IntrudesBlock}
use Rattle.rvwmo_model.specs.Legal.{WrongValue}
use Rattle.rvwmo_model.specs.InForm.{InForm}
use Rattle.rvwmo_model.specs.Report.{number, IsLeast, IsLowest, IsLatest, HasWrong, IsTorn, IsForeign, Blamed, late}
use Rattle.rvwmo_model.specs.Report.{foreign, TornBy, byte, block}
use Rattle.rvwmo_model.specs.Laws.{AnswerIsOne}
use Rattle.rvwmo_model.proofs.Answered.{legal_is}
use Rattle.rvwmo_model.proofs.Orders.{name_total}
use Rattle.rvwmo_model.proofs.Reports.{report_one}
use Rattle.rvwmo_model.proofs.Tested.{one_some}
use Rattle.rvwmo_model.proofs.Totality.{one_name, stand_alike}
use Rattle.rvwmo_model.proofs.LookUp.{found_in}
use Rattle.rv_decode.specs.Kinds.{is_lr, is_sc}

pub least_one : (t : Trace) (P : Op → Type 0) (a b : Op) → InForm t → ((o : Op) → P o → Contains t.ops o) → IsLeast P a
    → IsLeast P b → a ≡ b
least_one t P a b f only l m = one_name t a b f (only a l.offends) (only b m.offends)
    (name_total a.name b.name (m.least a l.offends) (l.least b m.offends))

pub lowest_one : (P : ℕ → Type 0) (x y : ℕ) → IsLowest P x → IsLowest P y → x ≡ y
lowest_one P x y l m = let a = l.lowest y m.here in let b = m.lowest x l.here in omega arith

latest_one : (t : Trace) (P : Op → Type 0) (a b : Op) → InForm t → ((o : Op) → P o → Contains (everything t) o)
    → IsLatest P a → IsLatest P b → a ≡ b
latest_one t P a b f only l m = stand_alike t a b f (only a l.here) (only b m.here) (l.latest b m.here)
    (m.latest a l.here)

-- ---- an SC has one LR

lr_parts : (o : Option Retired) → is_one is_lr o ≡ true → is_one (λ (w : Insn). is_lr w || is_sc w) o ≡ true
lr_parts None e = e
lr_parts (Some w) e = or_left (is_lr w.insn) (is_sc w.insn) e

-- an LR has one operation
op_one : (t : Trace) (r s : Op) → InForm t → Contains t.ops r → Contains t.ops s → s.name.hart ≡ r.name.hart
    → s.name.tag ≡ r.name.tag → is_one is_lr (insn_at t.insns r.name.hart r.name.tag) ≡ true → r ≡ s
op_one t r s f hr hs h g e =
    let w = one_some is_lr (insn_at t.insns r.name.hart r.name.tag) e in
    let i = found_in t.insns r.name.hart r.name.tag w.0 w.1 in
    let one = f.single w.0 i.0 (or_left (is_lr w.0.insn) _ w.2) in
    one.3 r hr (sym i.1, sym i.2) ∙ sym (one.3 s hs (h ∙ sym i.1, g ∙ sym i.2))

-- of two LRs that are paired with one SC none comes first
not_first : (t : Trace) (r s w : Op) → IsPair t r w → IsPair t s w → r.name.tag < s.name.tag → ⊥
not_first t r s w p q l =
    let same : s.name.hart ≡ r.name.hart = sym q.one_hart ∙ p.one_hart in
    let lr : is_one is_lr (insn_at t.insns r.name.hart s.name.tag) ≡ true =
    subst (λ (h : ℕ). is_one is_lr (insn_at t.insns h s.name.tag) ≡ true) same q.paired.0 in
    p.paired.2 (s.name.tag, l, q.in_order, lr_parts (insn_at t.insns r.name.hart s.name.tag) lr)

pub lr_one : (t : Trace) (r s w : Op) → InForm t → IsPair t r w → IsPair t s w → r ≡ s
lr_one t r s w f p q = elim (cases_order r.name.tag s.name.tag) [
  | inl e ↦ op_one t r s f p.lr_in q.lr_in (sym q.one_hart ∙ p.one_hart) (sym e) p.paired.0
  | inr o ↦ absurd (elim o [ inl l ↦ not_first t r s w p q l | inr l ↦ not_first t s r w q p l ])
]

-- ---- one byte and one store are shown

blamed_one : (t : Trace) (r w : Op) (x : ℕ) (s u : Op) → InForm t → Blamed t r w x s → Blamed t r w x u → s ≡ u
blamed_one t r w x _ _ f (late s e l) (late u g m) = let same : Some s ≡ Some u = sym e ∙ g in cc
blamed_one t r w x _ _ f (late s e l) (foreign u n m) = absurd (n (subst (λ (o : Option Op). IsLate o w) (sym e) l))
blamed_one t r w x _ _ f (foreign s n m) (late u e l) = absurd (n (subst (λ (o : Option Op). IsLate o w) (sym e) l))
blamed_one t r w x _ _ f (foreign s n l) (foreign u k m) = latest_one t (IsForeign t w x) s u f (λ o h. h.store_in) l m

pub shown_one : (t : Trace) (r w : Op) (x : ℕ) (s : Op) (y : ℕ) (u : Op) → InForm t → TornBy t r w x s
    → TornBy t r w y u → (x ≡ y) × (s ≡ u)
shown_one t r w _ _ _ _ f (byte x s l b) (byte y u m c) =
    let e = lowest_one _ x y l m in
    (e, blamed_one t r w y s u f (subst (λ (z : ℕ). Blamed t r w z s) e b) c)
shown_one t r w _ _ _ _ f (byte x s l b) (block y u n k m) = absurd (n x l.here)
shown_one t r w _ _ _ _ f (block x s n k l) (byte y u m c) = absurd (n y m.here)
shown_one t r w _ _ _ _ f (block x s n k l) (block y u o j m) =
    let e = latest_one t (IntrudesBlock t r w) s u f (λ v h. h.store_in) k j in
    (lowest_one (WritesBlock t r u) x y (subst (λ (v : Op). IsLowest (WritesBlock t r v) x) e l) m, e)

-- ---- the answer is one

pair_same : (m n : OpName) (a b : Op) → a.name ≡ m → b.name ≡ n → a ≡ b → judged.Pair m ≡ judged.Pair n
pair_same m n a b p q e = ap judged.Pair (sym p ∙ ap (λ (o : Op). o.name) e ∙ q)

value_made : (m : OpName) (x want got : ℕ) (n : OpName) (g o : ℕ) → n ≡ m → want ≡ g → got ≡ o
    → judged.Value n x g o ≡ judged.Value m x want got
value_made m x want got n g o a b c = λ k. judged.Value (a k) x (sym b k) (sym c k)

value_same : (initial : ℕ → ℕ) (t : Trace) (i j : Op) (x y : ℕ) → i ≡ j → x ≡ y
    → judged.Value i.name x (byte_from initial (source t i x) x) (got_at i x) ≡ judged.Value j.name y
    (byte_from initial (source t j y) y) (got_at j y)
value_same initial t i j x y e d = λ k. judged.Value (e k).name (d k) (byte_from initial (source t (e k) (d k)) (d k))
    (got_at (e k) (d k))

order_made : (rule : ℕ) (m n : OpName) (l : ℕ) (p q : OpName) → rule ≡ l → p ≡ m → q ≡ n
    → judged.Order l p q ≡ judged.Order rule m n
order_made rule m n l p q a b c = λ k. judged.Order (sym a k) (b k) (c k)

order_same : (j k : Rule) (a b c d : Op) → j ≡ k → a ≡ c → b ≡ d
    → judged.Order (number j) a.name b.name ≡ judged.Order (number k) c.name d.name
order_same j k a b c d e f g = λ i. judged.Order (number (e i)) (f i).name (g i).name

torn_made : (m : OpName) (x : ℕ) (s : Origin) (n : OpName) (o : Origin) → n ≡ m → o ≡ s
    → judged.Atomicity n x o ≡ judged.Atomicity m x s
torn_made m x s n o a b = λ k. judged.Atomicity (a k) x (b k)

torn_same : (w v : Op) (x y : ℕ) (s u : Op) → w ≡ v → x ≡ y → s ≡ u
    → judged.Atomicity w.name x (key_of s) ≡ judged.Atomicity v.name y (key_of u)
torn_same w v x y s u e f g = λ i. judged.Atomicity (e i).name (f i) (key_of (g i))

pub answer_one : AnswerIsOne
answer_one initial t f judged.Legal q h k = sym ((legal_is initial t q k).1 h)
answer_one initial t f p judged.Legal h k = (legal_is initial t p h).1 k
answer_one initial t f (judged.Pair m) (judged.Pair n) h k =
    pair_same m n h.sc k.sc h.named k.named (least_one t (Unpaired t) h.sc k.sc f (λ o u. u.sc_in) h.least k.least)
answer_one initial t f (judged.Pair m) (judged.Value n x want got) h k = absurd (k.paired h.sc h.least.offends)
answer_one initial t f (judged.Pair m) (judged.Order rule first second) h k = absurd (k.paired h.sc h.least.offends)
answer_one initial t f (judged.Pair m) (judged.Atomicity n x store) h k = absurd (k.paired h.sc h.least.offends)
answer_one initial t f (judged.Value m x want got) (judged.Pair n) h k = absurd (h.paired k.sc k.least.offends)
answer_one initial t f (judged.Value m x want got) (judged.Value n y want' got') h k =
    let same : h.load ≡ k.load =
    least_one t (HasWrong initial t) h.load k.load f (λ o u. u.1.load_in) h.least k.least in
    let at : x ≡ y =
    lowest_one (WrongValue initial t k.load) x y
    (subst (λ (i : Op). IsLowest (WrongValue initial t i) x) same h.lowest) k.lowest in
    sym (value_made m x want got h.load.name (byte_from initial (source t h.load x) x) (got_at h.load x) h.named
    h.wanted h.loaded)
    ∙ value_same initial t h.load k.load x y same at
    ∙ value_made n y want' got' k.load.name (byte_from initial (source t k.load y) y) (got_at k.load y) k.named
    k.wanted k.loaded
answer_one initial t f (judged.Value m x want got) (judged.Order rule first second) h k =
    absurd (k.right h.load x h.lowest.here)
answer_one initial t f (judged.Value m x want got) (judged.Atomicity n y store) h k =
    absurd (k.right h.load x h.lowest.here)
answer_one initial t f (judged.Order rule first second) (judged.Pair n) h k = absurd (h.paired k.sc k.least.offends)
answer_one initial t f (judged.Order rule first second) (judged.Value n y want got) h k =
    absurd (h.right k.load y k.lowest.here)
answer_one initial t f (judged.Order rule first second) (judged.Order rule' first' second') h k =
    let one = report_one t f h.broken k.broken h.before h.after k.before k.after h.reported k.reported in
    sym (order_made rule first second (number h.broken) h.before.name h.after.name h.numbered h.first_named
    h.second_named)
    ∙ order_same h.broken k.broken h.before h.after k.before k.after one.0 one.1 one.2
    ∙ order_made rule' first' second' (number k.broken) k.before.name k.after.name k.numbered k.first_named
    k.second_named
answer_one initial t f (judged.Order rule first second) (judged.Atomicity n y store) h k =
    absurd (k.ordered h.broken h.before h.after h.reported.first.here)
answer_one initial t f (judged.Atomicity m x store) (judged.Pair n) h k = absurd (h.paired k.sc k.least.offends)
answer_one initial t f (judged.Atomicity m x store) (judged.Value n y want got) h k =
    absurd (h.right k.load y k.lowest.here)
answer_one initial t f (judged.Atomicity m x store) (judged.Order rule first second) h k =
    absurd (h.ordered k.broken k.before k.after k.reported.first.here)
answer_one initial t f (judged.Atomicity m x store) (judged.Atomicity n y store') h k =
    let sc : h.sc ≡ k.sc = least_one t (IsTorn t) h.sc k.sc f (λ o u. u.1.pair.sc_in) h.least k.least in
    let lr : h.lr ≡ k.lr = lr_one t h.lr k.lr k.sc f (subst (λ (z : Op). IsPair t h.lr z) sc h.torn.pair) k.torn.pair in
    let shown : TornBy t k.lr k.sc x h.blamed =
    subst (λ (z : Op). TornBy t k.lr z x h.blamed) sc (subst (λ (z : Op). TornBy t z h.sc x h.blamed) lr h.shown) in
    let one = shown_one t k.lr k.sc x h.blamed y k.blamed f shown k.shown in
    sym (torn_made m x store h.sc.name (key_of h.blamed) h.named h.keyed)
    ∙ torn_same h.sc k.sc x y h.blamed k.blamed sc one.0 one.1
    ∙ torn_made n y store' k.sc.name (key_of k.blamed) k.named k.keyed

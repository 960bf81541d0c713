-- What quick looks find is what the rules say.
use Rattle.std.proofs.Common.{ℕ, zero, suc, ◌+◌, ◌≡◌, Bool, true, false, List, [], ◌∷◌, ◌++◌, eqb, ltb, ◌&&◌, ◌||◌}
use Rattle.std.proofs.Common.{cond}
use Rattle.std.proofs.Common.{Option, Some, None, refl, sym, ap, subst, ◌∙◌}
use Rattle.std.specs.List.{list_any, filter}
use Rattle.std.proofs.lemmas.Bool.{eqb-true}
use Rattle.std.proofs.lemmas.List.Folds.{list_any-append}
use Rattle.rvwmo_model.specs.declared.operations.Op.{Op}
use Rattle.rvwmo_model.specs.declared.traces.Trace.{Trace}
use Rattle.rvwmo_model.specs.Order.{reads, precedes}
use Rattle.rvwmo_model.specs.ProgramOrder.{insn_of, is_one}
use Rattle.rvwmo_model.specs.Search.{some_at}
use Rattle.rvwmo_model.specs.Sources.{source}
use Rattle.rvwmo_model.specs.Rules.{Rule, R3, R12}
use Rattle.rvwmo_model.specs.Tests.{is_operation, is_store_of, is_dependent, reads_from, reads_dependent, is_broken}
use Rattle.rvwmo_model.specs.Answer.{has_first, order_of, broken_second}
use Rattle.rvwmo_model.specs.Looks.{some_broken, is_against, with_tag, with_source, with_byte, tags_from, tags_read}
use Rattle.rvwmo_model.specs.Looks.{atomic_against, depends_between_at, dependent_against}
use Rattle.rv_decode.specs.Kinds.{is_amo_or_sc}

-- ---- searches with one answer

pub any_same : {X : Type 0} (p q : X → Bool) → ((x : X) → p x ≡ q x) → (xs : List X) → list_any p xs ≡ list_any q xs
any_same p q e [] = refl
any_same p q e (x ∷ xs) = rw (e x, any_same p q e xs) refl

some_at_same : (p q : ℕ → Bool) → ((x : ℕ) → p x ≡ q x) → (addr n : ℕ) → some_at p addr n ≡ some_at q addr n
unfolding some_at
some_at_same p q e addr zero = refl
some_at_same p q e addr (suc n) = rw (some_at_same p q e addr n, e (addr + n)) refl

-- ---- no pair

none_passes : (p : Op → Bool) (ops : List Op) → list_any p ops ≡ false → filter p ops ≡ []
none_passes p [] e = refl
none_passes p (o ∷ ops) e = at (p o) refl e (none_passes p ops)
  where
    at : (b : Bool) → p o ≡ b → (b || list_any p ops) ≡ false → (list_any p ops ≡ false → filter p ops ≡ [])
        → cond b (o ∷ filter p ops) (filter p ops) ≡ []
    at true q f rec = absurd (cc)
    at false q f rec = rec f

-- where no pair of a rule is broken, it has no offence
pub no_offence : (k : Rule) (t : Trace) → some_broken k t ≡ false → order_of k t (broken_second k t) ≡ None
no_offence k t e = rw (none_passes (has_first k t) t.ops e) refl

-- ---- the tags that a load reads from

-- a source is an operation of the hart of b, and its tag passes
abbrev FromOwn : Trace → Op → (ℕ → Bool) → Option Op → Bool
FromOwn t b test None = false
FromOwn t b test (Some s) = (eqb s.name.hart b.name.hart && is_operation t s) && test s.name.tag

absorbed : (test : ℕ → Bool) (tags : List ℕ) (k : ℕ) → list_any (λ j. eqb j k) tags ≡ true
    → (list_any test tags || test k) ≡ list_any test tags
absorbed test [] k e = absurd (cc)
absorbed test (j ∷ tags) k e = at (eqb j k) refl e (absorbed test tags k)
  where
    or_last : (a b : Bool) → ((a || b) || a) ≡ (a || b)
    or_last true b = refl
    or_last false true = refl
    or_last false false = refl

    or_more : (a b c : Bool) → (b || c) ≡ b → ((a || b) || c) ≡ (a || b)
    or_more true b c f = refl
    or_more false b c f = f

    at : (b : Bool) → eqb j k ≡ b → (b || list_any (λ j. eqb j k) tags) ≡ true
        → (list_any (λ j. eqb j k) tags ≡ true → (list_any test tags || test k) ≡ list_any test tags)
        → ((test j || list_any test tags) || test k) ≡ (test j || list_any test tags)
    at true q f rec = subst (λ (z : ℕ). ((test j || list_any test tags) || test z) ≡ (test j || list_any test tags))
        (eqb-true j k q) (or_last (test j) (list_any test tags))
    at false q f rec = or_more (test j) (list_any test tags) (test k) (rec f)

pub or_false : (a : Bool) → (a || false) ≡ a
or_false true = refl
or_false false = refl

any_with_tag : (test : ℕ → Bool) (k : ℕ) (tags : List ℕ)
    → list_any test (with_tag k tags) ≡ (list_any test tags || test k)
any_with_tag test k tags = at (list_any (λ j. eqb j k) tags) refl
  where
    at : (b : Bool) → list_any (λ j. eqb j k) tags ≡ b
        → list_any test (cond b tags (tags ++ k ∷ [])) ≡ (list_any test tags || test k)
    at true e = sym (absorbed test tags k e)
    at false e = list_any-append test tags (k ∷ []) ∙ ap (λ z. list_any test tags || z) (or_false (test k))

any_with_source : (t : Trace) (b : Op) (test : ℕ → Bool) (o : Option Op) (tags : List ℕ)
    → list_any test (with_source t b o tags) ≡ (list_any test tags || FromOwn t b test o)
any_with_source t b test None tags = sym (or_false (list_any test tags))
any_with_source t b test (Some s) tags = at (eqb s.name.hart b.name.hart && is_operation t s)
  where
    at : (own : Bool) → list_any test (cond own (with_tag s.name.tag tags) tags)
        ≡ (list_any test tags || (own && test s.name.tag))
    at true = any_with_tag test s.name.tag tags
    at false = sym (or_false (list_any test tags))

any_with_byte : (t : Trace) (b : Op) (test : ℕ → Bool) (x : ℕ) (tags : List ℕ)
    → list_any test (with_byte t b x tags) ≡ (list_any test tags || (reads x b && FromOwn t b test (source t b x)))
any_with_byte t b test x tags = at (reads x b)
  where
    at : (loads : Bool) → list_any test (cond loads (with_source t b (source t b x) tags) tags)
        ≡ (list_any test tags || (loads && FromOwn t b test (source t b x)))
    at true = any_with_source t b test (source t b x) tags
    at false = sym (or_false (list_any test tags))

any_tags_from : (t : Trace) (b : Op) (test : ℕ → Bool) (addr n : ℕ) → list_any test (tags_from t b addr n)
    ≡ some_at (λ x. reads x b && FromOwn t b test (source t b x)) addr n
unfolding some_at tags_from
any_tags_from t b test addr zero = refl
any_tags_from t b test addr (suc n) =
    any_with_byte t b test (addr + n) (tags_from t b addr n)
    ∙ ap (λ z. z || (reads (addr + n) b && FromOwn t b test (source t b (addr + n)))) (any_tags_from t b test addr n)

-- ---- rule 3

and_swap : (a b c : Bool) → ((a && b) && c) ≡ ((a && c) && b)
and_swap false b c = refl
and_swap true true true = refl
and_swap true true false = refl
and_swap true false true = refl
and_swap true false false = refl

read_at_tag : (t : Trace) (b : Op) (k x : ℕ)
    → (reads x b && FromOwn t b (λ j. eqb j k) (source t b x))
    ≡ (reads x b && is_store_of t b.name.hart k (source t b x))
read_at_tag t b k x = ap (λ z. reads x b && z) (at (source t b x))
  where
    at : (o : Option Op) → FromOwn t b (λ j. eqb j k) o ≡ is_store_of t b.name.hart k o
    at None = refl
    at (Some s) = and_swap (eqb s.name.hart b.name.hart) (is_operation t s) (eqb s.name.tag k)

reads_own : (t : Trace) (b : Op) (k : ℕ)
    → list_any (λ j. eqb j k) (tags_read t b) ≡ reads_from t b b.name.hart k
reads_own t b k =
    any_tags_from t b (λ j. eqb j k) b.extent.addr b.extent.len
    ∙ some_at_same _ _ (read_at_tag t b k) b.extent.addr b.extent.len

and_turn : (a b c : Bool) → (a && (b && c)) ≡ ((a && c) && b)
and_turn false b c = refl
and_turn true true true = refl
and_turn true true false = refl
and_turn true false true = refl
and_turn true false false = refl

-- where a pair is against program order, its hart is one
under_against : (a b : Op) (p q : Bool) → (b.name.hart ≡ a.name.hart → p ≡ q)
    → (is_against a b && p) ≡ (is_against a b && q)
under_against a b p q e = at (eqb b.name.hart a.name.hart) refl
  where
    at : (h : Bool) → eqb b.name.hart a.name.hart ≡ h
        → (((h && ltb a.name.tag b.name.tag) && precedes b a) && p)
        ≡ (((h && ltb a.name.tag b.name.tag) && precedes b a) && q)
    at false f = refl
    at true f = ap (λ z. (ltb a.name.tag b.name.tag && precedes b a) && z) (e (eqb-true _ _ f))

atomic_is : (t : Trace) (a b : Op) → is_broken R3 t a b ≡ atomic_against t b (tags_read t b) a
atomic_is t a b =
    under_against a b
    (is_one is_amo_or_sc (insn_of t a) && reads_from t b a.name.hart a.name.tag)
    (is_one is_amo_or_sc (insn_of t a) && list_any (λ j. eqb j a.name.tag) (tags_read t b))
    (λ h. ap (λ z. is_one is_amo_or_sc (insn_of t a) && z)
    (ap (λ (z : ℕ). reads_from t b z a.name.tag) (sym h) ∙ sym (reads_own t b a.name.tag)))
    ∙ and_turn (is_against a b) (is_one is_amo_or_sc (insn_of t a)) (list_any (λ j. eqb j a.name.tag) (tags_read t b))

-- ---- rule 12

and_group : (h l m o d : Bool) → ((h && o) && ((l && m) && d)) ≡ ((((h && l) && m) && o) && d)
and_group false l m o d = refl
and_group true false m true d = refl
and_group true false m false d = refl
and_group true true false true d = refl
and_group true true false false d = refl
and_group true true true true d = refl
and_group true true true false d = refl

read_dependent_at : (t : Trace) (a b : Op) → b.name.hart ≡ a.name.hart → (x : ℕ)
    → (reads x b && FromOwn t b (depends_between_at t a b) (source t b x))
    ≡ (reads x b && is_dependent t a b (source t b x))
read_dependent_at t a b h x = ap (λ z. reads x b && z) (at (source t b x))
  where
    at : (o : Option Op) → FromOwn t b (depends_between_at t a b) o ≡ is_dependent t a b o
    at None = refl
    at (Some s) = rw h
        (and_group (eqb s.name.hart a.name.hart) (ltb a.name.tag s.name.tag) (ltb s.name.tag b.name.tag)
        (is_operation t s) _)

dependent_is : (t : Trace) (a b : Op) → is_broken R12 t a b ≡ dependent_against t b (tags_read t b) a
dependent_is t a b =
    under_against a b (reads_dependent t a b) (list_any (depends_between_at t a b) (tags_read t b))
    (λ h. sym (any_tags_from t b (depends_between_at t a b) b.extent.addr b.extent.len
    ∙ some_at_same _ _ (read_dependent_at t a b h) b.extent.addr b.extent.len))

-- ---- all pairs

pub some_atomic_is : (t : Trace) → some_broken R3 t
    ≡ list_any (λ b. list_any (atomic_against t b (tags_read t b)) t.ops) t.ops
unfolding has_first
some_atomic_is t = any_same _ _ (λ b. any_same _ _ (λ a. atomic_is t a b) t.ops) t.ops

pub some_dependent_is : (t : Trace) → some_broken R12 t
    ≡ list_any (λ b. list_any (dependent_against t b (tags_read t b)) t.ops) t.ops
unfolding has_first
some_dependent_is t = any_same _ _ (λ b. any_same _ _ (λ a. dependent_is t a b) t.ops) t.ops

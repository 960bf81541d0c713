-- What depends on an operation, found by one walk.
use Rattle.std.proofs.Common.{ℕ, ◌+◌, ◌<◌, ◌≡◌, length, drop, get_or, Bool, true, false, List, [], ◌∷◌, ◌++◌, eqb}
use Rattle.std.proofs.Common.{leb, ◌&&◌, ◌||◌, cond}
use Rattle.std.proofs.Common.{refl, sym, ap, ◌∙◌}
use Rattle.std.specs.List.{list_any}
use Rattle.std.proofs.lemmas.Bool.{eq-eqb, ne_eqb}
use Rattle.std.proofs.lemmas.List.{append_assoc, drop_more}
use Rattle.rv_decode.specs.declared.registers.Register.{Register}
use Rattle.rvwmo_model.specs.declared.instructions.Retired.{Retired}
use Rattle.rvwmo_model.specs.declared.judge.walk.Search.{Search}
use Rattle.rvwmo_model.specs.declared.judge.walk.Use.{Use}
use Rattle.rvwmo_model.specs.declared.judge.walk.Use.TheVariants.{Address, Data, Control}
use Rattle.rvwmo_model.specs.declared.operations.Op.{Op}
use Rattle.rvwmo_model.specs.declared.traces.Trace.{Trace}
use Rattle.rvwmo_model.specs.Order.{op_stores}
use Rattle.rvwmo_model.specs.Rules.{Rule, R9, R10, R11, R13}
use Rattle.rvwmo_model.specs.Tests.{is_broken, depends_at, depends_between}
use Rattle.rvwmo_model.specs.Walk.{use_of, mark, is_found, finds_from, tag_if, tags_on}
use Rattle.rvwmo_model.specs.Answer.{has_first}
use Rattle.rvwmo_model.specs.Looks.{some_broken, is_against, tags_after, some_in, at_against, storing_against}
use Rattle.rvwmo_model.proofs.Looked.{any_same}

-- ---- the walk

-- the tags so far, those of the next instruction, and the rest
module _ (by : Use) (h start : ℕ) (insns : List Retired) (whole tags : List ℕ) (marks : List Register) (i : ℕ)
    (d : Retired) (l : i < length insns) (before : whole ≡ tags ++ tags_on by h start marks (drop i insns)) where
  abbrev pub here : Retired
  here = get_or insns i d

  abbrev pub rest : List Retired
  rest = drop (i + 1) insns

  abbrev pub used : List ℕ
  used = tag_if (list_any (λ r. use_of by here.insn r) marks) here.tag

  abbrev pub after : List ℕ
  after = tags_on by h start (mark here (eqb here.tag start) marks) rest

  by_hart : (own : Bool) → eqb here.hart h ≡ own
      → whole ≡ tags ++ cond own (used ++ after) (tags_on by h start marks rest)
  by_hart own e =
      before ∙ ap (λ z. tags ++ tags_on by h start marks z) (drop_more insns i d l)
      ∙ ap (λ (b : Bool). tags ++ cond b (used ++ after) (tags_on by h start marks rest)) e

  -- an instruction of the hart
  pub one_more : here.hart ≡ h → (tags' : List ℕ) (marks' : List Register) → tags' ≡ tags ++ used
      → marks' ≡ mark here (eqb here.tag start) marks → whole ≡ tags' ++ tags_on by h start marks' rest
  one_more own tags' marks' e f =
      by_hart true (eq-eqb here.hart h own) ∙ sym (append_assoc tags used after)
      ∙ ap (λ z. z ++ after) (sym e) ∙ ap (λ z. tags' ++ tags_on by h start z rest) (sym f)

  -- an instruction of another hart
  pub one_less : (here.hart ≡ h → ⊥) → (tags' : List ℕ) (marks' : List Register) → tags' ≡ tags
      → marks' ≡ marks → whole ≡ tags' ++ tags_on by h start marks' rest
  one_less other tags' marks' e f =
      by_hart false (ne_eqb here.hart h other)
      ∙ ap (λ z. z ++ tags_on by h start marks rest) (sym e) ∙ ap (λ z. tags' ++ tags_on by h start z rest) (sym f)

some_in_if : (uses : Bool) (first last k : ℕ) (rest : List ℕ)
    → (((leb first k && leb k last) && uses) || some_in first last rest) ≡ some_in first last (tag_if uses k ++ rest)
some_in_if true first last k rest = ap (λ z. z || some_in first last rest) (and_true (leb first k && leb k last))
  where
    and_true : (a : Bool) → (a && true) ≡ a
    and_true true = refl
    and_true false = refl
some_in_if false first last k rest = ap (λ z. z || some_in first last rest) (and_false (leb first k && leb k last))
  where
    and_false : (a : Bool) → (a && false) ≡ false
    and_false true = refl
    and_false false = refl

-- a search finds what one walk lists
found_is : (search : Search) (marks : List Register) (insns : List Retired)
    → finds_from search marks insns
    ≡ some_in search.from search.to (tags_on search.by search.hart search.start marks insns)
found_is search marks [] = refl
found_is search marks (w ∷ ws) =
    at (eqb w.hart search.hart) (found_is search marks ws) (found_is search (mark w (eqb w.tag search.start) marks) ws)
  where
    at : (own : Bool)
        → finds_from search marks ws
        ≡ some_in search.from search.to (tags_on search.by search.hart search.start marks ws)
        → finds_from search (mark w (eqb w.tag search.start) marks) ws
        ≡ some_in search.from search.to
        (tags_on search.by search.hart search.start (mark w (eqb w.tag search.start) marks) ws)
        → cond own (is_found search marks w || finds_from search (mark w (eqb w.tag search.start) marks) ws)
        (finds_from search marks ws)
        ≡ some_in search.from search.to
        (cond own
        (tag_if (list_any (λ r. use_of search.by w.insn r) marks) w.tag
        ++ tags_on search.by search.hart search.start (mark w (eqb w.tag search.start) marks) ws)
        (tags_on search.by search.hart search.start marks ws))
    at false e f = e
    at true e f =
        ap (λ z. is_found search marks w || z) f
        ∙ some_in_if (list_any (λ r. use_of search.by w.insn r) marks) search.from search.to w.tag
        (tags_on search.by search.hart search.start (mark w (eqb w.tag search.start) marks) ws)

-- ---- the order of two searches

any_false : {X : Type 0} (xs : List X) → list_any (λ (x : X). false) xs ≡ false
any_false [] = refl
any_false (x ∷ xs) = any_false xs

any_or : {X : Type 0} (p q : X → Bool) (xs : List X)
    → list_any (λ x. p x || q x) xs ≡ (list_any p xs || list_any q xs)
any_or p q [] = refl
any_or p q (x ∷ xs) = ap (λ z. (p x || q x) || z) (any_or p q xs) ∙ shuffle (p x) (q x) (list_any p xs) (list_any q xs)
  where
    shuffle : (a b c d : Bool) → ((a || b) || (c || d)) ≡ ((a || c) || (b || d))
    shuffle true b c d = refl
    shuffle false true true d = refl
    shuffle false true false d = refl
    shuffle false false true d = refl
    shuffle false false false d = refl

any_swap : (p : Op → Op → Bool) (xs ys : List Op)
    → list_any (λ b. list_any (λ a. p a b) xs) ys ≡ list_any (λ a. list_any (p a) ys) xs
any_swap p [] ys = any_false ys
any_swap p (x ∷ xs) ys =
    any_or (p x) (λ b. list_any (λ a. p a b) xs) ys ∙ ap (λ z. list_any (p x) ys || z) (any_swap p xs ys)

pub some_first_is : (k : Rule) (t : Trace) (test : Op → Op → Bool) → ((a b : Op) → is_broken k t a b ≡ test a b)
    → some_broken k t ≡ list_any (λ a. list_any (test a) t.ops) t.ops
unfolding has_first
some_first_is k t test e =
    any_same _ _ (λ b. any_same (λ a. is_broken k t a b) (λ a. test a b) (λ a. e a b) t.ops) t.ops
    ∙ any_swap test t.ops t.ops

-- ---- the rules

at_is : (by : Use) (t : Trace) (a b : Op)
    → (is_against a b && depends_at by t a b.name.tag) ≡ at_against a (tags_after by t a) b
at_is by t a b = ap (λ z. is_against a b && z) (found_is _ [] t.insns)

storing_is : (by : Use) (t : Trace) (a b : Op)
    → (is_against a b && (op_stores b && depends_between by t a b)) ≡ storing_against a (tags_after by t a) b
storing_is by t a b = ap (λ z. is_against a b && (op_stores b && z)) (found_is _ [] t.insns)

pub some_address_is : (t : Trace) → some_broken R9 t
    ≡ list_any (λ a. list_any (at_against a (tags_after Address t a)) t.ops) t.ops
some_address_is t = some_first_is R9 t (λ a. at_against a (tags_after Address t a)) (at_is Address t)

pub some_data_is : (t : Trace) → some_broken R10 t
    ≡ list_any (λ a. list_any (at_against a (tags_after Data t a)) t.ops) t.ops
some_data_is t = some_first_is R10 t (λ a. at_against a (tags_after Data t a)) (at_is Data t)

pub some_control_is : (t : Trace) → some_broken R11 t
    ≡ list_any (λ a. list_any (storing_against a (tags_after Control t a)) t.ops) t.ops
some_control_is t = some_first_is R11 t (λ a. storing_against a (tags_after Control t a)) (storing_is Control t)

pub some_address_between_is : (t : Trace) → some_broken R13 t
    ≡ list_any (λ a. list_any (storing_against a (tags_after Address t a)) t.ops) t.ops
some_address_between_is t =
    some_first_is R13 t (λ a. storing_against a (tags_after Address t a)) (storing_is Address t)

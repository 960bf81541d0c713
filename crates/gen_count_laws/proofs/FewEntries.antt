-- How many instructions of a hart retired under the tags above a number.
use Rattle.std.proofs.Common.{ℕ, suc, ◌≡◌, ◌+◌, ◌-◌, ◌*◌, ◌<◌, ◌≤◌, ◌==◌, ◌&&◌, List, [], ◌∷◌, ◌++◌, length}
use Rattle.std.proofs.Common.{Bool, true, false, nat_lt, cond, refl, ap, sym, subst, ◌∙◌, ◌⊎◌, arith, inl, inr, Some}
use Rattle.std.proofs.Common.{None}
use Rattle.std.specs.List.{filter, flat_map, cons_option}
use Rattle.std.specs.declared.option.Option.{Option}
use Rattle.std.proofs.lemmas.Bool.{cases_eq, cases_lt, eq-eqb, ne_eqb, le-ltb, ltb-true, and_left, and_right}
use Rattle.std.proofs.lemmas.List.{length-append}
use Rattle.std.proofs.lemmas.List.Elements.{filter-append}
use Rattle.msg_frames.specs.declared.message.Body.{Body}
use Rattle.msg_frames.specs.declared.message.Body.TheVariants as body
use Rattle.msg_frames.specs.declared.message.Message.{Message}
use Rattle.matching.specs.Tags.{last_in, last_tag, is_younger}
use Rattle.trace_model.specs.Entries.{Entry}
use Rattle.trace_model.specs.Traces.{entries, entry_in}
use Rattle.trace_model.proofs.Keys.{new_key}
use Rattle.trace_model.proofs.Lists.{In}
use Rattle.trace_model.proofs.Suits.{SuitsBody, Suited}
use Rattle.trace_gen.specs.Program.{made_image}

-- ---- tests

pub none_pass : {X : Type 0} (p : X → Bool) (xs : List X) → ((x : X) → In x xs → p x ≡ false) → filter p xs ≡ []
none_pass p [] none = refl
none_pass p (x ∷ xs) none =
    ap (λ (b : Bool). cond b (x ∷ filter p xs) (filter p xs)) (none x (inl refl))
    ∙ none_pass p xs (λ y i. none y (inr i))

pub filter_less : {X : Type 0} (p : X → Bool) (xs : List X) → length (filter p xs) ≤ length xs
filter_less p [] = omega arith
filter_less p (x ∷ xs) = at (p x) (filter_less p xs)
  where
    at : (b : Bool) → length (filter p xs) ≤ length xs
        → length (cond b (x ∷ filter p xs) (filter p xs)) ≤ suc (length xs)
    at true le = omega (arith, le)
    at false le = omega (arith, le)

-- those that pass are of members that pass, each of which has at most eight
pub flat_few : {X Y : Type 0} (p : Y → Bool) (r : X → Bool) (f : X → List Y) (xs : List X)
    → ((x : X) → In x xs → length (f x) ≤ 8) → ((x : X) → In x xs → r x ≡ false → (y : Y) → In y (f x) → p y ≡ false)
    → length (filter p (flat_map f xs)) ≤ 8 * length (filter r xs)
flat_few p r f [] few none = omega arith
flat_few p r f (x ∷ xs) few none =
    at (r x) refl (flat_few p r f xs (λ y i. few y (inr i)) (λ y i. none y (inr i)))
  where
    parts : length (filter p (f x ++ flat_map f xs)) ≡ length (filter p (f x)) + length (filter p (flat_map f xs))
    parts = ap length (filter-append p (f x) (flat_map f xs))
        ∙ length-append (filter p (f x)) (filter p (flat_map f xs))

    at : (b : Bool) → r x ≡ b → length (filter p (flat_map f xs)) ≤ 8 * length (filter r xs)
        → length (filter p (f x ++ flat_map f xs)) ≤ 8 * length (cond b (x ∷ filter r xs) (filter r xs))
    at true e le = omega (arith, parts, filter_less p (f x), few x (inl refl), le)
    at false e le =
        omega (arith, parts, ap length (none_pass p (f x) (λ y i. none x (inl refl) e y i)), le)

-- ---- the instructions

-- the instruction is of hart h, and its tag is above a number
abbrev pub is_recent : ℕ → ℕ → Entry → Bool
is_recent h low e = (e.insn.hart == h) && nat_lt low e.insn.tag

-- the last tag of a hart, 0 where it has none
abbrev pub top_of : Option ℕ → ℕ
top_of None = 0
top_of (Some t) = t

younger_top : (o : Option ℕ) (t : ℕ) → is_younger o t ≡ true → (top_of o < t) ⊎ (top_of o ≡ 0)
younger_top None t y = inr refl
younger_top (Some last) t y = inl (ltb-true last t y)

module _ (h low : ℕ) (o : Option Entry) (es : List Entry) where
  one_more : length (filter (is_recent h low) (cons_option o es)) ≤ suc (length (filter (is_recent h low) es))
  one_more = at o
    where
      at : (o : Option Entry)
          → length (filter (is_recent h low) (cons_option o es)) ≤ suc (length (filter (is_recent h low) es))
      at None = omega arith
      at (Some e) = on (is_recent h low e)
        where
          on : (b : Bool) → length (cond b (e ∷ filter (is_recent h low) es) (filter (is_recent h low) es))
              ≤ suc (length (filter (is_recent h low) es))
          on true = omega arith
          on false = omega arith

  no_more : ((e : Entry) → o ≡ Some e → is_recent h low e ≡ false)
      → length (filter (is_recent h low) (cons_option o es)) ≡ length (filter (is_recent h low) es)
  no_more none = at o none
    where
      at : (o : Option Entry) → ((e : Entry) → o ≡ Some e → is_recent h low e ≡ false)
          → length (filter (is_recent h low) (cons_option o es)) ≡ length (filter (is_recent h low) es)
      at None none = refl
      at (Some e) none =
          ap (λ (b : Bool). length (cond b (e ∷ filter (is_recent h low) es) (filter (is_recent h low) es)))
          (none e refl)

-- at most as many as there are tags
pub few_recent : (before : List Message) → Suited made_image before → (h low : ℕ)
    → length (filter (is_recent h low) (entries made_image before)) ≤ top_of (last_tag before h) - low
few_recent [] s h low = omega arith
few_recent (m ∷ before) s h low = at m.body s.2 (few_recent before s.0 h low)
  where
    at : (b : Body) → SuitsBody made_image before m.head b
        → length (filter (is_recent h low) (entries made_image before)) ≤ top_of (last_tag before h) - low
        → length (filter (is_recent h low) (cons_option (entry_in made_image before m.head b)
        (entries made_image before))) ≤ top_of (last_in (last_tag before h) m.head b h) - low
    at (body.Open info) t le = le
    at (body.Poke poke) t le = le
    at (body.Read piece) t le = le
    at (body.Insert piece) t le = le
    at (body.Write write) t le = le
    at (body.Bypass piece) t le = le
    at body.Squash t le = le
    at body.End t le = le
    at (body.Retire retire) t le = elim (cases_eq m.head.hart h) [
      | inl e ↦ own e
      | inr apart ↦ other apart
    ]
      where
        key : (e : Entry) → entry_in made_image before m.head (body.Retire retire) ≡ Some e
            → (e.insn.hart ≡ m.head.hart) × (e.insn.tag ≡ m.head.tag)
        key e q = new_key made_image before m.head (body.Retire retire) e q

        last_own : m.head.hart ≡ h
            → top_of (last_in (last_tag before h) m.head (body.Retire retire) h) ≡ m.head.tag
        last_own e =
            ap (λ (b : Bool). top_of (cond b (Some m.head.tag) (last_tag before h))) (eq-eqb m.head.hart h e)

        last_other : (m.head.hart ≡ h → ⊥)
            → top_of (last_in (last_tag before h) m.head (body.Retire retire) h) ≡ top_of (last_tag before h)
        last_other apart =
            ap (λ (b : Bool). top_of (cond b (Some m.head.tag) (last_tag before h))) (ne_eqb m.head.hart h apart)

        young : m.head.hart ≡ h → (top_of (last_tag before h) < m.head.tag) ⊎ (top_of (last_tag before h) ≡ 0)
        young e =
            subst (λ (x : ℕ). (top_of (last_tag before x) < m.head.tag) ⊎ (top_of (last_tag before x) ≡ 0)) e
            (younger_top (last_tag before m.head.hart) m.head.tag t.younger)

        more : length (filter (is_recent h low) (cons_option (entry_in made_image before m.head (body.Retire retire))
            (entries made_image before))) ≤ suc (length (filter (is_recent h low) (entries made_image before)))
        more = one_more h low (entry_in made_image before m.head (body.Retire retire)) (entries made_image before)

        above : m.head.hart ≡ h → low < m.head.tag
            → length (filter (is_recent h low) (cons_option (entry_in made_image before m.head (body.Retire retire))
            (entries made_image before))) ≤ top_of (last_in (last_tag before h) m.head (body.Retire retire) h) - low
        above e lt = elim (young e) [
          | inl y ↦ omega (arith, more, le, lt, y, last_own e)
          | inr z ↦ omega (arith, more, le, lt, z, last_own e)
        ]

        below : m.head.hart ≡ h → m.head.tag ≤ low
            → length (filter (is_recent h low) (cons_option (entry_in made_image before m.head (body.Retire retire))
            (entries made_image before))) ≤ top_of (last_in (last_tag before h) m.head (body.Retire retire) h) - low
        below e l =
            let same = no_more h low (entry_in made_image before m.head (body.Retire retire))
            (entries made_image before)
            (λ d q. and_right (d.insn.hart == h) (nat_lt low d.insn.tag)
            (le-ltb low d.insn.tag (omega (arith, (key d q).1, l)))) in
            elim (young e) [
              | inl y ↦ omega (arith, same, le, y, last_own e)
              | inr z ↦ omega (arith, same, le, z, last_own e)
            ]

        own : m.head.hart ≡ h
            → length (filter (is_recent h low) (cons_option (entry_in made_image before m.head (body.Retire retire))
            (entries made_image before))) ≤ top_of (last_in (last_tag before h) m.head (body.Retire retire) h) - low
        own e = elim (cases_lt low m.head.tag) [ inl lt ↦ above e lt | inr l ↦ below e l ]

        other : (m.head.hart ≡ h → ⊥)
            → length (filter (is_recent h low) (cons_option (entry_in made_image before m.head (body.Retire retire))
            (entries made_image before))) ≤ top_of (last_in (last_tag before h) m.head (body.Retire retire) h) - low
        other apart =
            let same = no_more h low (entry_in made_image before m.head (body.Retire retire))
            (entries made_image before)
            (λ d q. and_left (d.insn.hart == h) (nat_lt low d.insn.tag)
            (ne_eqb d.insn.hart h (λ z. apart (sym (key d q).0 ∙ z)))) in
            omega (arith, same, le, last_other apart)

-- A Write performs the Inserts that its line holds, one after the other.
use Rattle.std.proofs.Common.{ℕ, ◌+◌, ◌<◌, ◌≤◌, ◌≡◌, inl, inr, Bool, true, false, eqb, ◌&&◌, ◌||◌, cond, List, [], ◌∷◌}
use Rattle.std.proofs.Common.{Option, Some, None, refl, sym, ap, subst, ◌∙◌, arith}
use Rattle.std.proofs.lemmas.Bool.{false≢true, both_ways, or_cases, eqb-true, eq-eqb}
use Rattle.std.proofs.lemmas.Bool.Decides.{nat_tests}
use Rattle.tandem_base.specs.declared.names.Place.{Place}
use Rattle.msg_frames.specs.declared.message.Message.{Message}
use Rattle.msg_frames.specs.declared.message.Piece.{Piece}
use Rattle.msg_frames.specs.declared.message.Body.{Body}
use Rattle.msg_frames.specs.declared.message.Body.TheVariants as body
use Rattle.rvwmo_model.specs.declared.operations.Op.{Op}
use Rattle.rvwmo_model.specs.declared.traces.Trace.{Trace}
use Rattle.trace_model.proofs.Lists.{In, listed, contained}
use Rattle.tandem_base.specs.Places.{earlier}
use Rattle.trace_model.proofs.Lists.{in_left, in_right, in_cases}
use Rattle.growth_laws.specs.Growth.{Performs, no_parts, more_parts}
use Rattle.trace_model.specs.Groups.{Access}
use Rattle.matching.specs.declared.stores.Fate.{Fate}
use Rattle.matching.specs.declared.stores.Held.{Held}
use Rattle.matching.specs.declared.stores.Fate.TheVariants.{Nothing, Waiting, Done}
use Rattle.matching.specs.Settings.{number_after}
use Rattle.msg_frames.specs.Pieces.{has}
use Rattle.matching.specs.Pieces.{line_start}
use Rattle.matching.specs.Fates.{waiting_in, waiting, fate}
use Rattle.trace_model.proofs.Fresh.{AreFresh}
use Rattle.trace_model.specs.Entries.{Entry, Stores, Places, built}
use Rattle.trace_model.specs.Parts.{ArePartsFor}
use Rattle.trace_model.proofs.AreEntries.{AreEntries}
use Rattle.trace_model.proofs.Performed.{Moves, IsBelow, IsStep, steps}
use Rattle.trace_model.proofs.Waits.{waits, held_one, held_number, held_waits}

-- the Insert of that number is in the list
pub numbered : ℕ → List Held → Bool
numbered j [] = false
numbered j (e ∷ es) = eqb j e.number || numbered j es

-- where a byte was performed, when the Inserts of a list are performed at a message
abbrev pub placed_in : ℕ → ℕ → List Held → Fate → Option Place
placed_in time n js Nothing = None
placed_in time n js (Waiting j) = cond (numbered j js) (Some (record { time = time; message = n; insert = j })) None
placed_in time n js (Done p) = Some p

-- the numbers of a list fall
abbrev pub AreFalling : List Held → Type 0
AreFalling [] = Unit {0}
AreFalling (e ∷ es) = ((d : Held) → In d es → d.number < e.number) × AreFalling es

pub numbered_in : (j : ℕ) (es : List Held) → numbered j es ≡ true → (e : Held) × In e es × (e.number ≡ j)
unfolding numbered
numbered_in j [] q = absurd (false≢true q)
numbered_in j (e ∷ es) q = elim (or_cases (eqb j e.number) (numbered j es) q) [
  | inl a ↦ (e, inl refl, sym (eqb-true _ _ a))
  | inr b ↦ let r = numbered_in j es b in (r.0, inr r.1, r.2)
]

pub in_numbered : (j : ℕ) (es : List Held) (e : Held) → In e es → e.number ≡ j → numbered j es ≡ true
unfolding numbered
in_numbered j [] e i q = absurd i
in_numbered j (d ∷ es) e (inl s) q = rw (eq-eqb j d.number (sym q ∙ ap (λ (z : Held). z.number) s)) refl
in_numbered j (d ∷ es) e (inr i) q = at (eqb j d.number) (in_numbered j es e i q)
  where
    at : (c : Bool) → numbered j es ≡ true → (c || numbered j es) ≡ true
    at true r = refl
    at false r = r

pub no_number : (j : ℕ) → numbered j [] ≡ false
unfolding numbered
no_number j = refl

pub falling : (before : List Message) (h l : ℕ) → AreFalling (waiting before h l)
falling [] h l = tt
falling (m ∷ before) h l = at m.body (falling before h l)
  where
    more : (c : Bool) (piece : Piece) → AreFalling (waiting before h l)
        → AreFalling (cond c (record { number = number_after before; tag = m.head.tag; piece = piece }
        ∷ waiting before h l) (waiting before h l))
    more true piece f = (λ d i. let r = held_number before h l d i in omega (arith, r), f)
    more false piece f = f

    less : (c : Bool) → AreFalling (waiting before h l) → AreFalling (cond c [] (waiting before h l))
    less true f = tt
    less false f = f

    at : (b : Body) → AreFalling (waiting before h l) → AreFalling
        (waiting_in (number_after before) (waiting before h l) m.head b h l)
    at (body.Insert piece) f = more (eqb m.head.hart h && eqb (line_start piece.addr) l) piece f
    at (body.Write write) f = less (eqb m.head.hart h && eqb write.line l) f
    at _ f = f

-- what an Insert in a line stands on: the entry of its store, in whose extent its bytes lie
pub record IsStored (es : List Entry) (h : ℕ) (e : Held) : Type 0 where
  pub entry : Entry
  pub access : Access
  pub there : In entry es
  pub stores : entry.memory ≡ Stores access
  pub hart : access.hart ≡ h
  pub tag : access.tag ≡ e.tag
  pub inside : (x : ℕ) → has e.piece x ≡ true → (access.extent.addr ≤ x) × (x < access.extent.addr + access.extent.len)
  pub some : (x : ℕ) × (has e.piece x ≡ true)

module _ (before : List Message) (clean : AreFresh before) (es : List Entry) (early : List Op) (granule : ℕ)
    (h l time : ℕ) (good : AreEntries es)
    (stored : (e : Held) → In e (waiting before h l) → IsStored es h e) where
  abbrev n : ℕ
  n = number_after before

  abbrev places : List Held → Places
  places js g t x = placed_in time n js (fate before g t x)

  abbrev pub t : List Held → Trace
  t js = built es (places js) early granule

  abbrev at_place : ℕ → Place
  at_place j = record { time = time; message = n; insert = j }

  module _ (e : Held) (js : List Held) (i : In e (waiting before h l))
      (all : (d : Held) → In d js → In d (waiting before h l)) (less : (d : Held) → In d js → d.number < e.number) where
    st : IsStored es h e
    st = stored e i

    not_yet : numbered e.number js ≡ false
    not_yet = at (numbered e.number js) refl
      where
        at : (c : Bool) → numbered e.number js ≡ c → numbered e.number js ≡ false
        at true q = let r = numbered_in e.number js q in let s = less r.0 r.1 in absurd (omega (arith, s, r.2))
        at false q = q

    -- what waits by this Insert is of its store, and one of its bytes
    mine : (g t x : ℕ) → fate before g t x ≡ Waiting e.number → (g ≡ h) × (t ≡ e.tag) × (has e.piece x ≡ true)
    mine g t x f =
        let w = waits before clean g t x e.number f in
        let s = held_one before g (line_start x) h l w.0 e w.1 i w.2 in
        (s.0, sym w.3 ∙ ap (λ (z : Held). z.tag) s.1, subst (λ (z : Held). has z.piece x ≡ true) s.1 w.4)

    abbrev test : ℕ → ℕ → ℕ → Type 0
    test g t x = places (e ∷ js) g t x ≡ places js g t x

    -- a byte that isn't of this Insert stays
    still : (g t x : ℕ) → (fate before g t x ≡ Waiting e.number → ⊥) → test g t x
    unfolding numbered
    still g t x ne = at (fate before g t x) refl
      where
        at : (f : Fate) → fate before g t x ≡ f → placed_in time n (e ∷ js) f ≡ placed_in time n js f
        at Nothing q = refl
        at (Waiting j) q = on (eqb j e.number) refl
          where
            on : (c : Bool) → eqb j e.number ≡ c → cond (eqb j e.number || numbered j js) (Some (at_place j)) None
                ≡ cond (numbered j js) (Some (at_place j)) None
            on true d = absurd (ne (q ∙ ap Waiting (eqb-true _ _ d)))
            on false d = rw d refl
        at (Done p) q = refl

    waits_here : (x : ℕ) → has e.piece x ≡ true → fate before st.access.hart st.access.tag x ≡ Waiting e.number
    waits_here x p = subst (λ (z : ℕ). fate before z st.access.tag x ≡ Waiting e.number) (sym st.hart)
        (subst (λ (z : ℕ). fate before h z x ≡ Waiting e.number) (sym st.tag) (held_waits before clean h l e x i p))

    numbered_here : numbered e.number (e ∷ js) ≡ true
    unfolding numbered
    numbered_here = rw (eq-eqb e.number e.number refl) refl

    moves : Moves (places js) (places (e ∷ js)) st.access (at_place e.number) (has e.piece)
    moves = record {
      others = λ g t x ne. still g t x (λ f. let s = mine g t x f in ne (s.0 ∙ sym st.hart) (s.1 ∙ sym st.tag));
      was = λ x p. rw (waits_here x p) (rw not_yet refl);
      is = λ x p. rw (waits_here x p) (rw (numbered_here) refl);
      stays = λ x p. still st.access.hart st.access.tag x
          (λ f. both_ways _ p (mine st.access.hart st.access.tag x f).2);
      inside = st.inside;
      some = st.some;
    }

    pub step : IsBelow (t js) (at_place e.number) → IsStep (t js) (t (e ∷ js)) h e.tag (at_place e.number) (has e.piece)
    step below = steps es early granule (places js) (places (e ∷ js)) st.access (at_place e.number) (has e.piece)
        st.entry good st.there st.stores moves below h e.tag st.hart st.tag

  later : (i j : ℕ) → i < j → earlier (at_place i) (at_place j) ≡ true
  later i j l = grind (arith, nat_tests)

  -- all that is placed stays below a later place of this message
  below_on : (u v : Trace) (i j k : ℕ) (b : ℕ → Bool) → IsStep u v h k (at_place i) b → i < j → IsBelow u (at_place j)
      → IsBelow v (at_place j)
  below_on u v i j k b s l below w q in_v e = elim (in_cases v.ops v.early w in_v) [
    | inr a ↦ below w q (in_right u.ops u.early w (listed _ w (s.performs.early.back w (contained _ w a)))) e
    | inl a ↦ elim (s.performs.ops_back w (contained _ w a)) [
      | inl same ↦ let p : Some q ≡ Some (at_place i) = sym e ∙ ap (λ (z : Op). z.place) same ∙ s.place in
          subst (λ (z : Place). earlier z (at_place j) ≡ true) (let r : at_place i ≡ q = cc in r) (later i j l)
      | inr b ↦ elim b [
        | inl left ↦ absurd (let p : Some q ≡ None = sym e ∙ (s.performs.left w left).1 in cc)
        | inr old ↦ below w q (in_left u.ops u.early w (listed _ w old)) e
      ]
    ]
  ]

  -- the parts of the Inserts of a list, performed one after the other
  record Chain (js : List Held) : Type 0 where
    pub parts : List Op
    pub performs : Performs h (t []) parts (t js)
    pub are : ArePartsFor h time n js parts
    pub below : (j : ℕ) → ((d : Held) → In d js → d.number < j) → IsBelow (t js) (at_place j)

  chain : ((j : ℕ) → IsBelow (t []) (at_place j)) → (js : List Held) → AreFalling js
      → ((d : Held) → In d js → In d (waiting before h l)) → Chain js
  chain start [] falls all = record { parts = []; performs = no_parts; are = tt; below = λ j less. start j }
  chain start (e ∷ js) falls all =
      let c = chain start js falls.1 (λ d i. all d (inr i)) in
      let s = step e js (all e (inl refl)) (λ d i. all d (inr i)) falls.0 (c.below e.number falls.0) in
      record {
        parts = s.new ∷ c.parts;
        performs = more_parts c.parts (t js) (t (e ∷ js)) s.old s.new s.rest c.performs s.hart s.performs;
        are = (record { hart = s.hart; tag = s.tag; place = s.place; bytes = s.bytes }, c.are);
        below = λ j less. below_on (t js) (t (e ∷ js)) e.number j e.tag (has e.piece) s (less e (inl refl))
            (c.below j (λ d i. less d (inr i)));
      }

  pub whole : ((j : ℕ) → IsBelow (t []) (at_place j)) → AreFalling (waiting before h l) → (parts : List Op)
      × Performs h (t []) parts (t (waiting before h l)) × ArePartsFor h time n (waiting before h l) parts
  whole start falls = let c = chain start (waiting before h l) falls (λ d i. i) in (c.parts, c.performs, c.are)

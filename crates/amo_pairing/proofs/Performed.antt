-- The sources of an LR while stores are performed.
use Rattle.std.proofs.Common.{ℕ, ◌+◌, ◌<◌, ◌≡◌, ◌≢◌, ◌⊎◌, inl, inr, Bool, true, false, eqb, ◌&&◌, cond, List, [], ◌∷◌}
use Rattle.std.proofs.Common.{Option, Some, None, option_map, refl, sym, ap, subst, ◌∙◌}
use Rattle.std.proofs.lemmas.Bool.{both_ways, and_parts, cases_Bool, eq-eqb, eqb-true}
use Rattle.std.specs.List.{Contains}
use Rattle.tandem_base.specs.declared.extent.Extent.{Extent}
use Rattle.tandem_base.specs.declared.names.Position.{Position}
use Rattle.tandem_base.specs.Extents.{is_among}
use Rattle.rvwmo_model.specs.declared.operations.Op.{Op}
use Rattle.rvwmo_model.specs.declared.traces.Trace.{Trace}
use Rattle.rvwmo_model.specs.InForm.{IsPlaced}
use Rattle.rvwmo_model.specs.Order.{everything, op_stores, has_byte, put_at, precedes}
use Rattle.rvwmo_model.specs.Sources.{source}
use Rattle.growth_laws.specs.Kinds.{WellKinded, SameInsn}
use Rattle.growth_laws.specs.Growth.{PerformsPart, Performs, no_parts, more_parts, grow_stores}
use Rattle.growth_laws.specs.Laws.{HasOverlap}
use Rattle.growth_laws.specs.Writers.{GoesOn, SameSource}
use Rattle.growth_laws.proofs.Chains.{chain_stays}
use Rattle.growth_laws.proofs.Facts.{unplaced_retired}
use Rattle.growth_laws.proofs.Growths.{part_link, performs_chain, chain_kinded}
use Rattle.growth_laws.proofs.Pairs.{overlap_on}
use Rattle.growth_laws.proofs.Parts.{performs_insns, performs_hart, performs_back, Stems, stems_old, stems_part}
use Rattle.growth_laws.proofs.Parts.{stems_left}
use Rattle.growth_laws.proofs.Places.{place_cases, not_both}
use Rattle.window_laws.specs.declared.source.ByteSource.{ByteSource}
use Rattle.window_laws.specs.Tables.{untimed, source_told}
use Rattle.window_laws.proofs.GoneOn.{sources_go_on}
use Rattle.amo_pairing.specs.declared.reservation.Reservation.{Reservation}
use Rattle.amo_pairing.specs.PairingLaws.{TellsPart, TellsParts}
use Rattle.amo_pairing.specs.Reservations.{IsOfOpenLr, IsOpenPairing}
use Rattle.amo_pairing.specs.Sources.{source_at_byte, given_place, GivesPlacesIfAny}
use Rattle.amo_pairing.proofs.Opens.{SameOpens, same_opens, open_back}
use Rattle.amo_pairing.proofs.Stayed.{lr_reads, lr_is_placed, byte_in, open_lr_on, pairing_kept, waiting_hart}
use Rattle.amo_pairing.proofs.Stayed.{above_none}

-- ---- what is told

-- a store as a source
abbrev store_source : (hart tag : ℕ) → Option Position → ℕ → ByteSource
store_source hart tag place byte =
    record { writer = Some (record { hart = hart; tag = tag }); place = place; byte = byte }

-- what goes on is told by the hart, tag and byte that it had
moved_told : (initial : ℕ → ℕ) (x : ℕ) (s m : Op) (place : Option Position) → SameInsn m s → put_at m x ≡ put_at s x
    → option_map untimed m.place ≡ place
    → source_told initial (Some m) x ≡ store_source s.name.hart s.name.tag place (put_at s x)
moved_told initial x s m place same byte e =
    let h = same.0 in
    let t = same.1 in
    λ n. record { writer = Some (record { hart = h n; tag = t n }); place = e n; byte = byte n }

module _ (tag : ℕ) (extent : Extent) (place : Position) (x : ℕ) where
  -- a source with a place keeps it
  given_placed : (h t b : ℕ) (q : Position)
      → given_place tag extent place x (store_source h t (Some q) b) ≡ store_source h t (Some q) b
  given_placed h t b q = at (eqb t tag)
    where
      at : (c : Bool) → cond ((c && false) && is_among extent.addr extent.len x) (store_source h t (Some place) b)
          (store_source h t (Some q) b) ≡ store_source h t (Some q) b
      at true = refl
      at false = refl

  -- one without gets it where it is of the tag and its byte is inside
  given_here : (h t b : ℕ) → eqb t tag ≡ true → is_among extent.addr extent.len x ≡ true
      → given_place tag extent place x (store_source h t None b) ≡ store_source h t (Some place) b
  given_here h t b e f = at (eqb t tag) (is_among extent.addr extent.len x) e f
    where
      at : (c d : Bool) → c ≡ true → d ≡ true → cond ((c && true) && d) (store_source h t (Some place) b)
          (store_source h t None b) ≡ store_source h t (Some place) b
      at true true p q = refl
      at true false p q = absurd (both_ways false refl q)
      at false d p q = absurd (both_ways false refl p)

  -- and else not
  given_else : (h t b : ℕ) → (eqb t tag ≡ true → is_among extent.addr extent.len x ≡ true → ⊥)
      → given_place tag extent place x (store_source h t None b) ≡ store_source h t None b
  given_else h t b no_one = at (eqb t tag) (is_among extent.addr extent.len x) no_one
    where
      at : (c d : Bool) → (c ≡ true → d ≡ true → ⊥)
          → cond ((c && true) && d) (store_source h t (Some place) b) (store_source h t None b)
          ≡ store_source h t None b
      at true true f = absurd (f refl refl)
      at true false f = refl
      at false d f = refl

-- ---- one part

module _ (u v : Trace) (o n : Op) (rest : Option Op) (k : WellKinded u) (k' : WellKinded v)
    (p : PerformsPart u v o n rest) where
  -- a source is where it was, or it is the part
  part_place : (x : ℕ) (s m : Op) → GoesOn u v x s m → (m.place ≡ s.place) ⊎ (m ≡ n)
  part_place x s m g = elim g.becomes.place [
    | inl e ↦ inl e
    | inr q ↦ inr (now (p.ops_back m (g.retired (unplaced_retired u s k g.was q.0))) q.1 q.2)
  ]
    where
      now : (m ≡ n) ⊎ (rest ≡ Some m) ⊎ Contains u.ops m → IsPlaced m
          → ((v : Op) → Contains (everything u) v → IsPlaced v → precedes v m ≡ true) → m ≡ n
      now (inl same) q above = same
      now (inr (inl e)) q above = absurd (not_both m q (p.left m e).1)
      now (inr (inr i)) q above = absurd (above_none u m i q above)

  -- a byte of the store that is performed is its part's
  part_same : (x : ℕ) (s m : Op) → GoesOn u v x s m → s.place ≡ None → s.name.hart ≡ n.name.hart
      → s.name.tag ≡ n.name.tag → has_byte x n ≡ true → m ≡ n
  part_same x s m g none hart tag here =
      let i = unplaced_retired u s k g.was none in
      k'.disjoint m n x (g.retired i) p.added (g.becomes.same.0 ∙ hart, g.becomes.same.1 ∙ tag)
      (and_parts (op_stores m) (has_byte x m) g.stores).1 here

  module _ (initial : ℕ → ℕ) (kept later : Option Reservation) (tells : TellsPart n kept later) where
    abbrev given : ℕ → ByteSource → ByteSource
    given x s = given_place n.name.tag tells.extent (untimed tells.place) x s

    store_given : (x : ℕ) (s m : Op) → GoesOn u v x s m → (s.place ≡ None → s.name.hart ≡ n.name.hart)
        → source_told initial (Some m) x ≡ given x (source_told initial (Some s) x)
    store_given x s m g hart = elim (place_cases s) [
      | inl q ↦
          let e : option_map untimed s.place ≡ Some (untimed q.0) = ap (option_map untimed) q.1 in
          let f : m.place ≡ s.place = elim (part_place x s m g) [
            | inl same ↦ same
            | inr same ↦ elim g.becomes.place [ inl a ↦ a | inr b ↦ absurd (not_both s q b.0) ]
          ] in
          moved_told initial x s m (Some (untimed q.0)) g.becomes.same g.byte (ap (option_map untimed) f ∙ e)
          ∙ sym (given_placed n.name.tag tells.extent (untimed tells.place) x s.name.hart s.name.tag (put_at s x)
          (untimed q.0))
          ∙ ap (given x) (sym (moved_told initial x s s (Some (untimed q.0)) (refl, refl) refl e))
      | inr none ↦
          waited none (cases_Bool (eqb s.name.tag n.name.tag))
          (cases_Bool (is_among tells.extent.addr tells.extent.len x))
    ]
      where
        was : s.place ≡ None
            → given x (store_source s.name.hart s.name.tag None (put_at s x)) ≡ given x (source_told initial (Some s) x)
        was none =
            ap (given x) (sym (moved_told initial x s s None (refl, refl) refl (ap (option_map untimed) none)))

        stays : s.place ≡ None
            → (eqb s.name.tag n.name.tag ≡ true → is_among tells.extent.addr tells.extent.len x ≡ true → ⊥)
            → source_told initial (Some m) x ≡ given x (source_told initial (Some s) x)
        stays none not_so =
            let f : m.place ≡ None = elim (part_place x s m g) [
              | inl same ↦ same ∙ none
              | inr same ↦ absurd (not_so
                  (eq-eqb s.name.tag n.name.tag (sym g.becomes.same.1 ∙ ap (λ (z : Op). z.name.tag) same))
                  (sym (tells.bytes x)
                  ∙ subst (λ (z : Op). has_byte x z ≡ true) same (and_parts (op_stores m) (has_byte x m) g.stores).1))
            ] in
            moved_told initial x s m None g.becomes.same g.byte (ap (option_map untimed) f)
            ∙ sym (given_else n.name.tag tells.extent (untimed tells.place) x s.name.hart s.name.tag (put_at s x)
            not_so)
            ∙ was none

        waited : s.place ≡ None → (eqb s.name.tag n.name.tag ≡ true) ⊎ (eqb s.name.tag n.name.tag ≡ false)
            → (is_among tells.extent.addr tells.extent.len x ≡ true)
            ⊎ (is_among tells.extent.addr tells.extent.len x ≡ false)
            → source_told initial (Some m) x ≡ given x (source_told initial (Some s) x)
        waited none (inl a) (inl b) =
            let same : m ≡ n = part_same x s m g none (hart none) (eqb-true _ _ a) (tells.bytes x ∙ b) in
            let f : m.place ≡ Some tells.place = ap (λ (z : Op). z.place) same ∙ tells.placed in
            moved_told initial x s m (Some (untimed tells.place)) g.becomes.same g.byte (ap (option_map untimed) f)
            ∙ sym (given_here n.name.tag tells.extent (untimed tells.place) x s.name.hart s.name.tag (put_at s x) a b)
            ∙ was none
        waited none (inl a) (inr b) = stays none (λ c d. both_ways _ b d)
        waited none (inr a) b = stays none (λ c d. both_ways _ a c)

    source_given : (x : ℕ) (a b : Option Op) → SameSource u v x a b
        → ((s : Op) → a ≡ Some s → s.place ≡ None → s.name.hart ≡ n.name.hart)
        → source_told initial b x ≡ given x (source_told initial a x)
    source_given x None None s hart = refl
    source_given x (Some s) (Some m) g hart = store_given x s m g (hart s refl)
    source_given x None (Some m) s hart = absurd s
    source_given x (Some s) None s' hart = absurd s'

    -- what is kept of the hart is right once it is told of the part
    pub part_told : (h : ℕ) → n.name.hart ≡ h → (HasOverlap v → ⊥) → IsOpenPairing initial u h kept
        → IsOpenPairing initial v h later
    part_told h hart quiet = at kept later tells.gives
      where
        opens : SameOpens u v h
        opens = same_opens u v h (λ j. p.keeps.insns h j)

        at : (kept later : Option Reservation)
            → GivesPlacesIfAny n.name.tag tells.extent (untimed tells.place) kept later
            → IsOpenPairing initial u h kept → IsOpenPairing initial v h later
        at None later e none = subst (λ (z : Option Reservation). IsOpenPairing initial v h z) (sym e)
            (λ j q. none j (open_back u v h j opens q))
        at (Some r) None e a = absurd e
        at (Some r) (Some r') e a =
            let l = a.0 in
            let q = a.1 in
            let placed = lr_is_placed u h l k q in
            let link = part_link u v o n rest k p in
            let here = link.operations.stays l q.here placed in (
              l,
              open_lr_on u v h l opens here q,
              record {
                extent = e.same_extent ∙ a.2.extent;
                place = ap (λ (z : Position). Some z) e.same_place ∙ a.2.place;
                sources = λ j less. (
                    let x = l.extent.addr + j in
                    let inside : j < r.extent.len = subst (λ (z : Extent). j < z.len) (sym a.2.extent) less in
                    e.bytes j inside
                    ∙ ap (λ (z : Extent). given (z.addr + j) (source_at_byte r j)) a.2.extent
                    ∙ ap (given x) (a.2.sources j less)
                    ∙ sym (source_given x (source u l x) (source v l x)
                    (sources_go_on u v l x k
                    (grow_stores n.name.hart (n ∷ []) (more_parts [] u v o n rest no_parts refl p)) q.here
                    (lr_reads u h l x k q (byte_in l j less)) quiet)
                    (λ s f none. waiting_hart u l s x placed f none ∙ q.hart ∙ sym hart)));
              },
            )

-- ---- a message

-- of the hart: its parts, one after the other
pub parts_told : (initial : ℕ → ℕ) (h : ℕ) (t v : Trace) (parts : List Op) → WellKinded t → Performs h t parts v
    → (HasOverlap v → ⊥) → (kept later : Option Reservation) → TellsParts parts kept later
    → IsOpenPairing initial t h kept → IsOpenPairing initial v h later
parts_told initial h t _ _ k no_parts quiet kept later e a =
    subst (λ (z : Option Reservation). IsOpenPairing initial t h z) (sym e) a
parts_told initial h t _ _ k (more_parts parts u v o n rest s e p) quiet kept later told a =
    let ku = chain_kinded t u k (performs_chain h t u parts k s) in
    let link = part_link u v o n rest ku p in
    part_told u v o n rest ku link.after p initial told.0 later told.2 h e quiet
    (parts_told initial h t u parts k s
    (λ b. quiet (overlap_on u v link.before link.after link.writers link.operations b)) kept told.0 told.1 a)

-- of another hart
pub parts_of_others : (initial : ℕ → ℕ) (t t' : Trace) (g h : ℕ) (parts : List Op) (kept : Option Reservation)
    → WellKinded t → Performs g t parts t' → g ≢ h → (HasOverlap t' → ⊥) → IsOpenPairing initial t h kept
    → IsOpenPairing initial t' h kept
parts_of_others initial t t' g h parts kept k s d quiet =
    pairing_kept initial t t' h k (same_opens t t' h (λ j. performs_insns g t t' parts s h j))
    (λ l i q. chain_stays t t' l (performs_chain g t t' parts k s) i q)
    (λ l x o q. same l x o (source t l x) (source t' l x) refl
    (sources_go_on t t' l x k (grow_stores g parts s) o.here q quiet))
    kept
  where
    place_same : (l : Op) (x : ℕ) → IsOfOpenLr t h l → (b m : Op) → source t l x ≡ Some b → GoesOn t t' x b m
        → m.place ≡ b.place
    place_same l x o b m e f = elim f.becomes.place [
      | inl c ↦ c
      | inr c ↦ absurd (now c.0 c.1 c.2
          (performs_back g t t' parts s m (f.retired (unplaced_retired t b k f.was c.0))))
    ]
      where
        now : b.place ≡ None → IsPlaced m
            → ((v : Op) → Contains (everything t) v → IsPlaced v → precedes v m ≡ true) → Stems t parts m → ⊥
        now none q above (stems_old i z) = above_none t m i q above
        now none q above (stems_left z w y) = not_both m q z
        now none q above (stems_part i z a w y) = d (sym (performs_hart g t t' parts s m i) ∙ f.becomes.same.0
            ∙ waiting_hart t l b x (lr_is_placed t h l k o) e none ∙ o.hart)

    same : (l : Op) (x : ℕ) → IsOfOpenLr t h l → (a b : Option Op) → source t l x ≡ a → SameSource t t' x a b
        → source_told initial b x ≡ source_told initial a x
    same l x o None None e f = refl
    same l x o (Some b) (Some m) e f =
        moved_told initial x b m (option_map untimed b.place) f.becomes.same f.byte
        (ap (option_map untimed) (place_same l x o b m e f))
    same l x o None (Some m) e f = absurd f
    same l x o (Some b) None e f = absurd f

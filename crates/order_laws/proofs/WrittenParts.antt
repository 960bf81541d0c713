-- What it means that nothing is left open at the End.
use Rattle.std.proofs.Common.{ℕ, zero, suc, ◌<◌, ◌≤◌, ◌≡◌, ◌↔◌, Bool, true, false, cond, not, eqb, ltb, ◌&&◌}
use Rattle.std.proofs.Common.{is_some, List, []}
use Rattle.std.proofs.Common.{◌∷◌, length, Option, Some, None, refl, sym, ap, subst, ◌∙◌, inl, inr, arith}
use Rattle.std.proofs.lemmas.Bool.{false≢true, cases_Bool, ltb-true, lt-ltb, eqb-true, ltb-false}
use Rattle.std.specs.Option.{option_or, option_map_or}
use Rattle.msg_frames.specs.declared.message.Head.{Head}
use Rattle.msg_frames.specs.declared.message.OpenInfo.{OpenInfo}
use Rattle.msg_frames.specs.declared.message.Body.{Body}
use Rattle.msg_frames.specs.declared.message.Body.TheVariants as body
use Rattle.msg_frames.specs.declared.message.Message.{Message}
use Rattle.msg_frames.specs.Frames.{Fits}
use Rattle.elf_image.specs.Images.{Loaded}
use Rattle.matching.specs.declared.reports.OpenReport.{OpenReport}
use Rattle.matching.specs.declared.stores.Fate.{Fate}
use Rattle.matching.specs.declared.stores.Stored.{Stored}
use Rattle.matching.specs.EndFaults.{is_left, first_left, is_open_store, earliest_left, unwritten_fault_at}
use Rattle.matching.specs.EndFaults.{unwritten_fault_in, unwritten_fault_of, unwritten_below, first_bypass}
use Rattle.matching.specs.EndFaults.{unretired_fault_of}
use Rattle.matching.specs.Fates.{is_done}
use Rattle.matching.specs.Matching.{IsClean, end_fault_of}
use Rattle.matching.specs.PartFaults.{fate_at}
use Rattle.matching.specs.Reports.{early}
use Rattle.matching.specs.Searches.{earliest, first_below}
use Rattle.matching.specs.Settings.{open_of, harts_of}
use Rattle.matching.specs.Stores.{retired_stores}
use Rattle.trace_model.proofs.Cleaned.{has_entry}
use Rattle.trace_model.proofs.Lists.{In, contained, listed}
use Rattle.order_laws.specs.Stepped.{AreWritten}
use Rattle.order_laws.proofs.FormedParts.{stream_is}
use Rattle.order_laws.proofs.Tests.{both, none_below}
use Rattle.order_laws.proofs.Trapping.{both_none}

-- ---- a list in which none passes

earliest_passes : {X : Type 0} (p : X → Bool) (xs : List X) (x : X) → earliest p xs ≡ Some x → p x ≡ true
earliest_passes p [] x e = absurd (cc)
earliest_passes p (y ∷ ys) x e = at (earliest p ys) refl (p y) refl (earliest_passes p ys x) e
  where
    at : (o : Option _) → earliest p ys ≡ o → (b : Bool) → p y ≡ b → (earliest p ys ≡ Some x → p x ≡ true)
        → option_or o (cond b (Some y) None) ≡ Some x → p x ≡ true
    at (Some z) d b f rec e = rec (d ∙ e)
    at None d true f rec e = let s : y ≡ x = cc in subst (λ z. p z ≡ true) s f
    at None d false f rec e = absurd (cc)

none_earliest : {X : Type 0} (p : X → Bool) (xs : List X) → (earliest p xs ≡ None)
    ↔ ((x : X) → In x xs → p x ≡ false)
none_earliest p [] = ((λ e x i. absurd i), λ f. refl)
none_earliest p (y ∷ ys) =
    (on (earliest p ys) refl (p y) refl (none_earliest p ys), back (none_earliest p ys))
  where
    on : (o : Option _) → earliest p ys ≡ o → (b : Bool) → p y ≡ b
        → (earliest p ys ≡ None) ↔ ((x : _) → In x ys → p x ≡ false) → option_or o (cond b (Some y) None) ≡ None
        → (x : _) → In x (y ∷ ys) → p x ≡ false
    on (Some z) d b f rec e x i = absurd (cc)
    on None d true f rec e x i = absurd (cc)
    on None d false f rec e x (inl q) = subst (λ z. p z ≡ false) (sym q) f
    on None d false f rec e x (inr j) = rec.0 d x j

    back : (earliest p ys ≡ None) ↔ ((x : _) → In x ys → p x ≡ false) → ((x : _) → In x (y ∷ ys) → p x ≡ false)
        → option_or (earliest p ys) (cond (p y) (Some y) None) ≡ None
    back rec f = rw (rec.1 (λ x j. f x (inr j)), f y (inl refl)) refl

-- ---- one store

left_none : (fates : ℕ → Fate) (s : Stored) → length s.piece.bytes ≤ 8 → (is_some (first_left fates s) ≡ false)
    ↔ ((k : ℕ) → k < length s.piece.bytes → is_done (fates k) ≡ true)
unfolding first_left
left_none fates s short = (on, back)
  where
    no : (o : Option ℕ) → is_some o ≡ false → o ≡ None
    no None e = refl
    no (Some k) e = absurd (false≢true (sym e))

    done_at : (a b : Bool) → (a && not b) ≡ false → a ≡ true → b ≡ true
    done_at a true e q = refl
    done_at true false e q = absurd (false≢true (sym e))
    done_at false false e q = absurd (false≢true q)

    left_at : (a b : Bool) → (a ≡ true → b ≡ true) → (a && not b) ≡ false
    left_at true b h = ap not (h refl)
    left_at false b h = refl

    on : is_some (first_below (is_left fates s) 8) ≡ false → (k : ℕ) → k < length s.piece.bytes
        → is_done (fates k) ≡ true
    on e k l = done_at (ltb k (length s.piece.bytes)) (is_done (fates k))
        ((none_below (is_left fates s) 8).0 (no _ e) k (omega (arith, l, short)))
        (lt-ltb k (length s.piece.bytes) l)

    back : ((k : ℕ) → k < length s.piece.bytes → is_done (fates k) ≡ true)
        → is_some (first_below (is_left fates s) 8) ≡ false
    back h = ap (λ (o : Option ℕ). is_some o) ((none_below (is_left fates s) 8).1
        (λ k l. left_at (ltb k (length s.piece.bytes)) (is_done (fates k))
        (λ q. h k (ltb-true k (length s.piece.bytes) q))))

-- ---- the stores of a hart

unwritten_is : (fates : Stored → ℕ → Fate) (h : ℕ) (ss : List Stored)
    → (unwritten_fault_in fates h (earliest_left fates ss) ≡ None)
    ↔ ((s : Stored) → In s ss → is_open_store fates s ≡ false)
unwritten_is fates h ss = (on (earliest (is_open_store fates) ss) refl, back)
  where
    some : (o : Option ℕ) → is_some o ≡ true → (s : Stored) → unwritten_fault_at h s o ≡ None → ⊥
    some None q s e = false≢true q
    some (Some k) q s e = cc

    on : (o : Option Stored) → earliest (is_open_store fates) ss ≡ o → unwritten_fault_in fates h o ≡ None
        → (s : Stored) → In s ss → is_open_store fates s ≡ false
    on None q e s i = (none_earliest (is_open_store fates) ss).0 q s i
    on (Some t) q e s i = absurd (some (first_left (fates t) t) (earliest_passes (is_open_store fates) ss t q) t e)

    back : ((s : Stored) → In s ss → is_open_store fates s ≡ false)
        → unwritten_fault_in fates h (earliest_left fates ss) ≡ None
    back f = ap (unwritten_fault_in fates h) ((none_earliest (is_open_store fates) ss).1 f)

below_is : (image : Loaded) (before : List Message) (n : ℕ) → (unwritten_below image before n ≡ None)
    ↔ ((h : ℕ) → h < n → unwritten_fault_of image before h ≡ None)
unfolding unwritten_below
below_is image before zero = ((λ e h l. absurd (omega (arith, l))), λ f. refl)
below_is image before (suc n) =
    let r = both (unwritten_below image before n) (unwritten_fault_of image before n) _ _ (below_is image before n)
    ((λ e. e), λ e. e) in (
      (λ e h l. each (r.0 e).0 (r.0 e).1 h l),
      λ f. r.1 ((λ h l. f h (omega (arith, l))), f n (omega arith)),
    )
  where
    each : ((h : ℕ) → h < n → unwritten_fault_of image before h ≡ None) → unwritten_fault_of image before n ≡ None
        → (h : ℕ) → h < suc n → unwritten_fault_of image before h ≡ None
    each f g h l = elim (cases_Bool (ltb h n)) [
      | inl q ↦ f h (ltb-true h n q)
      | inr q ↦
          let m = ltb-false h n q in
          subst (λ (z : ℕ). unwritten_fault_of image before z ≡ None) (let s : n ≡ h = omega (arith, m, l) in s) g
    ]

-- ---- a clean list is of at most 16 harts, and its stores have at most eight bytes

short : (image : Loaded) (before : List Message) (h : ℕ) (s : Stored) → In s (retired_stores image before h)
    → length s.piece.bytes ≤ 8
short image before h s i = let e = has_entry image before h s i in
    subst (λ (n : ℕ). n ≤ 8) e.len e.access.extent.sized.1

harts_few : (image : Loaded) (before : List Message) → IsClean image before → harts_of before ≤ 16
harts_few image [] c = omega arith
harts_few image (m ∷ before) c = at m.body c.1 (harts_few image before c.0)
  where
    at : (b : Body) → Fits (record { head = m.head; body = b }) → harts_of before ≤ 16
        → option_map_or (λ (info : OpenInfo). info.harts) (open_of b) (harts_of before) ≤ 16
    at (body.Open info) f l = f.2.2
    at (body.Poke poke) f l = l
    at (body.Read piece) f l = l
    at (body.Insert piece) f l = l
    at (body.Write write) f l = l
    at (body.Bypass piece) f l = l
    at (body.Retire retire) f l = l
    at body.Squash f l = l
    at body.End f l = l

-- a Retire of a clean list is of a low hart
low_hart : (image : Loaded) (before : List Message) (head : Head) (b : Body)
    → IsClean image (record { head = head; body = b } ∷ before) → open_of b ≡ None → head.hart < 16
low_hart image [] head b c n =
    let s = (stream_is [] (record { head = head; body = b })).0 (both_none _ _ c.2).0 in
    absurd (false≢true (ap (λ (o : Option OpenInfo). is_some o) (sym n) ∙ s))
low_hart image (last ∷ before) head b c n =
    let s = (stream_is (last ∷ before) (record { head = head; body = b })).0 (both_none _ _ c.2).0 in
    let l = s.1 in
    let f = harts_few image (last ∷ before) c.0 in
    omega (arith, l, f)

few_stores : (image : Loaded) (before : List Message) → IsClean image before → (h : ℕ) → 16 ≤ h
    → retired_stores image before h ≡ []
few_stores image [] c h l = refl
few_stores image (m ∷ before) c h l = at m.body c (few_stores image before c.0 h l)
  where
    at : (b : Body) → IsClean image (record { head = m.head; body = b } ∷ before) → retired_stores image before h ≡ []
        → retired_stores image (record { head = m.head; body = b } ∷ before) h ≡ []
    at (body.Open info) d e = e
    at (body.Poke poke) d e = e
    at (body.Read piece) d e = e
    at (body.Insert piece) d e = e
    at (body.Write write) d e = e
    at (body.Bypass piece) d e = e
    at (body.Retire retire) d e = elim (cases_Bool (eqb m.head.hart h)) [
      | inl q ↦
          let g = low_hart image before m.head (body.Retire retire) d refl in
          let s = eqb-true m.head.hart h q in
          absurd (omega (arith, g, s, l))
      | inr q ↦ rw q e
    ]
    at body.Squash d e = e
    at body.End d e = e

-- ---- the End

early_is : (rs : List OpenReport) → (unretired_fault_of (first_bypass rs) ≡ None) ↔ (rs ≡ [])
early_is [] = ((λ e. refl), λ e. refl)
early_is (r ∷ rs) = ((λ e. absurd (cc)), λ e. absurd (cc))

pub written_is : (image : Loaded) (before : List Message) → IsClean image before
    → (unwritten_below image before 16 ≡ None) ↔ AreWritten image before
written_is image before c = (on, back)
  where
    on : unwritten_below image before 16 ≡ None → AreWritten image before
    on e h s k i l = elim (cases_Bool (ltb h 16)) [
      | inl q ↦ (left_none (fate_at before h s) s (short image before h s (listed _ s i))).0
          ((unwritten_is (fate_at before h) h (retired_stores image before h)).0
          ((below_is image before 16).0 e h (ltb-true h 16 q)) s (listed _ s i)) k l
      | inr q ↦ absurd (subst (In s) (few_stores image before c h (ltb-false h 16 q)) (listed _ s i))
    ]

    back : AreWritten image before → unwritten_below image before 16 ≡ None
    back w = (below_is image before 16).1 (λ h l. (unwritten_is (fate_at before h) h (retired_stores image before h)).1
        (λ s i. (left_none (fate_at before h s) s (short image before h s i)).1 (λ k m. w h s k (contained _ s i) m)))

pub end_is : (image : Loaded) (before : List Message) → IsClean image before → (end_fault_of image before ≡ None)
    ↔ (AreWritten image before × (early before ≡ []))
end_is image before c =
    both (unwritten_below image before 16) _ _ _ (written_is image before c) (early_is (early before))

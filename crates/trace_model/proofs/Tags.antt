-- The tags of what retired, and of early Bypasses.
use Rattle.std.proofs.Common.{ℕ, ◌<◌, ◌≤◌, ◌≡◌, inl, inr, Bool, true, false, not, eqb, cond, List}
use Rattle.std.proofs.Common.{[], ◌∷◌, Option, Some, None, refl, sym, ap, subst, ◌∙◌, arith}
use Rattle.std.proofs.lemmas.Bool.{false≢true, both_ways, and_from, eqb-true, eq-eqb, ltb-true, lt-ltb}
use Rattle.std.proofs.lemmas.Bool.Decides.{nat_tests}
use Rattle.msg_frames.specs.declared.message.Head.{Head}
use Rattle.msg_frames.specs.declared.message.Piece.{Piece}
use Rattle.msg_frames.specs.declared.message.Body.{Body}
use Rattle.msg_frames.specs.declared.message.Body.TheVariants as body
use Rattle.msg_frames.specs.declared.message.Message.{Message}
use Rattle.elf_image.specs.Images.{Loaded}
use Rattle.rvwmo_model.specs.declared.instructions.Retired.{Retired}
use Rattle.matching.specs.declared.reports.OpenReport.{OpenReport}
use Rattle.matching.specs.Settings.{number_after}
use Rattle.matching.specs.Tags.{last_in, last_tag, is_younger, is_early}
use Rattle.matching.specs.Reports.{open_report_of, is_report, early_in, early}
use Rattle.trace_model.specs.Entries.{Entry, insns_of}
use Rattle.trace_model.specs.Traces.{entry_in, entries}
use Rattle.trace_model.proofs.Lists.{In, in_cases, from_filter}
use Rattle.trace_model.proofs.Keys.{with_cases, new_key}
use Rattle.trace_model.proofs.Suits.{SuitsBody, Suited}

-- a tag is at most the last one
abbrev pub IsUpTo : Option ℕ → ℕ → Type 0
IsUpTo None t = ⊥
IsUpTo (Some last) t = t ≤ last

below_younger : (o : Option ℕ) (s t : ℕ) → IsUpTo o s → is_younger o t ≡ true → s < t
below_younger None s t u y = absurd u
below_younger (Some last) s t u y = let l = ltb-true last t y in omega (arith, l, u)

-- ---- what retired is not above the last tag of its hart

module _ (image : Loaded) (before : List Message) (m : Message) (suits : SuitsBody image before m.head m.body) where
  -- what is up to the last tag stays so
  up_on : (h t : ℕ) → IsUpTo (last_tag before h) t → IsUpTo (last_tag (m ∷ before) h) t
  up_on h t u = at m.body suits
    where
      on : (c : Bool) → eqb m.head.hart h ≡ c → is_younger (last_tag before m.head.hart) m.head.tag ≡ true
          → IsUpTo (cond c (Some m.head.tag) (last_tag before h)) t
      on true e y =
          let same = eqb-true m.head.hart h e in
          let l : t < m.head.tag = below_younger (last_tag before m.head.hart) t m.head.tag
          (subst (λ (z : ℕ). IsUpTo (last_tag before z) t) (sym same) u) y in
          omega (arith, l)
      on false e y = u

      at : (b : Body) → SuitsBody image before m.head b → IsUpTo (last_in (last_tag before h) m.head b h) t
      at (body.Retire retire) s = on (eqb m.head.hart h) refl s.younger
      at _ s = u

  -- a new entry is of the last tag
  up_new : (e : Entry) → entry_in image before m.head m.body ≡ Some e → IsUpTo (last_tag (m ∷ before) e.insn.hart)
      e.insn.tag
  up_new e = at m.body
    where
      at : (b : Body) → entry_in image before m.head b ≡ Some e
          → IsUpTo (last_in (last_tag before e.insn.hart) m.head b e.insn.hart) e.insn.tag
      at (body.Retire retire) q =
          let k = new_key image before m.head (body.Retire retire) e q in
          rw (k.0, k.1, eq-eqb m.head.hart m.head.hart refl) (omega arith)
      at _ q = absurd (cc)

pub up_to_last : (image : Loaded) (before : List Message) → Suited image before → (e : Entry)
    → In e (entries image before) → IsUpTo (last_tag before e.insn.hart) e.insn.tag
up_to_last image [] s e i = absurd i
up_to_last image (m ∷ before) s e i = elim
    (with_cases (entry_in image before m.head m.body) (entries image before) e i) [
      | inl j ↦ up_on image before m s.2 e.insn.hart e.insn.tag (up_to_last image before s.0 e j)
      | inr q ↦ up_new image before m s.2 e q
    ]

pub from_insn : (es : List Entry) (w : Retired) → In w (insns_of es) → (e : Entry) × In e es × (w ≡ e.insn)
from_insn [] w i = absurd i
from_insn (f ∷ es) w i = elim (in_cases (insns_of es) (f.insn ∷ []) w i) [
  | inl j ↦ let r = from_insn es w j in (r.0, inr r.1, r.2)
  | inr j ↦ elim j [ inl s ↦ (f, inl refl, s) | inr k ↦ absurd k ]
]

pub all_below_entry : (image : Loaded) (before : List Message) → Suited image before → (h t : ℕ)
    → is_younger (last_tag before h) t ≡ true → (e : Entry) → In e (entries image before) → e.insn.hart ≡ h
    → e.insn.tag < t
all_below_entry image before s h t y e i f = below_younger (last_tag before h) e.insn.tag t
    (subst (λ (z : ℕ). IsUpTo (last_tag before z) e.insn.tag) f (up_to_last image before s e i)) y

-- so a tag above the last one is above those of all instructions of that hart
pub all_below_tag : (image : Loaded) (before : List Message) → Suited image before → (h t : ℕ)
    → is_younger (last_tag before h) t ≡ true → (w : Retired) → In w (insns_of (entries image before)) → w.hart ≡ h
    → w.tag < t
all_below_tag image before s h t y w i e =
    let r = from_insn (entries image before) w i in
    let u = up_to_last image before s r.0 r.1 in
    let hart : r.0.insn.hart ≡ h = sym (ap (λ (z : Retired). z.hart) r.2) ∙ e in
    let l = below_younger (last_tag before h) r.0.insn.tag t
    (subst (λ (z : ℕ). IsUpTo (last_tag before z) r.0.insn.tag) hart u) y in
    let tag = ap (λ (z : Retired). z.tag) r.2 in
    omega (arith, l, tag)

-- ---- early Bypasses

-- each is above the last tag of its hart
abbrev pub IsAhead : List Message → OpenReport → Type 0
IsAhead before r = is_younger (last_tag before r.hart) r.tag ≡ true

pub other_tag : (head : Head) (r : OpenReport) → head.tag ≤ r.tag → eqb head.hart r.hart ≡ true
    → not (is_report head.hart head.tag r) ≡ true → head.tag < r.tag
other_tag head r l e n = at (eqb r.tag head.tag) refl
  where
    at : (c : Bool) → eqb r.tag head.tag ≡ c → head.tag < r.tag
    at true f =
        let q : is_report head.hart head.tag r ≡ true = and_from _ _ (eq-eqb _ _ (sym (eqb-true _ _ e))) f in
        absurd (false≢true (sym (ap not q) ∙ n))
    at false f = grind (arith, nat_tests)

module _ (image : Loaded) (before : List Message) (head : Head) (r : OpenReport)
    (old : In r (early before) → IsAhead before r) where
  ahead_now : (b : Body) → SuitsBody image before head b → In r (early_in before (early before) head b)
      → IsAhead (record { head = head; body = b } ∷ before) r
  ahead_now (body.Bypass piece) s i = at (is_early before head) refl i
    where
      at : (c : Bool) → is_early before head ≡ c → In r
          (cond c (open_report_of (number_after before) head piece ∷ early before) (early before)) → IsAhead before r
      at true q (inl e) = subst (IsAhead before) (sym e) q
      at true q (inr j) = old j
      at false q j = old j
  ahead_now (body.Retire retire) s i =
      let y = from_filter (λ (s : OpenReport). not (is_report head.hart head.tag s)) (early before) r i in
      at (eqb head.hart r.hart) refl y.0 y.1
    where
      at : (c : Bool) → eqb head.hart r.hart ≡ c → In r (early before) → not (is_report head.hart head.tag r) ≡ true
          → is_younger (cond c (Some head.tag) (last_tag before r.hart)) r.tag ≡ true
      at true e j n = lt-ltb _ _ (other_tag head r (s.older r j (sym (eqb-true _ _ e))) e n)
      at false e j n = old j
  ahead_now (body.Open info) s i = old i
  ahead_now (body.Poke poke) s i = old i
  ahead_now (body.Read piece) s i = old i
  ahead_now (body.Insert piece) s i = old i
  ahead_now (body.Write write) s i = old i
  ahead_now body.Squash s i = old i
  ahead_now body.End s i = old i

pub ahead : (image : Loaded) (before : List Message) → Suited image before → (r : OpenReport) → In r (early before)
    → IsAhead before r
ahead image [] s r i = absurd i
ahead image (m ∷ before) s r i = ahead_now image before m.head r (ahead image before s.0 r) m.body s.2 i

-- one early Bypass for each instruction
module _ (image : Loaded) (before : List Message) (head : Head) (q r : OpenReport)
    (same : (q.hart ≡ r.hart) × (q.tag ≡ r.tag)) (old : In q (early before) → In r (early before) → q ≡ r) where
  is_of_head : (n : ℕ) (piece : Piece) (s t : OpenReport) → s ≡ open_report_of n head piece
      → (s.hart ≡ t.hart) × (s.tag ≡ t.tag)
      → is_report head.hart head.tag t ≡ true
  is_of_head n piece s t e k =
      and_from _ _ (eq-eqb _ _ (sym k.0 ∙ ap (λ (z : OpenReport). z.hart) e))
      (eq-eqb _ _ (sym k.1 ∙ ap (λ (z : OpenReport). z.tag) e))

  one_now : (b : Body) → SuitsBody image before head b → In q (early_in before (early before) head b)
      → In r (early_in before (early before) head b) → q ≡ r
  one_now (body.Bypass piece) s i j = at (is_early before head) refl i j
    where
      at : (c : Bool) → is_early before head ≡ c → In q
          (cond c (open_report_of (number_after before) head piece ∷ early before) (early before))
          → In r (cond c (open_report_of (number_after before) head piece ∷ early before) (early before)) → q ≡ r
      at true e (inl a) (inl b) = a ∙ sym b
      at true e (inl a) (inr b) = absurd (both_ways _ ((s.0 e).first r b)
          (is_of_head (number_after before) piece q r a same))
      at true e (inr a) (inl b) = absurd (both_ways _ ((s.0 e).first q a)
          (is_of_head (number_after before) piece r q b (sym same.0, sym same.1)))
      at true e (inr a) (inr b) = old a b
      at false e a b = old a b
  one_now (body.Retire retire) s i j =
      old (from_filter (λ (s : OpenReport). not (is_report head.hart head.tag s)) (early before) q i).0
      (from_filter (λ (s : OpenReport). not (is_report head.hart head.tag s)) (early before) r j).0
  one_now (body.Open info) s i j = old i j
  one_now (body.Poke poke) s i j = old i j
  one_now (body.Read piece) s i j = old i j
  one_now (body.Insert piece) s i j = old i j
  one_now (body.Write write) s i j = old i j
  one_now body.Squash s i j = old i j
  one_now body.End s i j = old i j

pub early_one : (image : Loaded) (before : List Message) → Suited image before → (q r : OpenReport)
    → In q (early before)
    → In r (early before) → q.hart ≡ r.hart → q.tag ≡ r.tag → q ≡ r
early_one image [] s q r i j a b = absurd i
early_one image (m ∷ before) s q r i j a b = one_now image before m.head q r (a, b)
    (λ x y. early_one image before s.0 q r x y a b) m.body s.2 i j

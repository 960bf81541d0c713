-- The Inserts of a line among all that wait.
use Rattle.std.proofs.Common.{ℕ, ◌≡◌, ◌==◌, ◌&&◌, not, List, [], ◌∷◌, Bool, true, false, cond, refl, ap, sym}
use Rattle.std.proofs.Common.{subst, ◌∙◌}
use Rattle.std.specs.List.{filter}
use Rattle.std.proofs.lemmas.Bool.{eqb-true, eq-eqb, ne_eqb}
use Rattle.msg_frames.specs.declared.message.Head.{Head}
use Rattle.msg_frames.specs.declared.message.Body.{Body}
use Rattle.msg_frames.specs.declared.message.Body.TheVariants as body
use Rattle.msg_frames.specs.declared.message.Message.{Message}
use Rattle.matching.specs.declared.stores.Held.{Held}
use Rattle.matching.specs.Settings.{number_after}
use Rattle.matching.specs.Pieces.{line_start}
use Rattle.matching.specs.Fates.{waiting, waiting_in}
use Rattle.matching.specs.Tables.{is_in, inserts, inserts_in}

module _ {X : Type 0} (p q : X → Bool) where
  none_one : (b : Bool) (x : X) (xs : List X) → p x ≡ b → filter p (cond (not b) (x ∷ xs) xs) ≡ filter p xs
  none_one true x xs e = refl
  none_one false x xs e = ap (λ (t : Bool). cond t (x ∷ filter p xs) (filter p xs)) e

  -- none that fails passes
  pub filter_none : (xs : List X) → filter p (filter (λ x. not (p x)) xs) ≡ []
  filter_none [] = refl
  filter_none (x ∷ xs) = none_one (p x) x (filter (λ y. not (p y)) xs) refl ∙ filter_none xs

  kept_one : (a b : Bool) (x : X) (xs ys : List X) → p x ≡ a → q x ≡ b → (a ≡ true → b ≡ true) → filter p xs ≡ ys
      → filter p (cond b (x ∷ xs) xs) ≡ cond a (x ∷ ys) ys
  kept_one a true x xs ys e f g h =
      ap (λ (t : Bool). cond t (x ∷ filter p xs) (filter p xs)) e ∙ ap (λ zs. cond a (x ∷ zs) zs) h
  kept_one true false x xs ys e f g h = absurd (let t : false ≡ true = g refl in cc)
  kept_one false false x xs ys e f g h = h

  -- what passes one test passes another
  pub filter_kept : ((x : X) → p x ≡ true → q x ≡ true) → (xs : List X) → filter p (filter q xs) ≡ filter p xs
  filter_kept g [] = refl
  filter_kept g (x ∷ xs) = kept_one (p x) (q x) x (filter q xs) (filter p xs) refl refl (g x) (filter_kept g xs)

-- an Insert of a line is of no other
other_line : (line l x : ℕ) → (line == l) ≡ false → (x == l) ≡ true → not (x == line) ≡ true
other_line line l x apart here =
    let e : x ≡ l = eqb-true x l here in
    let f : (x == line) ≡ false =
    ne_eqb x line (λ (s : x ≡ line). absurd (let t : (line == l) ≡ true = eq-eqb line l (sym s ∙ e) in cc)) in
    ap not f

apart_by : (line l : ℕ) (d : Bool) (xs ws : List Held) → (line == l) ≡ d → filter (is_in l) xs ≡ ws
    → filter (is_in l) (filter (λ (e : Held). not (is_in line e)) xs) ≡ cond d [] ws
apart_by line l true xs ws e f =
    let s : line ≡ l = eqb-true line l e in
    subst (λ (k : ℕ). filter (is_in k) (filter (λ (e : Held). not (is_in line e)) xs) ≡ []) s
    (filter_none (is_in line) (is_in line) xs)
apart_by line l false xs ws e f =
    filter_kept (is_in l) (λ (h : Held). not (is_in line h))
    (λ (h : Held) t. other_line line l (line_start h.piece.addr) e t) xs ∙ f

on_insert : (b c : Bool) (e : Held) (l : ℕ) (xs ws : List Held) → is_in l e ≡ c → filter (is_in l) xs ≡ ws
    → filter (is_in l) (cond b (e ∷ xs) xs) ≡ cond (b && c) (e ∷ ws) ws
on_insert true c e l xs ws f g =
    ap (λ (t : Bool). cond t (e ∷ filter (is_in l) xs) (filter (is_in l) xs)) f ∙ ap (λ zs. cond c (e ∷ zs) zs) g
on_insert false c e l xs ws f g = g

on_write : (b : Bool) (line l : ℕ) (xs ws : List Held) → filter (is_in l) xs ≡ ws
    → filter (is_in l) (cond b (filter (λ (e : Held). not (is_in line e)) xs) xs) ≡ cond (b && (line == l)) [] ws
on_write true line l xs ws g = apart_by line l (line == l) xs ws refl g
on_write false line l xs ws g = g

on_message : (n : ℕ) (xs ws : List Held) (head : Head) (b : Body) (h l : ℕ) → filter (is_in l) xs ≡ ws
    → filter (is_in l) (inserts_in n xs head b h) ≡ waiting_in n ws head b h l
on_message n xs ws head (body.Open info) h l e = e
on_message n xs ws head (body.Poke poke) h l e = e
on_message n xs ws head (body.Read piece) h l e = e
on_message n xs ws head (body.Insert piece) h l e =
    on_insert (head.hart == h) (line_start piece.addr == l) _ l xs ws refl e
on_message n xs ws head (body.Write write) h l e = on_write (head.hart == h) write.line l xs ws e
on_message n xs ws head (body.Bypass piece) h l e = e
on_message n xs ws head (body.Retire retire) h l e = e
on_message n xs ws head body.Squash h l e = e
on_message n xs ws head body.End h l e = e

-- the Inserts of a line that wait are those of the hart's that are of it
pub inserts_of_line : (before : List Message) (h l : ℕ) → filter (is_in l) (inserts before h) ≡ waiting before h l
inserts_of_line [] h l = refl
inserts_of_line (m ∷ before) h l =
    on_message (number_after before) (inserts before h) (waiting before h l) m.head m.body h l
    (inserts_of_line before h l)

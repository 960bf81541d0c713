-- What messages leave of the fate of a byte of a store.
use Rattle.std.proofs.Common.{ℕ, ◌≡◌, ◌==◌, ◌&&◌, List, Bool, true, false, cond, refl, ap, ◌∙◌}
use Rattle.std.proofs.lemmas.Bool.{ne_eqb, eq-eqb, and_left, and_from}
use Rattle.msg_frames.specs.declared.message.Head.{Head}
use Rattle.msg_frames.specs.declared.message.Piece.{Piece}
use Rattle.msg_frames.specs.declared.message.Body.{Body}
use Rattle.msg_frames.specs.declared.message.Body.TheVariants as body
use Rattle.msg_frames.specs.declared.message.Message.{Message}
use Rattle.msg_frames.specs.Pieces.{has}
use Rattle.matching.specs.declared.stores.Fate.{Fate}
use Rattle.matching.specs.declared.stores.Fate.TheVariants.{Waiting}
use Rattle.matching.specs.Fates.{fate_in}
use Rattle.matching.specs.Pieces.{line_start}
use Rattle.matching.specs.Settings.{number_after}
use Rattle.matching.specs.Tags.{is_of, is_early}

if_off : (b c : Bool) (x y : Fate) → b ≡ false → cond (b && c) x y ≡ y
if_off b c x y e = rw e refl

pub either : (b : Bool) (x : Fate) → cond b x x ≡ x
either true x = refl
either false x = refl

-- another hart's message
pub fate_other : (before : List Message) (old : Fate) (head : Head) (b : Body) (g t x : ℕ) → (head.hart ≡ g → ⊥)
    → fate_in before old head b g t x ≡ old
fate_other before old head (body.Open info) g t x apart = refl
fate_other before old head (body.Poke poke) g t x apart = refl
fate_other before old head (body.Read piece) g t x apart = refl
fate_other before old head (body.Insert piece) g t x apart =
    if_off (is_of head g t) (has piece x) _ old (and_left (head.hart == g) (head.tag == t) (ne_eqb head.hart g apart))
fate_other before old head (body.Write write) g t x apart =
    if_off (head.hart == g) (write.line == line_start x) _ old (ne_eqb head.hart g apart)
fate_other before old head (body.Bypass piece) g t x apart =
    ap (cond (is_early before head) old)
    (if_off (is_of head g t) (has piece x) _ old (and_left (head.hart == g) (head.tag == t) (ne_eqb head.hart g apart)))
    ∙ either (is_early before head) old
fate_other before old head (body.Retire retire) g t x apart = refl
fate_other before old head body.Squash g t x apart = refl
fate_other before old head body.End g t x apart = refl

-- an Insert of another store
pub fate_inserted_other : (before : List Message) (old : Fate) (head : Head) (piece : Piece) (g t x : ℕ)
    → (head.tag ≡ t → ⊥) → fate_in before old head (body.Insert piece) g t x ≡ old
fate_inserted_other before old head piece g t x apart =
    if_off (is_of head g t) (has piece x) _ old (off (head.hart == g) (head.tag == t) (ne_eqb head.tag t apart))
  where
    off : (a b : Bool) → b ≡ false → (a && b) ≡ false
    off true b e = e
    off false b e = refl

-- an Insert of the byte
pub fate_inserted : (before : List Message) (old : Fate) (head : Head) (piece : Piece) (x : ℕ) → has piece x ≡ true
    → fate_in before old head (body.Insert piece) head.hart head.tag x ≡ Waiting (number_after before)
fate_inserted before old head piece x here =
    ap (λ (b : Bool). cond b (Waiting (number_after before)) old)
    (and_from (is_of head head.hart head.tag) (has piece x)
    (and_from (head.hart == head.hart) (head.tag == head.tag) (eq-eqb head.hart head.hart refl)
    (eq-eqb head.tag head.tag refl)) here)

-- an early Bypass
pub fate_early : (before : List Message) (old : Fate) (head : Head) (piece : Piece) (g t x : ℕ)
    → is_early before head ≡ true → fate_in before old head (body.Bypass piece) g t x ≡ old
fate_early before old head piece g t x early = rw early refl

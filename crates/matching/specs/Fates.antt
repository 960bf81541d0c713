-- What became of the bytes of a retired store, and which Inserts a line of a merge buffer holds. A list of messages has
-- the newest first.
use Rattle.std.specs.Prelude.{ℕ, ◌==◌, ◌&&◌, List, [], ◌∷◌, Bool, true, false, Some, None, if◌then◌else◌}
use Rattle.std.specs.declared.option.Option.{Option}
use Rattle.tandem_base.specs.declared.names.Place.{Place}
use Rattle.msg_frames.specs.declared.message.Head.{Head}
use Rattle.msg_frames.specs.declared.message.Body.{Body}
use Rattle.msg_frames.specs.declared.message.Body.TheVariants as body
use Rattle.msg_frames.specs.declared.message.Message.{Message}
use Rattle.matching.specs.declared.stores.Fate.{Fate}
use Rattle.matching.specs.declared.stores.Fate.TheVariants.{Nothing, Waiting, Done}
use Rattle.matching.specs.declared.stores.Held.{Held}
use Rattle.matching.specs.Settings.{number_after}
use Rattle.msg_frames.specs.Pieces.{has}
use Rattle.matching.specs.Pieces.{line_start}
use Rattle.matching.specs.Tags.{is_of, is_early}

-- the Inserts that wait in line l of hart h, after message n
abbrev pub waiting_in : ℕ → List Held → Head → Body → ℕ → ℕ → List Held
waiting_in n old head (body.Open info) h l = old
waiting_in n old head (body.Poke poke) h l = old
waiting_in n old head (body.Read piece) h l = old
waiting_in n old head (body.Insert piece) h l =
    if (head.hart == h) && (line_start piece.addr == l)
    then record { number = n; tag = head.tag; piece = piece } ∷ old
    else old
waiting_in n old head (body.Write write) h l = if (head.hart == h) && (write.line == l) then [] else old
waiting_in n old head (body.Bypass piece) h l = old
waiting_in n old head (body.Retire retire) h l = old
waiting_in n old head body.Squash h l = old
waiting_in n old head body.End h l = old

-- the Inserts that wait in line l of hart h: each until a Write of its line, the newest first
abbrev pub waiting : List Message → ℕ → ℕ → List Held
waiting [] h l = []
waiting (m ∷ before) h l = waiting_in (number_after before) (waiting before h l) m.head m.body h l

-- a Write, which is message n, performs a byte that waits
abbrev pub drained : ℕ → ℕ → Fate → Fate
drained time n Nothing = Nothing
drained time n (Waiting j) = Done (record { time = time; message = n; insert = j })
drained time n (Done p) = Done p

-- the fate of byte x of the store of hart h under tag t, after one more message
abbrev pub fate_in : List Message → Fate → Head → Body → ℕ → ℕ → ℕ → Fate
fate_in before old head (body.Open info) h t x = old
fate_in before old head (body.Poke poke) h t x = old
fate_in before old head (body.Read piece) h t x = old
fate_in before old head (body.Insert piece) h t x =
    if is_of head h t && has piece x then Waiting (number_after before) else old
fate_in before old head (body.Write write) h t x =
    if (head.hart == h) && (write.line == line_start x) then drained head.time (number_after before) old else old
fate_in before old head (body.Bypass piece) h t x =
    if is_early before head then old
    else if is_of head h t && has piece x
    then Done (record { time = head.time; message = number_after before; insert = number_after before })
    else old
fate_in before old head (body.Retire retire) h t x = old
fate_in before old head body.Squash h t x = old
fate_in before old head body.End h t x = old

-- The fate of byte x of the store of hart h under tag t: nothing so far; it waits in an Insert, of this number; or it
-- was performed at this place, by a plain Bypass or by the first Write of its line after its Insert.
abbrev pub fate : List Message → ℕ → ℕ → ℕ → Fate
fate [] h t x = Nothing
fate (m ∷ before) h t x = fate_in before (fate before h t x) m.head m.body h t x

-- where a byte was performed
abbrev pub place_of : Fate → Option Place
place_of Nothing = None
place_of (Waiting j) = None
place_of (Done p) = Some p

-- the byte was in no Insert and in no plain Bypass
abbrev pub is_fresh : Fate → Bool
is_fresh Nothing = true
is_fresh (Waiting j) = false
is_fresh (Done p) = false

-- the byte was performed
abbrev pub is_done : Fate → Bool
is_done Nothing = false
is_done (Waiting j) = false
is_done (Done p) = true

-- The plain stores that retired.
use Rattle.std.specs.Prelude.{ℕ, ◌==◌, List, [], ◌∷◌, Some, None, if◌then◌else◌}
use Rattle.std.specs.List.{cons_option, find}
use Rattle.std.specs.declared.option.Option.{Option}
use Rattle.msg_frames.specs.declared.message.Head.{Head}
use Rattle.msg_frames.specs.declared.message.Piece.{Piece}
use Rattle.msg_frames.specs.declared.message.Body.{Body}
use Rattle.msg_frames.specs.declared.message.Body.TheVariants as body
use Rattle.msg_frames.specs.declared.message.Message.{Message}
use Rattle.elf_image.specs.Images.{Loaded}
use Rattle.rv_step.specs.Steps.{Doing, trap, plain, counter, load, store, lr, sc, amo}
use Rattle.matching.specs.declared.stores.Stored.{Stored}
use Rattle.matching.specs.Runs.{doing_at, step_at}

-- the store of these bytes under a tag, if there are any
abbrev pub store_of : ℕ → Option Piece → Option Stored
store_of t None = None
store_of t (Some piece) = Some (record { tag = t; piece = piece })

-- the plain store that an instruction is, if it is one
abbrev pub new_store : Doing → ℕ → Option Piece → Option Stored
new_store (trap cause value) t piece = None
new_store (plain i) t piece = None
new_store (counter i) t piece = None
new_store (load i addr len) t piece = None
new_store (store i addr len) t piece = store_of t piece
new_store (lr i addr len) t piece = None
new_store (sc i addr len) t piece = None
new_store (amo i addr len) t piece = None

-- the plain stores of hart h, after one more message
abbrev pub stores_in : Loaded → List Message → List Stored → Head → Body → ℕ → List Stored
stores_in image before old head (body.Open info) h = old
stores_in image before old head (body.Poke poke) h = old
stores_in image before old head (body.Read piece) h = old
stores_in image before old head (body.Insert piece) h = old
stores_in image before old head (body.Write write) h = old
stores_in image before old head (body.Bypass piece) h = old
stores_in image before old head (body.Retire retire) h =
    if head.hart == h
    then cons_option
    (new_store (doing_at image before h) head.tag (step_at image before h head retire).effect.store)
    old
    else old
stores_in image before old head body.Squash h = old
stores_in image before old head body.End h = old

-- the plain stores of hart h that retired, the newest first
abbrev pub retired_stores : Loaded → List Message → ℕ → List Stored
retired_stores image [] h = []
retired_stores image (m ∷ before) h = stores_in image before (retired_stores image before h) m.head m.body h

-- that under a tag
abbrev pub store_under : ℕ → List Stored → Option Stored
store_under t ss = find (λ (s : Stored). s.tag == t) ss

-- A walk through the instructions of a hart that finds what depends on one of them.
use Rattle.std.specs.Prelude.{ℕ, ◌==◌, ◌&&◌, ◌||◌, nat_le, not, List, [], ◌∷◌, ◌++◌, Bool, true, false, None, Some}
use Rattle.std.specs.Prelude.{if◌then◌else◌, ◌≡◌, ◌≤◌}
use Rattle.std.specs.List.{Contains, filter, list_any}
use Rattle.std.specs.declared.option.Option.{Option}
use Rattle.rv_decode.specs.declared.instruction.Insn.{Insn}
use Rattle.rv_decode.specs.declared.registers.Register.{Register}
use Rattle.rv_decode.specs.Registers.{sets, carries, is_address, is_data, is_control, named_rd, named_csr}
use Rattle.rvwmo_model.specs.declared.instructions.Retired.{Retired}
use Rattle.rvwmo_model.specs.declared.judge.walk.Search.{Search}
use Rattle.rvwmo_model.specs.declared.judge.walk.Use.{Use}
use Rattle.rvwmo_model.specs.declared.judge.walk.Use.TheVariants.{Address, Data, Control}

-- r is in that use
abbrev pub use_of : Use → Insn → Register → Bool
use_of Address = is_address
use_of Data = is_data
use_of Control = is_control

-- w is asked about: its tag is from a tag to a tag, and it has a register in the use that is asked for
abbrev pub Asks : Search → Retired → Type 0
Asks search w = (search.from ≤ w.tag) × (w.tag ≤ search.to) × ((r : Register) × (use_of search.by w.insn r ≡ true))

-- some instruction of the hart is asked about
abbrev pub AsksSome : Search → List Retired → Type 0
AsksSome search insns = (w : Retired) × Contains insns w × (w.hart ≡ search.hart) × Asks search w

-- a register that the instruction w may set, where it sets it and starts there, or carries something marked to it
abbrev pub fresh : Retired → Bool → List Register → Option Register → Option Register
fresh w starts marks None = None
fresh w starts marks (Some r) =
    if sets w.insn w.stored r && (starts || list_any (λ p. carries w.insn p r) marks) then Some r else None

-- the register, where there is one
abbrev pub list_of : Option Register → List Register
list_of None = []
list_of (Some r) = r ∷ []

-- the marked registers after w: those that it doesn't set, and those that it marks
abbrev pub mark : Retired → Bool → List Register → List Register
mark w starts marks =
    (filter (λ r. not (sets w.insn w.stored r)) marks ++ list_of (fresh w starts marks (named_rd w.insn)))
    ++ list_of (fresh w starts marks (named_csr w.insn))

-- w is asked about, and has a marked register in the use that is asked for
abbrev pub is_found : Search → List Register → Retired → Bool
is_found search marks w =
    nat_le search.from w.tag && nat_le w.tag search.to && list_any (λ r. use_of search.by w.insn r) marks

-- with these registers marked, some instruction that follows is found
abbrev pub finds_from : Search → List Register → List Retired → Bool
finds_from search marks [] = false
finds_from search marks (w ∷ ws) =
    if w.hart == search.hart
    then is_found search marks w || finds_from search (mark w (w.tag == search.start) marks) ws
    else finds_from search marks ws

-- some instruction from a tag to a tag depends on the one under the tag at which the search starts
abbrev pub finds : Search → List Retired → Bool
finds search insns = finds_from search [] insns

-- a tag, where it is wanted
abbrev pub tag_if : Bool → ℕ → List ℕ
tag_if true k = k ∷ []
tag_if false k = []

-- The same walk as the judge's code takes it, for all instructions at once: with these registers marked, the tags of
-- the instructions of hart h that have a marked one in that use. It starts at the instruction under the tag start.
abbrev pub tags_on : Use → ℕ → ℕ → List Register → List Retired → List ℕ
tags_on by h start marks [] = []
tags_on by h start marks (w ∷ ws) =
    if w.hart == h
    then tag_if (list_any (λ r. use_of by w.insn r) marks) w.tag
    ++ tags_on by h start (mark w (w.tag == start) marks) ws
    else tags_on by h start marks ws

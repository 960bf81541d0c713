-- What is kept of a hart at each step of its round.
use Rattle.std.proofs.Common.{ℕ, ◌≡◌, ◌+◌, ◌*◌, ◌<◌, ◌≤◌, ◌^◌, List, [], ◌∷◌, length, get_or, Bool, true, false}
use Rattle.std.proofs.Common.{Some, None}
use Rattle.std.specs.declared.option.Option.{Option}
use Rattle.msg_frames.specs.declared.message.Piece.{Piece}
use Rattle.matching.specs.declared.reports.OpenReport.{OpenReport}
use Rattle.matching.specs.declared.stores.Held.{Held}
use Rattle.matching.specs.declared.stores.Tracked.{Tracked}
use Rattle.matching.specs.Fates.{is_done, is_fresh}
use Rattle.matching.specs.Tables.{Table, fate_in_store}
use Rattle.trace_gen.specs.declared.rounds.Step.{Step}
use Rattle.trace_gen.specs.declared.rounds.Step.TheVariants as step
use Rattle.trace_gen.specs.declared.rounds.Progress.{Progress}
use Rattle.trace_gen.specs.Program.{counter_addr, own_addr, pc_of}
use Rattle.trace_gen.specs.Rounds.{tag_of, bytes_of_number}
use Rattle.gen_laws.proofs.Says.{Seen}

-- the eight bytes of a number at an address
abbrev pub number_at : ℕ → ℕ → Piece
number_at addr value = record { addr = addr; bytes = bytes_of_number value }

-- ---- the program

-- the last tag, if there is one, isn't above this
abbrev pub IsUpTo : Option ℕ → ℕ → Type 0
IsUpTo None n = Unit {0}
IsUpTo (Some last) n = last ≤ n

-- the register of a hart, of 32
abbrev pub x_in : Table → ℕ → ℕ
x_in t number = get_or t.run.hart.registers number 0

-- instruction k of the round is the next; the registers of the first so many harts were set
pub record IsNext (poked h round k : ℕ) (t : Table) : Type 0 where
  pub last : IsUpTo t.last (7 * round + k)
  pub pc : t.run.hart.pc ≡ pc_of k
  pub registers : length t.run.hart.registers ≡ 32
  pub counter : h < poked → x_in t 10 ≡ counter_addr
  pub own : h < poked → x_in t 11 ≡ own_addr h
  pub one : h < poked → x_in t 12 ≡ 1

-- ---- Reads

-- the last load of the round has read ahead
pub record IsAhead (round : ℕ) (live : List OpenReport) : Type 0 where
  pub ahead : OpenReport
  pub is : live ≡ ahead ∷ []
  pub later : ahead.tag ≡ tag_of round 5

-- and instruction k has read these bytes
pub record HasRead (round k addr : ℕ) (bytes : List ℕ) (live : List OpenReport) : Type 0 where
  pub own : OpenReport
  pub ahead : OpenReport
  pub is : live ≡ own ∷ ahead ∷ []
  pub tag : own.tag ≡ tag_of round k
  pub piece : own.piece ≡ record { addr = addr; bytes = bytes }
  pub later : ahead.tag ≡ tag_of round 5

-- ---- stores

-- a store below this tag, all performed
pub record IsPerformed (tag : ℕ) (t : Tracked) : Type 0 where
  pub below : t.store.tag < tag
  pub done : (k : ℕ) → k < 8 → is_done (fate_in_store t k) ≡ true

-- all are
abbrev pub ArePerformed : ℕ → List Tracked → Type 0
ArePerformed tag [] = Unit {0}
ArePerformed tag (t ∷ ts) = IsPerformed tag t × ArePerformed tag ts

-- the newest store is that of a number at an address, in the merge buffer or not yet, and the others are performed
pub record HasStore (round : ℕ) (piece : Piece) (fresh : Bool) (ts : List Tracked) : Type 0 where
  pub newest : Tracked
  pub older : List Tracked
  pub is : ts ≡ newest ∷ older
  pub store : newest.store ≡ record { tag = tag_of round 1; piece = piece }
  pub fates : (k : ℕ) → k < 8 → is_fresh (fate_in_store newest k) ≡ fresh
  pub done : ArePerformed (tag_of round 1) older

-- it waits, alone
pub record HasInsert (piece : Piece) (es : List Held) : Type 0 where
  pub held : Held
  pub is : es ≡ held ∷ []
  pub here : held.piece ≡ piece

-- ---- the early Bypass

-- that of the amoadd, which makes the counter this
pub record HasBypass (h round value : ℕ) (es : List OpenReport) : Type 0 where
  pub report : OpenReport
  pub is : es ≡ report ∷ []
  pub hart : report.hart ≡ h
  pub tag : report.tag ≡ tag_of round 3
  pub piece : report.piece ≡ number_at counter_addr value

-- ---- the steps

-- the next instruction
abbrev pub next_at : Step → ℕ
next_at step.ReadAhead = 0
next_at step.ReadCounter = 0
next_at step.RetireRead = 0
next_at step.RetireStore = 1
next_at step.ForwardStore = 2
next_at step.InsertStore = 3
next_at step.WriteStore = 3
next_at step.AddOne = 3
next_at step.RetireAdd = 3
next_at step.RetireFence = 4
next_at step.ReadAgain = 5
next_at step.RetireReadAgain = 5
next_at step.RetireJump = 6

-- the live Reads
abbrev pub AreRead : Step → ℕ → Progress → List OpenReport → Type 0
AreRead step.ReadAhead h p live = live ≡ []
AreRead step.ReadCounter h p live = IsAhead p.round live
AreRead step.RetireRead h p live = HasRead p.round 0 counter_addr (bytes_of_number p.taken) live
AreRead step.RetireStore h p live = IsAhead p.round live
AreRead step.ForwardStore h p live = IsAhead p.round live
AreRead step.InsertStore h p live = IsAhead p.round live
AreRead step.WriteStore h p live = IsAhead p.round live
AreRead step.AddOne h p live = IsAhead p.round live
AreRead step.RetireAdd h p live = HasRead p.round 3 counter_addr (bytes_of_number p.added) live
AreRead step.RetireFence h p live = IsAhead p.round live
AreRead step.ReadAgain h p live = IsAhead p.round live
AreRead step.RetireReadAgain h p live = HasRead p.round 5 (own_addr h) (bytes_of_number p.taken) live
AreRead step.RetireJump h p live = live ≡ []

-- the stores
abbrev pub AreStored : Step → ℕ → Progress → List Tracked → Type 0
AreStored step.ReadAhead h p ts = ArePerformed (tag_of p.round 1) ts
AreStored step.ReadCounter h p ts = ArePerformed (tag_of p.round 1) ts
AreStored step.RetireRead h p ts = ArePerformed (tag_of p.round 1) ts
AreStored step.RetireStore h p ts = ArePerformed (tag_of p.round 1) ts
AreStored step.ForwardStore h p ts = HasStore p.round (number_at (own_addr h) p.taken) true ts
AreStored step.InsertStore h p ts = HasStore p.round (number_at (own_addr h) p.taken) true ts
AreStored step.WriteStore h p ts = HasStore p.round (number_at (own_addr h) p.taken) false ts
AreStored step.AddOne h p ts = ArePerformed (tag_of p.round 2) ts
AreStored step.RetireAdd h p ts = ArePerformed (tag_of p.round 2) ts
AreStored step.RetireFence h p ts = ArePerformed (tag_of p.round 2) ts
AreStored step.ReadAgain h p ts = ArePerformed (tag_of p.round 2) ts
AreStored step.RetireReadAgain h p ts = ArePerformed (tag_of p.round 2) ts
AreStored step.RetireJump h p ts = ArePerformed (tag_of p.round 2) ts

-- the Inserts that wait
abbrev pub AreHeld : Step → ℕ → Progress → List Held → Type 0
AreHeld step.ReadAhead h p es = es ≡ []
AreHeld step.ReadCounter h p es = es ≡ []
AreHeld step.RetireRead h p es = es ≡ []
AreHeld step.RetireStore h p es = es ≡ []
AreHeld step.ForwardStore h p es = es ≡ []
AreHeld step.InsertStore h p es = es ≡ []
AreHeld step.WriteStore h p es = HasInsert (number_at (own_addr h) p.taken) es
AreHeld step.AddOne h p es = es ≡ []
AreHeld step.RetireAdd h p es = es ≡ []
AreHeld step.RetireFence h p es = es ≡ []
AreHeld step.ReadAgain h p es = es ≡ []
AreHeld step.RetireReadAgain h p es = es ≡ []
AreHeld step.RetireJump h p es = es ≡ []

-- the early Bypasses
abbrev pub AreEarly : Step → ℕ → Progress → List OpenReport → Type 0
AreEarly step.ReadAhead h p es = es ≡ []
AreEarly step.ReadCounter h p es = es ≡ []
AreEarly step.RetireRead h p es = es ≡ []
AreEarly step.RetireStore h p es = es ≡ []
AreEarly step.ForwardStore h p es = es ≡ []
AreEarly step.InsertStore h p es = es ≡ []
AreEarly step.WriteStore h p es = es ≡ []
AreEarly step.AddOne h p es = es ≡ []
AreEarly step.RetireAdd h p es = HasBypass h p.round (p.added + 1) es
AreEarly step.RetireFence h p es = es ≡ []
AreEarly step.ReadAgain h p es = es ≡ []
AreEarly step.RetireReadAgain h p es = es ≡ []
AreEarly step.RetireJump h p es = es ≡ []

-- x5 where the store takes it
abbrev pub IsTaken : Step → Progress → Table → Type 0
IsTaken step.ReadAhead p t = Unit {0}
IsTaken step.ReadCounter p t = Unit {0}
IsTaken step.RetireRead p t = Unit {0}
IsTaken step.RetireStore p t = x_in t 5 ≡ p.taken
IsTaken step.ForwardStore p t = Unit {0}
IsTaken step.InsertStore p t = Unit {0}
IsTaken step.WriteStore p t = Unit {0}
IsTaken step.AddOne p t = Unit {0}
IsTaken step.RetireAdd p t = Unit {0}
IsTaken step.RetireFence p t = Unit {0}
IsTaken step.ReadAgain p t = Unit {0}
IsTaken step.RetireReadAgain p t = Unit {0}
IsTaken step.RetireJump p t = Unit {0}

-- hart h before a step
pub record IsBefore (poked h : ℕ) (s : Step) (p : Progress) (v : Seen) : Type 0 where
  pub next : IsNext poked h p.round (next_at s) v.table
  pub reads : AreRead s h p v.table.live
  pub stores : AreStored s h p v.table.stores
  pub inserts : AreHeld s h p v.table.inserts
  pub early : AreEarly s h p v.early
  pub five : IsTaken s p v.table
  pub taken : p.taken < 2 ^ 64
  pub added : p.added + 1 < 2 ^ 64

-- A Read, an Insert, a Write and an early Bypass of a hart.
use Rattle.std.proofs.Common.{ℕ, ◌≡◌, ◌+◌, ◌-◌, ◌^◌, ◌<◌, ◌≤◌, List, [], ◌∷◌, length}
use Rattle.std.proofs.Common.{Bool, true, cond, refl, ap, ◌∙◌, arith, Some, None, lit≤}
use Rattle.std.specs.declared.option.Option.{Option}
use Rattle.std.proofs.lemmas.Bool.{eq-eqb, le-leb, lt-leb, lt-ltb, and_from}
use Rattle.msg_frames.specs.declared.message.Head.{Head}
use Rattle.msg_frames.specs.declared.message.Piece.{Piece}
use Rattle.msg_frames.specs.declared.message.Body.TheVariants as body
use Rattle.verdict_report.specs.declared.fault.Fault.TheVariants as fault
use Rattle.matching.specs.Settings.{config_in}
use Rattle.matching.specs.Tags.{is_younger}
use Rattle.matching.specs.Pieces.{line_start}
use Rattle.matching.specs.Reports.{early_of, open_report_of}
use Rattle.matching.specs.PartFaults.{late_fault_of, read_range_fault, range_fault_of, is_in_image, is_in_line}
use Rattle.matching.specs.PartFaults.{insert_range_fault, bypass_range_fault, second_bypass_fault}
use Rattle.matching.specs.Tables.{table_fault, tracked_fault, tracked_under, bypass_fault_in}
use Rattle.trace_gen.specs.Program.{made_image, counter_addr, own_addr}
use Rattle.trace_gen.specs.Rounds.{tag_of}
use Rattle.gen_laws.proofs.Says.{Seen, seen_after}
use Rattle.gen_laws.proofs.States.{IsUpTo, HasStore, number_at}
use Rattle.gen_laws.proofs.Stores.{part_fine}
use Rattle.gen_laws.proofs.Plans.{own_held, counter_held}
use Rattle.gen_laws.proofs.Moves.{none_early}
use Rattle.gen_laws.proofs.Retires.{two_none}

late_fine : (last : Option ℕ) (m tag : ℕ) → IsUpTo last m → m < tag → late_fault_of last tag ≡ None
late_fine None m tag up lt = refl
late_fine (Some k) m tag up lt =
    ap (λ (b : Bool). cond b (Some (fault.LateTag k)) None) (lt-leb tag k (omega (arith, up, lt)))

pub is_later : (last : Option ℕ) (m tag : ℕ) → IsUpTo last m → m < tag → is_younger last tag ≡ true
is_later None m tag up lt = refl
is_later (Some k) m tag up lt = lt-ltb k tag (omega (arith, up, lt))

-- what instruction k of a round does to a piece, in message n + 1
abbrev pub part_head : ℕ → ℕ → ℕ → ℕ → Head
part_head h n round k = record { hart = h; time = n; tag = tag_of round k }

-- ---- a Read

-- the hart with one more Read
abbrev pub with_read : ℕ → ℕ → Seen → ℕ → ℕ → Piece → Seen
with_read h n v round k piece = record {
  table = record v.table { live = open_report_of (n + 1) (part_head h n round k) piece ∷ v.table.live };
  early = v.early;
}

pub read_fine : (h n : ℕ) (v : Seen) (round k m addr : ℕ) (bytes : List ℕ) → IsUpTo v.table.last m
    → m < tag_of round k → addr + length bytes ≤ 2 ^ 64
    → table_fault made_image (config_in 0) v.early v.table (part_head h n round k)
    (body.Read (record { addr = addr; bytes = bytes }))
    ≡ None
read_fine h n v round k m addr bytes up lt space =
    two_none (late_fault_of v.table.last (tag_of round k)) (read_range_fault (record { addr = addr; bytes = bytes }))
    (late_fine v.table.last m (tag_of round k) up lt)
    (ap range_fault_of (le-leb (addr + length bytes) (2 ^ 64) space))

-- ---- an Insert

pub insert_fine : (h n : ℕ) (v : Seen) (round value : ℕ) → h < 16
    → HasStore round (number_at (own_addr h) value) true v.table.stores
    → table_fault made_image (config_in 0) v.early v.table (part_head h n round 1)
    (body.Insert (number_at (own_addr h) value))
    ≡ None
insert_fine h n v round value h16 has =
    let piece = number_at (own_addr h) value in
    let line : is_in_line piece ≡ true =
    eq-eqb (line_start (own_addr h)) (line_start (own_addr h + 8 - 1)) (omega arith) in
    two_none (insert_range_fault made_image piece)
    (tracked_fault piece (tracked_under (tag_of round 1) v.table.stores))
    (ap range_fault_of (and_from (is_in_image made_image piece) (is_in_line piece) (own_held h 8 h16 (lit≤ tt)) line))
    (part_fine round (own_addr h) value v.table.stores has)

-- ---- a Bypass

-- the hart with its early Bypass
abbrev pub with_bypass : ℕ → ℕ → Seen → ℕ → ℕ → Seen
with_bypass h n v round value = record {
  table = v.table;
  early = open_report_of (n + 1) (part_head h n round 3) (number_at counter_addr value) ∷ v.early;
}

module _ (h n : ℕ) (v : Seen) (round value m : ℕ) (up : IsUpTo v.table.last m) (lt : m < tag_of round 3)
    (none : v.early ≡ []) where
  abbrev piece : Piece
  piece = number_at counter_addr value

  abbrev head : Head
  head = part_head h n round 3

  early_fine : bypass_fault_in v.early v.table head piece ≡ None
  early_fine =
      ap (λ (b : Bool). cond b (second_bypass_fault (tag_of round 3) (early_of v.early h (tag_of round 3)))
      (tracked_fault piece (tracked_under (tag_of round 3) v.table.stores)))
      (is_later v.table.last m (tag_of round 3) up lt)
      ∙ ap (second_bypass_fault (tag_of round 3)) (none_early h (tag_of round 3) v.early none)

  pub bypass_fine : table_fault made_image (config_in 0) v.early v.table head (body.Bypass piece) ≡ None
  bypass_fine =
      two_none (bypass_range_fault made_image piece) (bypass_fault_in v.early v.table head piece)
      (ap range_fault_of counter_held) early_fine

  pub after_bypass : seen_after (n + 1) v head (body.Bypass piece) ≡ with_bypass h n v round value
  after_bypass =
      rw (is_later v.table.last m (tag_of round 3) up lt) refl

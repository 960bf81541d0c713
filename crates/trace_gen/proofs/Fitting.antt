-- Each message that is made has a frame: its fields fit.
use Rattle.std.proofs.Common.{◌≡◌, ℕ, zero, suc, ◌+◌, ◌-◌, ◌%◌, ◌^◌, ◌<◌, ◌≤◌, List, [], ◌∷◌, ◌++◌, length}
use Rattle.std.proofs.Common.{Bool, true, false, if◌then◌else◌, slice_index, replicate, None, refl, arith, mod-lt}
use Rattle.std.proofs.Common.{lit<, lit≤}
use Rattle.std.specs.List.{All}
use Rattle.std.proofs.lemmas.List.Elements.{All-cons}
use Rattle.trace_gen.specs.Schedule.{said}
use Rattle.std.specs.Int.{bit_at}
use Rattle.tandem_base.specs.Signs.{is_negative, sign_extended}
use Rattle.msg_frames.specs.declared.message.Message.{Message}
use Rattle.msg_frames.specs.Frames.{AreBytes, BodyInRange, FitsBody, InRange, Spells, frame}
use Rattle.trace_gen.specs.declared.rounds.Step.{Step}
use Rattle.trace_gen.specs.declared.rounds.Step.TheVariants as step
use Rattle.trace_gen.specs.declared.rounds.Progress.{Progress}
use Rattle.trace_gen.specs.declared.saying.Saying.{Saying}
use Rattle.trace_gen.specs.Program.{counter_addr, own_addr, pc_of, word_of}
use Rattle.trace_gen.specs.Rounds.{says_bypass, bytes_of_number, says_insert, low_half_of, says_read, says_retire}
use Rattle.trace_gen.specs.Rounds.{sayings_at, tag_of}
use Rattle.trace_gen.specs.Rounds.{rd_with, says_write}
use Rattle.trace_gen.specs.Making.{ends, opens, pokes}

-- what hart h says has a frame at each time
pub record IsSaid (h : ℕ) (s : Saying) : Type 0 where
  pub fits : (time : ℕ) → FitsBody (record { hart = h; time = time; tag = s.tag }) s.body
  pub tag : s.tag < 2 ^ 64
  pub body : BodyInRange s.body

-- the bytes of a number are bytes
pub are_bytes : (value : ℕ) → AreBytes (bytes_of_number value)
are_bytes value zero = mod-lt _ (lit< tt)
are_bytes value (suc zero) = mod-lt _ (lit< tt)
are_bytes value (suc (suc zero)) = mod-lt _ (lit< tt)
are_bytes value (suc (suc (suc zero))) = mod-lt _ (lit< tt)
are_bytes value (suc (suc (suc (suc zero)))) = mod-lt _ (lit< tt)
are_bytes value (suc (suc (suc (suc (suc zero))))) = mod-lt _ (lit< tt)
are_bytes value (suc (suc (suc (suc (suc (suc zero)))))) = mod-lt _ (lit< tt)
are_bytes value (suc (suc (suc (suc (suc (suc (suc zero))))))) = mod-lt _ (lit< tt)
are_bytes value (suc (suc (suc (suc (suc (suc (suc (suc k)))))))) = lit< tt

pub half_are_bytes : (value : ℕ) → AreBytes (low_half_of value)
half_are_bytes value zero = mod-lt _ (lit< tt)
half_are_bytes value (suc zero) = mod-lt _ (lit< tt)
half_are_bytes value (suc (suc zero)) = mod-lt _ (lit< tt)
half_are_bytes value (suc (suc (suc zero))) = mod-lt _ (lit< tt)
half_are_bytes value (suc (suc (suc (suc k)))) = lit< tt

-- a list of zeros has 0 at each place
zero_at : (n k : ℕ) → slice_index (replicate n 0) k ≡ 0
zero_at zero k = refl
zero_at (suc n) zero = refl
zero_at (suc n) (suc k) = zero_at n k

-- those of a line with a number at its front
pub line_are_bytes : (value : ℕ) → AreBytes (bytes_of_number value ++ replicate 56 0)
line_are_bytes value zero = mod-lt _ (lit< tt)
line_are_bytes value (suc zero) = mod-lt _ (lit< tt)
line_are_bytes value (suc (suc zero)) = mod-lt _ (lit< tt)
line_are_bytes value (suc (suc (suc zero))) = mod-lt _ (lit< tt)
line_are_bytes value (suc (suc (suc (suc zero)))) = mod-lt _ (lit< tt)
line_are_bytes value (suc (suc (suc (suc (suc zero))))) = mod-lt _ (lit< tt)
line_are_bytes value (suc (suc (suc (suc (suc (suc zero)))))) = mod-lt _ (lit< tt)
line_are_bytes value (suc (suc (suc (suc (suc (suc (suc zero))))))) = mod-lt _ (lit< tt)
line_are_bytes value (suc (suc (suc (suc (suc (suc (suc (suc k)))))))) = rw (zero_at 56 k) (lit< tt)

-- the bytes behind the number are 0
pub rest_is_zero : (value k : ℕ) → k < 64 → bit_at 0xff k ≡ 0
    → slice_index (bytes_of_number value ++ replicate 56 0) k ≡ 0
rest_is_zero value zero small outside = absurd (omega (arith, outside))
rest_is_zero value (suc zero) small outside = absurd (omega (arith, outside))
rest_is_zero value (suc (suc zero)) small outside = absurd (omega (arith, outside))
rest_is_zero value (suc (suc (suc zero))) small outside = absurd (omega (arith, outside))
rest_is_zero value (suc (suc (suc (suc zero)))) small outside = absurd (omega (arith, outside))
rest_is_zero value (suc (suc (suc (suc (suc zero))))) small outside = absurd (omega (arith, outside))
rest_is_zero value (suc (suc (suc (suc (suc (suc zero)))))) small outside = absurd (omega (arith, outside))
rest_is_zero value (suc (suc (suc (suc (suc (suc (suc zero))))))) small outside = absurd (omega (arith, outside))
rest_is_zero value (suc (suc (suc (suc (suc (suc (suc (suc k)))))))) small outside = zero_at 56 k

-- a sign-extended half of 64 bits
extended_bound : (value : ℕ) → sign_extended 32 value < 2 ^ 64
extended_bound value =
    widened_bound (is_negative 32 (value % 2 ^ 32)) (value % 2 ^ 32) (mod-lt value (lit< tt))
  where
    widened_bound : (b : Bool) (low : ℕ) → low < 2 ^ 32 → (if b then low + (2 ^ 64 - 2 ^ 32) else low) < 2 ^ 64
    widened_bound true low small = omega (arith, small)
    widened_bound false low small = omega (arith, small)

-- a tag of a round
pub tag_bound : (round k : ℕ) → round < 2 ^ 32 → k < 7 → tag_of round k < 2 ^ 64
tag_bound round k r k7 = omega (arith, r, k7)

-- an instruction reads, inserts or bypasses
module _ (h round k addr : ℕ) (bytes : List ℕ) (r : round < 2 ^ 32) (k7 : k < 7) (a : addr < 2 ^ 64)
    (some : 1 ≤ length bytes) (most : length bytes ≤ 8) (are : AreBytes bytes) where
  pub read_said : IsSaid h (says_read round k addr bytes)
  read_said = record { fits = λ _. (some, most); tag = tag_bound round k r k7; body = (a, are) }

  pub insert_said : IsSaid h (says_insert round k addr bytes)
  insert_said = record { fits = λ _. (some, most); tag = tag_bound round k r k7; body = (a, are) }

  pub bypass_said : IsSaid h (says_bypass round k addr bytes)
  bypass_said = record { fits = λ _. (some, most); tag = tag_bound round k r k7; body = (a, are) }

-- the addresses of the program
pub pc_bound : (k : ℕ) → k < 7 → pc_of k < 2 ^ 64
pc_bound k k7 = omega (arith, k7)

next_bound : (k : ℕ) → pc_of ((k + 1) % 7) < 2 ^ 64
next_bound k = pc_bound ((k + 1) % 7) (mod-lt (k + 1) (lit< tt))

-- a hart's own line is one
pub own_line : (h : ℕ) → own_addr h % 64 ≡ 0
own_line h = omega arith

-- an instruction retires without a register
pub retire_said : (h round k : ℕ) → round < 2 ^ 32 → k < 7 → word_of k < 2 ^ 32 → IsSaid h (says_retire round k None)
retire_said h round k r k7 w = record {
  fits = λ _. (tt, lit≤ tt);
  tag = tag_bound round k r k7;
  body = (omega (arith, k7), w, next_bound k, tt, tt, λ i d lt. absurd (omega (arith, lt)));
}

-- an instruction retires with a register
pub write_said : (h round k number value : ℕ) → round < 2 ^ 32 → k < 7 → word_of k < 2 ^ 32
    → 1 ≤ number → number ≤ 31 → value < 2 ^ 64 → IsSaid h (says_retire round k (rd_with number value))
write_said h round k number value r k7 w low high v = record {
  fits = λ _. ((low, high), lit≤ tt);
  tag = tag_bound round k r k7;
  body = (
    omega (arith, k7),
    w,
    pc_bound ((k + 1) % 7) (mod-lt (k + 1) (lit< tt)),
    tt,
    (omega (arith, high), v),
    λ i d lt. absurd (omega (arith, lt)),
  );
}

-- a Write
pub front_said : (h value : ℕ) → h < 256 → IsSaid h (says_write (own_addr h) value)
front_said h value h8 = record {
  fits = λ _. (refl, (own_line h, rest_is_zero value));
  tag = lit< tt;
  body = (omega (arith, h8), lit< tt, refl, line_are_bytes value);
}

-- each of some sayings is such
abbrev pub AreSaid : ℕ → List Saying → Type 0
AreSaid h [] = Unit {0}
AreSaid h (s ∷ later) = IsSaid h s × AreSaid h later

-- what a hart says at each step
module _ (h c : ℕ) (p : Progress) (h8 : h < 256) (r : p.round < 2 ^ 32) (few : c + 1 < 2 ^ 64)
    (taken : p.taken < 2 ^ 64) (added : p.added < 2 ^ 64) where
  own : own_addr h < 2 ^ 64
  own = omega (arith, h8)

  own_read : (k value : ℕ) → k < 7 → IsSaid h (says_read p.round k (own_addr h) (bytes_of_number value))
  own_read k value k7 =
      read_said h p.round k (own_addr h) (bytes_of_number value) r k7 own (lit≤ tt) (lit≤ tt) (are_bytes value)

  shared_read : (k : ℕ) → k < 7 → IsSaid h (says_read p.round k counter_addr (bytes_of_number c))
  shared_read k k7 =
      read_said h p.round k counter_addr (bytes_of_number c) r k7 (lit< tt) (lit≤ tt) (lit≤ tt) (are_bytes c)

  half_read : IsSaid h (says_read p.round 2 (own_addr h) (low_half_of p.taken))
  half_read =
      let are = half_are_bytes p.taken in
      read_said h p.round 2 (own_addr h) (low_half_of p.taken) r (lit< tt) own (lit≤ tt) (lit≤ tt) are

  own_insert : IsSaid h (says_insert p.round 1 (own_addr h) (bytes_of_number p.taken))
  own_insert =
      let are = are_bytes p.taken in
      insert_said h p.round 1 (own_addr h) (bytes_of_number p.taken) r (lit< tt) own (lit≤ tt) (lit≤ tt) are

  shared_bypass : IsSaid h (says_bypass p.round 3 counter_addr (bytes_of_number (c + 1)))
  shared_bypass =
      let are = are_bytes (c + 1) in
      bypass_said h p.round 3 counter_addr (bytes_of_number (c + 1)) r (lit< tt) (lit< tt) (lit≤ tt) (lit≤ tt) are

  pub are_said : (s : Step) → AreSaid h (sayings_at s h c p)
  are_said step.ReadAhead = (own_read 5 p.written (lit< tt), tt)
  are_said step.ReadCounter = (shared_read 0 (lit< tt), tt)
  are_said step.RetireRead = (write_said h p.round 0 5 p.taken r (lit< tt) (lit< tt) (lit≤ tt) (lit≤ tt) taken, tt)
  are_said step.RetireStore = (retire_said h p.round 1 r (lit< tt) (lit< tt), tt)
  are_said step.ForwardStore =
      let value = extended_bound p.taken in
      (half_read, (write_said h p.round 2 9 _ r (lit< tt) (lit< tt) (lit≤ tt) (lit≤ tt) value, tt))
  are_said step.InsertStore = (own_insert, tt)
  are_said step.WriteStore = (front_said h p.taken h8, tt)
  are_said step.AddOne = (shared_read 3 (lit< tt), (shared_bypass, tt))
  are_said step.RetireAdd = (write_said h p.round 3 6 p.added r (lit< tt) (lit< tt) (lit≤ tt) (lit≤ tt) added, tt)
  are_said step.RetireFence = (retire_said h p.round 4 r (lit< tt) (lit< tt), tt)
  are_said step.ReadAgain = (own_read 5 p.taken (lit< tt), tt)
  are_said step.RetireReadAgain = (write_said h p.round 5 8 p.taken r (lit< tt) (lit< tt) (lit≤ tt) (lit≤ tt) taken, tt)
  are_said step.RetireJump = (retire_said h p.round 6 r (lit< tt) (lit< tt), tt)

-- the Open, a Poke and the End
pub open_said : (harts : ℕ) → 1 ≤ harts → harts ≤ 16 → IsSaid 0 (opens harts)
open_said harts low high = record {
  fits = λ _. (refl, refl, (refl, low, high, lit< tt, refl, refl));
  tag = lit< tt;
  body = (lit< tt, omega (arith, high), lit< tt, lit< tt, lit< tt);
}

pub poke_said : (h number value : ℕ) → 1 ≤ number → number ≤ 31 → value < 2 ^ 64 → IsSaid h (pokes number value)
poke_said h number value low high v = record {
  fits = λ _. (refl, (low, high));
  tag = lit< tt;
  body = (omega (arith, high), v);
}

pub end_said : IsSaid 0 ends
end_said = record { fits = λ _. (refl, refl); tag = lit< tt; body = tt }

-- what is said at a time
abbrev pub message_of : ℕ → ℕ → Saying → Message
message_of h time s = record { head = record { hart = h; time = time; tag = s.tag }; body = s.body }

-- it is spelled by its frame
pub said_spells : (h : ℕ) (before : List Message) (s : Saying) → h < 256 → length before < 2 ^ 64 → IsSaid h s
    → All (λ m. Spells (frame m) m) before → All (λ m. Spells (frame m) m) (said h before s)
said_spells h before s h8 time is all =
    let ranges : InRange (message_of h (length before) s) = (h8, time, is.tag, is.body) in
    let spells : Spells (frame (message_of h (length before) s)) (message_of h (length before) s) =
    record { is = refl; fits = is.fits (length before); holds = ranges } in
    All-cons (λ m. Spells (frame m) m) (message_of h (length before) s) before spells all

use Rattle.std.proofs.Common.{◌≡◌, ◌+◌, ◌<◌, ◌≤◌, ℕ}
use Rattle.drain_rules.specs.Seen.{byte_least, lowered_byte}
use Rattle.drain_rules.proofs.seen.Seen.lower_all.Given as goal

-- the bytes before this one are lowered
abbrev pub invariant-loop-k : goal.invariant-loop-k
invariant-loop-k l = record {
  all : l.self.all ≡ l.fn.self.all;
  bytes : l.first + l.count ≤ 64 → (i : ℕ) → i < 64 → byte_least l.self i ≡ lowered_byte l.fn.self l.first l.k l.tag i;
}

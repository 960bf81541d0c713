use Rattle.std.proofs.Common.{◌≡◌, ◌-◌, ◌*◌, ◌≤◌, ◌++◌, length}
use Rattle.msg_frames.specs.Reading.{csrs_in}
use Rattle.msg_frames.proofs.reading.csrs_into.Given as goal

abbrev pub invariant-loop : goal.invariant-loop
invariant-loop l = record {
  values : l.list ++ csrs_in (l.count - l.counter) l.rest ≡ csrs_in l.count l.bytes;
  room : 10 * (l.count - l.counter) ≤ length l.rest;
  taken : length l.list ≡ l.counter;
}

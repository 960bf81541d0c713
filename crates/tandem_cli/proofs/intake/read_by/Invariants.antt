use Rattle.std.proofs.Common.{◌≡◌, ◌+◌, ◌-◌, ◌^◌, ◌≤◌, length, vec_len}
use Rattle.std.specs.Io.KnownBytes.{Consumes}
use Rattle.tandem_cli.proofs.intake.read_by.Given as goal

abbrev pub invariant-loop-bytes : goal.invariant-loop-bytes
invariant-loop-bytes g l = record {
  took : Consumes (g.I.Inputs.slots l.fn.ins).image.left (g.I.Inputs.slots l.ins).image.left l.bytes.items;
  len : vec_len l.bytes ≤ 2 ^ 28 + 1;
  items : length l.bytes.items ≡ vec_len l.bytes;
  count : (g.I.Inputs.slots l.fn.ins).image.faults ≤ (g.I.Inputs.slots l.ins).image.faults;
  attached : (g.I.Inputs.slots l.ins).image.attached ≡ (g.I.Inputs.slots l.fn.ins).image.attached;
  names : g.I.Inputs.names l.ins ≡ g.I.Inputs.names l.fn.ins;
  stream : (g.I.Inputs.slots l.ins).stream ≡ (g.I.Inputs.slots l.fn.ins).stream;
}

abbrev pub decreases-loop-bytes : goal.decreases-loop-bytes
decreases-loop-bytes g l = 2 ^ 28 + 1 - vec_len l.bytes

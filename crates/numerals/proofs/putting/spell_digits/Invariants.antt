use Rattle.std.proofs.Common.{◌≡◌, ◌^◌, ◌<◌, ◌≤◌, false, length, drop}
use Rattle.std.specs.Fmt.{digits}
use Rattle.numerals.proofs.DigitsLaws.{onto}
use Rattle.numerals.proofs.putting.spell_digits.Given as goal

abbrev pub invariant-loop-rest : goal.invariant-loop-rest
invariant-loop-rest l = record {
  low : 0 < l.start;
  high : l.start ≤ 16;
  sized : length l.held ≡ 16;
  small : l.rest < 16 ^ l.start;
  spelled : onto l.start l.rest (drop l.start l.held) ≡ digits 16 false l.n;
}

abbrev pub decreases-loop-rest : goal.decreases-loop-rest
decreases-loop-rest l = l.start

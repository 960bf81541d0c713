use Rattle.std.proofs.Common.{◌≡◌, find, drop}
use Rattle.drain_rules.specs.Answers.{is_bounded}
use Rattle.drain_rules.proofs.bound.Bound.latest.Given as goal

-- what is left gives the answer
abbrev pub invariant-loop-part : goal.invariant-loop-part
invariant-loop-part l = find (is_bounded l.self) (drop l.part-index l.parts) ≡ find (is_bounded l.self) l.parts

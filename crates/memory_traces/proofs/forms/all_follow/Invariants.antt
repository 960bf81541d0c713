use Rattle.std.proofs.Common.{◌≡◌, drop}
use Rattle.std.specs.List.{list_all}
use Rattle.memory_traces.specs.FormTest.{follows}
use Rattle.memory_traces.proofs.forms.all_follow.Given as goal

abbrev pub invariant-loop-v : goal.invariant-loop-v
invariant-loop-v l = list_all (follows l.w) l.rest ≡ list_all (follows l.w) (drop l.v-index l.rest)

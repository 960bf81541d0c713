use Rattle.std.proofs.Common.{◌≡◌, drop}
use Rattle.std.specs.List.{list_all}
use Rattle.memory_traces.specs.FormTest.{apart}
use Rattle.memory_traces.proofs.forms.all_apart.Given as goal

abbrev pub invariant-loop-b : goal.invariant-loop-b
invariant-loop-b l = list_all (apart l.a) l.rest ≡ list_all (apart l.a) (drop l.b-index l.rest)

use Rattle.std.proofs.Common.{◌≡◌, ◌&&◌}
use Rattle.rvwmo_model.specs.Order.{reads}
use Rattle.rvwmo_model.specs.Sources.{source}
use Rattle.rvwmo_model.specs.Tests.{is_store_of}
use Rattle.rvwmo_model.specs.Search.{some_at}
use Rattle.rvwmo_model.proofs.judge.rules.reads_from.Given as goal

abbrev pub invariant-loop-j : goal.invariant-loop-j
invariant-loop-j l = l.found ≡ some_at (λ x. reads x l.b && is_store_of l.t l.hart l.tag (source l.t l.b x))
    l.b.extent.addr l.j

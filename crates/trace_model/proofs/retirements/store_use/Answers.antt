use Rattle.std.proofs.Common.{refl}
use Rattle.trace_model.proofs.Extents.{extent_seen}
use Rattle.trace_model.proofs.retirements.store_use.Goals as goal

pub returns : goal.returns
returns c =
    rw (
      extent_seen c.args.extent.now,
      ← c.zeros.ensures,
      ← c.acquire_of.ensures,
      ← c.release_of.ensures,
    )
    refl

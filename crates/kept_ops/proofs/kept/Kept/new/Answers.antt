use Rattle.std.proofs.Common.{ℕ, [], sym, subst}
use Rattle.kept_ops.specs.Tables.{KeptTable, KnowsLatest}
use Rattle.kept_ops.proofs.LatestLeft.{latest_of_none}
use Rattle.kept_ops.proofs.Seen.{nothing_seen}
use Rattle.kept_ops.proofs.kept.Kept.new.Goals as goal

pub returns-clause-latest : goal.returns-clause-latest
returns-clause-latest c = subst (λ (t : KeptTable). (x : ℕ) → KnowsLatest t x [])
    (sym (nothing_seen c.in_ok-new.field-0 c.in_ok-new-3.field-0 c.args.capacity
    c.in_ok-new.ensures.empty c.in_ok-new-3.ensures.empty)) latest_of_none

use Rattle.std.proofs.Common.{◌≡◌}
use Rattle.overlap_rules.specs.Answers.{answer_at}
use Rattle.overlap_rules.specs.Found.{latest_found}
use Rattle.overlap_rules.proofs.asked.Asked.latest.Given as goal

abbrev pub invariant-loop-k : goal.invariant-loop-k
invariant-loop-k l =
    l.latest ≡ latest_found (answer_at l.question l.self.fresh.now l.self.sources.now l.self.stores.now.stores
    l.self.kept.now) l.k

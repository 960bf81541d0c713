use Rattle.std.proofs.Common.{ℕ, ◌<◌, ◌≤◌, arith}
use Rattle.ppo_rules.proofs.Joined.{none_at_first, none_next, none_of_all, least_of_all}
use Rattle.ppo_rules.proofs.retiring.Retiring.check_retire.Goals as goal

pub loop-rule-init : goal.loop-rule-init
loop-rule-init c = none_at_first c.args.self.now c.args.ops.now

-- this rule has no answer either
pub loop-rule-preserved : goal.loop-rule-preserved
loop-rule-preserved c =
    none_next c.loop-rule.rule c.args.self.now c.args.ops.now c.in-None.ensures c.loop-rule.invariant

-- the rule is the least
pub returns-in-Some : goal.returns-in-Some
returns-in-Some c =
    least_of_all c.loop-rule.rule c.args.self.now c.args.ops.now c.in-Some.pair (omega arith) (omega arith)
    c.in-Some.ensures c.loop-rule.invariant

-- no rule has an answer
pub returns : goal.returns
returns c =
    none_of_all c.loop-rule.rule c.args.self.now c.args.ops.now (omega arith) c.loop-rule.invariant

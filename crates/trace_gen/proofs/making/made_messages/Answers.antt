use Rattle.std.proofs.Common.{◌<◌, ◌*◌, arith}
use Rattle.std.proofs.Math.Nat.{mul_assoc}
use Rattle.trace_gen.proofs.Turns.{at_turn, some_at}
use Rattle.trace_gen.proofs.making.made_messages.Goals as goal

-- the harts stay as many as there are
pub turn-requires-clause-harts : goal.turn-requires-clause-harts
turn-requires-clause-harts c =
    let more : c.loop-turn._turn < 13 * c.args.harts * c.args.count = rw c.from.ensures at c.loop-turn-test.true in
    let at' = at_turn c.args.seed c.args.harts c.args.count c.loop-turn._turn (omega (arith, more)) in
    rw (c.loop-turn.invariant, at'.len) c.requires.1

-- some hart has steps left
pub turn-requires-clause-left : goal.turn-requires-clause-left
turn-requires-clause-left c =
    let more : c.loop-turn._turn < 13 * c.args.harts * c.args.count = rw c.from.ensures at c.loop-turn-test.true in
    rw c.loop-turn.invariant (some_at c.args.seed c.args.harts c.args.count c.loop-turn._turn more)

-- the counter is at most as many as there were turns
pub turn-requires-clause-counter : goal.turn-requires-clause-counter
turn-requires-clause-counter c =
    let more : c.loop-turn._turn < 13 * c.args.harts * c.args.count = rw c.from.ensures at c.loop-turn-test.true in
    let at' = at_turn c.args.seed c.args.harts c.args.count c.loop-turn._turn (omega (arith, more)) in
    rw c.loop-turn.invariant
    (omega (arith, at'.counter, more, mul_assoc 13 c.args.harts c.args.count, c.requires.3))

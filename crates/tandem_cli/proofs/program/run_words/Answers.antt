use Rattle.std.proofs.Common.{map, drop}
use Rattle.std.specs.String.{string_bytes}
use Rattle.std.specs.Vec.Iter.{into_iter_items}
use Rattle.tandem_cli.proofs.ProgramLaws.{command_refused}
use Rattle.tandem_cli.proofs.program.run_words.Goals as goal

pub returns-in-Ok-clause-words : goal.returns-in-Ok-clause-words
returns-in-Ok-clause-words g c =
    rw (← (c.in-Ok.ensures {u = tt}), ← c.deref.ensures.value) c.run_command.ensures.words

pub returns-in-Err-clause-words : goal.returns-in-Err-clause-words
returns-in-Err-clause-words g c =
    command_refused (map string_bytes (drop 1 (into_iter_items c.args.args))) (g.I.Inputs.names c.args.ins.now)
    (g.I.Inputs.slots c.args.ins.now) (g.K.Sink.written c.args.out.now) (g.K.Sink.faults c.args.out.now)

pub returns-in-Ok-clause-usage : goal.returns-in-Ok-clause-usage
returns-in-Ok-clause-usage g c =
    rw (← (c.in-Ok.ensures {u = tt}), ← c.deref.ensures.value) c.run_command.ensures.usage

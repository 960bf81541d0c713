use Rattle.std.proofs.Common.{map}
use Rattle.std.specs.String.{string_bytes}
use Rattle.tandem_cli.specs.GenRuns.{AnswersAccepted}
use Rattle.tandem_cli.specs.GenWords.{gen_asked}
use Rattle.tandem_cli.specs.declared.gen_words.GenWords.{GenWords}
use Rattle.tandem_cli.proofs.GenLaws.{as_asked}
use Rattle.tandem_cli.proofs.gens.run_gen.Goals as goal

-- the words that were read are those that were asked for
pub returns-in-Some-clause-accepted : goal.returns-in-Some-clause-accepted
returns-in-Some-clause-accepted g c = λ a is none.
    as_asked
    (λ (x : GenWords). AnswersAccepted x c.judge_and_print.result (g.K.Sink.written c.args.out.now)
    (g.K.Sink.written c.judge_and_print.new.out) (g.K.Sink.faults c.args.out.now)
    (g.K.Sink.faults c.judge_and_print.new.out))
    (gen_asked (map string_bytes c.args.words.now)) c.in-Some.asked a (c.in-Some.ensures {u = tt}).value is
    c.judge_and_print.ensures.accepted none

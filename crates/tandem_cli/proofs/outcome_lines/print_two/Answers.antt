use Rattle.text_runs.proofs.Fronts.{front_first, front_then, on_err, on_err_map}
use Rattle.tandem_cli.proofs.outcome_lines.print_two.Goals as goal

-- a front of the first text
pub returns-in_err-print_text-clause-err : goal.returns-in_err-print_text-clause-err
returns-in_err-print_text-clause-err g c =
    on_err c.from_residual.result (front_first c.args.back.now ((c.in_err-print_text.ensures {u = tt}).err))

-- the first text, and a front of the second
pub returns-clause-err : goal.returns-clause-err
returns-clause-err g c =
    on_err_map c.print_text-2.result (front_then c.args.front.now
    ((c.in_ok-print_text.ensures {u = tt}).ok)) c.print_text-2.ensures.err

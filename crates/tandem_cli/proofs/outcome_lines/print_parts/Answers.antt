use Rattle.std.proofs.Common.{◌++◌}
use Rattle.text_runs.proofs.Fronts.{front_first, front_then, on_err, on_err_map}
use Rattle.tandem_cli.proofs.outcome_lines.print_parts.Goals as goal

-- a front of the first two texts
pub returns-in_err-print_two-clause-err : goal.returns-in_err-print_two-clause-err
returns-in_err-print_two-clause-err g c =
    on_err c.from_residual.result (front_first c.args.back.now ((c.in_err-print_two.ensures {u = tt}).err))

-- the first two texts, and a front of the third
pub returns-clause-err : goal.returns-clause-err
returns-clause-err g c =
    on_err_map c.print_text.result (front_then (c.args.front.now ++ c.args.middle.now)
    ((c.in_ok-print_two.ensures {u = tt}).ok)) c.print_text.ensures.err

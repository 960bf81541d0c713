use Rattle.text_runs.proofs.Fronts.{front_first, front_then, on_err, on_err_map}
use Rattle.verdict_report.specs.Lines.{verdict_line}
use Rattle.tandem_cli.specs.GenRuns.{gen_line}
use Rattle.tandem_cli.proofs.gen_lines.print_made.Goals as goal

-- a front of the first line
pub returns-in_err-print_gen_line-clause-err : goal.returns-in_err-print_gen_line-clause-err
returns-in_err-print_gen_line-clause-err g c =
    on_err c.from_residual.result
    (front_first (verdict_line c.args.verdict.now) ((c.in_err-print_gen_line.ensures {u = tt}).err))

-- the first line, and a front of the second
pub returns-clause-err : goal.returns-clause-err
returns-clause-err g c =
    on_err_map c.print_verdict.result (front_then (gen_line c.args.asked.now)
    ((c.in_ok-print_gen_line.ensures {u = tt}).ok)) c.print_verdict.ensures.err

use Rattle.trace_text.proofs.WholeTexts.{accepted_by, only_by}
use Rattle.trace_text.proofs.text.from_text.Goals as goal

pub returns-clause-accepted : goal.returns-clause-accepted
returns-clause-accepted c = accepted_by c.args.text.now c.read_lines.result c.read_lines.ensures

pub returns-clause-only : goal.returns-clause-only
returns-clause-only c messages fit is =
    only_by c.args.text.now messages c.read_lines.result fit is c.read_lines.ensures

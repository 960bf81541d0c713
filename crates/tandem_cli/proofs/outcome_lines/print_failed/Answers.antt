use Rattle.tandem_cli.proofs.outcome_lines.print_failed.Goals as goal

-- the name is the middle part
pub returns-clause-ok : goal.returns-clause-ok
returns-clause-ok g c = rw (← c.as_bytes.ensures.value) c.print_parts.ensures.ok

pub returns-clause-err : goal.returns-clause-err
returns-clause-err g c = rw (← c.as_bytes.ensures.value) c.print_parts.ensures.err

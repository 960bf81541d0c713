use Rattle.std.proofs.Common.{length}
use Rattle.trace_text.proofs.ByteLaws.{read_ok, read_err}
use Rattle.trace_text.proofs.spellings.read_bytes.Goals as goal

pub returns-in-Ok-clause-read : goal.returns-in-Ok-clause-read
returns-in-Ok-clause-read c =
    read_ok c.args.text.now c.decode_to_slice.new.out (length c.args.held.now) c.decode_to_slice.result
    c.is_written.result c.decode_to_slice.ensures.value c.in-Ok.is c.is_written.ensures

pub returns-in-Err-clause-read : goal.returns-in-Err-clause-read
returns-in-Err-clause-read c =
    read_err c.args.text.now c.decode_to_slice.new.out (length c.args.held.now) c.decode_to_slice.result
    c.decode_to_slice.ensures.value c.in-Err.is

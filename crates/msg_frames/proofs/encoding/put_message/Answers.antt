use Rattle.std.proofs.Common.{refl}
use Rattle.tandem_base.proofs.PutsLaws.{puts_then, puts_as, puts_to}
use Rattle.msg_frames.proofs.encoding.put_message.Goals as goal

pub returns-clause-puts : goal.returns-clause-puts
returns-clause-puts c = puts_as (puts_then (puts_to c.put_head.ensures c.put_head.ensures.ends) c.put_body.ensures)
    (rw (c.code-code.ensures, c.kind_of.ensures, c.body_size-size.ensures.value) refl)

use Rattle.std.proofs.Common.{refl}
use Rattle.tandem_base.proofs.PutsLaws.{puts_then, puts_as}
use Rattle.msg_frames.proofs.encoding.put_head.Goals as goal

pub returns : goal.returns
returns c = puts_as (puts_then (puts_then (puts_then c.put-end.ensures c.put-end-2.ensures) c.put-end-3.ensures)
    c.put.ensures)
    (rw (c.to_le_bytes.ensures, c.to_le_bytes-2.ensures, c.to_le_bytes-3.ensures) refl)

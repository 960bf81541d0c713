use Rattle.std.proofs.Common.{refl}
use Rattle.tandem_base.proofs.PutsLaws.{puts_then, puts_as}
use Rattle.msg_frames.proofs.encoding.put_open.Goals as goal

pub returns : goal.returns
returns c = puts_as (puts_then c.put-end.ensures c.put.ensures) (rw c.to_le_bytes.ensures refl)

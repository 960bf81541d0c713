use Rattle.std.proofs.Common.{refl}
use Rattle.tandem_base.proofs.PutsLaws.{puts_then, puts_as}
use Rattle.msg_frames.proofs.encoding.put_retire.Goals as goal

pub returns : goal.returns
returns c =
    puts_as (puts_then (puts_then (puts_then (puts_then
    (puts_then c.put-end.ensures c.put-end-2.ensures) c.put-end-3.ensures) c.put-end-4.ensures)
    c.put-end-5.ensures) c.put_csrs.ensures)
    (rw (
      c.to_le_bytes.ensures,
      c.to_le_bytes-2.ensures,
      c.to_le_bytes-3.ensures,
      c.to_le_bytes-4.ensures,
      c.rd_of-number.ensures.number,
      c.rd_of-number.ensures.value,
      c.flags_of-flags.ensures,
      c.unwrap_or-cause.ensures,
      c.len.ensures.value,
    ) refl)

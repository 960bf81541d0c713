use Rattle.std.proofs.Common.{sym, ◌∙◌, ap, arith, length}
use Rattle.tandem_base.proofs.PutsLaws.{puts_then, puts_as}
use Rattle.msg_frames.proofs.CsrLaws.{csrs_more}
use Rattle.msg_frames.proofs.encoding.put_csrs.Goals as goal

pub loop-k-preserved : goal.loop-k-preserved
loop-k-preserved c =
    let number = ap length c.to_le_bytes.ensures in
    let value = ap length c.to_le_bytes-in-loop-k.ensures in
    record {
      order = omega (
        arith,
        c.put-end.ensures.ends,
        c.put-end-in-loop-k.ensures.ends,
        c.loop-k.invariant.order,
        number,
        value,
      );
      puts = puts_as (puts_then (puts_then c.loop-k.invariant.puts c.put-end.ensures) c.put-end-in-loop-k.ensures)
          (rw (c.to_le_bytes.ensures, c.to_le_bytes-in-loop-k.ensures)
          (csrs_more c.args.csrs.now c.loop-k.k c.in-Some.csr (sym c.get.ensures ∙ c.in-Some.is)));
    }

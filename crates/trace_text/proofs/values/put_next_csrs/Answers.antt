use Rattle.std.proofs.Common.{◌∙◌, sym, arith}
use Rattle.tandem_base.proofs.PutsLaws.{puts_then, puts_as}
use Rattle.trace_text.proofs.CsrLaws.{next_more}
use Rattle.trace_text.proofs.values.put_next_csrs.Goals as goal

pub loop-k-preserved : goal.loop-k-preserved
loop-k-preserved c =
    let l = c.loop-k in
    record {
      some = omega arith;
      bound = omega (arith, l.invariant.bound, c.put-end.ensures.ends, c.put_csr-end.ensures.bound);
      puts = puts_as (puts_then l.invariant.puts (puts_then c.put-end.ensures c.put_csr-end.ensures.puts))
          (next_more c.args.csrs.now l.k c.in-Some.csr l.invariant.some (sym c.get.ensures ∙ c.in-Some.is));
    }

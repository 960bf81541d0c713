use Rattle.matching.proofs.CsrLaws.{csr_refused, csr_passed}
use Rattle.matching.proofs.compare.check_csrs.Goals as goal

pub returns-in-Err : goal.returns-in-Err
returns-in-Err c =
    csr_refused c.loop-index.index c.args.wants.now c.args.gots.now c.check_csr.result c.check_csr.new.found
    c.in-Err.faulty c.get.result c.get-in-loop-index.result c.loop-index.invariant (cc) (cc) c.check_csr.ensures
    c.in-Err.is

pub loop-index-preserved : goal.loop-index-preserved
loop-index-preserved c =
    csr_passed c.loop-index.index c.args.wants.now c.args.gots.now c.check_csr.result _
    c.loop-index.invariant (cc) c.in-Ok.is

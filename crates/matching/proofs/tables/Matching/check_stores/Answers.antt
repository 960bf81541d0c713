use Rattle.std.proofs.Common.{ap, sym}
use Rattle.std.specs.declared.option.Option.{Option}
use Rattle.tandem_base.specs.FirstFault.{passed}
use Rattle.verdict_report.specs.declared.fault.Fault.{Fault}
use Rattle.matching.proofs.Same.{below_none}
use Rattle.matching.proofs.tables.Matching.check_stores.Goals as goal

pub loop-hart-init : goal.loop-hart-init
loop-hart-init c image before s = ap (λ (f : Option Fault). passed f) (sym (below_none image before))

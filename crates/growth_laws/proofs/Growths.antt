-- Each growth is a chain of elementary steps, and keeps a trace well kinded.
use Rattle.std.proofs.Common.{ℕ, List, Option}
use Rattle.rvwmo_model.specs.declared.instructions.Retired.{Retired}
use Rattle.rvwmo_model.specs.declared.operations.Op.{Op}
use Rattle.rvwmo_model.specs.declared.traces.Trace.{Trace}
use Rattle.growth_laws.specs.Kinds.{WellKinded}
use Rattle.growth_laws.specs.Growth.{Same, AddEarly, AddInsn, PerformsPart, Performs, no_parts, more_parts, Growth}
use Rattle.growth_laws.specs.Growth.{grow_same, grow_early, grow_insn, grow_stores, Grows, no_growth, more_growth}
use Rattle.growth_laws.specs.Laws.{KeepsWellKinded}
use Rattle.growth_laws.proofs.Links.{Link, Chain, none, then, chain_join}
use Rattle.growth_laws.proofs.Steps.{same_writers, early_writers, insn_writers, part_writers}
use Rattle.growth_laws.proofs.Operations.{same_ops, early_ops, insn_ops, part_ops}
use Rattle.growth_laws.proofs.KeptSame.{same_kinded, early_kinded}
use Rattle.growth_laws.proofs.KeptInsn.{insn_kinded}
use Rattle.growth_laws.proofs.KeptPart.{part_kinded}

pub same_link : (t t' : Trace) → WellKinded t → Same t t' → Link t t'
same_link t t' k s =
    record {
      before = k;
      after = same_kinded t t' k s;
      writers = λ x. same_writers t t' x s;
      operations = same_ops t t' s;
    }

pub early_link : (t t' : Trace) (e : Op) → WellKinded t → AddEarly t t' e → Link t t'
early_link t t' e k s =
    record {
      before = k;
      after = early_kinded t t' e k s;
      writers = λ x. early_writers t t' e x s;
      operations = early_ops t t' e s;
    }

pub insn_link : (t t' : Trace) (r : Retired) (new : List Op) → WellKinded t → AddInsn t t' r new → Link t t'
insn_link t t' r new k s =
    record {
      before = k;
      after = insn_kinded t t' r new k s;
      writers = λ x. insn_writers t t' r new x k s;
      operations = insn_ops t t' r new k s;
    }

pub part_link : (t t' : Trace) (o n : Op) (rest : Option Op) → WellKinded t → PerformsPart t t' o n rest → Link t t'
part_link t t' o n rest k s =
    record {
      before = k;
      after = part_kinded t t' o n rest k s;
      writers = λ x. part_writers t t' o n rest x k s;
      operations = part_ops t t' o n rest s;
    }

-- what a chain leads to is well kinded
pub chain_kinded : (t v : Trace) → WellKinded t → Chain t v → WellKinded v
chain_kinded _ _ k (none t) = k
chain_kinded _ _ k (then t u v c g) = g.after

pub performs_chain : (h : ℕ) (t v : Trace) (parts : List Op) → WellKinded t → Performs h t parts v → Chain t v
performs_chain h t _ _ k no_parts = none t
performs_chain h t _ _ k (more_parts parts u v o n rest s e p) =
    let c = performs_chain h t u parts k s in
    then t u v c (part_link u v o n rest (chain_kinded t u k c) p)

pub growth_chain : (t t' : Trace) → WellKinded t → Growth t t' → Chain t t'
growth_chain t t' k (grow_same s) = then t t t' (none t) (same_link t t' k s)
growth_chain t t' k (grow_early e s) = then t t t' (none t) (early_link t t' e k s)
growth_chain t t' k (grow_insn r new s) = then t t t' (none t) (insn_link t t' r new k s)
growth_chain t t' k (grow_stores h parts s) = performs_chain h t t' parts k s

pub keeps_kinded : KeepsWellKinded
keeps_kinded t t' k g = chain_kinded t t' k (growth_chain t t' k g)

pub grows_chain : (t v : Trace) → WellKinded t → Grows t v → Chain t v
grows_chain _ _ k (no_growth t) = none t
grows_chain _ _ k (more_growth t u v g s) =
    let c = grows_chain t u k g in
    chain_join t u v c (growth_chain u v (chain_kinded t u k c) s)

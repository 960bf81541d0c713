use Rattle.std.proofs.Common.{rules, not}
use Rattle.std.proofs.lemmas.Fn.{filter_same}
use Rattle.rv_decode.specs.declared.registers.Register.{Register}
use Rattle.rvwmo_model.proofs.judge.walk.keep_unset.Goals as goal
use Rattle.rv_decode.specs.Registers.{sets}

pub returns : goal.returns
returns c = filter_same _ (λ (r : Register). not (sets c.args.w.now.insn c.args.w.now.stored r)) _
    (λ x b f r. search rules) _ _ c.retain.ensures.filtered

use Rattle.std.proofs.Common.{List, [], ◌∷◌, ◌++◌, ap, ◌∙◌}
use Rattle.rvwmo_model.specs.declared.instructions.Retired.{Retired}
use Rattle.trace_model.proofs.Histories.{uses_more}
use Rattle.trace_model.specs.Entries.{uses_of}
use Rattle.trace_model.proofs.history.History.push_with.Goals as goal

pub returns-clause-taken : goal.returns-clause-taken
returns-clause-taken c es keeps = record {
  insns = c.in_ok-push-2.ensures.items ∙ ap (λ (l : List Retired). l ++ c.args.insn ∷ []) keeps.insns;
  uses = uses_more c.args.self.now.uses.items c.push.new.self.items c.args.used.now (uses_of es)
      c.in_ok-push.ensures.items keeps.uses;
}

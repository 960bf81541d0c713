use Rattle.std.proofs.Common.{◌∙◌, ap, reverse, sym}
use Rattle.std.proofs.lemmas.List.{reverse-reverse}
use Rattle.trace_gen.specs.declared.saying.Saying.{Saying}
use Rattle.trace_gen.specs.Schedule.{Moment, said}
use Rattle.trace_gen.proofs.schedule.Run.close.Goals as goal

-- what is seen of the run is its messages from the newest back
pub returns : goal.returns
returns c =
    sym (reverse-reverse c.self.inside.messages)
    ∙ ap (λ (m : Moment). reverse m.messages) (c.self.view_is ∙ c.in_ok-say.ensures {u = tt}
    ∙ ap (λ (s : Saying). record c.args.self { messages = said 0 c.args.self.messages s }) c.ends.ensures)

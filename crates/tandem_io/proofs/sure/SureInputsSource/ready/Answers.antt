use Rattle.std.proofs.Common.{drop, sym}
use Rattle.std.proofs.lemmas.List.{take-append-drop}
use Rattle.tandem_io.proofs.sure.SureInputsSource.ready.Goals as goal

-- what is lent is the front of what is left
pub returns-clause-front : goal.returns-clause-front
returns-clause-front c =
    let held = c.self.inside.store in
    let left = held.stream.left in
    rw (← c.self.view_is, c.ready.ensures.lent) (drop held.step left, sym (take-append-drop held.step left))

use Rattle.tandem_io.proofs.WindowLaws.{none-taken}
use Rattle.tandem_io.proofs.window.Window.fill.Goals as goal

-- the window is empty only where the read answered 0
pub returns-clause-end : goal.returns-clause-end
returns-clause-end g c empty =
    let read = c.in_ok-self in
    read.ensures.end (none-taken read.field-0 c.read_piece.new.bytes read.ensures.within.0 empty)

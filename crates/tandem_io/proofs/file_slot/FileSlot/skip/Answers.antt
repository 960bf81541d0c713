use Rattle.tandem_io.specs.FileSlot.{left_in}
use Rattle.tandem_io.specs.Window.{unread_in}
use Rattle.tandem_io.proofs.WindowLaws.{front-taken}
use Rattle.tandem_io.proofs.file_slot.FileSlot.skip.Goals as goal

-- the first bytes of the window are those of all that is left
pub returns-clause-bytes : goal.returns-clause-bytes
returns-clause-bytes g c =
    let slot = c.self.inside in
    rw (c.skip.ensures, ← c.self.view_is) (front-taken (left_in slot.file) (unread_in slot.window) c.args.n)

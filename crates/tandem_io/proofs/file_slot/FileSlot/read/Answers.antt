use Rattle.std.proofs.Common.{length}
use Rattle.tandem_io.specs.FileSlot.{left_in}
use Rattle.tandem_io.specs.Window.{unread_in}
use Rattle.tandem_io.proofs.WindowLaws.{front-given, nothing-left}
use Rattle.tandem_io.proofs.file_slot.FileSlot.read.Goals as goal

-- the bytes that are given are the first of the window's, which stand before those of the file
pub returns-in-Ok-clause-bytes : goal.returns-in-Ok-clause-bytes
returns-in-Ok-clause-bytes g c =
    let file = left_in c.read_on.new.file in
    let window = unread_in c.read_on.new.window in
    let read = c.in-Ok.ensures {u = tt} in
    let given = front-given _ file window c.give-n.new.buf c.give-n.result read.left c.give-n.ensures.given in
    let room = length c.args.buf.now in
    let nothing = nothing-left file window room c.give-n.result c.give-n.ensures.count c.requires read.end in
    rw (c.give-n.ensures.rest, ← c.self.view_is) (given, λ none room. nothing none)

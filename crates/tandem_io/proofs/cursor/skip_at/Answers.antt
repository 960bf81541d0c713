use Rattle.std.proofs.Math.Seq.{take-add}
use Rattle.std.proofs.lemmas.List.{drop-drop}
use Rattle.tandem_io.specs.Cursor.{content_at}
use Rattle.tandem_io.proofs.cursor.skip_at.Goals as goal

-- the bytes that were taken, and then the next; the bytes that were left, without those
pub returns-clause-after : goal.returns-clause-after
returns-clause-after c =
    let bytes = content_at c.args.files.now c.args.cursor.now.file in
    let gone = take-add c.args.cursor.now.at c.args.n bytes in
    let left = drop-drop c.args.n c.args.cursor.now.at bytes in
    rw (gone, ← left)

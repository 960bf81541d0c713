use Rattle.std.proofs.Common.{◌≡◌, drop}
use Rattle.tandem_io.specs.Inputs.{content_of}
use Rattle.tandem_io.proofs.cursor.find.Given as goal

-- no content before this place has the name
abbrev pub invariant-loop-place : goal.invariant-loop-place
invariant-loop-place l = content_of l.files l.name ≡ content_of (drop l.place l.files) l.name

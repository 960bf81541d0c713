-- The piece of a file that was read and is not yet given on.
use Rattle.std.specs.Prelude.{ℕ, List}
use Rattle.std.specs.List.{slice_range}
use Rattle.tandem_io.specs.declared.window.Window.{Window}

-- the bytes that are not yet given on
abbrev pub unread_in : Window → List ℕ
unread_in window = slice_range window.bytes window.start window.end

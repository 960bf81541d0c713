-- What a table of bounded size answers to one more entry.
use Rattle.std.specs.Prelude.{ℕ, ◌==◌, if◌then◌else◌}
use Rattle.tandem_base.specs.declared.room.Took.{Took}
use Rattle.tandem_base.specs.declared.room.Took.TheVariants.{Yes, Full}

-- a table that holds so many is full where it has room for no more, and else takes one more
abbrev pub took : ℕ → ℕ → Took
took held capacity = if held == capacity then Full capacity else Yes

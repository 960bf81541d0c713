-- The order of places.
use Rattle.std.specs.Prelude.{ℕ, ◌==◌, ◌&&◌, ◌||◌, nat_lt, Bool}
use Rattle.tandem_base.specs.declared.names.Place.{Place}
use Rattle.tandem_base.specs.declared.names.Position.{Position}

-- the first place comes before the second: by time, then by message, then by Insert
abbrev pub earlier : Place → Place → Bool
earlier a b =
    nat_lt a.time b.time
    || ((a.time == b.time)
    && (nat_lt a.message b.message || ((a.message == b.message) && nat_lt a.insert b.insert)))

-- the place at a position, of a message of that time
abbrev pub place_at : ℕ → Position → Place
place_at time position = record { time = time; message = position.message; insert = position.insert }

-- the first position comes before the second: by message, then by Insert
abbrev pub comes_before : Position → Position → Bool
comes_before a b = nat_lt a.message b.message || ((a.message == b.message) && nat_lt a.insert b.insert)

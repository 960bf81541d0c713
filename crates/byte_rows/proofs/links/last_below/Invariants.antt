use Rattle.byte_rows.specs.Links.{at, row_mark_at}
use Rattle.byte_rows.proofs.Lasts.{IsBack, distance}
use Rattle.byte_rows.proofs.links.last_below.Given as goal

abbrev pub invariant-loop-place : goal.invariant-loop-place
invariant-loop-place l = IsBack (row_mark_at (at l.links)) l.row l.below l.place

abbrev pub decreases-loop-place : goal.decreases-loop-place
decreases-loop-place l = distance (row_mark_at (at l.links)) l.place

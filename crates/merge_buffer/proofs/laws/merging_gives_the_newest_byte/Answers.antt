use Rattle.merge_buffer.proofs.Newest.{newest_byte, no_byte}
use Rattle.merge_buffer.proofs.laws.merging_gives_the_newest_byte.Goals as goal

pub returns-clause-newest : goal.returns-clause-newest
returns-clause-newest c = newest_byte

pub returns-clause-none : goal.returns-clause-none
returns-clause-none c = no_byte

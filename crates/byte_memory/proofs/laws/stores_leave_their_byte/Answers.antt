use Rattle.byte_memory.proofs.CellLaws.{left_grows}
use Rattle.byte_memory.proofs.laws.stores_leave_their_byte.Goals as goal

pub returns : goal.returns
returns c = λ place later stores grown new gains all after before was left.
    left_grows place later stores grown new gains all after before was left

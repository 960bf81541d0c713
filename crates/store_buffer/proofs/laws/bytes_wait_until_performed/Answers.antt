use Rattle.store_buffer.proofs.WaitingBytes.{retired_wait, taken_same, performed_leave, swept_same, pending_is}
use Rattle.store_buffer.proofs.WaitingBytes.{waits_under}
use Rattle.store_buffer.proofs.laws.bytes_wait_until_performed.Goals as goal

pub returns : goal.returns
returns c = record {
  retired = retired_wait;
  taken = taken_same;
  performed = performed_leave;
  swept = swept_same;
  latest = pending_is;
  earlier = waits_under;
}

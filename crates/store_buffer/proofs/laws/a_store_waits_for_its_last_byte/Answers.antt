use Rattle.store_buffer.proofs.Opens.{insert_opens}
use Rattle.store_buffer.proofs.Waits.{has_open_byte, opens, retired_open, swept_open, performed_open}
use Rattle.store_buffer.proofs.laws.a_store_waits_for_its_last_byte.Goals as goal

pub returns : goal.returns
returns c = record {
  bytes = λ s l. (has_open_byte s, opens s l);
  retired = retired_open;
  taken = insert_opens;
  performed = performed_open;
  swept = swept_open;
}

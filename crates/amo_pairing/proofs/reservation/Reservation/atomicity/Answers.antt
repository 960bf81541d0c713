use Rattle.amo_pairing.proofs.reservation.Reservation.atomicity.Goals as goal

-- the breach that was found is the one asked for
pub returns : goal.returns
returns c = (c.broken_byte-breach.result, c.broken_byte-breach.ensures, c.by_breach.ensures)

-- What is kept of a hart's open LR while a trace grows: the laws.
use Rattle.std.proofs.Common.{ℕ, inl, inr, sym, subst}
use Rattle.std.proofs.lemmas.Bool.{false≢true}
use Rattle.growth_laws.proofs.Quiet.{sources_rest}
use Rattle.amo_pairing.specs.PairingLaws.{PairingStarts, PairingStays, PairingChanges}
use Rattle.amo_pairing.specs.Reservations.{IsOpenLr}
use Rattle.amo_pairing.proofs.Opens.{same_opens, insn_opens, lr_opens, sc_closes}
use Rattle.amo_pairing.proofs.Performed.{parts_told, parts_of_others}
use Rattle.amo_pairing.proofs.Stayed.{pairing_kept, told_same}

pub pairing_starts : PairingStarts
pairing_starts initial granule h = λ k o. false≢true o.lr

pub pairing_stays : PairingStays
pairing_stays = record {
  nothing = λ initial t t' h kept k s.
      pairing_kept initial t t' h k (same_opens t t' h (λ j. s.keeps.insns h j)) (λ l i p. s.ops.on l i)
      (λ l x o q. told_same initial t t' l x (sources_rest t t' l x k (inl s) o.here q)) kept;
  early = λ initial t t' e h kept k s.
      pairing_kept initial t t' h k (same_opens t t' h (λ j. s.keeps.insns h j)) (λ l i p. s.ops.on l i)
      (λ l x o q. told_same initial t t' l x (sources_rest t t' l x k (inr (inl (e, s))) o.here q)) kept;
  insn = λ initial t t' r new h kept k s other.
      pairing_kept initial t t' h k (insn_opens t t' r s.keeps s.younger h other) (λ l i p. s.ops_on l i)
      (λ l x o q. told_same initial t t' l x (sources_rest t t' l x k (inr (inr (r, new, s))) o.here q)) kept;
  stores = λ initial t t' g h parts kept k s d quiet.
      parts_of_others initial t t' g h parts kept k s d quiet;
}

pub pairing_changes : PairingChanges
pairing_changes = record {
  lr = λ initial t t' r new l kept k s q i aligned whole held. (
    l,
    record {
      here = s.added l i;
      hart = (s.are_of.own l i).0;
      latest = subst (λ (j : ℕ). IsOpenLr t' r.hart j) (sym (s.are_of.own l i).1)
          (lr_opens t t' r s.keeps s.younger q);
      aligned = aligned;
      whole = whole;
    },
    held,
  );
  sc = λ initial t t' r new k s q. sc_closes t t' r s.keeps s.younger q;
  performed = λ initial t t' h parts kept later k s quiet told a.
      parts_told initial h t t' parts k s quiet kept later told a;
}

-- What the stores of a hart stand for while its trace grows.
use Rattle.std.proofs.Common.{ℕ, ◌≡◌, List, ◌∷◌, Option, Some, sym, ap, ◌∙◌}
use Rattle.msg_frames.specs.declared.message.Piece.{Piece}
use Rattle.rvwmo_model.specs.declared.operations.Op.{Op}
use Rattle.rvwmo_model.specs.declared.traces.Trace.{Trace}
use Rattle.store_buffer.specs.declared.store.ByteState.TheVariants.{Performed}
use Rattle.store_buffer.specs.declared.store.Store.{Store}
use Rattle.store_buffer.specs.Store.{untouched_store}
use Rattle.store_buffer.specs.Stores.{all_given}
use Rattle.store_buffer.specs.Waiting.{waiting_bytes, SameBytesWait}
use Rattle.store_buffer.proofs.WaitingBytes.{retired_wait, performed_leave, taken_same, swept_same}
use Rattle.window_laws.specs.Waiting.{AreWaiting}
use Rattle.window_laws.proofs.WaitingGrown.{waiting_changes}
use Rattle.reads_from.specs.StoreLaws.{RetiredWait, PerformedLeave, StoresStay}

same_waits : (t : Trace) (h : ℕ) (waiting later : ℕ → ℕ → Option ℕ) → SameBytesWait waiting later
    → AreWaiting t h waiting → AreWaiting t h later
same_waits t h waiting later s a = record {
  each = λ tag x value e. a.each tag x value (sym (s tag x) ∙ e);
  all = λ v x w. s v.name.tag x ∙ a.all v x w;
}

pub retired_waits : RetiredWait
retired_waits t t' r new o piece marks ss k s a p w =
    let b = retired_wait o.name.tag piece marks ss in
    waiting_changes.retired t t' r new o (waiting_bytes ss)
    (waiting_bytes (untouched_store o.name.tag piece marks ∷ ss)) k s a (record {
      here = λ x e.
          let in_it = sym (p.extent x) ∙ e in
          b.here x in_it ∙ ap (λ (n : ℕ). Some n) (sym (p.bytes x in_it));
      elsewhere = λ x e. b.elsewhere x (sym (p.extent x) ∙ e);
      others = λ tag x d. b.others tag x d;
    }) w

pub performed_leaves : PerformedLeave
performed_leaves t t' o n rest addr len ss k s e a w =
    let b = performed_leave n.name.tag addr len ss a in
    waiting_changes.performed t t' o n rest (waiting_bytes ss)
    (waiting_bytes (all_given n.name.tag Performed addr len ss)) k s (record {
      here = λ x f. b.here x (sym (e x) ∙ f);
      elsewhere = λ x f. b.elsewhere x (sym (e x) ∙ f);
      others = λ tag x d. b.others tag x d;
    }) w

pub stores_stay : StoresStay
stores_stay = record {
  taken = λ t h tag piece ss a w. same_waits t h (waiting_bytes ss) _ (taken_same tag piece ss a) w;
  swept = λ t h ss a w. same_waits t h (waiting_bytes ss) _ (swept_same ss a) w;
}

use Rattle.std.proofs.Common.{ℕ, ◌+◌, ◌∙◌, Bool, None, ap, arith, slice_index_or}
use Rattle.std.proofs.lemmas.List.{length-set}
use Rattle.msg_frames.specs.Pieces.{has}
use Rattle.tag_window.specs.Slots.{noted}
use Rattle.tag_window.proofs.Finding.{noted_more, noted_above}
use Rattle.tag_window.proofs.counting.note.Goals as goal

pub loop-k-preserved : goal.loop-k-preserved
loop-k-preserved c =
    let v = c.loop-k.invariant in
    let t = c.loop-k-test.true in
    let load = c.args.load.now in
    let is = c.has_byte-has.ensures ∙ ap (λ (n : ℕ). has c.args.piece.now (load.addr + n)) c.from.ensures in
    let first = c.first_seen.ensures
    ∙ ap (λ (b : Bool). noted b c.args.slot (slice_index_or c.loop-k.slots c.loop-k.k None)) is in
    record {
      size = length-set c.loop-k.slots c.loop-k.k c.first_seen.result ∙ v.size;
      below = noted_more c.loop-k.slots c.args.slots.now c.loop-k.k c.args.slot
          (λ n. has c.args.piece.now (load.addr + n)) c.first_seen.result v.above
          (omega (arith, v.size, t, load.sized)) first v.below;
      above = noted_above c.loop-k.slots c.args.slots.now c.loop-k.k c.args.slot
          (λ n. has c.args.piece.now (load.addr + n)) c.first_seen.result v.above;
    }

use Rattle.std.proofs.Common.{ℕ, ◌≡◌, ◌+◌, ◌/◌, ◌%◌, Option, Some, ap, ◌∙◌, sym, arith, option_copied}
use Rattle.byte_memory.specs.declared.line.Line.{Line}
use Rattle.byte_memory.specs.declared.writer.Writer.{Writer}
use Rattle.byte_memory.specs.Captures.{is_later}
use Rattle.byte_memory.specs.Memory.{Written, held_line, written_at, written_in, written_on, foreign_writer}
use Rattle.byte_memory.proofs.Captures.{foreign_then, foreign_else}
use Rattle.byte_memory.proofs.capture.latest_of_line.Goals.{then-is_later, else-is_later}
use Rattle.byte_memory.proofs.capture.latest_of_line.Goals as goal

pub loop-k-preserved : goal.loop-k-preserved
loop-k-preserved c =
    let m = c.args.memory.now in
    let x : ℕ = c.args.base + c.loop-k.k in
    let same : x / 64 ≡ c.args.base / 64 = omega (arith, c.requires.within) in
    let here : written_at m x ≡ written_in c.args.line.now (x % 64) =
    ap (λ (n : ℕ). written_on (held_line m n) x) same ∙ ap (λ (o : Option Line). written_on o x) c.requires.there in
    let there : foreign_writer c.args.hart (written_at m x) ≡ option_copied c.foreign-writer.result =
    ap (λ (o : Option Written). foreign_writer c.args.hart o) here
    ∙ sym (rw c.from.ensures at c.foreign-writer.ensures) in
    elim c.if-is_later.branch [
      | then-is_later w ↦ rw (w.found-is, w.told-found.ensures, c.from.ensures, ← there)
          (foreign_then m c.args.hart c.args.base c.loop-k.k c.loop-k.found
          (ap (is_later c.loop-k.found) there ∙ sym c.is_later.ensures ∙ w.if-is_later.true) c.loop-k.invariant)
      | else-is_later w ↦ rw w.found-is
          (foreign_else m c.args.hart c.args.base c.loop-k.k c.loop-k.found
          (ap (is_later c.loop-k.found) there ∙ sym c.is_later.ensures ∙ w.if-is_later.false) c.loop-k.invariant)
    ]

-- Inserts that are numbered upward.
use Rattle.std.proofs.Common.{ℕ, ◌≡◌, ◌+◌, ◌<◌, ◌==◌, List, [], ◌∷◌, Bool, true, false, if◌then◌else◌}
use Rattle.std.proofs.Common.{sym, subst, arith}
use Rattle.tandem_base.specs.declared.room.Took.{Took}
use Rattle.tandem_base.specs.declared.room.Took.TheVariants.{Yes, Full}
use Rattle.merge_buffer.specs.declared.waiting.Part.{Part}
use Rattle.merge_buffer.specs.declared.lines.Drain.{Drain}
use Rattle.merge_buffer.specs.declared.lines.Drain.TheVariants.{Parts, Mismatch}
use Rattle.merge_buffer.specs.Parts.{AllBelow, line_of, without_line}
use Rattle.merge_buffer.specs.Buffers.{Buffer, waiting_on, after_insert, IfParts, IfMismatch}

pub still : (n : ℕ) (ps : List Part) → AllBelow n ps → AllBelow (n + 1) ps
still n [] b = b
still n (p ∷ ps) b = (omega (arith, b.0), still n ps b.1)

chosen : (here : Bool) (p : Part) (n : ℕ) (ps : List Part) → p.number < n + 1 → AllBelow n ps
    → AllBelow (n + 1) (if here then p ∷ ps else ps)
chosen true p n ps is b = (is, still n ps b)
chosen false p n ps is b = still n ps b

-- after one more Insert all are below the next number
pub after : (took : Took) (p : Part) (line n : ℕ) (ps : List Part) → p.number < n + 1 → AllBelow n ps
    → AllBelow (n + 1) (after_insert took p line ps)
after Yes p line n ps is b = chosen (line == line_of p) p n ps is b
after (Full m) p line n ps is b = still n ps b

emptied : (gone : Bool) (n : ℕ) (ps : List Part) → AllBelow n ps → AllBelow n (if gone then [] else ps)
emptied true n ps b = tt
emptied false n ps b = b

-- after a Write they are as they were
pub after_write : (d : Drain) (old new : Buffer) (written line n : ℕ)
    → IfParts d (λ m. (l : ℕ) → waiting_on new l ≡ without_line written l (waiting_on old l))
    → IfMismatch d (λ x. new ≡ old) → AllBelow n (waiting_on old line) → AllBelow n (waiting_on new line)
after_write (Parts m) old new written line n w k b =
    subst (λ (ps : List Part). AllBelow n ps) (sym (w line)) (emptied (line == written) n (waiting_on old line) b)
after_write (Mismatch d) old new written line n w k b =
    subst (λ (buffer : Buffer). AllBelow n (waiting_on buffer line)) (sym k) b

-- Parts on one line.
use Rattle.std.proofs.Common.{ℕ, ◌≡◌, List, [], ◌∷◌, ◌++◌}
use Rattle.merge_buffer.specs.declared.waiting.Part.{Part}
use Rattle.merge_buffer.specs.Parts.{AllOn, IsWithinLine, line_of}

-- one more of them
pub on_more : (line : ℕ) (ps : List Part) (p : Part) → line_of p ≡ line → IsWithinLine p.piece → AllOn line ps
    → AllOn line (ps ++ (p ∷ []))
on_more line [] p l w a = (l, w, tt)
on_more line (q ∷ ps) p l w a = (a.0, a.1, on_more line ps p l w a.2)

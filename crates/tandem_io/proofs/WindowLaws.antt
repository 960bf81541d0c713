-- What is left of a window after its first bytes were given on, and when nothing is.
use Rattle.std.proofs.Common.{◌≡◌, ℕ, ◌+◌, ◌≤◌, ◌<◌, min, List, [], ◌∷◌, ◌++◌, length, drop, take, ap, sym, ◌∙◌}
use Rattle.std.proofs.Common.{refl, append_assoc, arith}
use Rattle.std.proofs.Math.Seq.{drop-nil}
use Rattle.std.specs.Prelude.{Option, Some, None}
use Rattle.std.specs.List.{slice_range}
use Rattle.std.specs.Io.KnownBytes.{Consumes, IsAtEnd, Keeps, prepend_known}
use Rattle.std.proofs.lemmas.Slice.{between_is, between_from_start}
use Rattle.std.proofs.lemmas.List.{drop-drop, length-take-le, take-append-drop}

-- the bytes after the first n of a range are a range too
pub range-drop : (xs : List ℕ) (start n end : ℕ) → slice_range xs (start + n) end ≡ drop n (slice_range xs start end)
range-drop xs start n end = rw (between_is xs (start + n) end, between_is xs start end, drop-drop)

-- a front that is empty has no bytes
pub none-taken : (n : ℕ) (xs : List ℕ) → n ≤ length xs → slice_range xs 0 n ≡ [] → n ≡ 0
none-taken n xs within empty =
    sym (length-take-le n xs within) ∙ ap (λ (ys : List ℕ). length ys) (sym (between_from_start xs n) ∙ empty)

-- where the window's bytes stand before those of the file, its first n are the first n of both
pub front-given : (old file : Option (List ℕ)) (window buf : List ℕ) (n : ℕ) → Keeps old (prepend_known window file)
    → take n buf ≡ take n window → Consumes old (prepend_known (drop n window) file) (take n buf)
front-given None file window buf n kept given = tt
front-given (Some xs) None window buf n kept given = absurd kept
front-given (Some xs) (Some ys) window buf n kept given =
    sym kept ∙ ap (λ (zs : List ℕ). zs ++ ys) (sym (take-append-drop n window))
    ∙ append_assoc (take n window) (drop n window) ys
    ∙ ap (λ (zs : List ℕ). zs ++ (drop n window ++ ys)) (sym given)

-- where there is room and nothing is given, nothing is left
pub nothing-left : (file : Option (List ℕ)) (window : List ℕ) (room n : ℕ) → n ≡ min room (length window) → 0 < room
    → (window ≡ [] → IsAtEnd file) → n ≡ 0 → IsAtEnd (prepend_known (drop n window) file)
nothing-left None window room n least some at_end none = tt
nothing-left (Some ys) [] room n least some at_end none = rw (drop-nil n) (at_end refl)
nothing-left (Some ys) (x ∷ window) room n least some at_end none = absurd (omega arith)

-- the first n bytes of a window are the first n of all that is left
pub front-taken : (file : Option (List ℕ)) (window : List ℕ) (n : ℕ)
    → Consumes (prepend_known window file) (prepend_known (drop n window) file) (take n window)
front-taken None window n = tt
front-taken (Some xs) window n =
    ap (λ (zs : List ℕ). zs ++ xs) (sym (take-append-drop n window)) ∙ append_assoc (take n window) (drop n window) xs

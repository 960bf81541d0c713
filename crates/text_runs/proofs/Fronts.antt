-- Texts that a sink takes one behind the other, or of which it takes a front.
use Rattle.std.proofs.Common.{ℕ, ◌+◌, ◌≤◌, List, ◌++◌, length, take, Option, Result, Ok, Err, arith, length-append}
use Rattle.std.proofs.KnownBytes.{Appends-trans}
use Rattle.std.proofs.Math.Seq.{take-append-add}
use Rattle.std.proofs.lemmas.List.{take-append-le}
use Rattle.std.specs.Io.KnownBytes.{Appends}
use Rattle.std.specs.Result.{OnErr}
use Rattle.text_runs.specs.Written.{TakesFront}

-- a front of the first text
pub front_first : {old new : Option (List ℕ)} {text : List ℕ} (more : List ℕ) → TakesFront old new text
    → TakesFront old new (text ++ more)
front_first {text = text} more front =
    let within : front.put ≤ length text = omega (arith, front.within) in
    record {
      put = front.put;
      within = omega (arith, front.within, length-append text more);
      took = rw (take-append-le front.put text more within) front.took;
    }

-- the first text, and a front of the second
pub front_then : {old mid new : Option (List ℕ)} (text : List ℕ) {more : List ℕ} → Appends old mid text
    → TakesFront mid new more → TakesFront old new (text ++ more)
front_then {old} {mid} {new} text {more} took front =
    let within = front.within in
    record {
      put = length text + front.put;
      within = omega (arith, length-append text more);
      took = rw (take-append-add text more front.put) (Appends-trans old mid new text
          (take front.put more) took front.took);
    }

-- a fact that holds holds of an error
pub on_err : {T E P : Type 0} (r : Result T E) → P → OnErr r P
on_err (Ok _) p = tt
on_err (Err _) p = p

pub on_err_map : {T E P Q : Type 0} (r : Result T E) → (P → Q) → OnErr r P → OnErr r Q
on_err_map (Ok _) f h = tt
on_err_map (Err _) f h = f h

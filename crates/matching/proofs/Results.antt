-- A fact about an answer, where another follows from it.
use Rattle.std.proofs.Common.{Result, Ok, Err, IfOk, OnOk, OnErr}

pub on_ok : {X E P Q : Type 0} → (r : Result X E) → OnOk r P → (P → Q) → OnOk r Q
on_ok (Ok u) p f = f p
on_ok (Err e) p f = tt

pub on_err : {X E P Q : Type 0} → (r : Result X E) → OnErr r P → (P → Q) → OnErr r Q
on_err (Ok u) p f = tt
on_err (Err e) p f = f p

pub if_ok : {X E : Type 0} {P Q : X → Type 0} → (r : Result X E) → IfOk r P → ((x : X) → P x → Q x) → IfOk r Q
if_ok (Ok x) p f = f x p
if_ok (Err e) p f = tt

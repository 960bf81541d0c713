-- One operation more.
use Rattle.std.proofs.Common.{ℕ, ◌≡◌, ◌≢◌, ◌+◌, ◌<◌, ◌≤◌, ◌==◌, Bool, true, false, None, Some, cond, refl}
use Rattle.std.proofs.Common.{sym, ap, arith}
use Rattle.std.proofs.lemmas.Bool.Decides.{nat_tests}
use Rattle.slab.specs.Slab.{Slab, get, values, Updates}
use Rattle.tandem_base.specs.declared.room.Took.TheVariants.{Yes, Full}
use Rattle.kept_ops.specs.declared.operation.KeptOp.{KeptOp}
use Rattle.kept_ops.specs.Tables.{IsWith}
use Rattle.tandem_base.specs.Room.{took}
use Rattle.kept_ops.proofs.Slots.{put_value}

pub took_full : (held capacity : ℕ) → held ≡ capacity → Full capacity ≡ took held capacity
took_full held capacity e =
    let test : (held == capacity) ≡ true = grind (arith, nat_tests, e) in
    sym (ap (λ (b : Bool). cond b (Full capacity) Yes) test)

pub took_yes : (held capacity : ℕ) → held ≢ capacity → Yes ≡ took held capacity
took_yes held capacity d =
    let test : (held == capacity) ≡ false = grind (arith, nat_tests, d) in
    sym (ap (λ (b : Bool). cond b (Full capacity) Yes) test)

pub is_with : (old new : Slab KeptOp) (key : ℕ) (o : KeptOp) → get old key ≡ None → Updates old new key (Some o)
    → IsWith o (values old) (values new)
is_with old new key o n u =
    let p = put_value old.slots new.slots key o n u.changed u.others in
    record { front = p.front; back = p.back; was = p.was; is = p.is }

-- the loop's measure falls
pub fewer : (b : Bool) (m n : ℕ) → (b ≡ true → m + 1 ≡ n) → m ≤ n → m + cond b 1 0 < n + 1
fewer true m n e l = omega (arith, e refl)
fewer false m n e l = omega arith

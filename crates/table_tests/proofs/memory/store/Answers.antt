use Rattle.std.proofs.Common.{ℕ, ◌≡◌, ◌+◌, ◌-◌, ◌/◌, ◌==◌, ◌||◌, ◌≤◌, Bool, true, false, refl, arith, sym, ◌∙◌}
use Rattle.std.proofs.lemmas.Bool.Decides.{nat_tests}
use Rattle.tandem_base.specs.Extents.{is_among}
use Rattle.byte_memory.specs.Memory.{is_ready}
use Rattle.table_tests.proofs.memory.store.Goals as goal

of_either : (old : Bool) (x addr len : ℕ) → is_among addr len x ≡ true → len ≤ 8
    → ((old || (x / 64 == addr / 64)) || (x / 64 == (addr + len - 1) / 64)) ≡ true
of_either true x addr len i l = refl
of_either false x addr len i l = grind (arith, nat_tests)

pub store-requires-clause-ready : goal.store-requires-clause-ready
store-requires-clause-ready c =
    let few = c.len.ensures.sized in
    λ x i. rw (c.in_ok-ready-2.ensures.ok x, c.in_ok-ready.ensures.ok x, c.from.ensures, c.len.ensures.value)
    (of_either (is_ready c.args.memory.now x) x c.args.addr _ i (omega (arith, few, c.len.ensures.value)))

use Rattle.std.proofs.Common.{◌≡◌, ◌+◌, ℕ, List, sym, subst, arith}
use Rattle.store_buffer.specs.declared.store.Store.{Store}
use Rattle.store_buffer.specs.Stores.{AllTagged, open_stores}
use Rattle.store_buffer.proofs.Rising.{tagged_more, tagged_after, swept_after}
use Rattle.drain_rules.proofs.tests.retire.Goals as goal

two_more : (tag : ℕ) (ss : List Store) → AllTagged (tag + 1) ss → AllTagged (tag + 2) ss
two_more tag ss a =
    let e : tag + 1 + 1 ≡ tag + 2 = omega arith in
    subst (λ (n : ℕ). AllTagged n ss) e (tagged_more (tag + 1) ss a)

pub returns-in_err-bytes-clause-newest : goal.returns-in_err-bytes-clause-newest
returns-in_err-bytes-clause-newest c =
    two_more c.args.tag c.args.stores.now.stores (tagged_more c.args.tag c.args.stores.now.stores c.requires.newest)

pub returns-then-from-clause-newest : goal.returns-then-from-clause-newest
returns-then-from-clause-newest c =
    two_more c.args.tag c.args.stores.now.stores (tagged_more c.args.tag c.args.stores.now.stores c.requires.newest)

pub returns-clause-newest : goal.returns-clause-newest
returns-clause-newest c = subst (λ (ss : List Store). AllTagged (c.args.tag + 2) ss) (sym c.retire.ensures.stores)
    (two_more c.args.tag _
    (tagged_after c.retire.result c.args.tag _ _ c.args.stores.now.stores c.requires.newest))

pub returns-clause-swept : goal.returns-clause-swept
returns-clause-swept c = subst (λ (ss : List Store). open_stores ss ≡ ss) (sym c.retire.ensures.stores)
    (swept_after c.retire.result c.args.tag _ _ c.args.stores.now.stores
    (omega (arith, c.len.ensures.value, c.len.ensures.sized)) c.requires.swept)

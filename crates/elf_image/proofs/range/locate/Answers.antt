use Rattle.std.proofs.Common.{◌<◌, ◌≤◌, ◌+◌, ◌-◌, length, get_or, arith}
use Rattle.std.proofs.lemmas.Bool.{and_from, le-leb, lt-ltb}
use Rattle.std.proofs.lemmas.List.{get_or_default}
use Rattle.elf_image.specs.declared.range.Range.{Range}
use Rattle.elf_image.proofs.Located.{not_held, not_begun}
use Rattle.elf_image.proofs.range.locate.Goals as goal

abbrev nowhere : Range
nowhere = record { base = 0; size = 0; start = 0; len = 0 }

pub returns-then-after-eq0-clause-none : goal.returns-then-after-eq0-clause-none
returns-then-after-eq0-clause-none c =
    not_begun _ _ (λ k d low high. c.first_after-after.ensures.after k d (omega arith) high)

pub overflow_sub-addr : goal.overflow_sub-addr
overflow_sub-addr c =
    c.first_after-after.ensures.before (c.first_after-after.result - 1) nowhere (omega arith) (omega arith)

pub returns-then-addr-range-clause-found : goal.returns-then-addr-range-clause-found
returns-then-addr-range-clause-found c =
    let ranges = c.args.ranges.now in
    let i = c.first_after-after.result - 1 in
    let r = get_or ranges i nowhere in
    let below : i < length ranges = omega (arith, c.first_after-after.ensures.bound) in
    let begun : r.base ≤ c.args.addr = c.first_after-after.ensures.before i nowhere (omega arith) (omega arith) in
    let inside : c.args.addr < r.base + r.size = omega arith in (
      (i, below, get_or_default ranges i r nowhere below),
      and_from _ _ (le-leb r.base c.args.addr begun) (lt-ltb c.args.addr (r.base + r.size) inside),
    )

pub returns-else-addr-range-clause-none : goal.returns-else-addr-range-clause-none
returns-else-addr-range-clause-none c =
    let ranges = c.args.ranges.now in
    let i = c.first_after-after.result - 1 in
    let r = get_or ranges i nowhere in
    let below : i < length ranges = omega (arith, c.first_after-after.ensures.bound) in
    let begun : r.base ≤ c.args.addr = c.first_after-after.ensures.before i nowhere (omega arith) (omega arith) in
    let past : r.base + r.size ≤ c.args.addr = omega arith in
    not_held ranges i c.args.addr nowhere c.requires below past
    (λ k d low high. c.first_after-after.ensures.after k d (omega arith) high)

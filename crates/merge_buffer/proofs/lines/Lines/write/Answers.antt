use Rattle.std.proofs.Common.{ℕ, ◌≡◌, ◌==◌, ◌/◌, ◌++◌, List, [], ap, sym, subst, ◌∙◌, arith, if◌then◌else◌, Option}
use Rattle.slab.specs.Slab.{get}
use Rattle.key_tree.specs.Entries.{number_at}
use Rattle.merge_buffer.specs.declared.waiting.Part.{Part}
use Rattle.merge_buffer.specs.Parts.{DiffersAt, Matches}
use Rattle.merge_buffer.specs.Chains.{IsChain, parts_on}
use Rattle.merge_buffer.specs.Buffers.{Buffer, waiting_on}
use Rattle.merge_buffer.proofs.Sound.{parts_are, chained_less, parts_less}
use Rattle.merge_buffer.proofs.Writes.{lines_are, matches, differs}
use Rattle.merge_buffer.proofs.lines.Lines.write.Goals as goal

pub returns-in-Some-clause-differs : goal.returns-in-Some-clause-differs
returns-in-Some-clause-differs c =
    let l = c.self.inside in
    let line = c.args.write.now.line / 64 in
    let on = c.self.invariant.0.chains line in
    let is : waiting_on c.args.self.now line ≡ on.parts =
    ap (λ (b : Buffer). waiting_on b line) (sym c.self.view_is)
    ∙ lines_are l.capacity l.waiting l.newest.entries line
    ∙ parts_are l.capacity l.waiting (number_at l.newest line) line on c.self.invariant.1 in
    let chain : IsChain (get l.waiting) c.get-head.result on.parts = subst
    (λ (o : Option ℕ). IsChain (get l.waiting) o on.parts) (sym c.get-head.ensures.number) on.chain in
    subst (λ (ps : List Part). DiffersAt ps c.args.write.now c.in-Some.difference) (sym is)
    (differs on.parts c.merge-merged.result c.args.write.now line (omega arith) (c.merge-merged.ensures on.parts chain)
    c.in-Some.difference c.in-Some.ensures.some)

pub returns-clause-matches : goal.returns-clause-matches
returns-clause-matches c =
    let l = c.self.inside in
    let line = c.args.write.now.line / 64 in
    let on = c.self.invariant.0.chains line in
    let is : waiting_on c.args.self.now line ≡ on.parts =
    ap (λ (b : Buffer). waiting_on b line) (sym c.self.view_is)
    ∙ lines_are l.capacity l.waiting l.newest.entries line
    ∙ parts_are l.capacity l.waiting (number_at l.newest line) line on c.self.invariant.1 in
    let chain : IsChain (get l.waiting) c.get-head.result on.parts = subst
    (λ (o : Option ℕ). IsChain (get l.waiting) o on.parts) (sym c.get-head.ensures.number) on.chain in
    subst (λ (ps : List Part). Matches ps c.args.write.now) (sym is)
    (matches on.parts c.merge-merged.result c.args.write.now line (omega arith) (c.merge-merged.ensures on.parts chain)
    c.in_default.ensures.none)

pub returns-clause-drained : goal.returns-clause-drained
returns-clause-drained c =
    let l = c.self.inside in
    let line = c.args.write.now.line / 64 in
    let on = c.self.invariant.0.chains line in
    let is : waiting_on c.args.self.now line ≡ on.parts =
    ap (λ (b : Buffer). waiting_on b line) (sym c.self.view_is)
    ∙ lines_are l.capacity l.waiting l.newest.entries line
    ∙ parts_are l.capacity l.waiting (number_at l.newest line) line on c.self.invariant.1 in
    let chain : IsChain (get l.waiting) c.get-head.result on.parts = subst
    (λ (o : Option ℕ). IsChain (get l.waiting) o on.parts) (sym c.get-head.ensures.number) on.chain in
    c.drain.ensures.drained on.parts chain ∙ ap (λ (xs : List Part). xs ++ on.parts) c.clear.ensures.items ∙ sym is

pub returns-clause-waits : goal.returns-clause-waits
returns-clause-waits c = λ q.
    let l = c.self.inside in
    let line = c.args.write.now.line / 64 in
    let on = c.self.invariant.0.chains line in
    let chain : IsChain (get l.waiting) c.get-head.result on.parts = subst
    (λ (o : Option ℕ). IsChain (get l.waiting) o on.parts) (sym c.get-head.ensures.number) on.chain in
    let count = c.drain.ensures.count on.parts chain in
    let is : waiting_on c.args.self.now q ≡ parts_on l.capacity l.waiting l.newest q =
    ap (λ (b : Buffer). waiting_on b q) (sym c.self.view_is)
    ∙ lines_are l.capacity l.waiting l.newest.entries q in
    lines_are l.capacity c.drain.new.waiting c.take.new.self.entries q
    ∙ parts_less l.capacity l.waiting c.drain.new.waiting l.newest c.take.new.self line c.self.invariant.0
    (omega (arith, count)) c.self.invariant.1 c.drain.ensures.others c.take.ensures.numbers q
    ∙ ap (λ (xs : List Part). if q == line then [] else xs) (sym is)

pub invariant_of-self : goal.invariant_of-self
invariant_of-self c =
    let l = c.self.inside in
    let line = c.args.write.now.line / 64 in
    let on = c.self.invariant.0.chains line in
    let chain : IsChain (get l.waiting) c.get-head.result on.parts = subst
    (λ (o : Option ℕ). IsChain (get l.waiting) o on.parts) (sym c.get-head.ensures.number) on.chain in
    let count = c.drain.ensures.count on.parts chain in (
      chained_less l.capacity l.waiting c.drain.new.waiting l.newest c.take.new.self line c.self.invariant.0
          (omega (arith, count)) c.self.invariant.1 c.drain.ensures.others c.take.ensures.numbers,
      omega (arith, count, c.self.invariant.1),
      omega (arith, c.drain.ensures.capacity, c.self.invariant.2),
      c.take.ensures.capacity ∙ c.self.invariant.3,
      omega (arith, c.drain.ensures.room, c.clear.ensures.capacity, c.self.invariant.4),
    )

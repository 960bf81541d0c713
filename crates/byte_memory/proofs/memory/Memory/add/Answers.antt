use Rattle.std.proofs.Common.{ℕ, ◌≡◌, ◌∙◌, ◌+◌, ◌++◌, ◌∷◌, [], List, ap, length, arith}
use Rattle.key_tree.specs.Entries.{number_at, put}
use Rattle.byte_memory.specs.declared.line.Line.{Line}
use Rattle.byte_memory.proofs.Found.{there_grown, back_grown, ready_grown, written_grown}
use Rattle.byte_memory.proofs.memory.Memory.add.Goals as goal

module _ (c : goal.After-put) where
  numbers : c.push_reserved.new.self.items ≡ c.args.self.now.numbers.items ++ c.args.line ∷ []
  numbers = c.push_reserved.ensures.items ∙ ap (λ (ns : List ℕ). ns ++ c.args.line ∷ []) c.reserve-2.ensures.items

  lines : c.push_reserved-2.new.self.items ≡ c.args.self.now.lines.items ++ c.new.result ∷ []
  lines = c.push_reserved-2.ensures.items ∙ ap (λ (ls : List Line). ls ++ c.new.result ∷ []) c.reserve-3.ensures.items

  at : c.len-at.result ≡ length c.args.self.now.lines.items
  at = c.len-at.ensures ∙ c.reserve-3.ensures.len ∙ c.args.self.now.lines.ok.0

  puts : (q : ℕ) → number_at c.put.new.self q ≡ put c.args.line (length c.args.self.now.lines.items)
      c.args.self.now.index.entries q
  puts q = rw (← at, ← c.reserve.ensures.entries) (c.put.ensures.numbers q)

pub invariant_of-self-2 : goal.invariant_of-self-2
invariant_of-self-2 c =
    let m = c.args.self.now in record {
      whole = omega (
        arith,
        m.whole,
        m.numbers.ok.0,
        m.lines.ok.0,
        c.reserve-2.ensures.len,
        c.reserve-3.ensures.len,
        c.push_reserved.ensures.len,
        c.push_reserved-2.ensures.len,
        c.push_reserved.new.self.ok.0,
        c.push_reserved-2.new.self.ok.0,
      );
      there = rw (numbers c) (there_grown m.numbers.items m.lines.items m.index m.whole m.there m.back c.put.new.self
          c.args.line c.requires (puts c) c.new.result);
      back = rw (numbers c) (back_grown m.numbers.items m.lines.items m.index m.whole m.there m.back c.put.new.self
          c.args.line c.requires (puts c) c.new.result);
    }

pub returns-clause-ok : goal.returns-clause-ok
returns-clause-ok c =
    let m = c.args.self.now in
    λ x. rw (lines c.before) (ready_grown m.numbers.items m.lines.items m.index m.whole m.there m.back c.put.new.self
    c.args.line c.requires (puts c.before) c.new.result x)

pub returns-clause-written : goal.returns-clause-written
returns-clause-written c =
    let m = c.args.self.now in
    λ x. rw (lines c.before) (written_grown m.numbers.items m.lines.items m.index m.whole m.there m.back c.put.new.self
    c.args.line c.requires (puts c.before) c.new.result c.new.ensures x)

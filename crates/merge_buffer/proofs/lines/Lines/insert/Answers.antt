use Rattle.std.proofs.Common.{ℕ, ◌≡◌, List, ap, sym, subst, ◌∙◌}
use Rattle.merge_buffer.specs.declared.waiting.Part.{Part}
use Rattle.merge_buffer.specs.Parts.{AllBelow, parts_with, line_of}
use Rattle.merge_buffer.specs.Chains.{parts_on}
use Rattle.merge_buffer.specs.Buffers.{Buffer, waiting_on}
use Rattle.merge_buffer.proofs.Writes.{lines_are}
use Rattle.merge_buffer.proofs.lines.Lines.insert.Goals as goal

pub add-requires-clause-newer : goal.add-requires-clause-newer
add-requires-clause-newer c =
    let l = c.self.inside in
    let p : Part = record { tag = c.args.tag; piece = c.args.piece.now; number = c.args.number } in
    let is : waiting_on c.args.self.now (line_of p) ≡ parts_on l.capacity l.waiting l.newest (line_of p) =
    ap (λ (b : Buffer). waiting_on b (line_of p)) (sym c.self.view_is)
    ∙ lines_are l.capacity l.waiting l.newest.entries (line_of p) in
    subst (λ (n : ℕ). AllBelow c.args.number (parts_on n l.waiting l.newest (line_of p))) (sym c.self.invariant.3)
    (subst (λ (xs : List Part). AllBelow c.args.number xs) is c.requires.newer)

pub returns-clause-waits : goal.returns-clause-waits
returns-clause-waits c = λ line.
    let l = c.self.inside in
    let p : Part = record { tag = c.args.tag; piece = c.args.piece.now; number = c.args.number } in
    let is : waiting_on c.args.self.now line ≡ parts_on l.capacity l.waiting l.newest line =
    ap (λ (b : Buffer). waiting_on b line) (sym c.self.view_is)
    ∙ lines_are l.capacity l.waiting l.newest.entries line in
    lines_are l.capacity c.add.new.waiting c.add.new.newest.entries line
    ∙ subst (λ (n : ℕ). parts_on n c.add.new.waiting c.add.new.newest line
    ≡ parts_with p line (parts_on n l.waiting l.newest line)) c.self.invariant.3 (c.add.ensures.parts line)
    ∙ ap (parts_with p line) (sym is)

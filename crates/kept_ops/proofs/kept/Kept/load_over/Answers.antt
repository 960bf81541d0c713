use Rattle.std.proofs.Common.{ap, sym, ◌∙◌, option_copied}
use Rattle.slab.specs.Slab.{get, values}
use Rattle.kept_ops.specs.declared.byte_keys.ByteKeys.{ByteKeys}
use Rattle.kept_ops.specs.Doublewords.{op_at}
use Rattle.kept_ops.specs.Marks.{ByteMarks, over}
use Rattle.kept_ops.proofs.Changes.{seen}
use Rattle.kept_ops.proofs.Knowing.{load_known}
use Rattle.kept_ops.proofs.Seen.{marks_seen}
use Rattle.kept_ops.proofs.kept.Kept.load_over.Goals as goal

pub returns-clause-mark : goal.returns-clause-mark
returns-clause-mark c = rw (← c.self.view_is) (c.over.ensures
    ∙ ap (λ (k : ByteKeys). over c.args.after (op_at (get c.self.inside.ops) k.load)) c.at-keys.ensures
    ∙ sym (ap (λ (m : ByteMarks). over c.args.after m.load)
    (marks_seen (get c.self.inside.ops) c.self.inside.words.words c.self.inside.words.index c.args.addr)))

pub returns-clause-latest : goal.returns-clause-latest
returns-clause-latest c = rw (← c.self.view_is) (λ since h.
    load_known c.args.addr (values c.self.inside.ops) since
    (seen (get c.self.inside.ops) c.self.inside.words c.args.addr) h c.args.after (option_copied c.over.result)
    (c.over.ensures
    ∙ ap (λ (k : ByteKeys). over c.args.after (op_at (get c.self.inside.ops) k.load)) c.at-keys.ensures
    ∙ sym (ap (λ (m : ByteMarks). over c.args.after m.load)
    (marks_seen (get c.self.inside.ops) c.self.inside.words.words c.self.inside.words.index c.args.addr))))

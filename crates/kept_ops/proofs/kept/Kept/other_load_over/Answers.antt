use Rattle.std.proofs.Common.{Option, ap, sym, ◌∙◌, option_copied}
use Rattle.slab.specs.Slab.{get, values}
use Rattle.kept_ops.specs.declared.byte_keys.ByteKeys.{ByteKeys}
use Rattle.kept_ops.specs.declared.operation.KeptOp.{KeptOp}
use Rattle.kept_ops.specs.Doublewords.{op_at}
use Rattle.kept_ops.specs.Marks.{ByteMarks, other_than, over}
use Rattle.kept_ops.proofs.Changes.{seen}
use Rattle.kept_ops.proofs.Knowing.{other_known}
use Rattle.kept_ops.proofs.Seen.{marks_seen}
use Rattle.kept_ops.proofs.kept.Kept.other_load_over.Goals as goal

pub returns-clause-mark : goal.returns-clause-mark
returns-clause-mark c = rw (← c.self.view_is) (c.over.ensures
    ∙ ap (λ (o : Option KeptOp). over c.args.after o) c.other_key-mark.ensures
    ∙ ap (λ (k : ByteKeys). over c.args.after (other_than c.args.addr c.args.source
    (op_at (get c.self.inside.ops) k.load) (op_at (get c.self.inside.ops) k.other))) c.at-keys.ensures
    ∙ sym (ap (λ (m : ByteMarks). over c.args.after (other_than c.args.addr c.args.source m.load m.other))
    (marks_seen (get c.self.inside.ops) c.self.inside.words.words c.self.inside.words.index c.args.addr)))

pub returns-clause-latest : goal.returns-clause-latest
returns-clause-latest c = rw (← c.self.view_is) (λ since h.
    other_known c.args.addr (values c.self.inside.ops) since
    (seen (get c.self.inside.ops) c.self.inside.words c.args.addr) h c.args.after (option_copied c.over.result)
    c.args.source (c.over.ensures
    ∙ ap (λ (o : Option KeptOp). over c.args.after o) c.other_key-mark.ensures
    ∙ ap (λ (k : ByteKeys). over c.args.after (other_than c.args.addr c.args.source
    (op_at (get c.self.inside.ops) k.load) (op_at (get c.self.inside.ops) k.other))) c.at-keys.ensures
    ∙ sym (ap (λ (m : ByteMarks). over c.args.after (other_than c.args.addr c.args.source m.load m.other))
    (marks_seen (get c.self.inside.ops) c.self.inside.words.words c.self.inside.words.index c.args.addr))))

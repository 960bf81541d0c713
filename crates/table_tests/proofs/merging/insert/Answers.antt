use Rattle.std.proofs.Common.{◌+◌, List, sym, subst, arith}
use Rattle.merge_buffer.specs.declared.waiting.Part.{Part}
use Rattle.merge_buffer.specs.Parts.{AllBelow}
use Rattle.merge_buffer.proofs.Upward.{still, after}
use Rattle.table_tests.proofs.merging.insert.Goals as goal

pub returns-in_err-bytes : goal.returns-in_err-bytes
returns-in_err-bytes c = λ line. still _ _ (c.requires line)

pub returns-then-addr-from-gt64 : goal.returns-then-addr-from-gt64
returns-then-addr-from-gt64 c = λ line. still _ _ (c.requires line)

pub returns : goal.returns
returns c = λ line. subst (λ (ps : List Part). AllBelow (c.args.number + 1) ps) (sym (c.insert.ensures.waits line))
    (after _ _ line c.args.number _ (omega arith) (c.requires line))

use Rattle.std.proofs.Common.{◌∙◌}
use Rattle.elf_image.specs.Images.{loaded_of}
use Rattle.gen_runs.proofs.Accepted.{also_accepted}
use Rattle.gen_runs.proofs.verdict.judge_made.Goals as goal

-- where no byte is named the verdict accepts
pub returns-clause-accepted : goal.returns-clause-accepted
returns-clause-accepted c =
    also_accepted c.args.seed c.args.harts c.args.count c.args.flip (loaded_of c.in_ok-stream.stream.image)
    c.deref.result.now c.judge_bytes.result c.requires c.in_ok-stream.ensures.image
    (c.deref.ensures.value ∙ c.in_ok-stream.ensures.bytes)
    c.judge_bytes.ensures

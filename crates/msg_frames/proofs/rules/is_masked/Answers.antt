use Rattle.msg_frames.proofs.Masked.{masked_tells}
use Rattle.msg_frames.proofs.rules.is_masked.Goals as goal

pub returns : goal.returns
returns c = masked_tells c.args.mask c.args.bytes.now c.unmasked_zeros.result c.is_ok.result c.requires
    c.unmasked_zeros.ensures c.is_ok.ensures.value

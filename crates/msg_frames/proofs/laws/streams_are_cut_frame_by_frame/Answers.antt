use Rattle.msg_frames.proofs.CutLaws.{cut_short, cut_bad, cut_end, cut_message, whole_read}
use Rattle.msg_frames.proofs.laws.streams_are_cut_frame_by_frame.Goals as goal

pub returns-clause-short : goal.returns-clause-short
returns-clause-short c = cut_short

pub returns-clause-bad : goal.returns-clause-bad
returns-clause-bad c = λ frame rest fault whole is. cut_bad frame rest fault whole is

pub returns-clause-end : goal.returns-clause-end
returns-clause-end c = λ frame rest m is last. cut_end frame rest m (whole_read frame m is) is last

pub returns-clause-message : goal.returns-clause-message
returns-clause-message c = λ frame rest m is more. cut_message frame rest m (whole_read frame m is) is more

use Rattle.std.specs.List.{All}
use Rattle.msg_frames.specs.Frames.{Fits}
use Rattle.trace_rows.proofs.messages_of.Given as goal

abbrev pub invariant-loop : goal.invariant-loop
invariant-loop l = All Fits l.messages

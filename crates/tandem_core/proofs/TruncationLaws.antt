-- No message ends with the verdict that the stream ended within a frame.
use Rattle.std.proofs.Common.{◌≡◌, Bool, true, false, List, ◌∷◌, None, Some, ap, ◌∙◌}
use Rattle.std.specs.Prelude.{if◌then◌else◌, option_map}
use Rattle.std.specs.declared.option.Option.{Option}
use Rattle.msg_frames.specs.declared.message.Message.{Message}
use Rattle.msg_frames.specs.Cut.{is_end}
use Rattle.elf_image.specs.Images.{Loaded}
use Rattle.verdict_report.specs.declared.fault.Fault.{Fault}
use Rattle.verdict_report.specs.declared.verdict.Report.{Report}
use Rattle.verdict_report.specs.declared.verdict.Verdict.{Verdict}
use Rattle.verdict_report.specs.declared.verdict.Verdict.TheVariants as verdict
use Rattle.tandem_base.specs.FirstFault.{◌or_else◌}
use Rattle.order_laws.specs.Decisions.{Offends, Passes, Accepts}
use Rattle.order_laws.specs.Faults.{message_fault}
use Rattle.order_laws.specs.Limits.{Overrun, overrun_of}
use Rattle.tandem_core.specs.declared.limits.Limits.{Limits}
use Rattle.tandem_core.specs.Judgements.{bounds_of, report_of, verdict_of, verdict_at}
use Rattle.tandem_core.specs.Judging.{TellsTruncation}
use Rattle.tandem_core.proofs.OtherFaults.{IsOther, message_other}

-- the verdict at a message of such a fault
decided_other : (image : Loaded) (before : List Message) (m : Message) (f : Option Fault) (o : Option Overrun)
    (ends : Bool) (v : Verdict) → IsOther f
    → option_map (verdict_of image before m) (option_map Offends f or_else option_map Passes o
    or_else (if ends then Some Accepts else None)) ≡ Some v → TellsTruncation v → ⊥
decided_other image before m f o ends (verdict.Accept messages retired operations) other is tells = tells
decided_other image before m f o ends (verdict.Undecided message limit hart count) other is tells = tells
decided_other image before m (Some f) o ends (verdict.Reject report) other is tells =
    let same : report_of before m f ≡ report = cc in
    other.other tells.0 (ap Some (ap (λ (r : Report). r.fault) same ∙ tells.1))
decided_other image before m None (Some o) ends (verdict.Reject report) other is tells = absurd (cc)
decided_other image before m None None true (verdict.Reject report) other is tells = absurd (cc)
decided_other image before m None None false (verdict.Reject report) other is tells = absurd (cc)

-- the verdict that ends with a message doesn't tell that the stream ended within a frame
pub message_tells_no_truncation : (image : Loaded) (limits : Limits) (before : List Message) (m : Message) (v : Verdict)
    → verdict_at image limits before m ≡ Some v → TellsTruncation v → ⊥
message_tells_no_truncation image limits before m v is tells =
    decided_other image before m (message_fault image before m)
    (overrun_of image (bounds_of limits) (m ∷ before) m.head.hart) (is_end m.body) v (message_other image before m) is
    tells

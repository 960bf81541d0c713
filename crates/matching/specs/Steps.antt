-- The step of a hart at its Retire, as it is kept between the look at the message and its taking.
use Rattle.std.specs.Prelude.{◌≡◌, List}
use Rattle.msg_frames.specs.declared.message.Head.{Head}
use Rattle.msg_frames.specs.declared.message.Retire.{Retire}
use Rattle.msg_frames.specs.declared.message.Body.{Body}
use Rattle.msg_frames.specs.declared.message.Body.TheVariants as body
use Rattle.msg_frames.specs.declared.message.Message.{Message}
use Rattle.elf_image.specs.Images.{Loaded}
use Rattle.rv_step.specs.Plans.{plan_seen}
use Rattle.matching.specs.declared.step.Step.{Step}
use Rattle.matching.specs.Runs.{plan_at, effect_at, bypass_at}

-- the step of the instruction of a Retire after these messages: what it is to do, what it does, its early Bypass
pub record StepIs (image : Loaded) (before : List Message) (head : Head) (retire : Retire) (step : Step) : Type 0 where
  pub plan : plan_seen step.plan ≡ plan_at image before head.hart
  pub effect : step.effect ≡ effect_at image before head retire
  pub bypass : step.bypass ≡ bypass_at before head

-- the same where the message is a Retire; the others have no step
abbrev pub IsStep : Loaded → List Message → Head → Body → Step → Type 0
IsStep image before head (body.Open info) step = Unit {0}
IsStep image before head (body.Poke poke) step = Unit {0}
IsStep image before head (body.Read piece) step = Unit {0}
IsStep image before head (body.Insert piece) step = Unit {0}
IsStep image before head (body.Write write) step = Unit {0}
IsStep image before head (body.Bypass piece) step = Unit {0}
IsStep image before head (body.Retire retire) step = StepIs image before head retire step
IsStep image before head body.Squash step = Unit {0}
IsStep image before head body.End step = Unit {0}

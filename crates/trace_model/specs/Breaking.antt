-- Which messages may break the order of memory.
use Rattle.std.specs.Prelude.{is_some, not, List, Bool, true, false}
use Rattle.msg_frames.specs.declared.message.Head.{Head}
use Rattle.msg_frames.specs.declared.message.Body.{Body}
use Rattle.msg_frames.specs.declared.message.Body.TheVariants as body
use Rattle.msg_frames.specs.declared.message.Message.{Message}
use Rattle.elf_image.specs.Images.{Loaded}
use Rattle.rv_step.specs.Steps.{Doing, trap, plain, counter, load, store, lr, sc, amo}
use Rattle.matching.specs.Runs.{bypass_at, doing_at}
use Rattle.matching.specs.Tags.{is_early}

-- the retirement of an instruction may break the order: that of one that loads, or of an SC that stored. A plain store
-- is performed later, and every other instruction has no operation
abbrev pub may_break_retiring : Bool → Doing → Bool
may_break_retiring stored (trap cause value) = false
may_break_retiring stored (plain i) = false
may_break_retiring stored (counter i) = false
may_break_retiring stored (load i addr len) = true
may_break_retiring stored (store i addr len) = false
may_break_retiring stored (lr i addr len) = true
may_break_retiring stored (sc i addr len) = stored
may_break_retiring stored (amo i addr len) = true

-- a message may break the order: it retires such an instruction, or performs stores of instructions that retired
abbrev pub may_break : Loaded → List Message → Head → Body → Bool
may_break image before head (body.Open info) = false
may_break image before head (body.Poke poke) = false
may_break image before head (body.Read piece) = false
may_break image before head (body.Insert piece) = false
may_break image before head (body.Write write) = true
may_break image before head (body.Bypass piece) = not (is_early before head)
may_break image before head (body.Retire retire) =
    may_break_retiring (is_some (bypass_at before head)) (doing_at image before head.hart)
may_break image before head body.Squash = false
may_break image before head body.End = false

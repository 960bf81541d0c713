-- Each made stream is accepted, where as many messages as it has may come.
use Rattle.std.proofs.Common.{ℕ, ◌≡◌, ◌≤◌, List, [], ◌∷◌, length, reverse, All, Some, arith}
use Rattle.std.proofs.lemmas.List.{length-reverse}
use Rattle.msg_frames.specs.declared.message.Message.{Message}
use Rattle.msg_frames.specs.Frames.{Fits}
use Rattle.elf_image.specs.Images.{Loaded}
use Rattle.order_laws.specs.Decisions.{Accepts, first_decision}
use Rattle.order_laws.specs.Limits.{StaysInBounds, messages_up_to}
use Rattle.order_laws.proofs.FirstDecisions.{accepts_exactly_lawful}
use Rattle.trace_gen.specs.Program.{made_image}
use Rattle.trace_gen.specs.Making.{CanMake, made_messages}
use Rattle.trace_gen.proofs.Sound.{made_spelled}
use Rattle.gen_order_laws.proofs.Lawful.{made_lawful}

stays : (image : Loaded) (n : ℕ) (ms : List Message) → length ms ≤ n → StaysInBounds image (messages_up_to n) ms
stays image n [] le = tt
stays image n (m ∷ ms) le =
    (stays image n ms (omega (arith, le)), record { reads = λ h. tt; stores = λ h. tt; kept = λ h. tt; number = le })

pub made_accepted : (seed harts rounds n : ℕ) → CanMake harts rounds → length (made_messages seed harts rounds) ≤ n
    → first_decision made_image (messages_up_to n) [] (made_messages seed harts rounds)
    ≡ Some (record { number = length (made_messages seed harts rounds); decision = Accepts })
made_accepted seed harts rounds n can le =
    let ms = made_messages seed harts rounds in
    let fits : All Fits ms = λ k d lt. (made_spelled seed harts rounds can k d lt).fits in
    (accepts_exactly_lawful made_image (messages_up_to n) ms fits).1 (
      made_lawful seed harts rounds can,
      stays made_image n (reverse ms) (omega (arith, le, length-reverse ms)),
    )

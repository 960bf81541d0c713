-- The frames of a made stream are cut into its messages.
use Rattle.std.proofs.Common.{◌≡◌, ℕ, ◌*◌, ◌^◌, ◌<◌, List, [], ◌∷◌, length, ap, ◌∙◌, refl, arith, lit<}
use Rattle.std.specs.List.{All, flat_map}
use mathlib.Core.List.{reverse_aux}
use Rattle.std.proofs.lemmas.List.{length-reverse}
use Rattle.std.proofs.lemmas.List.Elements.{All-head, All-tail}
use Rattle.msg_frames.specs.declared.message.Message.{Message}
use Rattle.msg_frames.specs.Frames.{frame}
use Rattle.msg_frames.specs.Cut.{End, cut, put_front}
use Rattle.msg_frames.proofs.Frames.{reading_frame}
use Rattle.msg_frames.proofs.CutLaws.{cut_message, cut_end, whole_frame}
use Rattle.trace_gen.specs.Schedule.{said}
use Rattle.trace_gen.specs.Making.{CanMake, moment_of, made_messages, ends}
use Rattle.trace_gen.proofs.Fitting.{end_said, said_spells}
use Rattle.trace_gen.proofs.Numbers.{made_number}
use Rattle.trace_gen.proofs.Sound.{IsSpelled, sound_at}
use Rattle.gen_order_laws.proofs.Ends.{IsNoEnd, none_ends}
use Rattle.gen_runs.specs.Verdicts.{made_bytes}

-- the frames of these messages are cut into just them, up to an End
abbrev IsCutUp : List Message → Type 0
IsCutUp ms = cut (flat_map frame ms) ≡ record { messages = ms; ending = End }

-- so are those of more messages before them, none of which is an End
more_cut : (before later : List Message) → All IsSpelled before → All IsNoEnd before → IsCutUp later
    → IsCutUp (reverse_aux before later)
more_cut [] later spelled none is = is
more_cut (m ∷ before) later spelled none is =
    let own = All-head IsSpelled m before spelled in
    let front : IsCutUp (m ∷ later) =
    cut_message (frame m) (flat_map frame later) m (whole_frame m own.fits own.holds)
    (reading_frame m own.fits own.holds) (All-head IsNoEnd m before none)
    ∙ ap (put_front m) is in
    more_cut before (m ∷ later) (All-tail IsSpelled m before spelled) (All-tail IsNoEnd m before none) front

pub made_cut : (seed harts rounds : ℕ) → CanMake harts rounds
    → cut (made_bytes seed harts rounds) ≡ record { messages = made_messages seed harts rounds; ending = End }
made_cut seed harts rounds can =
    let n = 13 * harts * rounds in
    let before = (moment_of seed harts rounds n).messages in
    let last : Message = record {
      head = record { hart = 0; time = length before; tag = ends.tag };
      body = ends.body;
    } in
    let spelled = (sound_at seed harts rounds n can.0 can.1 can.3 (omega arith)).spelled in
    let time : length before < 2 ^ 64 =
    omega (arith, length-reverse (said 0 before ends), made_number seed harts rounds, can.1, can.3) in
    let all : All IsSpelled (last ∷ before) =
    said_spells 0 before ends (lit< tt) time end_said spelled in
    let own = All-head IsSpelled last before all in
    more_cut before (last ∷ []) spelled (none_ends seed harts rounds n (omega arith))
    (cut_end (frame last) [] last (whole_frame last own.fits own.holds) (reading_frame last own.fits own.holds) refl)

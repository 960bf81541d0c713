-- All messages of a list match exactly where the stream is well-formed, every retirement is the step, every store that
-- retired is written, and every successful SC has its LR.
use Rattle.std.proofs.Common.{◌≡◌, ◌↔◌, Bool, true, false, ◌&&◌, List, [], ◌∷◌, All, None, refl}
use Rattle.std.proofs.Common.{sym}
use Rattle.std.proofs.Common.{◌∙◌}
use Rattle.std.proofs.lemmas.Bool.{false≢true, and_parts, and_from}
use Rattle.std.proofs.lemmas.List.Elements.{All-head, All-tail}
use Rattle.msg_frames.specs.declared.message.Head.{Head}
use Rattle.msg_frames.specs.declared.message.Body.{Body}
use Rattle.msg_frames.specs.declared.message.Body.TheVariants as body
use Rattle.msg_frames.specs.declared.message.Message.{Message}
use Rattle.msg_frames.specs.Cut.{is_end}
use Rattle.elf_image.specs.Images.{Loaded}
use Rattle.matching.specs.Matching.{IsClean, match_fault, stream_fault_of, body_fault_of}
use Rattle.matching.specs.Matching.{part_fault_of, bypass_fault_at}
use Rattle.matching.specs.Fates.{waiting}
use Rattle.matching.specs.PartFaults.{late_fault_of, read_range_fault, insert_range_fault, is_in_space}
use Rattle.matching.specs.PartFaults.{bypass_range_fault, is_in_image, is_in_line}
use Rattle.matching.specs.Tags.{last_tag, is_early}
use Rattle.order_laws.specs.Formed.{IsInStream, IsFitting, IsWellFormed}
use Rattle.order_laws.specs.Lawful.{MatchedInWords}
use Rattle.order_laws.specs.Stepped.{ReportsStep, AreSteps, IsPairedAt, ArePaired, AreWritten}
use Rattle.order_laws.proofs.FormedParts.{stream_is, poke_is, late_is, range_is, part_is, bypass_is, merge_is}
use Rattle.order_laws.proofs.SteppedParts.{retire_is}
use Rattle.order_laws.proofs.WrittenParts.{end_is}
use Rattle.order_laws.proofs.Tests.{both, then}

-- what is said of one message but for its place in the stream
record Said (image : Loaded) (before : List Message) (head : Head) (b : Body) : Type 0 where
  fits : IsFitting image before head b
  steps : ReportsStep image before head b
  paired : IsPairedAt image before head b
  written : is_end b ≡ true → AreWritten image before

module _ (image : Loaded) (before : List Message) (head : Head) (clean : IsClean image before) where
  -- where it is no End
  said : (b : Body) → is_end b ≡ false → IsFitting image before head b → ReportsStep image before head b
      → IsPairedAt image before head b → Said image before head b
  said b g f s p =
      record { fits = f; steps = s; paired = p; written = λ e. absurd (false≢true (sym g ∙ e)) }

  both_true : (a b : Bool) → ((a && b) ≡ true) ↔ ((a ≡ true) × (b ≡ true))
  both_true a b = ((λ e. and_parts a b e), λ h. and_from a b h.0 h.1)

  body_is : (b : Body) → (body_fault_of image before head b ≡ None) ↔ Said image before head b
  body_is (body.Open info) = ((λ e. said (body.Open info) refl tt tt tt), λ h. refl)
  body_is (body.Poke poke) =
      let r = poke_is (last_tag before head.hart) in
      ((λ e. said (body.Poke poke) refl (r.0 e) tt tt), λ h. r.1 h.fits)
  body_is (body.Read piece) =
      let r = both (late_fault_of (last_tag before head.hart) head.tag) (read_range_fault piece) _ _
      (late_is (last_tag before head.hart) head.tag) (range_is (is_in_space piece)) in
      ((λ e. said (body.Read piece) refl (r.0 e) tt tt), λ h. r.1 h.fits)
  body_is (body.Insert piece) =
      let r = both (insert_range_fault image piece) (part_fault_of image before head piece) _ _
      (then _ _ _ (range_is (is_in_image image piece && is_in_line piece))
      (both_true (is_in_image image piece) (is_in_line piece))) (part_is image before head piece) in (
        (λ e. let h = r.0 e in said (body.Insert piece) refl (h.0.0, h.0.1, h.1.0) h.1.1 tt),
        λ h. r.1 ((h.fits.0, h.fits.1), (h.fits.2, h.steps)),
      )
  body_is (body.Write write) =
      let r = merge_is (waiting before head.hart write.line) write in
      ((λ e. said (body.Write write) refl (r.0 e) tt tt), λ h. r.1 h.fits)
  body_is (body.Bypass piece) =
      let r = both (bypass_range_fault image piece) (bypass_fault_at image before head piece) _ _
      (range_is (is_in_image image piece)) (bypass_is image before head piece (is_early before head)) in (
        (λ e. let h = r.0 e in said (body.Bypass piece) refl (h.0, h.1.0) h.1.1 tt),
        λ h. r.1 (h.fits.0, (h.fits.1, h.steps)),
      )
  body_is (body.Retire retire) =
      let r = retire_is image before head retire in (
        (λ e. let h = r.0 e in said (body.Retire retire) refl h.0 h.1 h.2),
        λ h. r.1 (h.fits, h.steps, h.paired),
      )
  body_is body.Squash = ((λ e. said body.Squash refl tt tt tt), λ h. refl)
  body_is body.End =
      let r = end_is image before clean in (
        (λ e. let h = r.0 e in record { fits = h.1; steps = tt; paired = tt; written = λ q. h.0 }),
        λ h. r.1 (h.written refl, h.fits),
      )

-- one message matches
message_is : (image : Loaded) (before : List Message) (m : Message) → IsClean image before
    → (match_fault image before m ≡ None) ↔ (IsInStream before m × Said image before m.head m.body)
message_is image before m c =
    both (stream_fault_of before m) (body_fault_of image before m.head m.body) _ _ (stream_is before m)
    (body_is image before m.head c m.body)

-- ---- a list without an End

record AllSaid (image : Loaded) (messages : List Message) : Type 0 where
  formed : IsWellFormed image messages
  stepped : AreSteps image messages
  paired : ArePaired image messages

clean_said : (image : Loaded) (messages : List Message) → IsClean image messages → AllSaid image messages
clean_said image [] c = record { formed = tt; stepped = tt; paired = tt }
clean_said image (m ∷ before) c =
    let old = clean_said image before c.0 in
    let new = (message_is image before m c.0).0 c.2 in
    record {
      formed = (old.formed, c.1, new.0, new.1.fits);
      stepped = (old.stepped, new.1.steps);
      paired = (old.paired, new.1.paired);
    }

said_clean : (image : Loaded) (messages : List Message) → All (λ n. is_end n.body ≡ false) messages
    → AllSaid image messages → IsClean image messages
said_clean image [] g s = tt
said_clean image (m ∷ before) g s =
    let old = said_clean image before (All-tail (λ n. is_end n.body ≡ false) m before g)
    (record { formed = s.formed.0; stepped = s.stepped.0; paired = s.paired.0 }) in (
      old,
      s.formed.1,
      (message_is image before m old).1 (
        s.formed.2,
        said image before m.head old m.body (All-head (λ n. is_end n.body ≡ false) m before g) s.formed.3 s.stepped.1
            s.paired.1,
      ),
    )

-- an End performs nothing
end_written : (image : Loaded) (before : List Message) (head : Head) (b : Body) → is_end b ≡ true
    → AreWritten image before ↔ AreWritten image (record { head = head; body = b } ∷ before)
end_written image before head body.End e = ((λ w. w), λ w. w)
end_written image before head (body.Open info) e = absurd (false≢true e)
end_written image before head (body.Poke poke) e = absurd (false≢true e)
end_written image before head (body.Read piece) e = absurd (false≢true e)
end_written image before head (body.Insert piece) e = absurd (false≢true e)
end_written image before head (body.Write write) e = absurd (false≢true e)
end_written image before head (body.Bypass piece) e = absurd (false≢true e)
end_written image before head (body.Retire retire) e = absurd (false≢true e)
end_written image before head body.Squash e = absurd (false≢true e)

pub matched_in_words : MatchedInWords
matched_in_words image [] ends = absurd ends
matched_in_words image (m ∷ before) ends = (on, back)
  where
    on : IsClean image (m ∷ before) → IsWellFormed image (m ∷ before) × AreSteps image (m ∷ before)
        × AreWritten image (m ∷ before) × ArePaired image (m ∷ before)
    on c =
        let all = clean_said image (m ∷ before) c in
        let new = (message_is image before m c.0).0 c.2 in (
          all.formed,
          all.stepped,
          (end_written image before m.head m.body ends.0).0 (new.1.written ends.0),
          all.paired,
        )

    back : IsWellFormed image (m ∷ before) × AreSteps image (m ∷ before) × AreWritten image (m ∷ before)
        × ArePaired image (m ∷ before) → IsClean image (m ∷ before)
    back s =
        let old = said_clean image before ends.1
        (record { formed = s.0.0; stepped = s.1.0; paired = s.3.0 }) in (
          old,
          s.0.1,
          (message_is image before m old).1 (
            s.0.2,
            record {
              fits = s.0.3;
              steps = s.1.1;
              paired = s.3.1;
              written = λ e. (end_written image before m.head m.body ends.0).1 s.2;
            },
          ),
        )

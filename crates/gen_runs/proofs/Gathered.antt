-- The frames of one message more.
use Rattle.std.proofs.Common.{◌≡◌, ℕ, ◌+◌, List, [], ◌∷◌, ◌++◌, Some, take, get_or, slice_get, ap, ◌∙◌, append-nil}
use Rattle.std.specs.List.{flat_map}
use Rattle.std.proofs.lemmas.Grind.{flat_map-append}
use Rattle.std.proofs.lemmas.List.{take_more}
use Rattle.std.proofs.lemmas.Option.{slice_get_within, get_or_from_slice_get}
use Rattle.msg_frames.specs.declared.message.Message.{Message}
use Rattle.msg_frames.specs.Frames.{frame}

pub frames_more : (ms : List Message) (k : ℕ) (m : Message) → slice_get ms k ≡ Some m
    → flat_map frame (take (k + 1) ms) ≡ flat_map frame (take k ms) ++ frame m
frames_more ms k m e =
    ap (flat_map frame) (take_more ms k m (slice_get_within ms k m e))
    ∙ flat_map-append frame (take k ms) (get_or ms k m ∷ [])
    ∙ ap (λ (x : Message). flat_map frame (take k ms) ++ flat_map frame (x ∷ [])) (get_or_from_slice_get ms k m m e)
    ∙ ap (λ (bytes : List ℕ). flat_map frame (take k ms) ++ bytes) (append-nil (frame m))

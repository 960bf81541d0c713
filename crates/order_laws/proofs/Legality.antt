-- The trace of a clean list, its growth, and the empty list.
use Rattle.std.proofs.Common.{List, [], ◌∷◌, ◌++◌, inl, refl, arith}
use Rattle.msg_frames.specs.declared.message.Message.{Message}
use Rattle.elf_image.specs.Images.{Loaded}
use Rattle.elf_image.specs.Images.{initial_byte}
use Rattle.growth_laws.specs.Kinds.{WellKinded}
use Rattle.growth_laws.proofs.Starts.{starts_well}
use Rattle.growth_laws.proofs.Chains.{no_mending, stable_sources}
use Rattle.matching.specs.Matching.{IsClean}
use Rattle.rvwmo_model.proofs.Membership.{nothing_in}
use Rattle.trace_model.specs.Traces.{trace_of}
use Rattle.trace_model.proofs.CleanLists.{lists_are_well_kinded, lists_grow}
use Rattle.order_laws.specs.Prefixes.{IsLegal, SourcesAreStable, MessagesMendNothing}

-- a longer list is clean, and so is the shorter
pub clean_before : (image : Loaded) (later before : List Message) → IsClean image (later ++ before)
    → IsClean image before
clean_before image [] before c = c
clean_before image (m ∷ later) before c = clean_before image later before c.0

-- before any message nothing is there, and that is legal
pub nothing_legal : (image : Loaded) → IsLegal image []
nothing_legal image = (starts_well (initial_byte image) 0 (inl refl)).legal

pub nothing_kinded : (image : Loaded) → WellKinded (trace_of image [])
nothing_kinded image = (starts_well (initial_byte image) 0 (inl refl)).kinded

pub stable : SourcesAreStable
stable image later [] i x c h q = absurd (nothing_in i h)
stable image later (m ∷ before) i x c h q =
    stable_sources _ _ i x
    (lists_are_well_kinded image (m ∷ before) (clean_before image later (m ∷ before) c) (omega arith))
    (lists_grow image later (m ∷ before) c (omega arith)) h q

pub mend_nothing : MessagesMendNothing
mend_nothing image later [] c l = nothing_legal image
mend_nothing image later (m ∷ before) c l =
    (no_mending (initial_byte image) _ _
    (lists_are_well_kinded image (m ∷ before) (clean_before image later (m ∷ before) c) (omega arith))
    (lists_grow image later (m ∷ before) c (omega arith))).legal l

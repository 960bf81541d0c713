-- Acquire and release annotations (14.1).
use Rattle.std.specs.Prelude.{◌||◌, Bool, true, false}
use Rattle.rvwmo_model.specs.declared.operations.Ann.{Ann}
use Rattle.rvwmo_model.specs.declared.operations.Ann.TheVariants as ann
use Rattle.rvwmo_model.specs.declared.operations.Op.{Op}

-- an annotation, RCpc or RCsc
abbrev pub is_annotated : Ann → Bool
is_annotated ann.None = false
is_annotated ann.Rcpc = true
is_annotated ann.Rcsc = true

-- an RCsc annotation
abbrev pub is_rcsc : Ann → Bool
is_rcsc ann.None = false
is_rcsc ann.Rcpc = false
is_rcsc ann.Rcsc = true

-- an operation with an RCsc annotation, as an acquire or as a release
abbrev pub has_rcsc : Op → Bool
has_rcsc o = is_rcsc o.acquire || is_rcsc o.release

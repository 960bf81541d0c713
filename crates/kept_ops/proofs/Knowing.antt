-- What a table knows of a byte.
use Rattle.std.proofs.Common.{ℕ, ◌≡◌, List, Option, sym, subst}
use Rattle.std.specs.List.{filter}
use Rattle.tandem_base.specs.declared.extent.Extent.{Extent}
use Rattle.tandem_base.specs.declared.names.Origin.{Origin}
use Rattle.tandem_base.specs.declared.names.Position.{Position}
use Rattle.kept_ops.specs.declared.operation.KeptOp.{KeptOp}
use Rattle.kept_ops.specs.Marks.{AreLatest, ByteMarks, IsLatestThat, marks_closed, marks_staying, marks_with}
use Rattle.kept_ops.specs.Marks.{loads_from_elsewhere, other_than, over, passes_over, since_closed}
use Rattle.kept_ops.specs.Operations.{loads_at, stores_at}
use Rattle.kept_ops.specs.Tables.{IsWith, op_stays}
use Rattle.kept_ops.proofs.Latest.{latest_with}
use Rattle.kept_ops.proofs.LatestLeft.{latest_closed, latest_from_elsewhere, latest_over, latest_pruned}

pub knows_more : (x : ℕ) (o : KeptOp) (ops ops' since since' : List KeptOp) (marks marks' : ByteMarks)
    → IsWith o ops ops' → marks' ≡ marks_with x o marks → IsWith o since since' → AreLatest x ops since marks
    → AreLatest x ops' since' marks'
knows_more x o ops ops' since since' marks marks' v e w h = subst (λ (m : ByteMarks). AreLatest x ops' since' m) (sym e)
    (latest_with x o ops ops' since since' marks v w h)

pub knows_same : (x : ℕ) (ops since since' : List KeptOp) (marks : ByteMarks) → since' ≡ since
    → AreLatest x ops since marks → AreLatest x ops since' marks
knows_same x ops since since' marks e h = subst (λ (l : List KeptOp). AreLatest x ops l marks) (sym e) h

pub knows_left : (oldest : Option Position) (x : ℕ) (ops ops' since : List KeptOp) (marks marks' : ByteMarks)
    → ops' ≡ filter (op_stays oldest) ops → marks' ≡ marks_staying oldest marks → AreLatest x ops since marks
    → AreLatest x ops' (filter (op_stays oldest) since) marks'
knows_left oldest x ops ops' since marks marks' f e h =
    subst (λ (l : List KeptOp). AreLatest x l (filter (op_stays oldest) since) marks') (sym f)
    (subst (λ (m : ByteMarks). AreLatest x (filter (op_stays oldest) ops) (filter (op_stays oldest) since) m) (sym e)
    (latest_pruned oldest x ops since marks h))

pub knows_closed : (extent : Extent) (x : ℕ) (ops since : List KeptOp) (marks marks' : ByteMarks)
    → marks' ≡ marks_closed extent x marks → AreLatest x ops since marks
    → AreLatest x ops (since_closed extent x since) marks'
knows_closed extent x ops since marks marks' e h =
    subst (λ (m : ByteMarks). AreLatest x ops (since_closed extent x since) m) (sym e)
    (latest_closed extent x ops since marks h)

module _ (x : ℕ) (ops since : List KeptOp) (marks : ByteMarks) (h : AreLatest x ops since marks) (after : Position)
    (r : Option KeptOp) where
  pub store_known : r ≡ over after marks.store → IsLatestThat (passes_over (stores_at x) after) ops r
  store_known e = subst (λ (m : Option KeptOp). IsLatestThat (passes_over (stores_at x) after) ops m) (sym e)
      (latest_over (stores_at x) ops after marks.store h.store)

  pub load_known : r ≡ over after marks.load → IsLatestThat (passes_over (loads_at x) after) since r
  load_known e = subst (λ (m : Option KeptOp). IsLatestThat (passes_over (loads_at x) after) since m) (sym e)
      (latest_over (loads_at x) since after marks.load h.load)

  pub other_known : (source : Option Origin) → r ≡ over after (other_than x source marks.load marks.other)
      → IsLatestThat (passes_over (loads_from_elsewhere x source) after) since r
  other_known source e =
      subst (λ (m : Option KeptOp). IsLatestThat (passes_over (loads_from_elsewhere x source) after) since m) (sym e)
      (latest_over (loads_from_elsewhere x source) since after (other_than x source marks.load marks.other)
      (latest_from_elsewhere x ops since marks source h))

-- How a doubleword is divided into cells.
use Rattle.std.specs.Prelude.{ℕ, ◌≡◌, ◌/◌}
use Rattle.tandem_base.specs.declared.extent.Extent.{Extent}
use Rattle.tandem_base.specs.Extents.{is_among}
use Rattle.kept_ops.specs.declared.division.Division.{Division}
use Rattle.kept_ops.specs.declared.division.Division.TheVariants.{Whole, Halves, Bytes}
use Rattle.kept_ops.specs.declared.operation.KeptOp.{KeptOp}
use Rattle.kept_ops.specs.Operations.{holds_byte, source_at}

-- how many bytes a cell has
abbrev pub cell_size : Division → ℕ
cell_size Whole = 8
cell_size Halves = 4
cell_size Bytes = 1

-- the operation does the same at all bytes of a cell
pub record IsEven (division : Division) (o : KeptOp) : Type 0 where
  pub holds : (x y : ℕ) → x / cell_size division ≡ y / cell_size division → holds_byte x o ≡ holds_byte y o
  pub source : (x y : ℕ) → x / cell_size division ≡ y / cell_size division → source_at x o ≡ source_at y o

-- the extent has all bytes of a cell, or none
abbrev pub IsEvenExtent : Division → Extent → Type 0
IsEvenExtent division extent = (x y : ℕ) → x / cell_size division ≡ y / cell_size division
    → is_among extent.addr extent.len x ≡ is_among extent.addr extent.len y

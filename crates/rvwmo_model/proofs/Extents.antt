-- The bounds of an extent.
use Rattle.std.proofs.Common.{ℕ, ◌+◌, ◌<◌, ◌≤◌, leb, ltb}
use Rattle.std.proofs.lemmas.Bool.{and_parts, and_from, leb-true, ltb-true, le-leb, lt-ltb}
use Rattle.tandem_base.specs.declared.extent.Extent.{Extent}
use Rattle.tandem_base.specs.Extents.{Covers}

pub bounds_of : (e : Extent) (x : ℕ) → Covers e x → (e.addr ≤ x) × (x < e.addr + e.len)
bounds_of e x q =
    let p = and_parts (leb e.addr x) (ltb x (e.addr + e.len)) q in
    (leb-true e.addr x p.0, ltb-true x (e.addr + e.len) p.1)

pub from_bounds : (e : Extent) (x : ℕ) → e.addr ≤ x → x < e.addr + e.len → Covers e x
from_bounds e x l h = and_from _ _ (le-leb e.addr x l) (lt-ltb x (e.addr + e.len) h)

-- The last stores of other harts, as a capture has them.
use Rattle.std.proofs.Common.{ℕ, ◌+◌, ◌-◌, ◌<◌, ◌≤◌, ◌≡◌, Bool, true, false, eqb}
use Rattle.std.proofs.Common.{cond, Option, Some, None, option_map, refl, sym, ap, subst, ◌∙◌, arith, slice_index_or}
use Rattle.std.proofs.lemmas.Bool.{eqb-true}
use Rattle.std.proofs.lemmas.Bool.Decides.{nat_tests}
use Rattle.tandem_base.specs.declared.extent.Extent.{Extent}
use Rattle.tandem_base.specs.declared.names.Place.{Place}
use Rattle.rvwmo_model.specs.declared.operations.Op.{Op}
use Rattle.rvwmo_model.specs.declared.traces.Trace.{Trace}
use Rattle.rvwmo_model.specs.InForm.{IsPlaced}
use Rattle.rvwmo_model.specs.Report.{IsLatest}
use Rattle.byte_memory.specs.Captures.{capture_size}
use Rattle.byte_memory.specs.declared.capture.StoreCapture.{StoreCapture}
use Rattle.byte_memory.specs.declared.writer.Writer.{Writer}
use Rattle.window_laws.specs.Captures.{IsStoredBefore, IsForeignOf, IsStoreCaptureOf, TellsLatest}
use Rattle.window_laws.specs.Latest.{IsLatestIfAny}
use Rattle.window_laws.specs.Tables.{untimed, writer_of, writer_from}
use Rattle.window_laws.proofs.Stores.{writer_hart}
use Rattle.amo_pairing.specs.Breaches.{last_of_others, foreign_seen}

-- a performed store as a writer
abbrev pub writer_at : Op → Place → Writer
writer_at v p = record { hart = v.name.hart; tag = v.name.tag; place = untimed p }

pub writer_is : (v : Op) (p : Place) → v.place ≡ Some p → writer_of v ≡ Some (writer_at v p)
writer_is v p e =
    ap (option_map (λ (z : Place). record { hart = v.name.hart; tag = v.name.tag; place = untimed z })) e

-- of two lasts, the last one of another hart than h
pub other_told : (h : ℕ) (P : Op → Type 0) (last other : Option Writer) (store : Option Op) → IsLatestIfAny P store
    → last ≡ writer_from store → ((v : Op) → P v → IsPlaced v)
    → ((w : Writer) → last ≡ Some w → TellsLatest (IsForeignOf P w.hart) other)
    → TellsLatest (IsForeignOf P h) (last_of_others h last other)
other_told h P None other None l e placed f = record { store = None; latest = λ v q. l v q.0; told = refl }
other_told h P None other (Some v) l e placed f =
    let p = placed v l.here in
    let c : None ≡ Some (writer_at v p.0) = e ∙ writer_is v p.0 p.1 in
    absurd (cc)
other_told h P (Some w) other None l e placed f = absurd (cc)
other_told h P (Some w) other (Some v) l e placed f = at (eqb w.hart h) refl
  where
    hart : w.hart ≡ v.name.hart
    hart = writer_hart v w (sym e)

    differs : w.hart ≡ h → eqb w.hart h ≡ false → ⊥
    differs d q = grind (arith, nat_tests, d, q)

    at : (b : Bool) → eqb w.hart h ≡ b → TellsLatest (IsForeignOf P h) (cond b other (Some w))
    at true q = subst (λ (g : ℕ). TellsLatest (IsForeignOf P g) other) (eqb-true w.hart h q) (f w refl)
    at false q = record {
      store = Some v;
      latest = record { here = (l.here, λ d. differs (hart ∙ d) q); latest = λ u p. l.latest u p.0 };
      told = e;
    }

-- at a byte of a capture
pub foreign_told : (initial : ℕ → ℕ) (t : Trace) (place : Place) (extent : Extent) (g block : ℕ)
    (seen : StoreCapture) (h x : ℕ) → IsStoreCaptureOf initial t place extent g block seen
    → seen.seen.base ≤ x → x < seen.seen.base + capture_size extent
    → TellsLatest (IsForeignOf (IsStoredBefore t place x) h) (foreign_seen seen h x)
foreign_told initial t place extent g block seen h x c low high =
    let k = x - seen.seen.base in
    let small : k < capture_size extent = omega arith in
    let there : seen.seen.base + k ≡ x = omega arith in
    let b = c.seen.bytes k small in
    let f = other_told h (IsStoredBefore t place (seen.seen.base + k)) (slice_index_or seen.seen.last k None)
    (slice_index_or seen.other k None) b.store b.latest b.told (λ v q. (q.2.0, q.2.1))
    (λ w e. c.other k w small e) in
    subst (λ (y : ℕ). TellsLatest (IsForeignOf (IsStoredBefore t place y) h) (foreign_seen seen h x)) there f

-- a writer that tells of the latest: nobody, or this store
pub data Told (P : Op → Type 0) (f : Option Writer) : Type 0 where
  nobody : f ≡ None → ((v : Op) → P v → ⊥) → Told P f
  somebody : (m : Op) (q : Place) → m.place ≡ Some q → IsLatest P m → f ≡ Some (writer_at m q) → Told P f

pub told_cases : (P : Op → Type 0) (f : Option Writer) → TellsLatest P f → ((v : Op) → P v → IsPlaced v) → Told P f
told_cases P f t placed = at t.store t.latest t.told
  where
    at : (s : Option Op) → IsLatestIfAny P s → f ≡ writer_from s → Told P f
    at None l e = nobody e l
    at (Some m) l e = let p = placed m l.here in somebody m p.0 p.1 l (e ∙ writer_is m p.0 p.1)

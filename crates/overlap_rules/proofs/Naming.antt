-- From what the bytes answer to the first operation of a broken pair.
use Rattle.std.proofs.Common.{ℕ, ◌+◌, ◌-◌, ◌<◌, ◌≡◌, ◌⊎◌, true, Option, sym, subst, arith, option_map}
use Rattle.std.proofs.lemmas.Bool.Decides.{nat_tests}
use Rattle.tandem_base.specs.declared.extent.Extent.{Extent}
use Rattle.tandem_base.specs.declared.mark.Mark.{Mark}
use Rattle.tandem_base.specs.Extents.{is_among}
use Rattle.rvwmo_model.specs.declared.operations.Op.{Op}
use Rattle.rvwmo_model.specs.declared.preserved.Rule.{Rule}
use Rattle.rvwmo_model.specs.declared.preserved.Rule.TheVariants.{R1, R4, R6}
use Rattle.rvwmo_model.specs.declared.traces.Trace.{Trace}
use Rattle.rvwmo_model.specs.Order.{standing, has_byte}
use Rattle.kept_ops.specs.declared.operation.KeptOp.{KeptOp}
use Rattle.kept_ops.specs.Tables.{KeptTable}
use Rattle.store_buffer.specs.Stores.{StoreList}
use Rattle.rule_laws.specs.Above.{Over}
use Rattle.rule_laws.specs.Firsts.{IsFirstBy}
use Rattle.rule_laws.specs.Named.{NamesFirst}
use Rattle.rule_laws.specs.Own.{IsOwnPerformed}
use Rattle.rule_laws.proofs.FirstTold.{first_is_performed}
use Rattle.overlap_rules.specs.Found.{MarksLatest, latest_found}
use Rattle.overlap_rules.specs.Questions.{IsAskedBy}
use Rattle.overlap_rules.proofs.KeptLatest.{behind_base, byte_within, stays_on}
use Rattle.overlap_rules.proofs.MarkTold.{told_same, bytes_told, named_latest}

pub distance_below : (base size x : ℕ) → is_among base size x ≡ true → x - base < size
distance_below base size x e = grind (arith, nat_tests, e)

module _ (t t' : Trace) (b : Op) (fresh : KeptOp) (stores : StoreList) (kept : KeptTable)
    (a : IsAskedBy t t' b fresh stores kept) where
  -- the latest over the bytes of the extent is the latest over all bytes
  pub by_address : (B : ℕ → Op → Type 0) (answer : ℕ → Option Mark) → ((x : ℕ) (v : Op) → B x v → has_byte x b ≡ true)
      → ((k : ℕ) → k < fresh.extent.len → MarksLatest t (B (fresh.extent.addr + k)) (answer k))
      → MarksLatest t (λ v. (x : ℕ) × B x v) (latest_found answer fresh.extent.len)
  by_address B answer inside h =
      told_same t (λ v. (k : ℕ) × (k < fresh.extent.len) × B (fresh.extent.addr + k) v) (λ v. (x : ℕ) × B x v)
      (latest_found answer fresh.extent.len) (λ v p. (fresh.extent.addr + p.0, p.2))
      (λ v p. (let e : is_among fresh.extent.addr fresh.extent.len p.0 ≡ true =
      subst (λ (z : Extent). is_among z.addr z.len p.0 ≡ true) (sym a.told.extent)
      (byte_within p.0 b (inside p.0 v p.1)) in (
        p.0 - fresh.extent.addr,
        distance_below fresh.extent.addr fresh.extent.len p.0 e,
        subst (λ (y : ℕ). B y v) (sym (behind_base fresh.extent.addr fresh.extent.len p.0 e)) p.1,
      )))
      (bytes_told t t' (stays_on t t' b fresh stores kept a) a.positioned (λ k v. B (fresh.extent.addr + k) v) answer
      fresh.extent.len h)

  -- where only what was performed can be first, the latest that the rule asks for is named
  pub names_performed : (k : Rule) (mark : Option Mark) → ((k ≡ R1) ⊎ (k ≡ R4) ⊎ (k ≡ R6) → ⊥)
      → MarksLatest t (Over (λ v. IsOwnPerformed t b.name.hart v × IsFirstBy k t t' b v) (standing b)) mark
      → NamesFirst k t' b (option_map (λ m. m.name) mark)
  names_performed k mark not h =
      let n = named_latest t (Over (λ v. IsOwnPerformed t b.name.hart v × IsFirstBy k t t' b v) (standing b)) mark h in
      (n.0, first_is_performed k t t' a.r b n.0 a.kinded a.new not n.1, n.2)

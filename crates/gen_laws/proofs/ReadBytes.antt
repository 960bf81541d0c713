-- What the bytes of a load count, where its Read is the newest live one.
use Rattle.std.proofs.Common.{ℕ, zero, suc, ◌≡◌, ◌+◌, ◌-◌, ◌<◌, ◌≤◌, ◌==◌, not, is_some, List, [], ◌∷◌, ◌++◌}
use Rattle.std.proofs.Common.{length, take, slice_index, get_or, Bool, true, false, refl, ap, sym, subst, ◌∙◌, arith}
use Rattle.std.proofs.Common.{Some, None, take-suc}
use Rattle.std.specs.declared.option.Option.{Option}
use Rattle.std.proofs.lemmas.Bool.{eq-eqb, le-leb, lt-ltb, and_from}
use Rattle.msg_frames.specs.declared.message.Piece.{Piece}
use Rattle.msg_frames.specs.Pieces.{has}
use Rattle.matching.specs.declared.reports.OpenReport.{OpenReport}
use Rattle.matching.specs.Searches.{first_below}
use Rattle.matching.specs.Reports.{counting, byte_counted, bytes_counted}
use Rattle.matching.specs.RetireFaults.{is_missing, is_torn, same_read, reads_missing, reads_torn, missing_fault_in}
use Rattle.matching.specs.RetireFaults.{torn_fault_in}

-- none of some passes
pub first_none : (p : ℕ → Bool) (n : ℕ) → ((k : ℕ) → k < n → p k ≡ false) → first_below p n ≡ None
first_none p zero f = refl
first_none p (suc n) f =
    let older : first_below p n ≡ None = first_none p n (λ k lt. f k (omega (arith, lt))) in
    let newest : p n ≡ false = f n (omega arith) in
    rw (older, newest) refl

-- a byte of a piece
pub has_at : (piece : Piece) (k : ℕ) → k < length piece.bytes → has piece (piece.addr + k) ≡ true
has_at piece k small =
    and_from _ _ (le-leb piece.addr (piece.addr + k) (omega arith))
    (lt-ltb (piece.addr + k) (piece.addr + length piece.bytes) (omega (arith, small)))

module _ (r : OpenReport) (rs : List OpenReport) (t addr : ℕ) (bytes : List ℕ) (tag : r.tag ≡ t)
    (piece : r.piece ≡ record { addr = addr; bytes = bytes }) where
  pub counts : (k : ℕ) → k < length bytes → counting (r ∷ rs) t (addr + k) ≡ Some r
  counts k small =
      let here : has r.piece (addr + k) ≡ true =
      ap (λ (p : Piece). has p (addr + k)) piece ∙ has_at (record { addr = addr; bytes = bytes }) k small in
      rw (and_from (r.tag == t) (has r.piece (addr + k)) (eq-eqb r.tag t tag) here) refl

  -- each byte has it
  pub none_missing : (n : ℕ) → n ≤ length bytes → reads_missing (r ∷ rs) t addr n ≡ None
  none_missing n le =
      ap (missing_fault_in addr) (first_none (is_missing (r ∷ rs) t addr) n
      (λ k lt. ap (λ (o : Option OpenReport). not (is_some o)) (counts k (omega (arith, lt, le)))))

  first_counts : 0 < length bytes → counting (r ∷ rs) t addr ≡ Some r
  first_counts some =
      let e : addr + 0 ≡ addr = omega arith in
      subst (λ (x : ℕ). counting (r ∷ rs) t x ≡ Some r) e (counts 0 some)

  same_again : same_read (Some r) (Some r) ≡ true
  same_again = eq-eqb r.number r.number refl

  -- and no other
  pub none_torn : (n : ℕ) → n ≤ length bytes → 0 < length bytes → reads_torn (r ∷ rs) t addr n ≡ None
  none_torn n le some =
      ap (torn_fault_in addr) (first_none (is_torn (r ∷ rs) t addr) n
      (λ k lt. ap (λ (o : Option OpenReport). not (same_read o (counting (r ∷ rs) t (addr + k)))) (first_counts some)
      ∙ ap (λ (o : Option OpenReport). not (same_read (Some r) o)) (counts k (omega (arith, lt, le)))
      ∙ ap not same_again))

  one_byte : (k : ℕ) → k < length bytes → byte_counted (addr + k) (counting (r ∷ rs) t (addr + k)) ≡ get_or bytes k 0
  one_byte k small =
      let e : addr + k - addr ≡ k = omega arith in
      ap (byte_counted (addr + k)) (counts k small)
      ∙ ap (λ (p : Piece). slice_index p.bytes (addr + k - p.addr)) piece
      ∙ ap (λ (i : ℕ). get_or bytes i 0) e

  -- the bytes are its own
  pub bytes_are : (n : ℕ) → n ≤ length bytes → bytes_counted (r ∷ rs) t addr n ≡ take n bytes
  bytes_are zero le = refl
  bytes_are (suc n) le =
      let older : bytes_counted (r ∷ rs) t addr n ≡ take n bytes = bytes_are n (omega (arith, le)) in
      let newest = one_byte n (omega (arith, le)) in
      ap (λ (bs : List ℕ). bs ++ byte_counted (addr + n) (counting (r ∷ rs) t (addr + n)) ∷ []) older
      ∙ ap (λ (b : ℕ). take n bytes ++ b ∷ []) newest
      ∙ sym (take-suc bytes n 0 (omega (arith, le)))

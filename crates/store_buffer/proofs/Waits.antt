-- Which stores of a list have an unperformed byte.
use Rattle.std.proofs.Common.{ℕ, ◌≡◌, ◌≢◌, ◌<◌, ◌≤◌, ◌&&◌, ◌==◌, nat_lt, not, List, [], ◌∷◌, length, Bool, true, false}
use Rattle.std.proofs.Common.{cond, refl, ap, ◌∙◌, arith, if◌then◌else◌}
use Rattle.std.proofs.lemmas.Bool.Decides.{nat_tests}
use Rattle.msg_frames.specs.declared.message.Piece.{Piece}
use Rattle.store_buffer.specs.declared.store.ByteState.{ByteState}
use Rattle.store_buffer.specs.declared.store.ByteState.TheVariants.{Untouched, Inserted, Performed}
use Rattle.store_buffer.specs.declared.store.Store.{Store}
use Rattle.store_buffer.specs.declared.store.StoreMarks.{StoreMarks}
use Rattle.store_buffer.specs.Store.{stays_open, is_open_byte, is_done_byte, state_of, with_states, untouched_store}
use Rattle.store_buffer.specs.Store.{HasOpenByte}
use Rattle.store_buffer.specs.Stores.{open_stores, given_states, all_given}
use Rattle.store_buffer.proofs.Opens.{open_here, open_passes, new_opens, opened_before}

open_byte : (s : Store) (k : ℕ) (x : ByteState) → state_of s k ≡ x → is_open_byte s k ≡ true
    → (k < length s.entry.piece.bytes) × (state_of s k ≢ Performed)
open_byte s k x q e = (inside, apart)
  where
    first : (a b : Bool) → (a && b) ≡ true → a ≡ true
    first true b e = refl
    first false b e = cc

    second : (a b : Bool) → (a && not b) ≡ true → b ≡ false
    second true true e = cc
    second false true e = cc
    second a false e = refl

    inside : k < length s.entry.piece.bytes
    inside =
        let f = first (nat_lt k (length s.entry.piece.bytes)) (not (is_done_byte (state_of s k))) e in
        grind (arith, nat_tests, f)

    apart : state_of s k ≢ Performed
    apart p =
        let f = second (nat_lt k (length s.entry.piece.bytes)) (is_done_byte (state_of s k)) e in
        let g : is_done_byte (state_of s k) ≡ true = ap is_done_byte p in
        cc

byte_open : (s : Store) (k : ℕ) → k < length s.entry.piece.bytes → state_of s k ≢ Performed
    → is_open_byte s k ≡ true
byte_open s k l d =
    ap (λ (b : Bool). b && not (is_done_byte (state_of s k))) (below k (length s.entry.piece.bytes) l)
    ∙ at (state_of s k) d
  where
    below : (a b : ℕ) → a < b → nat_lt a b ≡ true
    below a b l = grind (arith, nat_tests)

    at : (x : ByteState) → x ≢ Performed → (true && not (is_done_byte x)) ≡ true
    at Untouched d = refl
    at Inserted d = refl
    at Performed d = absurd (d refl)

pub has_open_byte : (s : Store) → stays_open s ≡ true → HasOpenByte s
has_open_byte s e =
    let w = open_passes s e in
    let b = open_byte s w.k (state_of s w.k) refl w.passes in
    record { k = w.k; there = b.0; unperformed = b.1 }

pub opens : (s : Store) → length s.entry.piece.bytes ≤ 8 → HasOpenByte s → stays_open s ≡ true
opens s l h = open_here s h.k (omega (arith, l, h.there)) (byte_open s h.k h.there h.unperformed)

pub retired_open : (tag : ℕ) (piece : Piece) (marks : StoreMarks) (ss : List Store) → 1 ≤ length piece.bytes
    → open_stores (untouched_store tag piece marks ∷ ss) ≡ untouched_store tag piece marks ∷ open_stores ss
retired_open tag piece marks ss l =
    ap (λ (b : Bool). cond b (untouched_store tag piece marks ∷ open_stores ss) (open_stores ss))
    (new_opens tag piece marks l)

pub swept_open : (ss : List Store) → open_stores (open_stores ss) ≡ open_stores ss
swept_open [] = refl
swept_open (s ∷ ss) = at (stays_open s) refl (swept_open ss)
  where
    at : (b : Bool) → stays_open s ≡ b → open_stores (open_stores ss) ≡ open_stores ss
        → open_stores (cond b (s ∷ open_stores ss) (open_stores ss)) ≡ cond b (s ∷ open_stores ss) (open_stores ss)
    at true q r =
        ap (λ (b : Bool). cond b (s ∷ open_stores (open_stores ss)) (open_stores (open_stores ss))) q
        ∙ ap (λ (l : List Store). s ∷ l) r
    at false q r = r

given_closed : (tag addr len : ℕ) (s : Store) → stays_open s ≡ false
    → stays_open (given_states tag Performed addr len s) ≡ false
given_closed tag addr len s e = at (s.tag == tag)
  where
    no : (b : Bool) → (b ≡ true → stays_open s ≡ true) → b ≡ false
    no true h =
        let x = h refl in
        cc
    no false h = refl

    at : (b : Bool) → stays_open (if b then with_states Performed addr len s else s) ≡ false
    at true = no (stays_open (with_states Performed addr len s)) (opened_before s addr len)
    at false = e

pub performed_open : (tag addr len : ℕ) (ss : List Store) → open_stores (all_given tag Performed addr len ss)
    ≡ open_stores (all_given tag Performed addr len (open_stores ss))
performed_open tag addr len [] = refl
performed_open tag addr len (s ∷ ss) = at (stays_open s) refl (performed_open tag addr len ss)
  where
    at : (b : Bool) → stays_open s ≡ b
        → open_stores (all_given tag Performed addr len ss)
        ≡ open_stores (all_given tag Performed addr len (open_stores ss))
        → open_stores (all_given tag Performed addr len (s ∷ ss))
        ≡ open_stores (all_given tag Performed addr len (cond b (s ∷ open_stores ss) (open_stores ss)))
    at true q r = ap (λ (l : List Store). cond (stays_open (given_states tag Performed addr len s))
        (given_states tag Performed addr len s ∷ l) l) r
    at false q r = ap (λ (b : Bool). cond b
        (given_states tag Performed addr len s ∷ open_stores (all_given tag Performed addr len ss))
        (open_stores (all_given tag Performed addr len ss))) (given_closed tag addr len s q) ∙ r

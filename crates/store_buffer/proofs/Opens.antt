-- Which stores have an unperformed byte.
use Rattle.std.proofs.Common.{ℕ, zero, suc, ◌≡◌, ◌≢◌, ◌+◌, ◌<◌, ◌≤◌, ◌⊎◌, ◌&&◌, inl, inr, nat_lt, not, length, Bool}
use Rattle.std.proofs.Common.{true, false}
use Rattle.std.proofs.Common.{Option, None, Some, is_some, refl, sym, ap, subst, ◌∙◌, arith, if◌then◌else◌}
use Rattle.std.proofs.lemmas.Bool.Decides.{nat_tests}
use Rattle.tandem_base.specs.Extents.{is_among}
use Rattle.tandem_base.specs.FirstFault.{◌or_else◌}
use Rattle.msg_frames.specs.declared.message.Piece.{Piece}
use Rattle.store_buffer.specs.declared.store.ByteState.{ByteState}
use Rattle.store_buffer.specs.declared.store.ByteState.TheVariants.{Untouched, Inserted, Performed}
use Rattle.store_buffer.specs.declared.store.Store.{Store}
use Rattle.store_buffer.specs.declared.store.StoreMarks.{StoreMarks}
use Rattle.store_buffer.specs.Searches.{lowest_below}
use Rattle.store_buffer.specs.Store.{stays_open, is_open_byte, lowest_open, state_of, state_after, with_states}
use Rattle.store_buffer.specs.Store.{with_each}
use Rattle.store_buffer.specs.Store.{untouched_store, is_done_byte, is_untouched, is_new_part, is_byte_again, covers}

-- ---- the lowest number

-- a number below n that passes
pub record Passes (p : ℕ → Bool) (n : ℕ) : Type 0 where
  pub k : ℕ
  pub below : k < n
  pub passes : p k ≡ true

some_here : (a b : Option ℕ) → is_some a ≡ true → is_some (a or_else b) ≡ true
some_here None b e = cc
some_here (Some x) b e = refl

some_later : (a b : Option ℕ) → is_some b ≡ true → is_some (a or_else b) ≡ true
some_later None b e = e
some_later (Some x) b e = refl

pub passes_some : (p : ℕ → Bool) (n k : ℕ) → k < n → p k ≡ true → is_some (lowest_below p n) ≡ true
passes_some p zero k l e = absurd (omega (arith, l))
passes_some p (suc n) k l e = elim (split k n) [
  | inl q ↦ some_later (lowest_below p n) (if p n then Some n else None)
      (ap (λ (b : Bool). is_some (if b then Some n else None)) (subst (λ (j : ℕ). p j ≡ true) q e))
  | inr d ↦ some_here (lowest_below p n) (if p n then Some n else None)
      (passes_some p n k (omega (arith, l, d)) e)
]
  where
    split : (a b : ℕ) → (a ≡ b) ⊎ (a ≢ b)
    split a b = grind arith

pub some_passes : (p : ℕ → Bool) (n : ℕ) → is_some (lowest_below p n) ≡ true → Passes p n
some_passes p zero e = cc
some_passes p (suc n) e = at (lowest_below p n) refl (λ q. some_passes p n q) (p n) refl
  where
    at : (o : Option ℕ) → lowest_below p n ≡ o → (is_some (lowest_below p n) ≡ true → Passes p n) → (b : Bool)
        → p n ≡ b → Passes p (suc n)
    at (Some x) q h b r =
        let w = h (ap is_some q) in
        record { k = w.k; below = omega (arith, w.below); passes = w.passes }
    at None q h true r = record { k = n; below = omega arith; passes = r }
    at None q h false r =
        let no : false ≡ true =
        sym (ap (λ (o : Option ℕ). is_some (o or_else (if p n then Some n else None))) q
        ∙ ap (λ (b : Bool). is_some (None or_else (if b then Some n else None))) r) ∙ e in
        cc

pub lowest_same : (p q : ℕ → Bool) (n : ℕ) → ((k : ℕ) → k < n → p k ≡ q k) → lowest_below p n ≡ lowest_below q n
lowest_same p q zero s = refl
lowest_same p q (suc n) s =
    ap (λ (o : Option ℕ). o or_else (if p n then Some n else None)) (lowest_same p q n (λ k l. s k (omega (arith, l))))
    ∙ ap (λ (b : Bool). lowest_below q n or_else (if b then Some n else None)) (s n (omega arith))

-- ---- bytes of a store

pub each_state : (f : ℕ → ByteState) (s : Store) (k : ℕ) → k < 8 → state_of (with_each f s) k ≡ f k
each_state f s zero l = refl
each_state f s (suc zero) l = refl
each_state f s (suc (suc zero)) l = refl
each_state f s (suc (suc (suc zero))) l = refl
each_state f s (suc (suc (suc (suc zero)))) l = refl
each_state f s (suc (suc (suc (suc (suc zero))))) l = refl
each_state f s (suc (suc (suc (suc (suc (suc zero)))))) l = refl
each_state f s (suc (suc (suc (suc (suc (suc (suc zero))))))) l = refl
each_state f s (suc (suc (suc (suc (suc (suc (suc (suc k)))))))) l = absurd (omega (arith, l))

pub open_here : (s : Store) (k : ℕ) → k < 8 → is_open_byte s k ≡ true → stays_open s ≡ true
unfolding lowest_open
open_here s k l e = passes_some (is_open_byte s) 8 k l e

pub open_passes : (s : Store) → stays_open s ≡ true → Passes (is_open_byte s) 8
unfolding lowest_open
open_passes s e = some_passes (is_open_byte s) 8 e

open_same_bytes : (s t : Store) → ((k : ℕ) → k < 8 → is_open_byte s k ≡ is_open_byte t k) → stays_open s ≡ stays_open t
unfolding lowest_open
open_same_bytes s t e = ap is_some (lowest_same (is_open_byte s) (is_open_byte t) 8 e)

pub new_opens : (tag : ℕ) (piece : Piece) (marks : StoreMarks) → 1 ≤ length piece.bytes
    → stays_open (untouched_store tag piece marks) ≡ true
new_opens tag piece marks l =
    open_here (untouched_store tag piece marks) 0 (omega arith)
    (ap (λ (b : Bool). b && true) (below 0 (length piece.bytes) (omega (arith, l))))
  where
    below : (a b : ℕ) → a < b → nat_lt a b ≡ true
    below a b l = grind (arith, nat_tests)

-- ---- a change of some

module _ (s : Store) (addr len : ℕ) where
  open_after : (to : ByteState) (k : ℕ) → k < 8 → is_open_byte (with_states to addr len s) k
      ≡ (nat_lt k (length s.entry.piece.bytes) && not (is_done_byte (state_after to addr len s k)))
  open_after to k l = ap (λ (x : ByteState). nat_lt k (length s.entry.piece.bytes) && not (is_done_byte x))
      (each_state (state_after to addr len s) s k l)

  -- what is performed opens no store
  pub opened_before : stays_open (with_states Performed addr len s) ≡ true → stays_open s ≡ true
  opened_before e =
      let w = open_passes (with_states Performed addr len s) e in
      open_here s w.k w.below (at w.k (is_among addr len (s.entry.piece.addr + w.k)) refl
      (sym (open_after Performed w.k w.below) ∙ w.passes))
    where
      false_and : (b : Bool) → (b && false) ≡ true → ⊥
      false_and true e = cc
      false_and false e = cc

      at : (k : ℕ) (b : Bool) → is_among addr len (s.entry.piece.addr + k) ≡ b
          → (nat_lt k (length s.entry.piece.bytes) && not (is_done_byte (state_after Performed addr len s k))) ≡ true
          → is_open_byte s k ≡ true
      at k true q e =
          let x : is_done_byte (state_after Performed addr len s k) ≡ true =
          ap (λ (b : Bool). is_done_byte (if b then Performed else state_of s k)) q in
          absurd (false_and (nat_lt k (length s.entry.piece.bytes))
          (sym (ap (λ (b : Bool). nat_lt k (length s.entry.piece.bytes) && not b) x) ∙ e))
      at k false q e =
          let x : is_done_byte (state_after Performed addr len s k) ≡ is_done_byte (state_of s k) =
          ap (λ (b : Bool). is_done_byte (if b then Performed else state_of s k)) q in
          sym (ap (λ (b : Bool). nat_lt k (length s.entry.piece.bytes) && not b) x) ∙ e

-- an Insert that is taken leaves as many unperformed
pub insert_opens : (s : Store) (piece : Piece) → is_new_part s piece ≡ true
    → stays_open (with_states Inserted piece.addr (length piece.bytes) s) ≡ stays_open s
unfolding is_new_part
insert_opens s piece e =
    open_same_bytes (with_states Inserted piece.addr (length piece.bytes) s) s (λ k l. (
    open_after s piece.addr (length piece.bytes) Inserted k l
    ∙ at k (is_among piece.addr (length piece.bytes) (s.entry.piece.addr + k)) refl (state_of s k) refl
    (fresh k (is_byte_again piece s k) refl (λ x. passes_some (is_byte_again piece s) 8 k l x))
    ))
  where
    none : (a b : Bool) → (a && not b) ≡ true → b ≡ false
    none true true e = cc
    none false true e = cc
    none a false e = refl

    fresh : (k : ℕ) (b : Bool) → is_byte_again piece s k ≡ b
        → (is_byte_again piece s k ≡ true → is_some (lowest_below (is_byte_again piece s) 8) ≡ true)
        → is_byte_again piece s k ≡ false
    fresh k true q h =
        let x = none (covers s piece) (is_some (lowest_below (is_byte_again piece s) 8)) e in
        let y = h q in
        cc
    fresh k false q h = q

    at : (k : ℕ) (b : Bool) → is_among piece.addr (length piece.bytes) (s.entry.piece.addr + k) ≡ b
        → (x : ByteState) → state_of s k ≡ x → is_byte_again piece s k ≡ false
        → (nat_lt k (length s.entry.piece.bytes)
        && not (is_done_byte (state_after Inserted piece.addr (length piece.bytes) s k)))
        ≡ (nat_lt k (length s.entry.piece.bytes) && not (is_done_byte (state_of s k)))
    at k false q x r f =
        ap (λ (b : Bool). nat_lt k (length s.entry.piece.bytes)
        && not (is_done_byte (if b then Inserted else state_of s k))) q
    at k true q x r f =
        ap (λ (b : Bool). nat_lt k (length s.entry.piece.bytes)
        && not (is_done_byte (if b then Inserted else state_of s k))) q
        ∙ sym (ap (λ (b : Bool). nat_lt k (length s.entry.piece.bytes) && not b) (by x r))
      where
        again : (is_among piece.addr (length piece.bytes) (s.entry.piece.addr + k) && not (is_untouched (state_of s k)))
            ≡ false
        again = f

        by : (x : ByteState) → state_of s k ≡ x → is_done_byte (state_of s k) ≡ false
        by Untouched r = ap is_done_byte r
        by Inserted r = ap is_done_byte r
        by Performed r =
            let no : true ≡ false =
            sym (ap (λ (b : Bool). b && not (is_untouched (state_of s k))) q
            ∙ ap (λ (x : ByteState). true && not (is_untouched x)) r) ∙ again in
            cc

-- The bytes that wait under each tag.
use Rattle.std.proofs.Common.{ℕ, zero, suc, ◌≡◌, ◌≢◌, ◌+◌, ◌-◌, ◌<◌, ◌≤◌, ◌==◌, nat_le, nat_lt, not, List, []}
use Rattle.std.proofs.Common.{◌∷◌, length, find, Bool, true, false, Option, None, Some, is_some, cond}
use Rattle.std.proofs.Common.{refl, sym, ap, subst, ◌∙◌, arith, if◌then◌else◌}
use Rattle.std.specs.Option.{option_map}
use Rattle.std.proofs.lemmas.Bool.{and_from, and_parts}
use Rattle.std.proofs.lemmas.Bool.Decides.{nat_tests}
use Rattle.tandem_base.specs.Extents.{is_among}
use Rattle.msg_frames.specs.declared.message.Piece.{Piece}
use Rattle.store_buffer.specs.declared.parts.Taken.{Taken}
use Rattle.store_buffer.specs.declared.parts.Taken.TheVariants as taken
use Rattle.store_buffer.specs.declared.pending.Pending.{Pending}
use Rattle.store_buffer.specs.declared.store.ByteState.{ByteState}
use Rattle.store_buffer.specs.declared.store.ByteState.TheVariants.{Untouched, Inserted, Performed}
use Rattle.store_buffer.specs.declared.store.Store.{Store}
use Rattle.store_buffer.specs.declared.store.StoreMarks.{StoreMarks}
use Rattle.store_buffer.specs.Searches.{lowest_below}
use Rattle.store_buffer.specs.Store.{is_done_byte, is_untouched, state_of, state_after, with_states, untouched_store}
use Rattle.store_buffer.specs.Store.{stays_open, is_open_byte, is_new_part, is_byte_again, covers, answer_for}
use Rattle.store_buffer.specs.Stores.{store_of_tag, open_stores, given_states, all_given, after_taken, AllTagged}
use Rattle.store_buffer.specs.Waiting.{waits_at, stored_byte, waiting_byte, waiting_bytes, BytesWait, BytesLeave}
use Rattle.store_buffer.specs.Waiting.{SameBytesWait, AreRetired, pending_of, pending_in, IsGreatestWaiting}
use Rattle.store_buffer.proofs.Answered.{taken_is_new}
use Rattle.store_buffer.proofs.Finding.{found_below}
use Rattle.store_buffer.proofs.Opens.{passes_some, open_here, each_state}

not_true : (b : Bool) → (b ≡ true → ⊥) → b ≡ false
not_true true h = absurd (h refl)
not_true false h = refl

alike : (a b : Bool) → (a ≡ true → b ≡ true) → (b ≡ true → a ≡ true) → a ≡ b
alike true b f g = sym (f refl)
alike false true f g = g refl
alike false false f g = refl

same : (n : ℕ) → (n == n) ≡ true
same n = grind (arith, nat_tests)

other : (m n : ℕ) → m ≢ n → (m == n) ≡ false
other m n d = grind (arith, nat_tests, d)

unlike : true ≡ false → ⊥
unlike e = cc

-- ---- a byte of one store

-- x is in the store, and its byte there isn't performed
abbrev IsOpenAt : ℕ → Store → Type 0
IsOpenAt x s =
    (s.entry.piece.addr ≤ x) × (x < s.entry.piece.addr + length s.entry.piece.bytes)
    × (is_done_byte (state_of s (x - s.entry.piece.addr)) ≡ false)

at_most : (a b : ℕ) → nat_le a b ≡ true → a ≤ b
at_most a b e = grind (arith, nat_tests, e)

less : (a b : ℕ) → nat_lt a b ≡ true → a < b
less a b e = grind (arith, nat_tests, e)

is_at_most : (a b : ℕ) → a ≤ b → nat_le a b ≡ true
is_at_most a b l = grind (arith, nat_tests)

is_less : (a b : ℕ) → a < b → nat_lt a b ≡ true
is_less a b l = grind (arith, nat_tests)

not_done : (b : Bool) → not b ≡ true → b ≡ false
not_done true e = cc
not_done false e = refl

open_parts : (x : ℕ) (s : Store) → waits_at x s ≡ true → IsOpenAt x s
open_parts x s e =
    let a = s.entry.piece.addr in
    let p = and_parts (nat_le a x) (is_open_byte s (x - a)) e in
    let q = and_parts (nat_lt (x - a) (length s.entry.piece.bytes)) (not (is_done_byte (state_of s (x - a)))) p.1 in
    let l = at_most a x p.0 in
    let m = less (x - a) (length s.entry.piece.bytes) q.0 in
    (l, omega (arith, l, m), not_done (is_done_byte (state_of s (x - a))) q.1)

open_from : (x : ℕ) (s : Store) → IsOpenAt x s → waits_at x s ≡ true
open_from x s h =
    let a = s.entry.piece.addr in
    and_from (nat_le a x) (is_open_byte s (x - a)) (is_at_most a x h.0)
    (and_from (nat_lt (x - a) (length s.entry.piece.bytes)) (not (is_done_byte (state_of s (x - a))))
    (is_less (x - a) (length s.entry.piece.bytes) (omega (arith, h.0, h.1)))
    (ap not h.2))

module _ (s : Store) (short : length s.entry.piece.bytes ≤ 8) (to : ByteState) (addr len x : ℕ) where
  -- the state of the byte at x after a change
  state_there : s.entry.piece.addr ≤ x → x < s.entry.piece.addr + length s.entry.piece.bytes → (b : Bool)
      → is_among addr len x ≡ b
      → state_of (with_states to addr len s) (x - s.entry.piece.addr)
      ≡ (if b then to else state_of s (x - s.entry.piece.addr))
  state_there l m b e =
      let a = s.entry.piece.addr in
      let there : a + (x - a) ≡ x = omega (arith, l) in
      each_state (state_after to addr len s) s (x - a) (omega (arith, l, m, short))
      ∙ ap (λ (y : ℕ). if is_among addr len y then to else state_of s (x - a)) there
      ∙ ap (λ (b : Bool). if b then to else state_of s (x - a)) e

  waits_elsewhere : is_among addr len x ≡ false → waits_at x (with_states to addr len s) ≡ waits_at x s
  waits_elsewhere e = alike (waits_at x (with_states to addr len s)) (waits_at x s)
      (λ w. (
      let o = open_parts x (with_states to addr len s) w in
      open_from x s (o.0, o.1, sym (ap is_done_byte (state_there o.0 o.1 false e)) ∙ o.2)
      ))
      (λ w. (
      let o = open_parts x s w in
      open_from x (with_states to addr len s) (o.0, o.1, ap is_done_byte (state_there o.0 o.1 false e) ∙ o.2)
      ))

waits_no_more : (s : Store) → length s.entry.piece.bytes ≤ 8 → (addr len x : ℕ) → is_among addr len x ≡ true
    → waits_at x (with_states Performed addr len s) ≡ false
waits_no_more s short addr len x e = not_true (waits_at x (with_states Performed addr len s)) (λ w. (
    let o = open_parts x (with_states Performed addr len s) w in
    unlike (sym (ap is_done_byte (state_there s short Performed addr len x o.0 o.1 true e)) ∙ o.2)
    ))

-- a byte of a new part is in no message yet
fresh : (s : Store) (piece : Piece) (k : ℕ) → is_new_part s piece ≡ true → k < 8
    → is_among piece.addr (length piece.bytes) (s.entry.piece.addr + k) ≡ true → is_done_byte (state_of s k) ≡ false
unfolding is_new_part
fresh s piece k e l m = at (state_of s k) refl
  where
    again : not (is_untouched (state_of s k)) ≡ true → ⊥
    again f =
        let p = and_parts (covers s piece) (not (is_some (lowest_below (is_byte_again piece s) 8))) e in
        let some = passes_some (is_byte_again piece s) 8 k l
        (and_from (is_among piece.addr (length piece.bytes) (s.entry.piece.addr + k))
        (not (is_untouched (state_of s k))) m f) in
        unlike (sym some ∙ not_done (is_some (lowest_below (is_byte_again piece s) 8)) p.1)

    at : (x : ByteState) → state_of s k ≡ x → is_done_byte (state_of s k) ≡ false
    at Untouched q = ap is_done_byte q
    at Inserted q = ap is_done_byte q
    at Performed q = absurd (again (ap (λ (x : ByteState). not (is_untouched x)) q))

waits_when_inserted : (s : Store) → length s.entry.piece.bytes ≤ 8 → (piece : Piece) (x : ℕ)
    → is_new_part s piece ≡ true
    → waits_at x (with_states Inserted piece.addr (length piece.bytes) s) ≡ waits_at x s
waits_when_inserted s short piece x n = at (is_among piece.addr (length piece.bytes) x) refl
  where
    at : (b : Bool) → is_among piece.addr (length piece.bytes) x ≡ b
        → waits_at x (with_states Inserted piece.addr (length piece.bytes) s) ≡ waits_at x s
    at false e = waits_elsewhere s short Inserted piece.addr (length piece.bytes) x e
    at true e = alike (waits_at x (with_states Inserted piece.addr (length piece.bytes) s)) (waits_at x s)
        (λ w. (
        let o = open_parts x (with_states Inserted piece.addr (length piece.bytes) s) w in
        let a = s.entry.piece.addr in
        let there : x ≡ a + (x - a) = omega (arith, o.0) in
        open_from x s (
          o.0,
          o.1,
          fresh s piece (x - a) n (omega (arith, o.0, o.1, short))
              (sym (ap (is_among piece.addr (length piece.bytes)) there) ∙ e),
        )
        ))
        (λ w. (
        let o = open_parts x s w in
        open_from x (with_states Inserted piece.addr (length piece.bytes) s) (
          o.0,
          o.1,
          ap is_done_byte (state_there s short Inserted piece.addr (length piece.bytes) x o.0 o.1 true e),
        )
        ))

pub closed_waits : (s : Store) → length s.entry.piece.bytes ≤ 8 → (x : ℕ) → stays_open s ≡ false
    → waits_at x s ≡ false
closed_waits s short x c = not_true (waits_at x s) (λ w. (
    let o = open_parts x s w in
    let a = s.entry.piece.addr in
    let p = and_parts (nat_le a x) (is_open_byte s (x - a)) w in
    unlike (sym (open_here s (x - a) (omega (arith, o.0, o.1, short)) p.1) ∙ c)
    ))

-- ---- the store of a tag

found_tagged : (tag : ℕ) (ss : List Store) (s : Store) → store_of_tag tag ss ≡ Some s → s.tag ≡ tag
found_tagged tag [] s e = cc
found_tagged tag (t ∷ ts) s e = at (t.tag == tag) refl (λ f. found_tagged tag ts s f) e
  where
    at : (b : Bool) → (t.tag == tag) ≡ b → (store_of_tag tag ts ≡ Some s → s.tag ≡ tag)
        → (if b then Some t else store_of_tag tag ts) ≡ Some s → s.tag ≡ tag
    at true q h e =
        let is : t ≡ s = cc in
        let n : t.tag ≡ tag = grind (arith, nat_tests, q) in
        subst (λ (u : Store). u.tag ≡ tag) is n
    at false q h e = h e

found_short : (tag : ℕ) (ss : List Store) (s : Store) → AreRetired ss → store_of_tag tag ss ≡ Some s
    → length s.entry.piece.bytes ≤ 8
found_short tag [] s a e = cc
found_short tag (t ∷ ts) s a e = at (t.tag == tag) (λ f. found_short tag ts s a.2 f) e
  where
    at : (b : Bool) → (store_of_tag tag ts ≡ Some s → length s.entry.piece.bytes ≤ 8)
        → (if b then Some t else store_of_tag tag ts) ≡ Some s → length s.entry.piece.bytes ≤ 8
    at true h e =
        let is : t ≡ s = cc in
        subst (λ (u : Store). length u.entry.piece.bytes ≤ 8) is a.0
    at false h e = h e

none_tagged : (bound tag : ℕ) (ss : List Store) → AllTagged bound ss → bound ≤ tag → store_of_tag tag ss ≡ None
none_tagged bound tag [] a l = refl
none_tagged bound tag (s ∷ ss) a l =
    let d : s.tag ≢ tag = λ e. absurd (omega (arith, a.0, l, e)) in
    ap (λ (b : Bool). if b then Some s else store_of_tag tag ss) (other s.tag tag d)
    ∙ none_tagged bound tag ss a.1 l

keeps_tag : (tag : ℕ) (to : ByteState) (addr len : ℕ) (s : Store) → (given_states tag to addr len s).tag ≡ s.tag
keeps_tag tag to addr len s = at (s.tag == tag)
  where
    at : (b : Bool) → (if b then with_states to addr len s else s).tag ≡ s.tag
    at true = refl
    at false = refl

given_found : (tag : ℕ) (to : ByteState) (addr len k : ℕ) (ss : List Store)
    → store_of_tag k (all_given tag to addr len ss) ≡ option_map (given_states tag to addr len) (store_of_tag k ss)
given_found tag to addr len k [] = refl
given_found tag to addr len k (s ∷ ss) =
    ap (λ (n : ℕ). if n == k then Some (given_states tag to addr len s)
    else store_of_tag k (all_given tag to addr len ss)) (keeps_tag tag to addr len s)
    ∙ at (s.tag == k) (given_found tag to addr len k ss)
  where
    at : (b : Bool)
        → store_of_tag k (all_given tag to addr len ss) ≡ option_map (given_states tag to addr len) (store_of_tag k ss)
        → (if b then Some (given_states tag to addr len s) else store_of_tag k (all_given tag to addr len ss))
        ≡ option_map (given_states tag to addr len) (if b then Some s else store_of_tag k ss)
    at true r = refl
    at false r = r

-- ---- one change of all stores

module _ (tag : ℕ) (to : ByteState) (addr len : ℕ) (ss : List Store) where
  -- the store of the tag is the one that changes
  given_byte : (x : ℕ) (o : Option ℕ)
      → ((s : Store) → store_of_tag tag ss ≡ Some s → waiting_byte (Some (with_states to addr len s)) x ≡ o)
      → (store_of_tag tag ss ≡ None → None ≡ o)
      → waiting_bytes (all_given tag to addr len ss) tag x ≡ o
  given_byte x o some none =
      ap (λ (p : Option Store). waiting_byte p x) (given_found tag to addr len tag ss)
      ∙ at (store_of_tag tag ss) refl
    where
      at : (p : Option Store) → store_of_tag tag ss ≡ p
          → waiting_byte (option_map (given_states tag to addr len) p) x ≡ o
      at None q = none q
      at (Some s) q =
          let t : (s.tag == tag) ≡ true = ap (λ (n : ℕ). n == tag) (found_tagged tag ss s q) ∙ same tag in
          ap (λ (b : Bool). waiting_byte (Some (if b then with_states to addr len s else s)) x) t ∙ some s q

  given_others : (k x : ℕ) → k ≢ tag → waiting_bytes (all_given tag to addr len ss) k x ≡ waiting_bytes ss k x
  given_others k x d =
      ap (λ (p : Option Store). waiting_byte p x) (given_found tag to addr len k ss) ∙ at (store_of_tag k ss) refl
    where
      at : (p : Option Store) → store_of_tag k ss ≡ p
          → waiting_byte (option_map (given_states tag to addr len) p) x ≡ waiting_byte p x
      at None q = refl
      at (Some s) q =
          let t : (s.tag == tag) ≡ false =
          ap (λ (n : ℕ). n == tag) (found_tagged k ss s q) ∙ other k tag d in
          ap (λ (b : Bool). waiting_byte (Some (if b then with_states to addr len s else s)) x) t

-- the byte of a store that changes waits as before
same_byte : (to : ByteState) (addr len x : ℕ) (s : Store)
    → waits_at x (with_states to addr len s) ≡ waits_at x s
    → waiting_byte (Some (with_states to addr len s)) x ≡ waiting_byte (Some s) x
same_byte to addr len x s e = ap (λ (b : Bool). if b then Some (stored_byte s x) else None) e

pub performed_leave : (tag addr len : ℕ) (ss : List Store) → AreRetired ss
    → BytesLeave (waiting_bytes ss) (waiting_bytes (all_given tag Performed addr len ss)) tag addr len
performed_leave tag addr len ss a = record {
  here = λ x e. given_byte tag Performed addr len ss x None
      (λ s q. ap (λ (b : Bool). if b then Some (stored_byte s x) else None)
      (waits_no_more s (found_short tag ss s a q) addr len x e)) (λ q. refl);
  elsewhere = λ x e. given_byte tag Performed addr len ss x (waiting_bytes ss tag x)
      (λ s q. same_byte Performed addr len x s
      (waits_elsewhere s (found_short tag ss s a q) Performed addr len x e)
      ∙ sym (ap (λ (o : Option Store). waiting_byte o x) q))
      (λ q. sym (ap (λ (o : Option Store). waiting_byte o x) q));
  others = λ k x d. given_others tag Performed addr len ss k x d;
}

-- ---- an Insert or a Bypass

inserted_same : (tag : ℕ) (piece : Piece) (ss : List Store) → AreRetired ss
    → answer_for (store_of_tag tag ss) piece ≡ taken.Yes
    → SameBytesWait (waiting_bytes ss) (waiting_bytes (all_given tag Inserted piece.addr (length piece.bytes) ss))
inserted_same tag piece ss a y k x = at (k == tag) refl
  where
    new : (s : Store) → store_of_tag tag ss ≡ Some s → is_new_part s piece ≡ true
    new s q = taken_is_new s piece (sym (ap (λ (o : Option Store). answer_for o piece) q) ∙ y)

    mine : waiting_bytes (all_given tag Inserted piece.addr (length piece.bytes) ss) tag x ≡ waiting_bytes ss tag x
    mine = given_byte tag Inserted piece.addr (length piece.bytes) ss x (waiting_bytes ss tag x)
        (λ s q. same_byte Inserted piece.addr (length piece.bytes) x s
        (waits_when_inserted s (found_short tag ss s a q) piece x (new s q))
        ∙ sym (ap (λ (o : Option Store). waiting_byte o x) q))
        (λ q. sym (ap (λ (o : Option Store). waiting_byte o x) q))

    at : (b : Bool) → (k == tag) ≡ b
        → waiting_bytes (all_given tag Inserted piece.addr (length piece.bytes) ss) k x ≡ waiting_bytes ss k x
    at true e =
        let n : k ≡ tag = grind (arith, nat_tests, e) in
        subst (λ (j : ℕ). waiting_bytes (all_given tag Inserted piece.addr (length piece.bytes) ss) j x
        ≡ waiting_bytes ss j x) (sym n) mine
    at false e =
        let d : k ≢ tag = grind (arith, nat_tests, e) in
        given_others tag Inserted piece.addr (length piece.bytes) ss k x d

pub taken_same : (tag : ℕ) (piece : Piece) (ss : List Store) → AreRetired ss
    → SameBytesWait (waiting_bytes ss)
    (waiting_bytes (after_taken (answer_for (store_of_tag tag ss) piece) tag piece ss))
taken_same tag piece ss a = at (answer_for (store_of_tag tag ss) piece) refl
  where
    at : (t : Taken) → answer_for (store_of_tag tag ss) piece ≡ t
        → SameBytesWait (waiting_bytes ss) (waiting_bytes (after_taken t tag piece ss))
    at taken.Yes e = inserted_same tag piece ss a e
    at taken.Unknown e = λ k x. refl
    at (taken.Wrong x want got) e = λ k x. refl
    at taken.Torn e = λ k x. refl

-- ---- a store that retires

untouched_at : (tag : ℕ) (piece : Piece) (marks : StoreMarks) (k : ℕ)
    → state_of (untouched_store tag piece marks) k ≡ Untouched
untouched_at tag piece marks zero = refl
untouched_at tag piece marks (suc zero) = refl
untouched_at tag piece marks (suc (suc zero)) = refl
untouched_at tag piece marks (suc (suc (suc zero))) = refl
untouched_at tag piece marks (suc (suc (suc (suc zero)))) = refl
untouched_at tag piece marks (suc (suc (suc (suc (suc zero))))) = refl
untouched_at tag piece marks (suc (suc (suc (suc (suc (suc zero)))))) = refl
untouched_at tag piece marks (suc (suc (suc (suc (suc (suc (suc zero))))))) = refl
untouched_at tag piece marks (suc (suc (suc (suc (suc (suc (suc (suc k)))))))) = refl

untouched_waits : (tag : ℕ) (piece : Piece) (marks : StoreMarks) (x : ℕ)
    → waits_at x (untouched_store tag piece marks) ≡ is_among piece.addr (length piece.bytes) x
untouched_waits tag piece marks x =
    alike (waits_at x (untouched_store tag piece marks)) (is_among piece.addr (length piece.bytes) x)
    (λ w. (
    let o = open_parts x (untouched_store tag piece marks) w in
    and_from (nat_le piece.addr x) (nat_lt x (piece.addr + length piece.bytes)) (is_at_most piece.addr x o.0)
    (is_less x (piece.addr + length piece.bytes) o.1)
    ))
    (λ e. (
    let p = and_parts (nat_le piece.addr x) (nat_lt x (piece.addr + length piece.bytes)) e in
    open_from x (untouched_store tag piece marks) (
      at_most piece.addr x p.0,
      less x (piece.addr + length piece.bytes) p.1,
      ap is_done_byte (untouched_at tag piece marks (x - piece.addr)),
    )
    ))

pub retired_wait : (tag : ℕ) (piece : Piece) (marks : StoreMarks) (ss : List Store)
    → BytesWait (waiting_bytes ss) (waiting_bytes (untouched_store tag piece marks ∷ ss)) tag piece
retired_wait tag piece marks ss = record {
  here = λ x e. mine x true (untouched_waits tag piece marks x ∙ e);
  elsewhere = λ x e. mine x false (untouched_waits tag piece marks x ∙ e);
  others = λ k x d. ap (λ (b : Bool). waiting_byte
      (if b then Some (untouched_store tag piece marks) else store_of_tag k ss) x)
      (other tag k (λ q. d (sym q)));
}
  where
    mine : (x : ℕ) (b : Bool) → waits_at x (untouched_store tag piece marks) ≡ b
        → waiting_bytes (untouched_store tag piece marks ∷ ss) tag x
        ≡ (if b then Some (stored_byte (untouched_store tag piece marks) x) else None)
    mine x b e =
        ap (λ (b : Bool). waiting_byte (if b then Some (untouched_store tag piece marks) else store_of_tag tag ss) x)
        (same tag)
        ∙ ap (λ (b : Bool). if b then Some (stored_byte (untouched_store tag piece marks) x) else None) e

-- ---- a sweep

pub swept_same : (ss : List Store) → AreRetired ss
    → SameBytesWait (waiting_bytes ss) (waiting_bytes (open_stores ss))
swept_same [] a k x = refl
swept_same (s ∷ ss) a k x = at (stays_open s) refl (s.tag == k) refl (swept_same ss a.2 k x)
  where
    at : (b : Bool) → stays_open s ≡ b → (c : Bool) → (s.tag == k) ≡ c
        → waiting_bytes (open_stores ss) k x ≡ waiting_bytes ss k x
        → waiting_bytes (cond b (s ∷ open_stores ss) (open_stores ss)) k x ≡ waiting_bytes (s ∷ ss) k x
    at true q true t r =
        ap (λ (c : Bool). waiting_byte (if c then Some s else store_of_tag k (open_stores ss)) x) t
        ∙ sym (ap (λ (c : Bool). waiting_byte (if c then Some s else store_of_tag k ss) x) t)
    at true q false t r =
        ap (λ (c : Bool). waiting_byte (if c then Some s else store_of_tag k (open_stores ss)) x) t
        ∙ r ∙ sym (ap (λ (c : Bool). waiting_byte (if c then Some s else store_of_tag k ss) x) t)
    at false q false t r =
        r ∙ sym (ap (λ (c : Bool). waiting_byte (if c then Some s else store_of_tag k ss) x) t)
    at false q true t r =
        let n : s.tag ≤ k = grind (arith, nat_tests, t) in
        r ∙ ap (λ (o : Option Store). waiting_byte o x) (none_tagged s.tag k ss a.1 n)
        ∙ sym (ap (λ (c : Bool). waiting_byte (if c then Some s else store_of_tag k ss) x) t
        ∙ ap (λ (b : Bool). if b then Some (stored_byte s x) else None) (closed_waits s a.0 x q))

-- ---- the first of the list that waits at x

none_waits : (x : ℕ) (ss : List Store) → find (waits_at x) ss ≡ None → (k : ℕ) → waiting_bytes ss k x ≡ None
none_waits x [] e k = refl
none_waits x (s ∷ ss) e k = at (waits_at x s) refl (s.tag == k) refl e (λ f. none_waits x ss f k)
  where
    at : (b : Bool) → waits_at x s ≡ b → (c : Bool) → (s.tag == k) ≡ c
        → cond b (Some s) (find (waits_at x) ss) ≡ None
        → (find (waits_at x) ss ≡ None → waiting_bytes ss k x ≡ None) → waiting_bytes (s ∷ ss) k x ≡ None
    at true q c t e h = cc
    at false q true t e h =
        ap (λ (c : Bool). waiting_byte (if c then Some s else store_of_tag k ss) x) t
        ∙ ap (λ (b : Bool). if b then Some (stored_byte s x) else None) q
    at false q false t e h =
        ap (λ (c : Bool). waiting_byte (if c then Some s else store_of_tag k ss) x) t ∙ h e

first_waits : (x : ℕ) (ss : List Store) (s : Store) → AreRetired ss → find (waits_at x) ss ≡ Some s
    → waiting_bytes ss s.tag x ≡ Some (stored_byte s x)
first_waits x [] s a e = cc
first_waits x (t ∷ ts) s a e = at (waits_at x t) refl e (λ f. first_waits x ts s a.2 f)
  where
    at : (b : Bool) → waits_at x t ≡ b → cond b (Some t) (find (waits_at x) ts) ≡ Some s
        → (find (waits_at x) ts ≡ Some s → waiting_bytes ts s.tag x ≡ Some (stored_byte s x))
        → waiting_bytes (t ∷ ts) s.tag x ≡ Some (stored_byte s x)
    at true q e h =
        let is : t ≡ s = cc in
        subst (λ (u : Store). waiting_bytes (t ∷ ts) u.tag x ≡ Some (stored_byte u x)) is
        (ap (λ (c : Bool). waiting_byte (if c then Some t else store_of_tag t.tag ts) x) (same t.tag)
        ∙ ap (λ (b : Bool). if b then Some (stored_byte t x) else None) q)
    at false q e h =
        let l : s.tag < t.tag = found_below (waits_at x) t.tag ts s a.1 e in
        let d : t.tag ≢ s.tag = λ f. absurd (omega (arith, l, f)) in
        ap (λ (c : Bool). waiting_byte (if c then Some t else store_of_tag s.tag ts) x) (other t.tag s.tag d) ∙ h e

first_is_latest : (x : ℕ) (ss : List Store) (s : Store) → AreRetired ss → find (waits_at x) ss ≡ Some s → (k : ℕ)
    → s.tag < k → waiting_bytes ss k x ≡ None
first_is_latest x [] s a e k l = cc
first_is_latest x (t ∷ ts) s a e k l =
    at (waits_at x t) refl (t.tag == k) refl e (λ f. first_is_latest x ts s a.2 f k l)
  where
    at : (b : Bool) → waits_at x t ≡ b → (c : Bool) → (t.tag == k) ≡ c
        → cond b (Some t) (find (waits_at x) ts) ≡ Some s
        → (find (waits_at x) ts ≡ Some s → waiting_bytes ts k x ≡ None) → waiting_bytes (t ∷ ts) k x ≡ None
    at true q true r e h =
        let is : t ≡ s = cc in
        let n : t.tag ≡ k = grind (arith, nat_tests, r) in
        let m = ap (λ (u : Store). u.tag) is in
        absurd (omega (arith, l, n, m))
    at true q false r e h =
        let is : t ≡ s = cc in
        let m = ap (λ (u : Store). u.tag) is in
        ap (λ (c : Bool). waiting_byte (if c then Some t else store_of_tag k ts) x) r
        ∙ ap (λ (o : Option Store). waiting_byte o x) (none_tagged t.tag k ts a.1 (omega (arith, l, m)))
    at false q true r e h =
        ap (λ (c : Bool). waiting_byte (if c then Some t else store_of_tag k ts) x) r
        ∙ ap (λ (b : Bool). if b then Some (stored_byte t x) else None) q
    at false q false r e h =
        ap (λ (c : Bool). waiting_byte (if c then Some t else store_of_tag k ts) x) r ∙ h e

pub pending_is : (hart x : ℕ) (ss : List Store) → AreRetired ss
    → IsGreatestWaiting (waiting_bytes ss) x (pending_in hart ss x)
pending_is hart x ss a = at (find (waits_at x) ss) refl
  where
    at : (o : Option Store) → find (waits_at x) ss ≡ o
        → IsGreatestWaiting (waiting_bytes ss) x (option_map (pending_of hart x) o)
    at None e = none_waits x ss e
    at (Some s) e = (first_waits x ss s a e, first_is_latest x ss s a e)

-- ---- what is told of it

pub pending_hart : (hart x : ℕ) (ss : List Store) (w : Pending) → pending_in hart ss x ≡ Some w → w.hart ≡ hart
pending_hart hart x ss w e = at (find (waits_at x) ss) e
  where
    at : (o : Option Store) → option_map (pending_of hart x) o ≡ Some w → w.hart ≡ hart
    at None e = cc
    at (Some s) e =
        let is : pending_of hart x s ≡ w = cc in
        sym (ap (λ (p : Pending). p.hart) is)

-- what waits is of a store that retired
pub waits_under : (bound tag x value : ℕ) (ss : List Store) → AllTagged bound ss
    → waiting_bytes ss tag x ≡ Some value → tag < bound
waits_under bound tag x value ss a e = at (nat_lt tag bound) refl
  where
    at : (b : Bool) → nat_lt tag bound ≡ b → tag < bound
    at true q = less tag bound q
    at false q =
        let l : bound ≤ tag = grind (arith, nat_tests, q) in
        let no : None ≡ Some value =
        sym (ap (λ (o : Option Store). waiting_byte o x) (none_tagged bound tag ss a l)) ∙ e in
        cc

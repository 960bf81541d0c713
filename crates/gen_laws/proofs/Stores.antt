-- What becomes of the stores of a hart.
use Rattle.std.proofs.Common.{ℕ, zero, suc, ◌≡◌, ◌+◌, ◌<◌, ◌≤◌, ◌==◌, ◌&&◌, not, nat_lt, is_some, List, [], ◌∷◌}
use Rattle.std.proofs.Common.{map, length, nat_eq, Bool, true, false, cond, refl, ap, sym, subst, ◌∙◌, arith, Some}
use Rattle.std.proofs.Common.{None}
use Rattle.std.specs.Prelude.{if◌then◌else◌}
use Rattle.std.specs.declared.option.Option.{Option}
use Rattle.std.specs.Option.{option_eq, option_or}
use Rattle.std.proofs.lemmas.Bool.{eq-eqb, ne_eqb, le-leb, and_from, and_right}
use Rattle.tandem_base.specs.FirstFault.{◌or_else◌}
use Rattle.msg_frames.specs.declared.message.Piece.{Piece}
use Rattle.msg_frames.specs.Pieces.{has, byte_in}
use Rattle.verdict_report.specs.declared.fault.Fault.TheVariants as fault
use Rattle.matching.specs.declared.stores.Fate.{Fate}
use Rattle.matching.specs.declared.stores.Fate.TheVariants.{Nothing, Waiting, Done}
use Rattle.matching.specs.declared.stores.Stored.{Stored}
use Rattle.matching.specs.declared.stores.Tracked.{Tracked}
use Rattle.matching.specs.Searches.{first_below, earliest}
use Rattle.matching.specs.Pieces.{line_start}
use Rattle.matching.specs.Fates.{is_done, is_fresh, drained}
use Rattle.matching.specs.PartFaults.{is_known, is_again, is_within, is_whole, is_aligned, unknown_fault_of}
use Rattle.matching.specs.PartFaults.{data_fault_of}
use Rattle.matching.specs.PartFaults.{data_fault_in, torn_store_fault_of}
use Rattle.matching.specs.EndFaults.{first_left, is_left}
use Rattle.matching.specs.Tables.{tracked, fate_in_store, untouched, with_part, with_line, tracked_under, tracked_fault}
use Rattle.matching.specs.Tables.{is_left_open}
use Rattle.trace_gen.specs.Program.{own_addr}
use Rattle.trace_gen.specs.Rounds.{tag_of}
use Rattle.gen_laws.proofs.ReadBytes.{first_none, has_at}
use Rattle.gen_laws.proofs.States.{IsPerformed, ArePerformed, HasStore, number_at}

-- the fate of a byte that is tracked
pub fate_here : (f : ℕ → Fate) (s : Stored) (k : ℕ) → k < 8 → fate_in_store (tracked f s) k ≡ f k
fate_here f s zero lt = refl
fate_here f s (suc zero) lt = refl
fate_here f s (suc (suc zero)) lt = refl
fate_here f s (suc (suc (suc zero))) lt = refl
fate_here f s (suc (suc (suc (suc zero)))) lt = refl
fate_here f s (suc (suc (suc (suc (suc zero))))) lt = refl
fate_here f s (suc (suc (suc (suc (suc (suc zero)))))) lt = refl
fate_here f s (suc (suc (suc (suc (suc (suc (suc zero))))))) lt = refl
fate_here f s (suc (suc (suc (suc (suc (suc (suc (suc k)))))))) lt = absurd (omega (arith, lt))

-- ---- an Insert

part_one : (new : Fate) (tag : ℕ) (piece : Piece) (t : Tracked) → IsPerformed tag t
    → IsPerformed tag (with_part new tag piece t)
part_one new tag piece t is =
    let other : (tag == t.store.tag) ≡ false = ne_eqb tag t.store.tag (λ e. absurd (omega (arith, e, is.below))) in
    record {
      below = is.below;
      done = λ k lt.
          ap is_done (fate_here (λ i. if (tag == t.store.tag) && has piece (t.store.piece.addr + i) then new
          else fate_in_store t i) t.store k lt)
          ∙ ap (λ (b : Bool). is_done (cond (b && has piece (t.store.piece.addr + k)) new (fate_in_store t k))) other
          ∙ is.done k lt;
    }

-- a part of a later store is none of theirs
pub part_kept : (new : Fate) (tag : ℕ) (piece : Piece) (ts : List Tracked) → ArePerformed tag ts
    → ArePerformed tag (map (with_part new tag piece) ts)
part_kept new tag piece [] are = tt
part_kept new tag piece (t ∷ ts) are = (part_one new tag piece t are.0, part_kept new tag piece ts are.1)

-- the store that is inserted whole waits
pub inserted : (n round addr value : ℕ) (ts : List Tracked) → HasStore round (number_at addr value) true ts
    → HasStore round (number_at addr value) false
    (map (with_part (Waiting n) (tag_of round 1) (number_at addr value)) ts)
inserted n round addr value ts own =
    let piece = number_at addr value in
    let tag = tag_of round 1 in
    let t = own.newest in
    let old = λ (i : ℕ). if (tag == t.store.tag) && has piece (t.store.piece.addr + i) then Waiting n
    else fate_in_store t i in
    record {
      newest = with_part (Waiting n) tag piece t;
      older = map (with_part (Waiting n) tag piece) own.older;
      is = ap (map (with_part (Waiting n) tag piece)) own.is;
      store = own.store;
      fates = λ k lt.
          ap is_fresh (fate_here old t.store k lt)
          ∙ ap (λ (s : Stored). is_fresh (cond ((tag == s.tag) && has piece (s.piece.addr + k)) (Waiting n)
          (fate_in_store t k))) own.store
          ∙ ap (λ (b : Bool). is_fresh (cond b (Waiting n) (fate_in_store t k)))
          (and_from (tag == tag) _ (eq-eqb tag tag refl) (has_at piece k lt));
      done = part_kept (Waiting n) tag piece own.older own.done;
    }

-- ---- a Write

drained_done : (b : Bool) (time n : ℕ) (f : Fate) → is_done f ≡ true → is_done (cond b (drained time n f) f) ≡ true
drained_done b time n Nothing e = absurd (cc)
drained_done b time n (Waiting j) e = absurd (cc)
drained_done true time n (Done p) e = refl
drained_done false time n (Done p) e = refl

drained_new : (time n : ℕ) (f : Fate) → is_fresh f ≡ false → is_done (drained time n f) ≡ true
drained_new time n Nothing e = absurd (cc)
drained_new time n (Waiting j) e = refl
drained_new time n (Done p) e = refl

line_one : (time n line tag more : ℕ) (t : Tracked) → tag ≤ more → IsPerformed tag t
    → IsPerformed more (with_line time n line t)
line_one time n line tag more t le is = record {
  below = omega (arith, is.below, le);
  done = λ k lt.
      ap is_done (fate_here (λ i. if line == line_start (t.store.piece.addr + i) then drained time n (fate_in_store t i)
      else fate_in_store t i) t.store k lt)
      ∙ drained_done (line == line_start (t.store.piece.addr + k)) time n (fate_in_store t k) (is.done k lt);
}

line_kept : (time n line tag more : ℕ) (ts : List Tracked) → tag ≤ more → ArePerformed tag ts
    → ArePerformed more (map (with_line time n line) ts)
line_kept time n line tag more [] le are = tt
line_kept time n line tag more (t ∷ ts) le are =
    (line_one time n line tag more t le are.0, line_kept time n line tag more ts le are.1)

-- a hart's own number is at the front of a line
pub own_start : (h k : ℕ) → k < 8 → own_addr h ≡ line_start (own_addr h + k)
own_start h k lt = omega (arith, lt)

-- the store that waits is performed by the Write of its line
pub written_all : (time n h round value : ℕ) (ts : List Tracked)
    → HasStore round (number_at (own_addr h) value) false ts
    → ArePerformed (tag_of round 2) (map (with_line time n (own_addr h)) ts)
written_all time n h round value ts own =
    let t = own.newest in
    let line = own_addr h in
    let low : t.store.tag < tag_of round 2 = omega (arith, ap (λ (s : Stored). s.tag) own.store) in
    let one : IsPerformed (tag_of round 2) (with_line time n line t) = record {
      below = low;
      done = λ k lt.
          ap is_done (fate_here (λ i. if line == line_start (t.store.piece.addr + i)
          then drained time n (fate_in_store t i) else fate_in_store t i) t.store k lt)
          ∙ ap (λ (s : Stored). is_done (cond (line == line_start (s.piece.addr + k)) (drained time n
          (fate_in_store t k))
          (fate_in_store t k))) own.store
          ∙ ap (λ (b : Bool). is_done (cond b (drained time n (fate_in_store t k)) (fate_in_store t k)))
          (eq-eqb line (line_start (line + k)) (own_start h k lt))
          ∙ drained_new time n (fate_in_store t k) (own.fates k lt);
    } in
    let older = line_kept time n line (tag_of round 1) (tag_of round 2) own.older (omega arith) own.done in
    subst (λ (us : List Tracked). ArePerformed (tag_of round 2) (map (with_line time n line) us)) (sym own.is)
    (one, older)

-- ---- the store retires

pub retired_new : (round : ℕ) (piece : Piece) (ts : List Tracked) → ArePerformed (tag_of round 1) ts
    → HasStore round piece true (untouched (record { tag = tag_of round 1; piece = piece }) ∷ ts)
retired_new round piece ts are = record {
  newest = untouched (record { tag = tag_of round 1; piece = piece });
  older = ts;
  is = refl;
  store = refl;
  fates = λ k lt.
      ap is_fresh (fate_here (λ i. Nothing) (record { tag = tag_of round 1; piece = piece }) k lt);
  done = are;
}

pub performed_more : (low high : ℕ) (ts : List Tracked) → low ≤ high → ArePerformed low ts → ArePerformed high ts
performed_more low high [] le are = tt
performed_more low high (t ∷ ts) le are =
    (record { below = omega (arith, le, are.0.below); done = are.0.done }, performed_more low high ts le are.1)

-- ---- the faults of its Insert

-- a byte is like itself
pub same_option : (o : Option ℕ) → not (option_eq nat_eq o o) ≡ false
same_option None = refl
same_option (Some x) = ap not (eq-eqb x x refl)

known_new : (fates : ℕ → Fate) (tag : ℕ) (piece : Piece) → ((k : ℕ) → k < 8 → is_fresh (fates k) ≡ true)
    → is_known fates piece (record { tag = tag; piece = piece }) ≡ true
unfolding is_known
known_new fates tag piece fresh =
    let s : Stored = record { tag = tag; piece = piece } in
    let again : first_below (is_again fates piece s) 8 ≡ None =
    first_none (is_again fates piece s) 8 (λ k lt. and_right (has piece (piece.addr + k)) _ (ap not (fresh k lt))) in
    and_from (is_within piece piece) _
    (and_from _ _ (le-leb piece.addr piece.addr (omega arith))
    (le-leb (piece.addr + length piece.bytes) (piece.addr + length piece.bytes) (omega arith)))
    (ap (λ (o : Option ℕ). not (is_some o)) again)

same_data : (tag : ℕ) (piece : Piece) → data_fault_of piece (record { tag = tag; piece = piece }) ≡ None
same_data tag piece =
    ap (data_fault_in piece (record { tag = tag; piece = piece })) (first_none _ (length piece.bytes)
    (λ k lt. same_option (byte_in piece (piece.addr + k))))

whole_store : (tag : ℕ) (piece : Piece) → torn_store_fault_of piece (record { tag = tag; piece = piece }) ≡ None
whole_store tag piece =
    let whole : is_whole piece piece ≡ true =
    and_from _ _ (eq-eqb piece.addr piece.addr refl) (eq-eqb (length piece.bytes) (length piece.bytes) refl) in
    ap (λ (b : Bool). cond b (Some fault.TornStore) None) (and_right (is_aligned piece) _ (ap not whole))

all_three : (fates : ℕ → Fate) (tag : ℕ) (piece : Piece) → ((k : ℕ) → k < 8 → is_fresh (fates k) ≡ true)
    → unknown_fault_of fates piece (record { tag = tag; piece = piece })
    or_else data_fault_of piece (record { tag = tag; piece = piece })
    or_else torn_store_fault_of piece (record { tag = tag; piece = piece }) ≡ None
all_three fates tag piece fresh =
    rw (known_new fates tag piece fresh, same_data tag piece, whole_store tag piece) refl

found_first : (t : Tracked) (ts : List Tracked) (tag : ℕ) → t.store.tag ≡ tag → tracked_under tag (t ∷ ts) ≡ Some t
found_first t ts tag e = ap (λ (b : Bool). cond b (Some t) (tracked_under tag ts)) (eq-eqb t.store.tag tag e)

-- the whole of the newest store, of which nothing was inserted, is a part of it without a fault
pub part_fine : (round addr value : ℕ) (ts : List Tracked) → HasStore round (number_at addr value) true ts
    → tracked_fault (number_at addr value) (tracked_under (tag_of round 1) ts) ≡ None
part_fine round addr value ts own =
    let piece = number_at addr value in
    let t = own.newest in
    ap (λ (us : List Tracked). tracked_fault piece (tracked_under (tag_of round 1) us)) own.is
    ∙ ap (tracked_fault piece) (found_first t own.older (tag_of round 1) (ap (λ (s : Stored). s.tag) own.store))
    ∙ ap (λ (s : Stored). unknown_fault_of (fate_in_store t) piece s or_else data_fault_of piece s
    or_else torn_store_fault_of piece s) own.store
    ∙ all_three (fate_in_store t) (tag_of round 1) piece own.fates

-- ---- at the End

closed_one : (tag : ℕ) (t : Tracked) → IsPerformed tag t → is_left_open t ≡ false
unfolding first_left
closed_one tag t is =
    ap is_some (first_none (is_left (fate_in_store t) t.store) 8
    (λ k lt. and_right (nat_lt k (length t.store.piece.bytes)) _ (ap not (is.done k lt))))

-- no store is left
pub none_left : (tag : ℕ) (ts : List Tracked) → ArePerformed tag ts → earliest is_left_open ts ≡ None
none_left tag [] are = refl
none_left tag (t ∷ ts) are =
    ap (λ (o : Option Tracked). option_or o (cond (is_left_open t) (Some t) None)) (none_left tag ts are.1)
    ∙ ap (λ (b : Bool). cond b (Some t) None) (closed_one tag t are.0)

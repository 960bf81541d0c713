-- A list of messages without faults leaves of each message what the trace needs.
use Rattle.std.proofs.Common.{ℕ, zero, suc, ◌+◌, ◌-◌, ◌*◌, ◌/◌, ◌^◌, ◌<◌, ◌≤◌, ◌≡◌, ◌⊎◌, inl, inr, Bool, true}
use Rattle.std.proofs.Common.{false}
use Rattle.std.proofs.Common.{not, eqb, leb, ltb, ◌&&◌, ◌||◌, cond, List, [], ◌∷◌, length, is_some, Option, Some, None}
use Rattle.std.proofs.Common.{refl, sym, ap, subst, ◌∙◌, arith}
use Rattle.std.specs.Option.{option_or}
use Rattle.std.proofs.lemmas.Bool.{both_ways, false≢true, and_parts, and_from, eqb-true, eq-eqb, leb-true, ltb-true}
use Rattle.std.proofs.lemmas.Bool.{ltb-false, leb-false, lt-ltb, le-leb, not-false}
use Rattle.msg_frames.specs.declared.message.Head.{Head}
use Rattle.msg_frames.specs.declared.message.Piece.{Piece}
use Rattle.msg_frames.specs.declared.message.Retire.{Retire}
use Rattle.msg_frames.specs.declared.message.Body.{Body}
use Rattle.msg_frames.specs.declared.message.Body.TheVariants as body
use Rattle.msg_frames.specs.declared.message.Message.{Message}
use Rattle.msg_frames.specs.Frames.{FitsPiece, FitsBody}
use Rattle.elf_image.specs.Images.{Loaded}
use Rattle.tandem_base.specs.FirstFault.{◌or_else◌}
use Rattle.std.specs.List.{filter, cons_option, find}
use Rattle.rv_decode.specs.declared.instruction.Insn.{Insn}
use Rattle.rv_step.specs.declared.effect.Effect.{Effect}
use Rattle.rv_step.specs.Harts.{HartState}
use Rattle.rv_step.specs.Plans.{PlanOf, address_of, has_bytes}
use Rattle.rv_step.specs.Steps as steps
use Rattle.rv_step.specs.Steps.{Doing, trap, plain, counter, load, store, lr, sc, amo}
use Rattle.matching.specs.declared.reports.OpenReport.{OpenReport}
use Rattle.matching.specs.declared.run.Pair.{Pair}
use Rattle.matching.specs.declared.stores.Fate.{Fate}
use Rattle.matching.specs.declared.stores.Fate.TheVariants.{Nothing, Waiting, Done}
use Rattle.matching.specs.declared.stores.Stored.{Stored}
use Rattle.matching.specs.Settings.{number_after, is_open, harts_of, last_time, config_of}
use Rattle.matching.specs.Searches.{first_below}
use Rattle.msg_frames.specs.Pieces.{has}
use Rattle.matching.specs.Tags.{last_tag, is_younger}
use Rattle.matching.specs.Reports.{open_report_of, is_report, is_for, live_in, live, early, early_of, counting}
use Rattle.matching.specs.Fates.{fate, is_fresh}
use Rattle.matching.specs.Runs.{Run, outside_of, done_of, run_of, plan_at, doing_at, bypass_at, effect_at, step_at}
use Rattle.matching.specs.Stores.{new_store, stores_in, retired_stores, store_under}
use Rattle.matching.specs.Compares.{tag_fault_of}
use Rattle.matching.specs.PartFaults.{is_in_image, is_in_line, range_fault_of, insert_range_fault, bypass_range_fault}
use Rattle.matching.specs.PartFaults.{is_within, is_again, is_known, part_fault_in, unknown_fault_of, data_fault_of}
use Rattle.matching.specs.PartFaults.{torn_store_fault_of, fate_at, second_bypass_fault}
use Rattle.matching.specs.RetireFaults.{is_bypassed, is_over, is_stray, lower, lowest_stray, stray_fault_of, is_missing}
use Rattle.matching.specs.RetireFaults.{same_read, is_torn, missing_fault_in, torn_fault_in, missing_fault_of}
use Rattle.matching.specs.RetireFaults.{torn_fault_of, bypass_fault_of, is_in_pair, pair_fault_of, retire_fault_in}
use Rattle.matching.specs.RetireFaults.{rd_want_of, amo_fault_of}
use Rattle.matching.specs.RetireFaults as rows
use Rattle.matching.specs.Compares.{pc_fault_of, word_fault_of, trap_fault_of, next_fault_of, rd_fault_of, csr_fault_of}
use Rattle.matching.specs.Matching.{stream_fault_of, part_fault_of, bypass_fault_at, body_fault_of}
use Rattle.matching.specs.Matching.{IsClean}
use Rattle.matching.specs.Matching.{retire_fault_of}
use Rattle.trace_model.specs.Extents.{is_extent, extent_of}
use Rattle.trace_model.specs.Groups.{Access}
use Rattle.trace_model.specs.Entries.{Stores, Entry}
use Rattle.trace_model.specs.Retirements.{store_access, entry_of}
use Rattle.trace_model.specs.Traces.{bytes_stored, stored_at, entry_in, entries}
use Rattle.trace_model.proofs.Lists.{In, from_filter}
use Rattle.trace_model.proofs.Extents.{extent_is}
use Rattle.trace_model.proofs.Fresh.{IsFresh, IsInLine}
use Rattle.trace_model.proofs.Keys.{with_more}
use Rattle.trace_model.proofs.Facts.{live_all}
use Rattle.trace_model.proofs.Plans.{IsPlanned, planned, IsPieceOf, store_piece}
use Rattle.trace_model.proofs.Suits.{IsKnown, SuitsInsert, SuitsEarly, HasNone, IsCounted, IsOneRead}
use Rattle.trace_model.proofs.Suits.{HasOver, IsInPair, SuitsSc, SuitsDoing}
use Rattle.trace_model.proofs.Suits.{SuitsRetire}
use Rattle.trace_model.proofs.Suits.{SuitsBody, Suited}

-- ---- several tests

pub both_none : {X : Type 0} (a b : Option X) → (a or_else b) ≡ None → (a ≡ None) × (b ≡ None)
both_none None b e = (refl, e)
both_none (Some f) b e = absurd (cc)

-- a fault that isn't there: its test passed, or failed
passed_if : {X : Type 0} (b : Bool) (x : X) → cond b None (Some x) ≡ None → b ≡ true
passed_if true x e = refl
passed_if false x e = absurd (cc)

failed_if : {X : Type 0} (b : Bool) (x : X) → cond b (Some x) None ≡ None → b ≡ false
failed_if true x e = absurd (cc)
failed_if false x e = refl

-- the last of three tests, each with its fault
third_failed : {X : Type 0} (a b c : Bool) (x y z : X)
    → cond a (Some x) (cond b (cond c (Some y) None) (Some z)) ≡ None → c ≡ false
third_failed true b c x y z e = absurd (cc)
third_failed false false c x y z e = absurd (cc)
third_failed false true c x y z e = failed_if c y e

-- of the first n numbers none passes
none_below : (p : ℕ → Bool) (n : ℕ) → first_below p n ≡ None → (k : ℕ) → k < n → p k ≡ false
none_below p zero e k l = absurd (omega (arith, l))
none_below p (suc n) e k l = at (first_below p n) refl (p n) refl (eqb k n) refl e (none_below p n)
  where
    at : (o : Option ℕ) → first_below p n ≡ o → (b : Bool) → p n ≡ b → (c : Bool) → eqb k n ≡ c
        → option_or o (cond b (Some n) None) ≡ None
        → (first_below p n ≡ None → (k : ℕ) → k < n → p k ≡ false) → p k ≡ false
    at (Some m) d b f c g q rec = absurd (cc)
    at None d true f c g q rec = absurd (cc)
    at None d false f true g q rec = subst (λ (z : ℕ). p z ≡ false) (sym (eqb-true k n g)) f
    at None d false f false g q rec = rec d k (other (eqb k n) refl g)
      where
        other : (c : Bool) → eqb k n ≡ c → c ≡ false → k < n
        other true h i = absurd (both_ways true i refl)
        other false h i = at_order (ltb k n) refl
          where
            at_order : (c : Bool) → ltb k n ≡ c → k < n
            at_order true j = ltb-true k n j
            at_order false j =
                let m = ltb-false k n j in
                absurd (both_ways (eqb k n) h (eq-eqb k n (let s : k ≡ n = omega (arith, m, l) in s)))

latest_passes : {X : Type 0} (p : X → Bool) (xs : List X) (x : X) → find p xs ≡ Some x → In x xs × (p x ≡ true)
latest_passes p [] x e = absurd (cc)
latest_passes p (y ∷ ys) x e = at (p y) refl e (latest_passes p ys x)
  where
    at : (b : Bool) → p y ≡ b → cond b (Some y) (find p ys) ≡ Some x
        → (find p ys ≡ Some x → In x ys × (p x ≡ true)) → In x (y ∷ ys) × (p x ≡ true)
    at true q e rec = let s : y ≡ x = cc in (inl (sym s), subst (λ z. p z ≡ true) s q)
    at false q e rec = let r = rec e in (inr r.0, r.1)

none_latest : {X : Type 0} (p : X → Bool) (xs : List X) → find p xs ≡ None → (x : X) → In x xs → p x ≡ false
none_latest p [] e x i = absurd i
none_latest p (y ∷ ys) e x i = at (p y) refl e i (none_latest p ys)
  where
    at : (b : Bool) → p y ≡ b → cond b (Some y) (find p ys) ≡ None → In x (y ∷ ys)
        → (find p ys ≡ None → (x : _) → In x ys → p x ≡ false) → p x ≡ false
    at true q e i rec = absurd (cc)
    at false q e (inl s) rec = subst (λ z. p z ≡ false) (sym s) q
    at false q e (inr i) rec = rec e x i

is_none : {X : Type 0} (o : Option X) → not (is_some o) ≡ true → o ≡ None
is_none None e = refl
is_none (Some x) e = absurd (false≢true e)

is_there : {X : Type 0} (o : Option X) → not (is_some o) ≡ false → (x : X) × (o ≡ Some x)
is_there None e = absurd (both_ways true e refl)
is_there (Some x) e = (x, refl)

-- ---- time

timed : (before : List Message) (m : Message) → stream_fault_of before m ≡ None → last_time before ≤ m.head.time
timed [] m e = omega arith
timed (last ∷ before) m e = ltb-false m.head.time last.head.time
    (third_failed (is_open m.body) (ltb m.head.hart (harts_of (last ∷ before))) (ltb m.head.time last.head.time) _ _ _
    e)

-- ---- each plain store that retired has its entry

pub record HasEntry (es : List Entry) (h : ℕ) (s : Stored) : Type 0 where
  pub entry : Entry
  pub access : Access
  pub there : In entry es
  pub stores : entry.memory ≡ Stores access
  pub hart : access.hart ≡ h
  pub tag : access.tag ≡ s.tag
  pub addr : access.extent.addr ≡ s.piece.addr
  pub len : access.extent.len ≡ length s.piece.bytes

entry_more : (o : Option Entry) (es : List Entry) (h : ℕ) (s : Stored) → HasEntry es h s
    → HasEntry (cons_option o es) h s
entry_more o es h s e = record {
  entry = e.entry;
  access = e.access;
  there = with_more o es e.entry e.there;
  stores = e.stores;
  hart = e.hart;
  tag = e.tag;
  addr = e.addr;
  len = e.len;
}

-- where a plain store is done, its bytes are stored
abbrev pub StoresPiece : Doing → Option Piece → Type 0
StoresPiece (trap cause value) o = Unit {0}
StoresPiece (plain insn) o = Unit {0}
StoresPiece (counter insn) o = Unit {0}
StoresPiece (load insn addr len) o = Unit {0}
StoresPiece (store insn addr len) o = (is_extent addr len ≡ true) × IsPieceOf o addr len
StoresPiece (lr insn addr len) o = Unit {0}
StoresPiece (sc insn addr len) o = Unit {0}
StoresPiece (amo insn addr len) o = Unit {0}

module _ (rs bs : List OpenReport) (head : Head) (put : List ℕ) (o : Option Piece) (es : List Entry) (old : List Stored)
    (s : Stored)
    (rec : In s old → HasEntry es head.hart s) where
  abbrev Has : Doing → Type 0
  Has d = StoresPiece d o → In s (cons_option (new_store d head.tag o) old)
      → HasEntry (cons_option (entry_of rs bs head put d) es) head.hart s

  on : (d : Doing) → In s old → HasEntry (cons_option (entry_of rs bs head put d) es) head.hart s
  on d i = entry_more (entry_of rs bs head put d) es head.hart s (rec i)

  store_entry : (insn : Insn) (addr len : ℕ) → Has (store insn addr len)
  store_entry insn addr len f i =
      at (subst (λ (z : Option Piece). In s (cons_option (new_store (store insn addr len) head.tag z) old)) f.1.is i)
    where
      at : (s ≡ record { tag = head.tag; piece = f.1.piece }) ⊎ In s old
          → HasEntry (cons_option (entry_of rs bs head put (store insn addr len)) es) head.hart s
      at (inr j) = on (store insn addr len) j
      at (inl q) = record {
        entry = _;
        access = store_access head insn (extent_of addr len) put;
        there = inl refl;
        stores = refl;
        hart = refl;
        tag = ap (λ (z : Stored). z.tag) (sym q);
        addr = (extent_is addr len f.0).addr_is ∙ sym f.1.addr_is ∙ ap (λ (z : Stored). z.piece.addr) (sym q);
        len = (extent_is addr len f.0).len_is ∙ sym f.1.len_is ∙ ap (λ (z : Stored). length z.piece.bytes) (sym q);
      }

  new_entry : (d : Doing) → Has d
  new_entry (trap cause value) f i = on (trap cause value) i
  new_entry (plain insn) f i = on (plain insn) i
  new_entry (counter insn) f i = on (counter insn) i
  new_entry (load insn addr len) f i = on (load insn addr len) i
  new_entry (store insn addr len) f i = store_entry insn addr len f i
  new_entry (lr insn addr len) f i = on (lr insn addr len) i
  new_entry (sc insn addr len) f i = on (sc insn addr len) i
  new_entry (amo insn addr len) f i = on (amo insn addr len) i

-- what the model stores at a Retire
module _ (image : Loaded) (before : List Message) (head : Head) (retire : Retire) where
  abbrev hart : HartState
  hart = (run_of image before head.hart).hart

  -- what is done by a plan
  abbrev done_with : Doing → steps.Done
  done_with d = done_of (run_of image before head.hart) (live before head.hart) (bypass_at before head) head.tag retire
      d

  planned_at : IsPlanned (run_of image before head.hart).hart (doing_at image before head.hart)
  planned_at = planned (run_of image before head.hart).hart image (config_of before)

  pub stores_piece : StoresPiece (doing_at image before head.hart) (effect_at image before head retire).store
  stores_piece = at (doing_at image before head.hart) refl planned_at
    where
      at : (d : Doing) → doing_at image before head.hart ≡ d → IsPlanned (run_of image before head.hart).hart d
          → StoresPiece d (effect_at image before head retire).store
      at (trap cause value) q p = tt
      at (plain insn) q p = tt
      at (counter insn) q p = tt
      at (load insn addr len) q p = tt
      at (lr insn addr len) q p = tt
      at (sc insn addr len) q p = tt
      at (amo insn addr len) q p = tt
      at (store insn addr len) q p = (
        p.0.1,
        subst (λ (d : Doing). IsPieceOf (done_with d).effect.store addr len) (sym q)
            (subst (λ (n : ℕ). IsPieceOf (done_with (store insn addr len)).effect.store n len) (sym p.1)
            (subst (λ (n : ℕ). IsPieceOf (done_with (store insn addr len)).effect.store (address_of hart insn) n)
            (sym p.2)
            (store_piece hart (outside_of (live before head.hart) (bypass_at before head) head.tag retire
            (store insn addr len))
            insn p.0.0))),
      )

  has_new : (s : Stored) → (In s (retired_stores image before head.hart) → HasEntry (entries image before) head.hart s)
      → In s (cons_option
      (new_store (doing_at image before head.hart) head.tag (effect_at image before head retire).store)
      (retired_stores image before head.hart))
      → HasEntry (cons_option (entry_in image before head (body.Retire retire)) (entries image before)) head.hart s
  has_new s rec i = new_entry (live before head.hart) (early before) head (stored_at image before head retire)
      (effect_at image before head retire).store (entries image before) (retired_stores image before head.hart) s rec
      (doing_at image before head.hart) stores_piece i

has_now : (image : Loaded) (before : List Message) (head : Head) (b : Body) (h : ℕ) (s : Stored)
    → (In s (retired_stores image before h) → HasEntry (entries image before) h s)
    → In s (stores_in image before (retired_stores image before h) head b h)
    → HasEntry (cons_option (entry_in image before head b) (entries image before)) h s
has_now image before head (body.Retire retire) h s rec i = at (eqb head.hart h) refl i
  where
    at : (c : Bool) → eqb head.hart h ≡ c
        → In s (cond c (cons_option (new_store (doing_at image before h) head.tag
        (step_at image before h head retire).effect.store) (retired_stores image before h))
        (retired_stores image before h))
        → HasEntry (cons_option (entry_in image before head (body.Retire retire)) (entries image before)) h s
    at false q i = entry_more (entry_in image before head (body.Retire retire)) (entries image before) h s (rec i)
    at true q i = subst
        (λ (z : ℕ). (In s (retired_stores image before z) → HasEntry (entries image before) z s)
        → In s (cons_option (new_store (doing_at image before z) head.tag
        (step_at image before z head retire).effect.store) (retired_stores image before z))
        → HasEntry (cons_option (entry_in image before head (body.Retire retire)) (entries image before)) z s)
        (eqb-true head.hart h q) (has_new image before head retire s) rec i
has_now image before head b h s rec i = entry_more (entry_in image before head b) (entries image before) h s (rec i)

pub has_entry : (image : Loaded) (before : List Message) (h : ℕ) (s : Stored) → In s (retired_stores image before h)
    → HasEntry (entries image before) h s
has_entry image [] h s i = absurd i
has_entry image (m ∷ before) h s i = has_now image before m.head m.body h s (has_entry image before h s) i

-- ---- parts of stores

-- the bytes of a piece are those from its address on
inside_of : (piece : Piece) (x : ℕ) → has piece x ≡ true → (piece.addr ≤ x) × (x < piece.addr + length piece.bytes)
inside_of piece x e =
    let p = and_parts (leb piece.addr x) (ltb x (piece.addr + length piece.bytes)) e in
    (leb-true _ _ p.0, ltb-true _ _ p.1)

first_byte : (piece : Piece) → 1 ≤ length piece.bytes → (x : ℕ) × (has piece x ≡ true)
first_byte piece l = (
  piece.addr,
  and_from _ _ (le-leb piece.addr piece.addr (omega arith))
      (lt-ltb piece.addr (piece.addr + length piece.bytes) (omega (arith, l))),
)

-- the store that a part is of
pub record IsPartOfOne (fates : Stored → ℕ → Fate) (piece : Piece) (o : Option Stored) : Type 0 where
  pub whole : Stored
  pub is : o ≡ Some whole
  pub known : is_known (fates whole) piece whole ≡ true

part_of_one : (fates : Stored → ℕ → Fate) (piece : Piece) (o : Option Stored) → part_fault_in fates piece o ≡ None
    → IsPartOfOne fates piece o
part_of_one fates piece None e = absurd (cc)
part_of_one fates piece (Some s) e = record {
  whole = s;
  is = refl;
  known = passed_if (is_known (fates s) piece s) _
      (both_none (unknown_fault_of (fates s) piece s) (data_fault_of piece s or_else torn_store_fault_of piece s) e).0;
}

fresh_is : (f : Fate) → is_fresh f ≡ true → f ≡ Nothing
fresh_is Nothing e = refl
fresh_is (Waiting j) e = absurd (false≢true e)
fresh_is (Done p) e = absurd (false≢true e)

module _ (image : Loaded) (before : List Message) (head : Head) (piece : Piece)
    (part : IsPartOfOne (fate_at before head.hart) piece (store_under head.tag
    (retired_stores image before head.hart))) where
  abbrev whole : Stored
  whole = part.whole

  under : In whole (retired_stores image before head.hart) × (eqb whole.tag head.tag ≡ true)
  under = latest_passes (λ (s : Stored). eqb s.tag head.tag) (retired_stores image before head.hart) whole part.is

  tagged : whole.tag ≡ head.tag
  tagged = eqb-true whole.tag head.tag under.1

  entry : HasEntry (entries image before) head.hart whole
  entry = has_entry image before head.hart whole under.0

  parts : (is_within piece whole.piece ≡ true)
      × (not (is_some (first_below (is_again (fate_at before head.hart whole) piece whole) 8)) ≡ true)
  unfolding is_known
  parts = and_parts (is_within piece whole.piece)
      (not (is_some (first_below (is_again (fate_at before head.hart whole) piece whole) 8))) part.known

  within : (whole.piece.addr ≤ piece.addr)
      × (piece.addr + length piece.bytes ≤ whole.piece.addr + length whole.piece.bytes)
  within =
      let p = and_parts (leb whole.piece.addr piece.addr)
      (leb (piece.addr + length piece.bytes) (whole.piece.addr + length whole.piece.bytes)) parts.0 in
      (leb-true _ _ p.0, leb-true _ _ p.1)

  short : length whole.piece.bytes ≤ 8
  short = subst (λ (n : ℕ). n ≤ 8) entry.len entry.access.extent.sized.1

  fresh_bytes : IsFresh before head piece
  fresh_bytes x e =
      let i = inside_of piece x e in
      let low = within.0 in
      let high = within.1 in
      let eight = short in
      let k : ℕ = x - whole.piece.addr in
      let back : whole.piece.addr + k ≡ x = omega (arith, i.0, low) in
      let l : k < 8 = omega (arith, i.1, high, eight) in
      let none = none_below (is_again (fate_at before head.hart whole) piece whole) 8
      (is_none (first_below (is_again (fate_at before head.hart whole) piece whole) 8) parts.1) k l in
      let f = at (is_fresh (fate_at before head.hart whole k)) (subst
      (λ (z : ℕ). (has piece z && not (is_fresh (fate_at before head.hart whole k))) ≡ false) back none) e in
      subst (λ (z : ℕ). fate before head.hart z x ≡ Nothing) tagged
      (subst (λ (z : ℕ). fate before head.hart whole.tag z ≡ Nothing) back (fresh_is _ f))
    where
      at : (b : Bool) → (has piece x && not b) ≡ false → has piece x ≡ true → b ≡ true
      at true q e = refl
      at false q e = absurd (both_ways (has piece x && true) q (and_from (has piece x) true e refl))

  known_bytes : FitsPiece piece → IsKnown (entries image before) head piece
  known_bytes fits = record {
    entry = entry.entry;
    access = entry.access;
    there = entry.there;
    stores = entry.stores;
    hart = entry.hart;
    tag = entry.tag ∙ tagged;
    inside = λ x e.
        let i = inside_of piece x e in
        let low = within.0 in
        let high = within.1 in
        let a = entry.addr in
        let n = entry.len in
        (omega (arith, i.0, low, a), omega (arith, i.1, high, a, n));
    some = first_byte piece fits.0;
  }

-- ---- Inserts and Bypasses

range_is : (b : Bool) → range_fault_of b ≡ None → b ≡ true
range_is b e = passed_if b _ e

in_line : (piece : Piece) → 1 ≤ length piece.bytes → is_in_line piece ≡ true → IsInLine piece
in_line piece some e x q =
    let i = inside_of piece x q in
    let s : piece.addr / 64 * 64 ≡ (piece.addr + length piece.bytes - 1) / 64 * 64 = eqb-true _ _ e in
    omega (arith, i.0, i.1, s, some)

suits_insert : (image : Loaded) (before : List Message) (head : Head) (piece : Piece) → FitsPiece piece
    → body_fault_of image before head (body.Insert piece) ≡ None → SuitsInsert image before head piece
suits_insert image before head piece fits e =
    let p = both_none (insert_range_fault image piece) (part_fault_of image before head piece) e in
    let r = and_parts (is_in_image image piece) (is_in_line piece) (range_is _ p.0) in
    let o = part_of_one (fate_at before head.hart) piece (store_under head.tag
    (retired_stores image before head.hart)) p.1 in
    record {
      fresh = fresh_bytes image before head piece o;
      line = in_line piece fits.0 r.1;
      known = known_bytes image before head piece o fits;
    }

suits_early : (image : Loaded) (before : List Message) (head : Head) (piece : Piece) → FitsPiece piece
    → is_in_image image piece ≡ true → second_bypass_fault head.tag (bypass_at before head) ≡ None
    → SuitsEarly before head piece
suits_early image before head piece fits there e = record {
  sized = and_from _ _ (and_from _ _ (le-leb 1 (length piece.bytes) fits.0) (le-leb (length piece.bytes) 8 fits.1))
      (and_parts (leb (piece.addr + length piece.bytes) (2 ^ 64)) (has_bytes image piece.addr (length piece.bytes))
      there).0;
  first = none_latest (is_report head.hart head.tag) (early before) (none (bypass_at before head) e);
}
  where
    none : (o : Option OpenReport) → second_bypass_fault head.tag o ≡ None → o ≡ None
    none None q = refl
    none (Some r) q = absurd (cc)

suits_bypass : (image : Loaded) (before : List Message) (head : Head) (piece : Piece) → FitsPiece piece
    → body_fault_of image before head (body.Bypass piece) ≡ None → SuitsBody image before head (body.Bypass piece)
suits_bypass image before head piece fits e =
    let p = both_none (bypass_range_fault image piece) (bypass_fault_at image before head piece) e in (
      (λ young. suits_early image before head piece fits (range_is _ p.0) (subst (λ (b : Bool). cond b
          (second_bypass_fault head.tag (bypass_at before head)) (part_fault_of image before head piece) ≡ None) young
          p.1)),
      λ plain.
          let o = part_of_one (fate_at before head.hart) piece (store_under head.tag
          (retired_stores image before head.hart))
          (subst (λ (b : Bool). cond b (second_bypass_fault head.tag (bypass_at before head))
          (part_fault_of image before head piece) ≡ None) plain p.1) in
          record {
            fresh = fresh_bytes image before head piece o;
            known = known_bytes image before head piece o fits;
          },
    )

-- ---- Retires

young_tag : (o : Option ℕ) (tag : ℕ) → tag_fault_of o tag ≡ None → is_younger o tag ≡ true
young_tag None tag e = refl
young_tag (Some last) tag e = lt-ltb last tag (leb-false tag last (failed_if (leb tag last) _ e))

stray_none : (o : Option ℕ) → stray_fault_of o ≡ None → o ≡ None
stray_none None e = refl
stray_none (Some t) e = absurd (cc)

none_stray : (d : Doing) (h t : ℕ) (rs : List OpenReport) → lowest_stray d h t rs ≡ None → (r : OpenReport) → In r rs
    → is_stray d h t r ≡ false
none_stray d h t [] e r i = absurd i
none_stray d h t (s ∷ rs) e r i = at (is_stray d h t s) refl e i (none_stray d h t rs)
  where
    at : (b : Bool) → is_stray d h t s ≡ b → cond b (Some (lower s.tag (lowest_stray d h t rs))) (lowest_stray d h t rs)
        ≡ None → In r (s ∷ rs)
        → (lowest_stray d h t rs ≡ None → (r : OpenReport) → In r rs → is_stray d h t r ≡ false)
        → is_stray d h t r ≡ false
    at true q e i rec = absurd (cc)
    at false q e (inl f) rec = subst (λ (z : OpenReport). is_stray d h t z ≡ false) (sym f) q
    at false q e (inr i) rec = rec e r i

module _ (d : Doing) (head : Head) (early : List OpenReport)
    (none : (r : OpenReport) → In r early → is_stray d head.hart head.tag r ≡ false) where
  -- an early Bypass of the hart has no lower tag
  older : (r : OpenReport) → In r early → r.hart ≡ head.hart → head.tag ≤ r.tag
  older r i e = at (ltb r.tag head.tag) refl (none r i)
    where
      at : (b : Bool) → ltb r.tag head.tag ≡ b
          → (eqb r.hart head.hart && (b || (eqb r.tag head.tag && not (is_bypassed d r.piece)))) ≡ false
          → head.tag ≤ r.tag
      at false q f = ltb-false r.tag head.tag q
      at true q f = absurd (both_ways (eqb r.hart head.hart && true) f
          (and_from (eqb r.hart head.hart) true (eq-eqb r.hart head.hart e) refl))

  -- one of the instruction is one that the instruction may have
  may_have : (r : OpenReport) → In r early → is_report head.hart head.tag r ≡ true → is_bypassed d r.piece ≡ true
  may_have r i e = at (ltb r.tag head.tag) (is_bypassed d r.piece) (none r i)
    where
      own : (eqb r.hart head.hart ≡ true) × (eqb r.tag head.tag ≡ true)
      own = and_parts (eqb r.hart head.hart) (eqb r.tag head.tag) e

      at : (b c : Bool) → (eqb r.hart head.hart && (b || (eqb r.tag head.tag && not c))) ≡ false → c ≡ true
      at b true f = refl
      at true false f = absurd (both_ways (eqb r.hart head.hart && true) f
          (and_from (eqb r.hart head.hart) true own.0 refl))
      at false false f = absurd (both_ways (eqb r.hart head.hart && (eqb r.tag head.tag && true)) f
          (and_from (eqb r.hart head.hart) _ own.0 (and_from (eqb r.tag head.tag) true own.1 refl)))

  -- where it may have none it has none
  has_none : ((piece : Piece) → is_bypassed d piece ≡ false) → HasNone early head
  has_none never r i = at (is_report head.hart head.tag r) refl
    where
      at : (b : Bool) → is_report head.hart head.tag r ≡ b → b ≡ false
      at true q = absurd (both_ways (is_bypassed d r.piece) (never r.piece) (may_have r i q))
      at false q = refl

  -- what it has is over just its bytes
  has_over : (addr len : ℕ) → ((piece : Piece) → is_bypassed d piece ≡ is_over addr len piece) → (r : OpenReport)
      → early_of early head.hart head.tag ≡ Some r → HasOver early head addr len
  has_over addr len same r e =
      let p = latest_passes (is_report head.hart head.tag) early r e in
      let o = and_parts (eqb r.piece.addr addr) (eqb (length r.piece.bytes) len)
      (sym (same r.piece) ∙ may_have r p.0 p.1) in
      record { report = r; is = e; over = (eqb-true _ _ o.0, eqb-true _ _ o.1) }

-- ---- the Reads of a load

counted : (rs : List OpenReport) (t addr len : ℕ) → missing_fault_in addr (first_below (is_missing rs t addr) len)
    ≡ None
    → IsCounted rs t addr len
counted rs t addr len e k l =
    is_there (counting rs t (addr + k)) (none_below (is_missing rs t addr) len (none _ e) k l)
  where
    none : (o : Option ℕ) → missing_fault_in addr o ≡ None → o ≡ None
    none None q = refl
    none (Some k) q = absurd (cc)

-- the live Reads of a hart have different numbers
live_number : (before : List Message) (h : ℕ) (r : OpenReport) → In r (live before h) → r.number ≤ length before
live_number = live_all (λ before h r. r.number ≤ length before) (record {
  on = λ before m h r l. omega (arith, l);
  read = λ before head piece. omega arith;
})

-- a report of a message is new
not_new : (before : List Message) (h : ℕ) (a : OpenReport) (head : Head) (piece : Piece) → In a (live before h)
    → a.number ≡ (open_report_of (number_after before) head piece).number → ⊥
not_new before h a head piece i e = let l = live_number before h a i in omega (arith, l, e)

one_now : (before : List Message) (head : Head) (b : Body) (h : ℕ) (a c : OpenReport)
    → (In a (live before h) → In c (live before h) → a.number ≡ c.number → a ≡ c)
    → In a (live_in (number_after before) (live before h) head b h)
    → In c (live_in (number_after before) (live before h) head b h) → a.number ≡ c.number → a ≡ c
one_now before head (body.Read piece) h a c rec i j e = at (eqb head.hart h) i j
  where
    new : OpenReport
    new = open_report_of (number_after before) head piece

    at : (d : Bool) → In a (cond d (new ∷ live before h) (live before h))
        → In c (cond d (new ∷ live before h) (live before h))
        → a ≡ c
    at false i j = rec i j e
    at true (inl f) (inl g) = f ∙ sym g
    at true (inl f) (inr j) = absurd (not_new before h c head piece j (sym e ∙ ap (λ (z : OpenReport). z.number) f))
    at true (inr i) (inl g) = absurd (not_new before h a head piece i (e ∙ ap (λ (z : OpenReport). z.number) g))
    at true (inr i) (inr j) = rec i j e
one_now before head (body.Retire retire) h a c rec i j e = at (eqb head.hart h) i j
  where
    at : (d : Bool)
        → In a (cond d (filter (λ (s : OpenReport). ltb head.tag s.tag) (live before h)) (live before h))
        → In c (cond d (filter (λ (s : OpenReport). ltb head.tag s.tag) (live before h)) (live before h)) → a ≡ c
    at false i j = rec i j e
    at true i j = rec (from_filter (λ (s : OpenReport). ltb head.tag s.tag) (live before h) a i).0
        (from_filter (λ (s : OpenReport). ltb head.tag s.tag) (live before h) c j).0 e
one_now before head body.Squash h a c rec i j e = at (eqb head.hart h) i j
  where
    at : (d : Bool)
        → In a (cond d (filter (λ (s : OpenReport). ltb s.tag head.tag) (live before h)) (live before h))
        → In c (cond d (filter (λ (s : OpenReport). ltb s.tag head.tag) (live before h)) (live before h)) → a ≡ c
    at false i j = rec i j e
    at true i j = rec (from_filter (λ (s : OpenReport). ltb s.tag head.tag) (live before h) a i).0
        (from_filter (λ (s : OpenReport). ltb s.tag head.tag) (live before h) c j).0 e
one_now before head b h a c rec i j e = rec i j e

pub live_one : (before : List Message) (h : ℕ) (a c : OpenReport) → In a (live before h) → In c (live before h)
    → a.number ≡ c.number → a ≡ c
live_one [] h a c i j e = absurd i
live_one (m ∷ before) h a c i j e = one_now before m.head m.body h a c (live_one before h a c) i j e

-- a Read that counts is a live one
abbrev FromLive : List OpenReport → Option OpenReport → Type 0
FromLive rs o = (r : OpenReport) → o ≡ Some r → In r rs

same_is_one : (rs : List OpenReport) → ((a c : OpenReport) → In a rs → In c rs → a.number ≡ c.number → a ≡ c)
    → (o p : Option OpenReport) → FromLive rs o → FromLive rs p → same_read o p ≡ true → p ≡ o
same_is_one rs one None None f g e = refl
same_is_one rs one None (Some c) f g e = absurd (false≢true e)
same_is_one rs one (Some a) None f g e = absurd (false≢true e)
same_is_one rs one (Some a) (Some c) f g e =
    ap Some (sym (one a c (f a refl) (g c refl) (eqb-true a.number c.number e)))

one_read : (before : List Message) (h t addr len : ℕ)
    → torn_fault_in addr (first_below (is_torn (live before h) t addr) len) ≡ None
    → IsOneRead (live before h) t addr len
one_read before h t addr len e k l =
    let base : addr + 0 ≡ addr = omega arith in
    let none = none_below (is_torn (live before h) t addr) len (at _ e) k l in
    subst (λ (z : ℕ). counting (live before h) t (addr + k) ≡ counting (live before h) t z) (sym base)
    (same_is_one (live before h) (live_one before h) (counting (live before h) t addr)
    (counting (live before h) t (addr + k)) (from_live addr) (from_live (addr + k)) (not-false _ none))
  where
    at : (o : Option ℕ) → torn_fault_in addr o ≡ None → o ≡ None
    at None q = refl
    at (Some k) q = absurd (cc)

    from_live : (x : ℕ) → FromLive (live before h) (counting (live before h) t x)
    from_live x r f = (latest_passes (is_for t x) (live before h) r f).0

-- ---- the whole

-- what the faults of a Retire leave, row by row
pub record NoFaults (run : Run) (rs bs : List OpenReport) (head : Head) (plan : PlanOf)
    (bypass : Option OpenReport) : Type 0
  where
    pub stray : stray_fault_of (lowest_stray plan.doing head.hart head.tag bs) ≡ None
    pub missing : missing_fault_of rs head.tag plan.doing ≡ None
    pub torn : torn_fault_of rs head.tag plan.doing ≡ None
    pub bypassed : bypass_fault_of bypass plan.doing ≡ None
    pub paired : pair_fault_of run.pair (is_some bypass) plan.doing ≡ None

no_faults : (run : Run) (rs bs : List OpenReport) (head : Head) (retire : Retire) (plan : PlanOf) (effect : Effect)
    (bypass : Option OpenReport) → retire_fault_in run rs bs head retire plan effect bypass ≡ None
    → NoFaults run rs bs head plan bypass
unfolding retire_fault_in rows.effect_fault_in rows.register_fault_of
no_faults run rs bs head retire plan effect bypass e =
    let a = both_none (stray_fault_of (lowest_stray plan.doing head.hart head.tag bs)) _ e in
    let b = both_none (pc_fault_of run.hart.pc retire.pc) _ a.1 in
    let c = both_none (word_fault_of plan.word retire.word) _ b.1 in
    let d = both_none (trap_fault_of effect.trap retire.trap) _ c.1 in
    let f = both_none (missing_fault_of rs head.tag plan.doing) _ d.1 in
    let g = both_none (torn_fault_of rs head.tag plan.doing) _ f.1 in
    let h = both_none (bypass_fault_of bypass plan.doing) _ g.1 in
    let i = both_none (next_fault_of effect.next retire.next) _ h.1 in
    let j = both_none (rd_fault_of (rd_want_of plan.doing (is_some bypass) run.clocks effect.rd) retire.rd) _ i.1 in
    let k = both_none (csr_fault_of effect.csrs retire.csrs) _ j.1 in
    let l = both_none (amo_fault_of plan.doing effect.store bypass) _ k.1 in
    record { stray = a.0; missing = f.0; torn = g.0; bypassed = h.0; paired = l.1 }

-- a successful SC has its pair
in_pair : (o : Option Pair) (addr len : ℕ) → is_in_pair addr len o ≡ true → IsInPair o addr len
in_pair None addr len e = absurd (false≢true e)
in_pair (Some q) addr len e =
    let p = and_parts (leb q.addr addr) (leb (addr + len) (q.addr + q.len)) e in
    record { lr = q; is = refl; first = leb-true _ _ p.0; last = leb-true _ _ p.1 }

module _ (image : Loaded) (before : List Message) (head : Head) (retire : Retire) where
  abbrev run : Run
  run = run_of image before head.hart

  abbrev rs : List OpenReport
  rs = live before head.hart

  abbrev bs : List OpenReport
  bs = early before

  -- the rows of the Retire, were this to be done
  abbrev Rows : Doing → Type 0
  Rows d = NoFaults run rs bs head (record { word = (plan_at image before head.hart).word; doing = d })
      (bypass_at before head)

  none_of : (d : Doing) → Rows d → (r : OpenReport) → In r bs → is_stray d head.hart head.tag r ≡ false
  none_of d f = none_stray d head.hart head.tag bs (stray_none _ f.stray)

  bypass_there : (d : Doing) → rows.does_amo d ≡ true → Rows d → (r : OpenReport) × (bypass_at before head ≡ Some r)
  bypass_there d own f = is_there (bypass_at before head)
      (at (rows.does_amo d) (not (is_some (bypass_at before head))) own
      (failed_if (rows.does_amo d && not (is_some (bypass_at before head))) _ f.bypassed))
    where
      at : (a b : Bool) → a ≡ true → (a && b) ≡ false → b ≡ false
      at true b e q = q
      at false b e q = absurd (false≢true e)

  sc_suits : (insn : Insn) (addr len : ℕ) → Rows (sc insn addr len)
      → (early_of bs head.hart head.tag ≡ None) ⊎ SuitsSc bs run.pair head addr len
  sc_suits insn addr len f = at (bypass_at before head) refl
      (failed_if (is_some (bypass_at before head) && not (is_in_pair addr len run.pair)) _ f.paired)
    where
      at : (o : Option OpenReport) → bypass_at before head ≡ o
          → (is_some o && not (is_in_pair addr len run.pair)) ≡ false
          → (early_of bs head.hart head.tag ≡ None) ⊎ SuitsSc bs run.pair head addr len
      at None q e = inl q
      at (Some r) q e = inr (record {
        bypass = has_over (sc insn addr len) head bs (none_of (sc insn addr len) f) addr len (λ piece. refl) r q;
        paired = in_pair run.pair addr len (not-false (is_in_pair addr len run.pair) e);
      })

  suits_doing : (d : Doing) → IsPlanned run.hart d → StoresPiece d (effect_at image before head retire).store → Rows d
      → SuitsDoing rs bs run.pair head (stored_at image before head retire) d
  suits_doing (trap cause value) p s f =
      has_none (trap cause value) head bs (none_of (trap cause value) f) (λ piece. refl)
  suits_doing (plain insn) p s f = (has_none (plain insn) head bs (none_of (plain insn) f) (λ piece. refl), p)
  suits_doing (counter insn) p s f = (has_none (counter insn) head bs (none_of (counter insn) f) (λ piece. refl), p)
  suits_doing (load insn addr len) p s f = (
    record {
      sized = p.1;
      none = has_none (load insn addr len) head bs (none_of (load insn addr len) f) (λ piece. refl);
      counted = counted rs head.tag addr len f.missing;
    },
    p.0,
  )
  suits_doing (store insn addr len) p s f = (
    record {
      sized = s.0;
      none = has_none (store insn addr len) head bs (none_of (store insn addr len) f) (λ piece. refl);
      stored = ap (λ (o : Option Piece). length (bytes_stored o)) s.1.is ∙ s.1.len_is;
    },
    p.0.0,
  )
  suits_doing (lr insn addr len) p s f = (
    record {
      sized = p.0.1;
      none = has_none (lr insn addr len) head bs (none_of (lr insn addr len) f) (λ piece. refl);
      counted = counted rs head.tag addr len f.missing;
      one = one_read before head.hart head.tag addr len f.torn;
      aligned = p.1;
      width = p.2;
    },
    p.0.0,
  )
  suits_doing (sc insn addr len) p s f = (sc_suits insn addr len f, p.0, p.1)
  suits_doing (amo insn addr len) p s f =
      let r = bypass_there (amo insn addr len) refl f in (
        has_over (amo insn addr len) head bs (none_of (amo insn addr len) f) addr len (λ piece. refl) r.0 r.1,
        p.0,
        p.1,
      )

  suits_retire : retire_fault_of image before head retire ≡ None → SuitsRetire image before head retire
  suits_retire e =
      let p = both_none (tag_fault_of (last_tag before head.hart) head.tag) _ e in
      let f = no_faults run rs bs head retire (plan_at image before head.hart) (effect_at image before head retire)
      (bypass_at before head) p.1 in
      record {
        younger = young_tag (last_tag before head.hart) head.tag p.0;
        older = older (doing_at image before head.hart) head bs (none_of (doing_at image before head.hart) f);
        doing = suits_doing (doing_at image before head.hart) (planned_at image before head retire)
            (stores_piece image before head retire) f;
      }

suits_body : (image : Loaded) (before : List Message) (head : Head) (b : Body) → FitsBody head b
    → body_fault_of image before head b ≡ None → SuitsBody image before head b
suits_body image before head (body.Open info) fits e = tt
suits_body image before head (body.Poke poke) fits e = tt
suits_body image before head (body.Read piece) fits e = tt
suits_body image before head (body.Insert piece) fits e = suits_insert image before head piece fits e
suits_body image before head (body.Write write) fits e = tt
suits_body image before head (body.Bypass piece) fits e = suits_bypass image before head piece fits e
suits_body image before head (body.Retire retire) fits e = suits_retire image before head retire e
suits_body image before head body.Squash fits e = tt
suits_body image before head body.End fits e = tt

-- each message of a clean list suits those before it
pub suited : (image : Loaded) (before : List Message) → IsClean image before → Suited image before
suited image [] c = tt
suited image (m ∷ before) c =
    let p = both_none (stream_fault_of before m) (body_fault_of image before m.head m.body) c.2 in
    (suited image before c.0, timed before m p.0, suits_body image before m.head m.body c.1 p.1)

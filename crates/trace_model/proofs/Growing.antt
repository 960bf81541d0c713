-- Each message makes the trace grow.
use Rattle.std.proofs.Common.{ℕ, ◌<◌, ◌≤◌, ◌≡◌, ◌≢◌, inl, inr, true, false, List, [], ◌∷◌, length}
use Rattle.std.proofs.Common.{Option, Some, None, refl, sym, ap, ◌∙◌, arith}
use Rattle.std.specs.List.{AllPairs, cons_option}
use Rattle.msg_frames.specs.declared.message.Head.{Head}
use Rattle.msg_frames.specs.declared.message.Piece.{Piece}
use Rattle.msg_frames.specs.declared.message.Retire.{Retire}
use Rattle.msg_frames.specs.declared.message.LineWrite.{LineWrite}
use Rattle.msg_frames.specs.declared.message.Body.{Body}
use Rattle.msg_frames.specs.declared.message.Body.TheVariants as body
use Rattle.msg_frames.specs.declared.message.Message.{Message}
use Rattle.elf_image.specs.Images.{Loaded}
use Rattle.rvwmo_model.specs.declared.instructions.Retired.{Retired}
use Rattle.rvwmo_model.specs.declared.operations.Op.{Op}
use Rattle.rvwmo_model.specs.declared.traces.Trace.{Trace}
use Rattle.rvwmo_model.specs.InForm.{AreRising}
use Rattle.growth_laws.specs.Growth.{Same, AddEarly, Performs}
use Rattle.matching.specs.Settings.{number_after, last_time}
use Rattle.matching.specs.Tags.{is_early}
use Rattle.matching.specs.Reports.{open_report_of, live, early}
use Rattle.matching.specs.Fates.{waiting, place_of}
use Rattle.matching.specs.Runs.{run_of, doing_at}
use Rattle.trace_model.specs.Entries.{Entry, insns_of}
use Rattle.trace_model.specs.Parts.{IsPartFor, ArePartsFor}
use Rattle.trace_model.specs.Growths.{GrownBy, own_place}
use Rattle.trace_model.specs.Traces.{entry_in, entries, places, early_op, granule_of}
use Rattle.trace_model.specs.Traces.{stored_at, trace_of}
use Rattle.trace_model.proofs.Lists.{In, listed}
use Rattle.trace_model.proofs.Extents.{extent_is}
use Rattle.trace_model.proofs.AreEntries.{AreEntries, ops_once}
use Rattle.trace_model.proofs.Performed.{IsBelow}
use Rattle.trace_model.proofs.Retires.{rising_more}
use Rattle.trace_model.proofs.Keys.{new_key}
use Rattle.trace_model.proofs.Suits.{SuitsBody, SuitsRetire, Suited}
use Rattle.trace_model.proofs.Tags.{all_below_tag, all_below_entry, early_one}
use Rattle.trace_model.proofs.Made.{each_entry}
use Rattle.trace_model.proofs.Known.{timed, clean, fits, stored, owned}
use Rattle.trace_model.proofs.Past.{all_below}
use Rattle.trace_model.proofs.Origins.{fresh_place}
use Rattle.trace_model.proofs.Pairs.{pair_is}
use Rattle.trace_model.proofs.Appends.{same_self, insert_same, bypass_grows, write_grows}
use Rattle.trace_model.proofs.Early.{bypass_early}
use Rattle.trace_model.proofs.Retiring.{retire_grows}

-- ---- the entries of a list

pub entries_rise : (image : Loaded) (before : List Message) → Suited image before
    → AreRising (insns_of (entries image before))
entries_rise image [] s = λ i j d l m. absurd (omega (arith, m))
entries_rise image (m ∷ before) s = at m.body s.2 (entries_rise image before s.0)
  where
    more : (o : Option Entry) → ((e : Entry) → o ≡ Some e → (w : Retired) → In w (insns_of (entries image before))
        → w.hart ≡ e.insn.hart → w.tag < e.insn.tag)
        → AreRising (insns_of (entries image before)) → AreRising (insns_of (cons_option o (entries image before)))
    more None younger up = up
    more (Some e) younger up = rising_more (insns_of (entries image before)) e.insn up (younger e refl)

    at : (b : Body) → SuitsBody image before m.head b → AreRising (insns_of (entries image before))
        → AreRising (insns_of (cons_option (entry_in image before m.head b) (entries image before)))
    at (body.Retire retire) t up = more (entry_in image before m.head (body.Retire retire)) younger up
      where
        younger : (e : Entry) → entry_in image before m.head (body.Retire retire) ≡ Some e → (w : Retired)
            → In w (insns_of (entries image before)) → w.hart ≡ e.insn.hart → w.tag < e.insn.tag
        younger e q w i h =
            let k = new_key image before m.head (body.Retire retire) e q in
            let l = all_below_tag image before s.0 m.head.hart m.head.tag t.younger w i (h ∙ k.0) in
            omega (arith, l, k.1)
    at (body.Open info) t up = up
    at (body.Poke poke) t up = up
    at (body.Read piece) t up = up
    at (body.Insert piece) t up = up
    at (body.Write write) t up = up
    at (body.Bypass piece) t up = up
    at body.Squash t up = up
    at body.End t up = up

pub are_entries : (image : Loaded) (before : List Message) → Suited image before → AreEntries (entries image before)
are_entries image before s = record { rising = entries_rise image before s; each = each_entry image before s }

-- ---- each kind of message

module _ (image : Loaded) (before : List Message) (s : Suited image before) (head : Head)
    (time : last_time before ≤ head.time) where
  abbrev old : Trace
  old = trace_of image before

  abbrev new : Body → Trace
  new b = trace_of image (record { head = head; body = b } ∷ before)

  good : AreEntries (entries image before)
  good = are_entries image before s

  settled : AreRising old.insns × AllPairs (λ a b. a ≢ b) old.ops
  settled = (good.rising, ops_once (places before) (entries image before) good)

  below : (j : ℕ) → IsBelow old (record { time = head.time; message = number_after before; insert = j })
  below j = all_below image before (timed image before s) head.time j time

  pub still : Same old old
  still = same_self old settled.0 settled.1

  pub inserts : (piece : Piece) → SuitsBody image before head (body.Insert piece) → Same old (new (body.Insert piece))
  inserts piece t = insert_same image before head piece (fits image before head (body.Insert piece) t) settled

  pub writes : (write : LineWrite) → (parts : List Op) × Performs head.hart old parts (new (body.Write write))
      × ArePartsFor head.hart head.time (number_after before) (waiting before head.hart write.line) parts
  writes write = write_grows image before head write (clean image before s) good
      (λ e i. stored image before s head.hart write.line e i) below

  pub bypasses : (piece : Piece) → SuitsBody image before head (body.Bypass piece) → is_early before head ≡ false
      → (o : Op) × Performs head.hart old (o ∷ []) (new (body.Bypass piece)) × IsPartFor head.hart head.tag
      (own_place head.time (number_after before)) piece o
  bypasses piece t plain =
      let k = (t.1 plain).known in
      bypass_grows image before head piece plain k.entry k.access good k.there k.stores
      (fits image before head (body.Bypass piece) t) k.hart k.tag k.inside k.some (below (number_after before))

  pub early_bypasses : (piece : Piece) → SuitsBody image before head (body.Bypass piece) → is_early before head ≡ true
      → AddEarly old (new (body.Bypass piece)) (early_op (open_report_of (number_after before) head piece))
  early_bypasses piece t young =
      let y = t.0 young in
      let x = extent_is piece.addr (length piece.bytes) y.sized in
      bypass_early image before head piece young settled.0 settled.1 (sym x.len_is)
      (λ w i h. all_below_tag image before s head.hart head.tag young w (listed _ w i) h) (below (number_after before))
      y.first

  -- the bytes of an instruction that retires now are not performed
  not_yet : (retire : Retire) → SuitsRetire image before head retire → (x : ℕ) → places before head.hart head.tag x
      ≡ None
  not_yet retire t x = elim (owned image before s head.hart head.tag x) [
    | inl e ↦ ap place_of e
    | inr k ↦
        let n = (each_entry image before s k.entry k.there).named k.access k.stores in
        let l = all_below_entry image before s head.hart head.tag t.younger k.entry k.there (sym n.0 ∙ k.hart) in
        absurd (omega (arith, l, n.1, k.tag))
  ]

  pub retires : (retire : Retire) → SuitsBody image before head (body.Retire retire)
      → GrownBy old (new (body.Retire retire)) (places before) (entry_in image before head (body.Retire retire))
  retires retire t =
      retire_grows (entries image before) (places before) (live before head.hart) (early before)
      (run_of image before head.hart).pair (granule_of before) head (stored_at image before head retire) good
      (all_below_entry image before s head.hart head.tag t.younger) t.older
      (λ r i q v j f. fresh_place image before head.hart head.tag
      (all_below_entry image before s head.hart head.tag t.younger) r i q v j f)
      (early_one image before s) (not_yet retire t) (pair_is image before s head.hart) (doing_at image before head.hart)
      t.doing

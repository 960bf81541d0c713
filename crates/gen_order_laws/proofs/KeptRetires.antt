-- What is kept of a made stream is kept where an instruction retires.
use Rattle.std.proofs.Common.{ℕ, suc, ◌≡◌, ◌+◌, ◌*◌, ◌^◌, ◌<◌, ◌≤◌, List, [], ◌∷◌, length, true, false}
use Rattle.std.proofs.Common.{refl, ap, sym, subst, ◌∙◌, arith, inl, inr, None, slice_index, pos, negsuc, lit<, lit≤}
use Rattle.std.proofs.lemmas.Bool.{le-leb}
use Rattle.tandem_base.specs.Signs.{sign_extended}
use Rattle.msg_frames.specs.declared.message.Head.{Head}
use Rattle.msg_frames.specs.declared.message.Piece.{Piece}
use Rattle.msg_frames.specs.declared.message.Body.TheVariants as body
use Rattle.msg_frames.specs.declared.message.Message.{Message}
use Rattle.rv_decode.specs.declared.instruction.Insn.{Insn}
use Rattle.rv_decode.specs.declared.instruction.Insn.TheVariants.{Load, Store, Fence, Jal, Amo}
use Rattle.rv_decode.specs.declared.operations.LoadOp.TheVariants.{Ld, Lw}
use Rattle.rv_decode.specs.declared.operations.StoreOp.TheVariants.{Sd}
use Rattle.rv_decode.specs.declared.operations.AmoOp.TheVariants as amo_op
use Rattle.rv_step.specs.Memory.{low_bytes}
use Rattle.rv_step.specs.Steps.{load, store, amo, plain}
use Rattle.matching.specs.Reports.{live, early}
use Rattle.trace_model.specs.Entries.{Entry, Fixed, Stores}
use Rattle.trace_model.specs.Extents.{extent_of, is_extent}
use Rattle.trace_model.specs.Retirements.{entry, load_ops, amo_ops, store_access}
use Rattle.trace_model.specs.Traces.{entries, entry_in, stored_at}
use Rattle.trace_gen.specs.declared.rounds.Step.TheVariants as step
use Rattle.trace_gen.specs.declared.rounds.Progress.{Progress}
use Rattle.trace_gen.specs.Program.{made_image, counter_addr, own_addr}
use Rattle.trace_gen.specs.Rounds.{tag_of, bytes_of_number, low_half_of, rd_with, sayings_at, moved_by, says_read}
use Rattle.trace_gen.specs.Schedule.{said}
use Rattle.trace_gen.proofs.Fitting.{AreSaid}
use Rattle.gen_laws.proofs.Own.{early_of_own}
use Rattle.gen_laws.proofs.Says.{Seen, seen, Runs, Left, say_all}
use Rattle.gen_laws.proofs.States.{IsNext, HasRead}
use Rattle.gen_laws.proofs.Plans.{plan_0, plan_1, plan_2, plan_3, plan_4, plan_5, plan_6}
use Rattle.gen_laws.proofs.Moves.{found_early}
use Rattle.gen_laws.proofs.Parts.{read_fine}
use Rattle.gen_laws.proofs.FirstSteps.{one_read, next_with}
use Rattle.gen_order_laws.proofs.Counting.{counted_same}
use Rattle.gen_order_laws.proofs.Logs as logs
use Rattle.gen_order_laws.proofs.Logs.{Perf, IsLog, counter, forward, written, add, again, turns_of, turn_of}
use Rattle.gen_order_laws.proofs.Logs.{insn_of_access}
use Rattle.gen_order_laws.proofs.Logs.{order_of}
use Rattle.gen_order_laws.proofs.MadeOps.{kind_of_access, addr_of_access, len_of_access}
use Rattle.gen_order_laws.proofs.Entered.{IsFixedBy, IsStoredBy, retired_by, entered_log}
use Rattle.gen_order_laws.proofs.Retirings.{retire_head, retire_of, entry_is, stored_is, load_entered}
use Rattle.gen_order_laws.proofs.Retirings.{add_entered, store_entered}
use Rattle.gen_order_laws.proofs.Kept.{IsKept}
use Rattle.gen_order_laws.proofs.Growing.{quiet_log, later_log, written_more, entered_quiet, entered_access, no_fourth}
use Rattle.gen_order_laws.proofs.Growing.{no_sixth}
use Rattle.gen_order_laws.proofs.KeptSteps.{Grown, After, turns_at, reach_at, reach_others, was_pending, now_pending}
use Rattle.gen_order_laws.proofs.KeptSteps.{half_byte, read_newest, read_perf}

module _ (harts h c : ℕ) (old new : ℕ → Progress) (before : List Message) (kept : IsKept harts c old before)
    (runs : Runs harts before) (mine : h < harts) (h16 : h < 16)
    (others : (g : ℕ) → (h ≡ g → ⊥) → new g ≡ old g) where
  abbrev p : Progress
  p = old h

  abbrev n : ℕ
  n = length before

  abbrev log : List Perf
  log = kept.log

  abbrev es : List Entry
  es = entries made_image before

  abbrev reach : ℕ → ℕ
  reach g = retired_by (old g)

  abbrev reach2 : ℕ → ℕ
  reach2 g = retired_by (new g)

  pub kept_retire_read : Grown harts h c old new before kept runs mine h16 others step.RetireRead
  kept_retire_read at' b own still =
      let p2 = moved_by step.RetireRead c p in
      let pend = was_pending harts h c old new before kept runs mine h16 others step.RetireRead at' in
      let reached = reach_at harts h c old new before kept runs mine h16 others step.RetireRead at' in
      let rd = rd_with 5 p.taken in
      let insn : Insn = Load Ld 5 10 (pos 0) in
      let head : Head = retire_head h before p.round 0 in
      let e : Entry = entry head insn false (Fixed (load_ops (live before h) head insn (extent_of counter_addr 8))) in
      let is = entry_is harts h before p.round 0 rd runs (load insn counter_addr 8)
      (plan_0 harts h p.round (seen before h).table mine b.next) in
      let fixed : IsFixedBy pend.perf e =
      load_entered h n p.round 0 pend.perf (live before h) insn counter_addr 8 (bytes_of_number p.taken) refl b.reads
      pend.at' pend.hart pend.round_is (ap insn_of_access pend.access) (ap kind_of_access pend.access)
      (ap (λ (a : logs.Access). addr_of_access a pend.perf.hart) pend.access) (ap len_of_access pend.access) (lit≤ tt)
      (lit< tt) (λ i lt. ap (λ (y : ℕ). slice_index (bytes_of_number y) i) (sym pend.value_is)) refl refl in
      record {
        log = log;
        logged =
            quiet_log log harts h n (suc n) old new p2 kept.logged mine (omega arith) own others (omega arith) refl
            (sym (turns_at harts h c old new before kept runs mine h16 others step.RetireRead at'));
        counted = kept.counted;
        entered =
            entered_access log es harts h reach reach2 (entry_in made_image before head (body.Retire
            (retire_of 0 rd))) e is
            kept.entered (record { stored = refl; store = λ j q. absurd (omega (arith, q)) })
            (inr (inl (pend.perf, pend.in_log, fixed))) p.round 0 (lit< tt) reached
            (ap retired_by own ∙ omega (arith, reached))
            (reach_others harts h c old new before kept runs mine h16 others) counter refl pend.perf pend.in_log
            pend.hart
            pend.round_is (pend.access, fixed);
        written = kept.written;
        pending =
            now_pending harts h c old new before kept runs mine h16 others p2
            (After harts h c old new before kept runs mine h16 others step.RetireRead) log own still
            (λ g t x apart. refl) (λ f i. i) tt;
      }

  pub kept_retire_store : Grown harts h c old new before kept runs mine h16 others step.RetireStore
  kept_retire_store at' b own still =
      let p2 = moved_by step.RetireStore c p in
      let turns = turns_at harts h c old new before kept runs mine h16 others step.RetireStore at' in
      let reached = reach_at harts h c old new before kept runs mine h16 others step.RetireStore at' in
      let f0 = kept.logged.there h p.round counter mine (omega (arith, turns)) in
      let f = f0.0 in
      let turn : turn_of f ≡ 5 * f.round + 0 = ap (λ (a : logs.Access). 5 * f.round + order_of a) f0.4 in
      let takes' = ap logs.takes f0.4 in
      let value : f.value ≡ p.taken =
      kept.logged.taken f f0.1 takes'
      (subst (λ (g : ℕ). 5 * (old g).round ≤ turn_of f) (sym f0.2) (omega (arith, turn, f0.3)))
      ∙ ap (λ (g : ℕ). (old g).taken) f0.2 in
      let insn : Insn = Store Sd 11 5 (pos 0) in
      let head : Head = retire_head h before p.round 1 in
      let plan = plan_1 harts h p.round (seen before h).table mine h16 b.next in
      let doing = store insn (own_addr h) 8 in
      let put = stored_at made_image before head (retire_of 1 None) in
      let put_is : put ≡ bytes_of_number p.taken =
      stored_is harts h before p.round 1 None runs doing plan ∙ ap (λ (y : ℕ). low_bytes y 8) b.five in
      let e : Entry = entry head insn false (Stores (store_access head insn (extent_of (own_addr h) 8) put)) in
      let is = entry_is harts h before p.round 1 None runs doing plan in
      let stored : IsStoredBy f e = store_entered h n p.round p.taken f put h16 f0.2 f0.3 takes' value put_is in
      record {
        log = log;
        logged =
            quiet_log log harts h n (suc n) old new p2 kept.logged mine (omega arith) own others (omega arith) refl
            (sym turns);
        counted = kept.counted;
        entered =
            entered_access log es harts h reach reach2 (entry_in made_image before head (body.Retire
            (retire_of 1 None))) e
            is kept.entered (record { stored = refl; store = λ j q. refl }) (inr (inr (f, f0.1, stored))) p.round 1
            (lit< tt) reached (ap retired_by own ∙ omega (arith, reached))
            (reach_others harts h c old new before kept runs mine h16 others) written refl f f0.1 f0.2 f0.3 stored;
        written = kept.written;
        pending =
            now_pending harts h c old new before kept runs mine h16 others p2
            (After harts h c old new before kept runs mine h16 others step.RetireStore) log own still
            (λ g t x apart. refl) (λ f i. i) tt;
      }

  -- the Read of the second load, and its Retire
  pub kept_forward_store : AreSaid h (sayings_at step.ForwardStore h c p)
      → Grown harts h c old new before kept runs mine h16 others step.ForwardStore
  kept_forward_store are at' b own still =
      let p2 = moved_by step.ForwardStore c p in
      let turns = turns_at harts h c old new before kept runs mine h16 others step.ForwardStore at' in
      let reached = reach_at harts h c old new before kept runs mine h16 others step.ForwardStore at' in
      let bytes = low_half_of p.taken in
      let piece : Piece = record { addr = own_addr h; bytes = bytes } in
      let read = says_read p.round 2 (own_addr h) bytes in
      let first : List Message = said h before read in
      let v = seen before h in
      let Q : Seen → Type 0 = λ w. IsNext harts h p.round 2 w.table × HasRead p.round 2
      (own_addr h) bytes w.table.live in
      let left : Left harts h before first Q =
      say_all harts h (read ∷ []) before Q mine runs (are.0, tt) (
        refl,
        read_fine h n v p.round 2 (7 * p.round + 2) (own_addr h) bytes b.next.last (omega arith) (omega (arith, h16)),
        (
          next_with harts h 0 p mine h16 (lit< tt) n v p.round 2 2 (own_addr h) bytes b.next,
          one_read h n v p.round 2 (own_addr h) bytes b.reads,
        ),
      ) in
      let g : Perf = read_perf harts h c old new before kept runs mine h16 others forward p.taken in
      let log2 = g ∷ log in
      let rd = rd_with 9 (sign_extended 32 p.taken) in
      let insn : Insn = Load Lw 9 11 (pos 0) in
      let head : Head = retire_head h first p.round 2 in
      let fits : is_extent (own_addr h) 4 ≡ true = le-leb (own_addr h + 4) (2 ^ 64) (omega (arith, h16)) in
      let e : Entry = entry head insn false (Fixed (load_ops (live first h) head insn (extent_of (own_addr h) 4))) in
      let is = entry_is harts h first p.round 2 rd left.runs (load insn (own_addr h) 4)
      (plan_2 harts h p.round (seen first h).table mine h16 left.own.0) in
      let fixed : IsFixedBy g e =
      load_entered h (length first) p.round 2 g (live first h) insn (own_addr h) 4 bytes fits left.own.1
      (read_newest h p.round 2 piece before g refl) refl refl refl refl refl refl (lit≤ tt) (lit< tt)
      (half_byte p.taken) refl refl in
      let quiet : forward ≡ written → ⊥ = λ q. cc in
      let lifted = entered_log log log2 es harts reach reach (λ f i. inr i) (λ i. refl) kept.entered in
      record {
        log = log2;
        logged =
            later_log log harts h n (suc (suc n)) old new p2 kept.logged mine (omega arith) own others
            (omega arith) g refl
            refl (omega arith) (omega arith) (omega (arith, turns)) (omega (arith, turns)) refl refl refl (λ t. refl);
        counted = counted_same log c n g kept.counted refl;
        entered =
            entered_access log2 es harts h reach reach2 (entry_in made_image first head (body.Retire
            (retire_of 2 rd))) e is
            lifted (record { stored = refl; store = λ j q. absurd (omega (arith, q)) })
            (inr (inl (g, inl refl, fixed))) p.round 2 (lit< tt) reached (ap retired_by own ∙ omega (arith, reached))
            (reach_others harts h c old new before kept runs mine h16 others) forward refl g (inl refl) refl refl
            (refl, fixed);
        written =
            written_more log (After harts h c old new before kept runs mine h16 others step.ForwardStore) g quiet
            kept.written;
        pending =
            now_pending harts h c old new before kept runs mine h16 others p2
            (After harts h c old new before kept runs mine h16 others step.ForwardStore) log2 own still
            (λ i t x apart. refl) (λ f i. inr i) tt;
      }

  pub kept_retire_add : Grown harts h c old new before kept runs mine h16 others step.RetireAdd
  kept_retire_add at' b own still =
      let p2 = moved_by step.RetireAdd c p in
      let pend = was_pending harts h c old new before kept runs mine h16 others step.RetireAdd at' in
      let reached = reach_at harts h c old new before kept runs mine h16 others step.RetireAdd at' in
      let rd = rd_with 6 p.added in
      let insn : Insn = Amo amo_op.Add true false false 6 10 12 in
      let head : Head = retire_head h before p.round 3 in
      let v = seen before h in
      let e : Entry =
      entry head insn false (Fixed (amo_ops (live before h) (early before) head insn (extent_of counter_addr 8))) in
      let is = entry_is harts h before p.round 3 rd runs (amo insn counter_addr 8)
      (plan_3 harts h p.round v.table mine b.next) in
      let found = early_of_own (early before) h (tag_of p.round 3)
      ∙ found_early h p.round (p.added + 1) v.early b.early in
      let fixed : IsFixedBy pend.perf e =
      add_entered h n p.round p.added pend.perf (live before h) v.early
      (early before) insn b.reads b.early pend.at' found
      pend.hart pend.round_is pend.access pend.value_is refl refl in
      record {
        log = log;
        logged =
            quiet_log log harts h n (suc n) old new p2 kept.logged mine (omega arith) own others (omega arith) refl
            (sym (turns_at harts h c old new before kept runs mine h16 others step.RetireAdd at'));
        counted = kept.counted;
        entered =
            entered_access log es harts h reach reach2 (entry_in made_image before head (body.Retire
            (retire_of 3 rd))) e is
            kept.entered (record { stored = refl; store = λ j q. absurd (omega (arith, q)) })
            (inr (inl (pend.perf, pend.in_log, fixed))) p.round 3 (lit< tt) reached
            (ap retired_by own ∙ omega (arith, reached))
            (reach_others harts h c old new before kept runs mine h16 others) add refl pend.perf pend.in_log pend.hart
            pend.round_is (pend.access, fixed);
        written = kept.written;
        pending =
            now_pending harts h c old new before kept runs mine h16 others p2
            (After harts h c old new before kept runs mine h16 others step.RetireAdd) log own still
            (λ g t x apart. refl) (λ f i. i) tt;
      }

  pub kept_retire_fence : Grown harts h c old new before kept runs mine h16 others step.RetireFence
  kept_retire_fence at' b own still =
      let p2 = moved_by step.RetireFence c p in
      let reached = reach_at harts h c old new before kept runs mine h16 others step.RetireFence at' in
      let insn : Insn = Fence 0b0000 0b0011 0b0011 0 0 in
      let head : Head = retire_head h before p.round 4 in
      let e : Entry = entry head insn false (Fixed []) in
      let is = entry_is harts h before p.round 4 None runs (plain insn)
      (plan_4 harts h p.round (seen before h).table mine b.next) in
      record {
        log = log;
        logged =
            quiet_log log harts h n (suc n) old new p2 kept.logged mine (omega arith) own others (omega arith) refl
            (sym (turns_at harts h c old new before kept runs mine h16 others step.RetireFence at'));
        counted = kept.counted;
        entered =
            entered_quiet log es harts h reach reach2 (entry_in made_image before head (body.Retire
            (retire_of 4 None))) e
            is kept.entered (record { stored = refl; store = λ j q. absurd (omega (arith, q)) }) (inl refl) p.round 4
            (lit< tt) reached (ap retired_by own ∙ omega (arith, reached))
            (reach_others harts h c old new before kept runs mine h16 others) no_fourth;
        written = kept.written;
        pending =
            now_pending harts h c old new before kept runs mine h16 others p2
            (After harts h c old new before kept runs mine h16 others step.RetireFence) log own still
            (λ g t x apart. refl) (λ f i. i) tt;
      }

  pub kept_retire_read_again : Grown harts h c old new before kept runs mine h16 others step.RetireReadAgain
  kept_retire_read_again at' b own still =
      let p2 = moved_by step.RetireReadAgain c p in
      let pend = was_pending harts h c old new before kept runs mine h16 others step.RetireReadAgain at' in
      let reached = reach_at harts h c old new before kept runs mine h16 others step.RetireReadAgain at' in
      let rd = rd_with 8 p.taken in
      let insn : Insn = Load Ld 8 11 (pos 0) in
      let head : Head = retire_head h before p.round 5 in
      let e : Entry = entry head insn false (Fixed (load_ops (live before h) head insn (extent_of (own_addr h) 8))) in
      let is = entry_is harts h before p.round 5 rd runs (load insn (own_addr h) 8)
      (plan_5 harts h p.round (seen before h).table mine h16 b.next) in
      let fits : is_extent (own_addr h) 8 ≡ true = le-leb (own_addr h + 8) (2 ^ 64) (omega (arith, h16)) in
      let fixed : IsFixedBy pend.perf e =
      load_entered h n p.round 5 pend.perf (live before h) insn (own_addr h) 8 (bytes_of_number p.taken) fits b.reads
      pend.at' pend.hart pend.round_is (ap insn_of_access pend.access) (ap kind_of_access pend.access)
      (ap (λ (a : logs.Access). addr_of_access a pend.perf.hart) pend.access ∙ ap own_addr pend.hart)
      (ap len_of_access pend.access) (lit≤ tt) (lit< tt)
      (λ i lt. ap (λ (y : ℕ). slice_index (bytes_of_number y) i) (sym pend.value_is)) refl refl in
      record {
        log = log;
        logged =
            quiet_log log harts h n (suc n) old new p2 kept.logged mine (omega arith) own others (omega arith) refl
            (sym (turns_at harts h c old new before kept runs mine h16 others step.RetireReadAgain at'));
        counted = kept.counted;
        entered =
            entered_access log es harts h reach reach2 (entry_in made_image before head (body.Retire
            (retire_of 5 rd))) e is
            kept.entered (record { stored = refl; store = λ j q. absurd (omega (arith, q)) })
            (inr (inl (pend.perf, pend.in_log, fixed))) p.round 5 (lit< tt) reached
            (ap retired_by own ∙ omega (arith, reached))
            (reach_others harts h c old new before kept runs mine h16 others) again refl pend.perf pend.in_log pend.hart
            pend.round_is (pend.access, fixed);
        written = kept.written;
        pending =
            now_pending harts h c old new before kept runs mine h16 others p2
            (After harts h c old new before kept runs mine h16 others step.RetireReadAgain) log own still
            (λ g t x apart. refl) (λ f i. i) tt;
      }

  pub kept_retire_jump : Grown harts h c old new before kept runs mine h16 others step.RetireJump
  kept_retire_jump at' b own still =
      let p2 = moved_by step.RetireJump c p in
      let turns = turns_at harts h c old new before kept runs mine h16 others step.RetireJump at' in
      let reached = reach_at harts h c old new before kept runs mine h16 others step.RetireJump at' in
      let insn : Insn = Jal 0 (negsuc 23) in
      let head : Head = retire_head h before p.round 6 in
      let e : Entry = entry head insn false (Fixed []) in
      let is = entry_is harts h before p.round 6 None runs (plain insn)
      (plan_6 harts h p.round (seen before h).table mine b.next) in
      record {
        log = log;
        logged =
            quiet_log log harts h n (suc n) old new p2 kept.logged mine (omega arith) own others (omega arith) refl
            (omega (arith, turns));
        counted = kept.counted;
        entered =
            entered_quiet log es harts h reach reach2 (entry_in made_image before head (body.Retire
            (retire_of 6 None))) e
            is kept.entered (record { stored = refl; store = λ j q. absurd (omega (arith, q)) }) (inl refl) p.round 6
            (lit< tt) reached (ap retired_by own ∙ omega (arith, reached))
            (reach_others harts h c old new before kept runs mine h16 others) no_sixth;
        written = kept.written;
        pending =
            now_pending harts h c old new before kept runs mine h16 others p2
            (After harts h c old new before kept runs mine h16 others step.RetireJump) log own still
            (λ g t x apart. refl) (λ f i. i) tt;
      }

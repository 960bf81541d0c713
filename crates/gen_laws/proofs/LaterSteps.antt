-- What a hart says at each of the later eight steps has no fault, and leaves it before the next step.
use Rattle.std.proofs.Common.{ℕ, suc, ◌+◌, ◌*◌, ◌^◌, ◌<◌, List, ◌∷◌, refl, ap, sym, subst, arith}
use Rattle.std.proofs.Common.{None, pos, lit<, lit≤}
use Rattle.rv_decode.specs.declared.instruction.Insn.TheVariants.{Load}
use Rattle.rv_decode.specs.declared.operations.LoadOp.TheVariants.{Ld}
use Rattle.rv_step.specs.Steps.{load}
use Rattle.matching.specs.declared.reports.OpenReport.{OpenReport}
use Rattle.matching.specs.declared.stores.Held.{Held}
use Rattle.matching.specs.Reports.{open_report_of}
use Rattle.matching.specs.Tables.{held_of}
use Rattle.trace_gen.specs.declared.rounds.Step.TheVariants as step
use Rattle.trace_gen.specs.declared.rounds.Progress.{Progress}
use Rattle.trace_gen.specs.Program.{counter_addr, own_addr}
use Rattle.trace_gen.specs.Rounds.{tag_of, bytes_of_number, rd_with, moved_by}
use Rattle.gen_laws.proofs.Says.{Seen}
use Rattle.gen_laws.proofs.States.{IsBefore, number_at}
use Rattle.gen_laws.proofs.Moves.{ahead_stays, read_goes, both_go, none_behind, bypass_goes, live_behind}
use Rattle.gen_laws.proofs.Stores.{inserted, written_all, performed_more}
use Rattle.gen_laws.proofs.Writes.{merge_fine, none_waits}
use Rattle.gen_laws.proofs.Plans.{plan_5}
use Rattle.gen_laws.proofs.Loads.{number_read, load_fine, load_next}
use Rattle.gen_laws.proofs.Quiet.{fences, fence_fine, fence_next, returns, jump_fine, jump_next}
use Rattle.gen_laws.proofs.Adds.{adds, add_fine, add_next}
use Rattle.gen_laws.proofs.Parts.{part_head, read_fine, with_read, insert_fine, bypass_fine, after_bypass, with_bypass}
use Rattle.gen_laws.proofs.Retires.{retires}
use Rattle.gen_laws.proofs.FirstSteps.{Goes, same_next, one_read, next_with}

module _ (poked h c : ℕ) (p : Progress) (mine : h < poked) (h16 : h < 16) (c64 : c + 1 < 2 ^ 64) where
  pub insert_store : (n : ℕ) (v : Seen) → Goes poked h c p mine h16 c64 step.InsertStore n v
  insert_store n v b = (
    refl,
    insert_fine h n v p.round p.taken h16 b.stores,
    record {
      next =
          same_next poked h p.round 3 v.table _ b.next refl refl;
      reads = b.reads;
      stores = inserted (n + 1) p.round (own_addr h) p.taken v.table.stores b.stores;
      inserts =
          record {
            held = held_of (n + 1) (part_head h n p.round 1) (number_at (own_addr h) p.taken);
            is =
                ap (λ (es : List Held). held_of (n + 1) (part_head h n p.round 1) (number_at (own_addr h) p.taken) ∷ es)
                b.inserts;
            here = refl;
          };
      early = b.early;
      five = tt;
      taken = b.taken;
      added = b.added;
    },
  )

  pub write_store : (n : ℕ) (v : Seen) → Goes poked h c p mine h16 c64 step.WriteStore n v
  write_store n v b = (
    refl,
    merge_fine h p.taken v.table.inserts b.inserts,
    record {
      next =
          same_next poked h p.round 3 v.table _ b.next refl refl;
      reads = b.reads;
      stores = written_all n (n + 1) h p.round p.taken v.table.stores b.stores;
      inserts = none_waits h p.taken v.table.inserts b.inserts;
      early = b.early;
      five = tt;
      taken = b.taken;
      added = b.added;
    },
  )

  pub add_one : (n : ℕ) (v : Seen) → Goes poked h c p mine h16 c64 step.AddOne n v
  add_one n v b =
      let bytes = bytes_of_number c in
      let u = with_read h n v p.round 3 (record { addr = counter_addr; bytes = bytes }) in
      let next = next_with poked h c p mine h16 c64 n v p.round 3 3 counter_addr bytes b.next in
      let Q : Seen → Type 0 = IsBefore poked h step.RetireAdd (moved_by step.AddOne c p) in
      let rest : Q (with_bypass h (suc n) u p.round (c + 1)) =
      record {
        next = same_next poked h p.round 3 u.table _ next refl refl;
        reads = one_read h n v p.round 3 counter_addr bytes b.reads;
        stores = b.stores;
        inserts = b.inserts;
        early =
            record {
              report = open_report_of (suc n + 1) (part_head h (suc n) p.round 3) (number_at counter_addr (c + 1));
              is =
                  ap (λ (rs : List OpenReport).
                  open_report_of (suc n + 1) (part_head h (suc n) p.round 3) (number_at counter_addr
                  (c + 1)) ∷ rs) b.early;
              hart = refl;
              tag = refl;
              piece = refl;
            };
        five = tt;
        taken = b.taken;
        added = c64;
      } in (
        refl,
        read_fine h n v p.round 3 (7 * p.round + 3) counter_addr bytes b.next.last (omega arith) (lit≤ tt),
        (
          refl,
          bypass_fine h (suc n) u p.round (c + 1) (7 * p.round + 3) next.last (omega arith) b.early,
          subst Q (sym (after_bypass h (suc n) u p.round (c + 1) (7 * p.round + 3) next.last
              (omega arith) b.early)) rest,
        ),
      )

  pub retire_add : (n : ℕ) (v : Seen) → Goes poked h c p mine h16 c64 step.RetireAdd n v
  retire_add n v b =
      retires h n v p.round 3 (rd_with 6 p.added) (adds poked h n v p.round p.added mine b.next b.reads b.early b.added)
      (IsBefore poked h step.RetireFence (moved_by step.RetireAdd c p))
      (add_fine poked h n v p.round p.added mine b.next b.reads b.early b.added)
      (record {
        next = add_next poked h n v p.round p.added mine b.next b.reads b.early b.added;
        reads = read_goes p.round 3 counter_addr (bytes_of_number p.added) v.table.live (lit< tt) b.reads;
        stores = b.stores;
        inserts = b.inserts;
        early = bypass_goes h p.round (p.added + 1) v.early b.early;
        five = tt;
        taken = b.taken;
        added = b.added;
      })

  pub retire_fence : (n : ℕ) (v : Seen) → Goes poked h c p mine h16 c64 step.RetireFence n v
  retire_fence n v b =
      retires h n v p.round 4 None (fences poked h n v p.round mine b.early)
      (IsBefore poked h step.ReadAgain (moved_by step.RetireFence c p))
      (fence_fine poked h n v p.round mine b.early b.next)
      (record {
        next = fence_next poked h n v p.round mine b.early b.next;
        reads = ahead_stays p.round 4 v.table.live (lit< tt) b.reads;
        stores = b.stores;
        inserts = b.inserts;
        early = none_behind h (tag_of p.round 4) v.early b.early;
        five = tt;
        taken = b.taken;
        added = b.added;
      })

  pub read_again : (n : ℕ) (v : Seen) → Goes poked h c p mine h16 c64 step.ReadAgain n v
  read_again n v b = (
    refl,
    read_fine h n v p.round 5 (7 * p.round + 5) (own_addr h) (bytes_of_number p.taken) b.next.last (omega arith)
        (omega (arith, h16)),
    record {
      next = next_with poked h c p mine h16 c64 n v p.round 5 5 (own_addr h) (bytes_of_number p.taken) b.next;
      reads = one_read h n v p.round 5 (own_addr h) (bytes_of_number p.taken) b.reads;
      stores = b.stores;
      inserts = b.inserts;
      early = b.early;
      five = tt;
      taken = b.taken;
      added = b.added;
    },
  )

  pub retire_read_again : (n : ℕ) (v : Seen) → Goes poked h c p mine h16 c64 step.RetireReadAgain n v
  retire_read_again n v b =
      let bytes = bytes_of_number p.taken in
      let is = number_read p.round 5 (own_addr h) p.taken v.table.live b.reads b.taken in
      let plan = plan_5 poked h p.round v.table mine h16 b.next in
      let doing = load (Load Ld 8 11 (pos 0)) (own_addr h) 8 in
      retires h n v p.round 5 (rd_with 8 p.taken) doing
      (IsBefore poked h step.RetireJump (moved_by step.RetireReadAgain c p))
      (load_fine poked h n v p.round 5 Ld 8 11 (own_addr h) 8 p.taken bytes (lit< tt) refl (lit< tt) b.next b.early plan
      b.reads (lit≤ tt) (lit< tt) is)
      (record {
        next =
            load_next poked h n v p.round 5 Ld 8 11 (own_addr h) 8 p.taken bytes (lit< tt) refl
            (lit< tt) b.next b.early plan
            b.reads (lit≤ tt) (lit< tt) is;
        reads = both_go p.round (own_addr h) bytes v.table.live b.reads;
        stores = b.stores;
        inserts = b.inserts;
        early = none_behind h (tag_of p.round 5) v.early b.early;
        five = tt;
        taken = b.taken;
        added = b.added;
      })

  pub retire_jump : (n : ℕ) (v : Seen) → Goes poked h c p mine h16 c64 step.RetireJump n v
  retire_jump n v b =
      retires h n v p.round 6 None (returns poked h n v p.round mine b.early)
      (IsBefore poked h step.ReadAhead (moved_by step.RetireJump c p))
      (jump_fine poked h n v p.round mine b.early b.next)
      (record {
        next = jump_next poked h n v p.round mine b.early b.next;
        reads = ap (live_behind (tag_of p.round 6)) b.reads;
        stores =
            performed_more (tag_of p.round 2) (tag_of (p.round + 1) 1) v.table.stores (omega arith) b.stores;
        inserts = b.inserts;
        early = none_behind h (tag_of p.round 6) v.early b.early;
        five = tt;
        taken = b.taken;
        added = b.added;
      })

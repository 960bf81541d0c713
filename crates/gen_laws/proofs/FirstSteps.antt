-- What a hart says at each of the first five steps has no fault, and leaves it before the next step.
use Rattle.std.proofs.Common.{ℕ, suc, ◌≡◌, ◌+◌, ◌*◌, ◌^◌, ◌<◌, List, ◌∷◌, refl, ap, sym, subst, ◌∙◌, arith}
use Rattle.std.proofs.Common.{None, pos, lit<, lit≤}
use Rattle.tandem_base.specs.Signs.{sign_extended}
use Rattle.rv_decode.specs.declared.instruction.Insn.TheVariants.{Load}
use Rattle.rv_decode.specs.declared.operations.LoadOp.TheVariants.{Lw, Ld}
use Rattle.rv_step.specs.Steps.{load}
use Rattle.matching.specs.declared.reports.OpenReport.{OpenReport}
use Rattle.matching.specs.Reports.{open_report_of}
use Rattle.matching.specs.Tables.{Table}
use Rattle.trace_gen.specs.declared.rounds.Step.TheVariants as step
use Rattle.trace_gen.specs.declared.rounds.Step.{Step}
use Rattle.trace_gen.specs.declared.rounds.Progress.{Progress}
use Rattle.trace_gen.specs.Program.{counter_addr, own_addr}
use Rattle.trace_gen.specs.Rounds.{tag_of, bytes_of_number, low_half_of, rd_with, sayings_at, moved_by}
use Rattle.gen_laws.proofs.Says.{Seen, Says}
use Rattle.gen_laws.proofs.States.{IsBefore, IsNext, IsAhead, HasRead, number_at}
use Rattle.gen_laws.proofs.Moves.{ahead_stays, read_goes, none_behind}
use Rattle.gen_laws.proofs.Plans.{plan_0, plan_2}
use Rattle.gen_laws.proofs.Loads.{number_read, half_read, load_fine, load_next, load_value}
use Rattle.gen_laws.proofs.Quiet.{stores, store_fine, store_next, store_new}
use Rattle.gen_laws.proofs.Parts.{part_head, read_fine, with_read}
use Rattle.gen_laws.proofs.Retires.{retires}

-- the same program, with other reports
pub same_next : (poked h round k : ℕ) (t u : Table) → IsNext poked h round k t → u.last ≡ t.last → u.run ≡ t.run
    → IsNext poked h round k u
same_next poked h round k t u next last run =
    subst (λ (w : Table). IsNext poked h round k w)
    (ap (λ r. record { run = r; last = t.last; live = u.live; inserts = u.inserts; stores = u.stores }) (sym run)
    ∙ ap (λ l. record { run = u.run; last = l; live = u.live; inserts = u.inserts; stores = u.stores }) (sym last))
    (record {
      last = next.last;
      pc = next.pc;
      registers = next.registers;
      counter = next.counter;
      own = next.own;
      one = next.one;
    })

-- a Read behind the one ahead
pub one_read : (h n : ℕ) (v : Seen) (round k addr : ℕ) (bytes : List ℕ) → IsAhead round v.table.live
    → HasRead round k addr bytes (with_read h n v round k (record { addr = addr; bytes = bytes })).table.live
one_read h n v round k addr bytes is =
    let r : OpenReport = open_report_of (n + 1) (part_head h n round k) (record { addr = addr; bytes = bytes }) in
    record {
      own = r;
      ahead = is.ahead;
      is = ap (λ (rs : List OpenReport). r ∷ rs) is.is;
      tag = refl;
      piece = refl;
      later = is.later;
    }

module _ (poked h c : ℕ) (p : Progress) (mine : h < poked) (h16 : h < 16) (c64 : c + 1 < 2 ^ 64) where
  -- from a step to the one behind it
  abbrev pub Goes : Step → ℕ → Seen → Type 0
  Goes s n v = IsBefore poked h s p v
      → Says h n (sayings_at s h c p) v (IsBefore poked h (moved_by s c p).step (moved_by s c p))

  pub next_with : (n : ℕ) (v : Seen) (round k j addr : ℕ) (bytes : List ℕ) → IsNext poked h round j v.table
      → IsNext poked h round j (with_read h n v round k (record { addr = addr; bytes = bytes })).table
  next_with n v round k j addr bytes next =
      same_next poked h round j v.table (with_read h n v round k
      (record { addr = addr; bytes = bytes })).table next refl
      refl

  pub read_ahead : (n : ℕ) (v : Seen) → Goes step.ReadAhead n v
  read_ahead n v b = (
    refl,
    read_fine h n v p.round 5 (7 * p.round + 0) (own_addr h) (bytes_of_number p.written) b.next.last (omega arith)
        (omega (arith, h16)),
    record {
      next = next_with n v p.round 5 0 (own_addr h) (bytes_of_number p.written) b.next;
      reads =
          record {
            ahead = open_report_of (n + 1) (part_head h n p.round 5) (number_at (own_addr h) p.written);
            is =
                ap (λ (rs : List OpenReport).
                open_report_of (n + 1) (part_head h n p.round 5) (number_at (own_addr h) p.written) ∷ rs) b.reads;
            later = refl;
          };
      stores = b.stores;
      inserts = b.inserts;
      early = b.early;
      five = tt;
      taken = b.taken;
      added = b.added;
    },
  )

  pub read_counter : (n : ℕ) (v : Seen) → Goes step.ReadCounter n v
  read_counter n v b = (
    refl,
    read_fine h n v p.round 0 (7 * p.round + 0) counter_addr (bytes_of_number c) b.next.last (omega arith) (lit≤ tt),
    record {
      next = next_with n v p.round 0 0 counter_addr (bytes_of_number c) b.next;
      reads = one_read h n v p.round 0 counter_addr (bytes_of_number c) b.reads;
      stores = b.stores;
      inserts = b.inserts;
      early = b.early;
      five = tt;
      taken = omega (arith, c64);
      added = b.added;
    },
  )

  pub retire_read : (n : ℕ) (v : Seen) → Goes step.RetireRead n v
  retire_read n v b =
      let bytes = bytes_of_number p.taken in
      let is = number_read p.round 0 counter_addr p.taken v.table.live b.reads b.taken in
      let plan = plan_0 poked h p.round v.table mine b.next in
      let doing = load (Load Ld 5 10 (pos 0)) counter_addr 8 in
      retires h n v p.round 0 (rd_with 5 p.taken) doing (IsBefore poked h step.RetireStore
      (moved_by step.RetireRead c p))
      (load_fine poked h n v p.round 0 Ld 5 10 counter_addr 8 p.taken bytes (lit< tt) refl (lit< tt) b.next b.early plan
      b.reads (lit≤ tt) (lit< tt) is)
      (record {
        next =
            load_next poked h n v p.round 0 Ld 5 10 counter_addr 8 p.taken bytes (lit< tt) refl
            (lit< tt) b.next b.early plan
            b.reads (lit≤ tt) (lit< tt) is;
        reads = read_goes p.round 0 counter_addr bytes v.table.live (lit< tt) b.reads;
        stores = b.stores;
        inserts = b.inserts;
        early = none_behind h (tag_of p.round 0) v.early b.early;
        five =
            load_value poked h n v p.round 0 Ld 5 10 counter_addr 8 p.taken bytes (lit< tt) refl
            (lit< tt) b.next b.early plan
            b.reads (lit≤ tt) (lit< tt) is;
        taken = b.taken;
        added = b.added;
      })

  pub retire_store : (n : ℕ) (v : Seen) → Goes step.RetireStore n v
  retire_store n v b =
      retires h n v p.round 1 None (stores poked h n v p.round mine b.early)
      (IsBefore poked h step.ForwardStore (moved_by step.RetireStore c p))
      (store_fine poked h n v p.round mine b.early h16 b.next)
      (record {
        next = store_next poked h n v p.round mine b.early b.next;
        reads = ahead_stays p.round 1 v.table.live (lit< tt) b.reads;
        stores = store_new poked h n v p.round mine b.early p.taken h16 b.next b.five b.stores;
        inserts = b.inserts;
        early = none_behind h (tag_of p.round 1) v.early b.early;
        five = tt;
        taken = b.taken;
        added = b.added;
      })

  pub forward_store : (n : ℕ) (v : Seen) → Goes step.ForwardStore n v
  forward_store n v b =
      let bytes = low_half_of p.taken in
      let u = with_read h n v p.round 2 (record { addr = own_addr h; bytes = bytes }) in
      let next = next_with n v p.round 2 2 (own_addr h) bytes b.next in
      let has = one_read h n v p.round 2 (own_addr h) bytes b.reads in
      let is = half_read p.round 2 (own_addr h) p.taken u.table.live has in
      let plan = plan_2 poked h p.round u.table mine h16 next in
      let value = sign_extended 32 p.taken in
      let doing = load (Load Lw 9 11 (pos 0)) (own_addr h) 4 in (
        refl,
        read_fine h n v p.round 2 (7 * p.round + 2) (own_addr h) bytes b.next.last (omega arith) (omega (arith, h16)),
        retires h (suc n) u p.round 2 (rd_with 9 value) doing
            (IsBefore poked h step.InsertStore (moved_by step.ForwardStore c p))
            (load_fine poked h (suc n) u p.round 2 Lw 9 11 (own_addr h) 4 value bytes (lit< tt) refl
            (lit< tt) next b.early plan
            has (lit≤ tt) (lit< tt) is)
            (record {
              next =
                  load_next poked h (suc n) u p.round 2 Lw 9 11 (own_addr h) 4 value bytes (lit< tt) refl
                  (lit< tt) next b.early
                  plan has (lit≤ tt) (lit< tt) is;
              reads = read_goes p.round 2 (own_addr h) bytes u.table.live (lit< tt) has;
              stores = b.stores;
              inserts = b.inserts;
              early = none_behind h (tag_of p.round 2) v.early b.early;
              five = tt;
              taken = b.taken;
              added = b.added;
            }),
      )

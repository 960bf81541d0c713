-- The harts before the first turn.
use Rattle.std.proofs.Common.{ℕ, zero, suc, ◌≡◌, ◌<◌, ◌≤◌, List, [], length, set, get_or, refl, ap}
use Rattle.std.proofs.Common.{sym, subst, ◌∙◌, arith, None, inl, inr, lit<, lit≤}
use Rattle.std.proofs.Common.{length-set, get_or-set_other, get_or-set_same}
use Rattle.std.proofs.lemmas.Bool.{cases_eq, cases_order}
use Rattle.msg_frames.specs.declared.message.Message.{Message}
use Rattle.matching.specs.PartFaults.{poke_fault_of}
use Rattle.trace_gen.specs.declared.rounds.Step.TheVariants as step
use Rattle.trace_gen.specs.Program.{counter_addr, own_addr}
use Rattle.trace_gen.specs.Rounds.{first_progress}
use Rattle.trace_gen.specs.Schedule.{said, all_said}
use Rattle.trace_gen.specs.Making.{opens, opened, registers_of}
use Rattle.trace_gen.proofs.Fitting.{AreSaid, open_said, poke_said}
use Rattle.gen_laws.proofs.Says.{Seen, seen, Says, Runs, say_all}
use Rattle.gen_laws.proofs.States.{IsBefore}

-- a hart that has said nothing but its Pokes
pub record IsFresh (poked h : ℕ) (v : Seen) : Type 0 where
  pub before : IsBefore poked h step.ReadAhead first_progress v
  pub last : v.table.last ≡ None

-- all are so
pub record AreFresh (harts poked : ℕ) (before : List Message) : Type 0 where
  pub runs : Runs harts before
  pub each : (h : ℕ) → IsFresh poked h (seen before h)

-- after the Open
first_message : (harts : ℕ) → 1 ≤ harts → harts ≤ 16 → AreFresh harts 0 (said 0 [] (opens harts))
first_message harts low high = record {
  runs =
      record {
        clean = (tt, (open_said harts low high).fits 0, refl);
        some = omega arith;
        known = refl;
        config = refl;
        time = omega arith;
      };
  each = λ h. record {
    before =
        record {
          next =
              record {
                last = tt;
                pc = refl;
                registers = refl;
                counter = λ s. absurd (omega (arith, s));
                own = λ s. absurd (omega (arith, s));
                one = λ s. absurd (omega (arith, s));
              };
          reads = refl;
          stores = tt;
          inserts = refl;
          early = refl;
          five = tt;
          taken = lit< tt;
          added = lit< tt;
        };
    last = refl;
  };
}

-- the registers of one hart more
module _ (h n : ℕ) (v : Seen) (fresh : IsFresh h h v) where
  abbrev rs : List ℕ
  rs = v.table.run.hart.registers

  abbrev rs3 : List ℕ
  rs3 = set (set (set rs 10 counter_addr) 11 (own_addr h)) 12 1

  len1 : length (set rs 10 counter_addr) ≡ 32
  len1 = length-set rs 10 counter_addr ∙ fresh.before.next.registers

  len2 : length (set (set rs 10 counter_addr) 11 (own_addr h)) ≡ 32
  len2 = length-set (set rs 10 counter_addr) 11 (own_addr h) ∙ len1

  ten : get_or rs3 10 0 ≡ counter_addr
  ten =
      get_or-set_other (set (set rs 10 counter_addr) 11 (own_addr h)) 12 10 1 0 (λ e. absurd (omega (arith, e)))
      ∙ get_or-set_other (set rs 10 counter_addr) 11 10 (own_addr h) 0 (λ e. absurd (omega (arith, e)))
      ∙ get_or-set_same rs 10 counter_addr 0 (omega (arith, fresh.before.next.registers))

  eleven : get_or rs3 11 0 ≡ own_addr h
  eleven =
      get_or-set_other (set (set rs 10 counter_addr) 11 (own_addr h)) 12 11 1 0 (λ e. absurd (omega (arith, e)))
      ∙ get_or-set_same (set rs 10 counter_addr) 11 (own_addr h) 0 (omega (arith, len1))

  twelve : get_or rs3 12 0 ≡ 1
  twelve =
      get_or-set_same (set (set rs 10 counter_addr) 11 (own_addr h)) 12 1 0 (omega (arith, len2))

  no_poke : poke_fault_of v.table.last ≡ None
  no_poke = ap poke_fault_of fresh.last

  poke_all : Says h n (registers_of h) v (IsFresh (suc h) h)
  poke_all = (
    refl,
    no_poke,
    (
      refl,
      no_poke,
      (
        refl,
        no_poke,
        record {
          before =
              record {
                next =
                    record {
                      last = fresh.before.next.last;
                      pc = fresh.before.next.pc;
                      registers = length-set (set (set rs 10 counter_addr) 11 (own_addr h)) 12 1 ∙ len2;
                      counter = λ s. ten;
                      own = λ s. eleven;
                      one = λ s. twelve;
                    };
                reads = fresh.before.reads;
                stores = fresh.before.stores;
                inserts = fresh.before.inserts;
                early = fresh.before.early;
                five = tt;
                taken = fresh.before.taken;
                added = fresh.before.added;
              };
          last = fresh.last;
        },
      ),
    ),
  )

below_not : (h g : ℕ) → (h ≡ g → ⊥) → g < suc h → g < h
below_not h g apart lt = elim (cases_order h g) [
  | inl e ↦ absurd (apart e)
  | inr (inl up) ↦ absurd (omega (arith, up, lt))
  | inr (inr down) ↦ down
]

other_fresh : (h g : ℕ) (v : Seen) → (h ≡ g → ⊥) → IsFresh h g v → IsFresh (suc h) g v
other_fresh h g v apart fresh =
    let b = fresh.before in
    record {
      before =
          record {
            next =
                record {
                  last = b.next.last;
                  pc = b.next.pc;
                  registers = b.next.registers;
                  counter = λ s. b.next.counter (below_not h g apart s);
                  own = λ s. b.next.own (below_not h g apart s);
                  one = λ s. b.next.one (below_not h g apart s);
                };
            reads = b.reads;
            stores = b.stores;
            inserts = b.inserts;
            early = b.early;
            five = b.five;
            taken = b.taken;
            added = b.added;
          };
      last = fresh.last;
    }

are_pokes : (h : ℕ) → h < 16 → AreSaid h (registers_of h)
are_pokes h h16 = (
  poke_said h 10 counter_addr (lit≤ tt) (lit≤ tt) (lit< tt),
  (
    poke_said h 11 (own_addr h) (lit≤ tt) (lit≤ tt) (omega (arith, h16)),
    (poke_said h 12 1 (lit≤ tt) (lit≤ tt) (lit< tt), tt),
  ),
)

one_hart : (harts h : ℕ) (before : List Message) → h < harts → harts ≤ 16 → AreFresh harts h before
    → AreFresh harts (suc h) (all_said h before (registers_of h))
one_hart harts h before small high are =
    let after = all_said h before (registers_of h) in
    let left = say_all harts h (registers_of h) before (IsFresh (suc h) h) small are.runs
    (are_pokes h (omega (arith, small, high))) (poke_all h (length before) (seen before h) (are.each h)) in
    record {
      runs = left.runs;
      each = λ g. elim (cases_eq h g) [
        | inl e ↦ subst (λ (i : ℕ). IsFresh (suc h) i (seen after i)) e left.own
        | inr apart ↦
            subst (IsFresh (suc h) g) (sym (left.others g apart)) (other_fresh h g (seen before g) apart (are.each g))
      ];
    }

-- all harts before the first turn
pub opened_fresh : (harts h : ℕ) → 1 ≤ harts → harts ≤ 16 → h ≤ harts → AreFresh harts h (opened harts h)
opened_fresh harts zero low high le = first_message harts low high
opened_fresh harts (suc h) low high le =
    one_hart harts h (opened harts h) (omega (arith, le)) high (opened_fresh harts h low high (omega (arith, le)))

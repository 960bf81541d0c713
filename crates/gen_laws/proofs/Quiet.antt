-- The store, the fence and the jump of the program retire.
use Rattle.std.proofs.Common.{ℕ, ◌≡◌, ◌+◌, ◌%◌, ◌^◌, ◌<◌, [], ◌∷◌}
use Rattle.std.proofs.Common.{Bool, true, refl, ap, sym, subst, ◌∙◌, arith, None, pos, negsuc}
use Rattle.std.specs.declared.option.Option.{Option}
use Rattle.msg_frames.specs.declared.message.Piece.{Piece}
use Rattle.rv_decode.specs.declared.instruction.Insn.{Insn}
use Rattle.rv_decode.specs.declared.instruction.Insn.TheVariants.{Jal, Store, Fence}
use Rattle.rv_decode.specs.declared.operations.StoreOp.TheVariants.{Sd}
use Rattle.rv_step.specs.Harts.{plus}
use Rattle.rv_step.specs.Memory.{low_bytes}
use Rattle.rv_step.specs.Steps.{Doing, plain, store}
use Rattle.matching.specs.declared.reports.OpenReport.{OpenReport}
use Rattle.matching.specs.declared.run.Clocks.{Clocks}
use Rattle.matching.specs.RetireFaults.{register_fault_of, amo_fault_of}
use Rattle.matching.specs.Tables.{untouched}
use Rattle.trace_gen.specs.Program.{own_addr}
use Rattle.trace_gen.specs.Rounds.{tag_of}
use Rattle.gen_laws.proofs.Says.{Seen}
use Rattle.gen_laws.proofs.States.{IsNext, ArePerformed, HasStore, x_in, number_at}
use Rattle.gen_laws.proofs.Moves.{kept_next, none_stray}
use Rattle.gen_laws.proofs.Plans.{plan_1, plan_4, plan_6}
use Rattle.gen_laws.proofs.Stores.{retired_new}
use Rattle.gen_laws.proofs.Retires.{IsFine, retired}

store_register : (i : Insn) (addr len : ℕ) (stored : Bool) (clocks : Clocks)
    → register_fault_of (store i addr len) stored clocks None None ≡ None
unfolding register_fault_of
store_register i addr len stored clocks = refl

store_quiet : (i : Insn) (addr len : ℕ) (result : Option Piece) (bypass : Option OpenReport)
    → amo_fault_of (store i addr len) result bypass ≡ None
unfolding amo_fault_of
store_quiet i addr len result bypass = refl

plain_register : (i : Insn) (stored : Bool) (clocks : Clocks)
    → register_fault_of (plain i) stored clocks None None ≡ None
unfolding register_fault_of
plain_register i stored clocks = refl

plain_quiet : (i : Insn) (result : Option Piece) (bypass : Option OpenReport)
    → amo_fault_of (plain i) result bypass ≡ None
unfolding amo_fault_of
plain_quiet i result bypass = refl

module _ (poked h n : ℕ) (v : Seen) (round : ℕ) (mine : h < poked) (none : v.early ≡ []) where
  -- the store
  abbrev pub stores : Doing
  stores = store (Store Sd 11 5 (pos 0)) (own_addr h) 8

  pub store_fine : h < 16 → IsNext poked h round 1 v.table → IsFine h n v round 1 None stores
  store_fine h16 next = record {
    plan = plan_1 poked h round v.table mine h16 next;
    last = next.last;
    pc = next.pc;
    stray = none_stray stores h (tag_of round 1) v.early none;
    trap = refl;
    missing = refl;
    torn = refl;
    bypassed = refl;
    next = ap (λ (pc : ℕ). (pc + 4) % 2 ^ 64) next.pc;
    register = store_register (Store Sd 11 5 (pos 0)) (own_addr h) 8 _ v.table.run.clocks;
    csrs = refl;
    amo = store_quiet (Store Sd 11 5 (pos 0)) (own_addr h) 8 _ _;
    pair = refl;
  }

  pub store_next : IsNext poked h round 1 v.table → IsNext poked h round 2 (retired h n v round 1 None stores).table
  store_next next =
      kept_next poked h round 1 round 2 v.table (retired h n v round 1 None stores).table next (omega arith)
      (ap (λ (pc : ℕ). (pc + 4) % 2 ^ 64) next.pc) refl

  pub store_new : (value : ℕ) → h < 16 → IsNext poked h round 1 v.table → x_in v.table 5 ≡ value
      → ArePerformed (tag_of round 1) v.table.stores
      → HasStore round (number_at (own_addr h) value) true (retired h n v round 1 None stores).table.stores
  store_new value h16 next five are =
      let to : plus (x_in v.table 11) (pos 0) ≡ own_addr h = omega (arith, next.own mine, h16) in
      let piece : Piece = record {
        addr = plus (x_in v.table 11) (pos 0);
        bytes = low_bytes (x_in v.table 5) 8;
      } in
      let same : number_at (own_addr h) value ≡ piece =
      sym (ap (λ (a : ℕ). record { addr = a; bytes = low_bytes (x_in v.table 5) 8 }) to
      ∙ ap (λ (x : ℕ). record { addr = own_addr h; bytes = low_bytes x 8 }) five) in
      subst (λ (p : Piece). HasStore round (number_at (own_addr h) value) true
      (untouched (record { tag = tag_of round 1; piece = p }) ∷ v.table.stores)) same
      (retired_new round (number_at (own_addr h) value) v.table.stores are)

  -- the fence
  abbrev pub fences : Doing
  fences = plain (Fence 0b0000 0b0011 0b0011 0 0)

  pub fence_fine : IsNext poked h round 4 v.table → IsFine h n v round 4 None fences
  fence_fine next = record {
    plan = plan_4 poked h round v.table mine next;
    last = next.last;
    pc = next.pc;
    stray = none_stray fences h (tag_of round 4) v.early none;
    trap = refl;
    missing = refl;
    torn = refl;
    bypassed = refl;
    next = ap (λ (pc : ℕ). (pc + 4) % 2 ^ 64) next.pc;
    register = plain_register (Fence 0b0000 0b0011 0b0011 0 0) _ v.table.run.clocks;
    csrs = refl;
    amo = plain_quiet (Fence 0b0000 0b0011 0b0011 0 0) _ _;
    pair = refl;
  }

  pub fence_next : IsNext poked h round 4 v.table → IsNext poked h round 5 (retired h n v round 4 None fences).table
  fence_next next =
      kept_next poked h round 4 round 5 v.table (retired h n v round 4 None fences).table next (omega arith)
      (ap (λ (pc : ℕ). (pc + 4) % 2 ^ 64) next.pc) refl

  -- the jump
  abbrev pub returns : Doing
  returns = plain (Jal 0 (negsuc 23))

  pub jump_fine : IsNext poked h round 6 v.table → IsFine h n v round 6 None returns
  jump_fine next = record {
    plan = plan_6 poked h round v.table mine next;
    last = next.last;
    pc = next.pc;
    stray = none_stray returns h (tag_of round 6) v.early none;
    trap = refl;
    missing = refl;
    torn = refl;
    bypassed = refl;
    next = ap (λ (pc : ℕ). plus pc (negsuc 23)) next.pc;
    register = plain_register (Jal 0 (negsuc 23)) _ v.table.run.clocks;
    csrs = refl;
    amo = plain_quiet (Jal 0 (negsuc 23)) _ _;
    pair = refl;
  }

  pub jump_next : IsNext poked h round 6 v.table
      → IsNext poked h (round + 1) 0 (retired h n v round 6 None returns).table
  jump_next next =
      kept_next poked h round 6 (round + 1) 0 v.table (retired h n v round 6 None returns).table next (omega arith)
      (ap (λ (pc : ℕ). plus pc (negsuc 23)) next.pc) refl

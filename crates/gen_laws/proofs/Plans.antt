-- What each instruction of the program is to do.
use Rattle.std.proofs.Common.{ℕ, ◌≡◌, ◌%◌, ◌^◌, ◌<◌, ◌≤◌, ◌==◌, ◌&&◌, not, Bool, true, false, cond, refl, ap, ◌∙◌}
use Rattle.std.proofs.Common.{Some, None, pos, negsuc, arith, lit<, lit≤}
use Rattle.std.specs.declared.option.Option.{Option}
use Rattle.rv_decode.specs.declared.instruction.Insn.{Insn}
use Rattle.rv_decode.specs.declared.instruction.Insn.TheVariants.{Jal, Load, Store, Fence, Amo}
use Rattle.rv_decode.specs.declared.operations.LoadOp.TheVariants.{Lw, Ld}
use Rattle.rv_decode.specs.declared.operations.StoreOp.TheVariants.{Sd}
use Rattle.rv_decode.specs.declared.operations.AmoOp.TheVariants as amo_op
use Rattle.rv_decode.specs.Decoding.{decoding}
use Rattle.elf_image.specs.Images.{word_at}
use Rattle.rv_step.specs.Causes.{misaligned_load, load_fault, misaligned_store, store_fault}
use Rattle.rv_step.specs.Harts.{HartState, x_of, plus}
use Rattle.rv_step.specs.Steps.{Doing, plain, load, store, amo}
use Rattle.rv_step.specs.Plans.{PlanOf, plan_of, plan_fetched, doing_word, access_fault, accessed, is_held, jumps}
use Rattle.matching.specs.Settings.{config_in}
use Rattle.matching.specs.Tables.{Table}
use Rattle.trace_gen.specs.Program.{made_image, pc_of, word_of, counter_addr, own_addr}
use Rattle.gen_laws.proofs.Image.{word_0, word_1, word_2, word_3, word_4, word_5, word_6}
use Rattle.gen_laws.proofs.Image.{decoded_0, decoded_1, decoded_2, decoded_3, decoded_4, decoded_5, decoded_6, ram_held}
use Rattle.gen_laws.proofs.States.{IsNext}

-- the plan of a hart at an instruction of the program, by what the instruction is to do
planned : (hart : HartState) (k : ℕ) (insn : Insn) → hart.pc ≡ pc_of k → word_at made_image (pc_of k) ≡ Some (word_of k)
    → decoding (word_of k) ≡ Some insn
    → plan_of hart made_image (config_in 0)
    ≡ record { word = word_of k; doing = doing_word hart made_image (config_in 0) (word_of k) (Some insn) }
planned hart k insn at' word decoded =
    ap (λ (pc : ℕ). plan_fetched hart made_image (config_in 0) (word_at made_image pc)) at'
    ∙ ap (plan_fetched hart made_image (config_in 0)) word
    ∙ ap (λ (o : Option Insn). record {
      word = word_of k;
      doing = doing_word hart made_image (config_in 0) (word_of k) o;
    }) decoded

at_doing : (k : ℕ) (d e : Doing) → d ≡ e
    → ◌≡◌ {A = PlanOf} (record { word = word_of k; doing = d }) (record { word = word_of k; doing = e })
at_doing k d e same = ap (λ (x : Doing). record { word = word_of k; doing = x }) same

-- an offset of 0
plus_zero : (a addr : ℕ) → a ≡ addr → addr < 2 ^ 64 → plus a (pos 0) ≡ addr
plus_zero a addr e lt = omega (arith, e, lt)

-- an access to RAM
does_access : (doing : ℕ → Doing) (must : Bool) (misaligned fault a addr len : ℕ) → a ≡ addr
    → (must && not (addr % len == 0)) ≡ false
    → is_held made_image addr len ≡ true
    → accessed (access_fault made_image must misaligned fault a len) a (doing a) ≡ doing addr
does_access doing must misaligned fault a addr len e aligned held =
    ap (λ (x : ℕ). accessed (access_fault made_image must misaligned fault x len) x (doing x)) e
    ∙ ap (λ (b : Bool). accessed (cond b (Some misaligned) (cond (not (is_held made_image addr len)) (Some fault) None))
    addr (doing addr)) aligned
    ∙ ap (λ (b : Bool). accessed (cond (not b) (Some fault) None) addr (doing addr)) held

pub counter_held : is_held made_image counter_addr 8 ≡ true
counter_held = ram_held counter_addr 8 (lit≤ tt) (lit≤ tt)

pub own_held : (h len : ℕ) → h < 16 → len ≤ 8 → is_held made_image (own_addr h) len ≡ true
own_held h len h16 small = ram_held (own_addr h) len (omega (arith, h16)) (omega (arith, h16, small))

module _ (poked h round : ℕ) (t : Table) (mine : h < poked) where
  -- ld x5,0(x10)
  pub plan_0 : IsNext poked h round 0 t
      → plan_of t.run.hart made_image (config_in 0)
      ≡ record { word = word_of 0; doing = load (Load Ld 5 10 (pos 0)) counter_addr 8 }
  plan_0 next =
      planned t.run.hart 0 (Load Ld 5 10 (pos 0)) next.pc word_0 decoded_0
      ∙ at_doing 0 _ _
      (does_access (λ a. load (Load Ld 5 10 (pos 0)) a 8) false misaligned_load load_fault
      (plus (x_of t.run.hart 10) (pos 0)) counter_addr 8
      (plus_zero (x_of t.run.hart 10) counter_addr (next.counter mine) (lit< tt)) refl counter_held)

  -- sd x5,0(x11)
  pub plan_1 : h < 16 → IsNext poked h round 1 t
      → plan_of t.run.hart made_image (config_in 0)
      ≡ record { word = word_of 1; doing = store (Store Sd 11 5 (pos 0)) (own_addr h) 8 }
  plan_1 h16 next =
      planned t.run.hart 1 (Store Sd 11 5 (pos 0)) next.pc word_1 decoded_1
      ∙ at_doing 1 _ _
      (does_access (λ a. store (Store Sd 11 5 (pos 0)) a 8) false misaligned_store store_fault
      (plus (x_of t.run.hart 11) (pos 0)) (own_addr h) 8
      (plus_zero (x_of t.run.hart 11) (own_addr h) (next.own mine) (omega (arith, h16))) refl
      (own_held h 8 h16 (lit≤ tt)))

  -- lw x9,0(x11)
  pub plan_2 : h < 16 → IsNext poked h round 2 t
      → plan_of t.run.hart made_image (config_in 0)
      ≡ record { word = word_of 2; doing = load (Load Lw 9 11 (pos 0)) (own_addr h) 4 }
  plan_2 h16 next =
      planned t.run.hart 2 (Load Lw 9 11 (pos 0)) next.pc word_2 decoded_2
      ∙ at_doing 2 _ _
      (does_access (λ a. load (Load Lw 9 11 (pos 0)) a 4) false misaligned_load load_fault
      (plus (x_of t.run.hart 11) (pos 0)) (own_addr h) 4
      (plus_zero (x_of t.run.hart 11) (own_addr h) (next.own mine) (omega (arith, h16))) refl
      (own_held h 4 h16 (lit≤ tt)))

  -- amoadd.d x6,x12,(x10)
  pub plan_3 : IsNext poked h round 3 t
      → plan_of t.run.hart made_image (config_in 0)
      ≡ record { word = word_of 3; doing = amo (Amo amo_op.Add true false false 6 10 12) counter_addr 8 }
  plan_3 next =
      planned t.run.hart 3 (Amo amo_op.Add true false false 6 10 12) next.pc word_3 decoded_3
      ∙ at_doing 3 _ _
      (does_access (λ a. amo (Amo amo_op.Add true false false 6 10 12) a 8) true misaligned_store store_fault
      (x_of t.run.hart 10) counter_addr 8 (next.counter mine) refl counter_held)

  -- fence rw,rw
  pub plan_4 : IsNext poked h round 4 t
      → plan_of t.run.hart made_image (config_in 0)
      ≡ record { word = word_of 4; doing = plain (Fence 0b0000 0b0011 0b0011 0 0) }
  plan_4 next = planned t.run.hart 4 (Fence 0b0000 0b0011 0b0011 0 0) next.pc word_4 decoded_4

  -- ld x8,0(x11)
  pub plan_5 : h < 16 → IsNext poked h round 5 t
      → plan_of t.run.hart made_image (config_in 0)
      ≡ record { word = word_of 5; doing = load (Load Ld 8 11 (pos 0)) (own_addr h) 8 }
  plan_5 h16 next =
      planned t.run.hart 5 (Load Ld 8 11 (pos 0)) next.pc word_5 decoded_5
      ∙ at_doing 5 _ _
      (does_access (λ a. load (Load Ld 8 11 (pos 0)) a 8) false misaligned_load load_fault
      (plus (x_of t.run.hart 11) (pos 0)) (own_addr h) 8
      (plus_zero (x_of t.run.hart 11) (own_addr h) (next.own mine) (omega (arith, h16))) refl
      (own_held h 8 h16 (lit≤ tt)))

  -- jal x0,-24
  pub plan_6 : IsNext poked h round 6 t
      → plan_of t.run.hart made_image (config_in 0) ≡ record { word = word_of 6; doing = plain (Jal 0 (negsuc 23)) }
  plan_6 next =
      planned t.run.hart 6 (Jal 0 (negsuc 23)) next.pc word_6 decoded_6
      ∙ at_doing 6 _ _ (ap (λ (pc : ℕ). jumps (Jal 0 (negsuc 23)) (plus pc (negsuc 23))) next.pc)

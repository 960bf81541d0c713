-- A Retire of an instruction of the program, once it is known what the instruction is to do.
use Rattle.std.proofs.Common.{ℕ, ◌≡◌, ◌+◌, ◌*◌, ◌%◌, ◌<◌, not, is_some, List, [], ◌∷◌}
use Rattle.std.proofs.Common.{Bool, cond, refl, ap, sym, subst, ◌∙◌, arith, Some, None}
use Rattle.std.specs.List.{filter}
use Rattle.std.specs.declared.option.Option.{Option}
use Rattle.std.proofs.lemmas.Bool.{eq-eqb, lt-leb}
use Rattle.msg_frames.specs.declared.message.Head.{Head}
use Rattle.msg_frames.specs.declared.message.RdValue.{RdValue}
use Rattle.msg_frames.specs.declared.message.Retire.{Retire}
use Rattle.msg_frames.specs.declared.message.Body.TheVariants as body
use Rattle.rv_step.specs.Steps.{Doing, Done}
use Rattle.rv_step.specs.Plans.{PlanOf, plan_of}
use Rattle.tandem_base.specs.FirstFault.{◌or_else◌}
use Rattle.verdict_report.specs.declared.fault.Fault.{Fault}
use Rattle.verdict_report.specs.declared.fault.Fault.TheVariants as fault
use Rattle.msg_frames.specs.declared.csrs.CsrValue.{CsrValue}
use Rattle.matching.specs.declared.reports.OpenReport.{OpenReport}
use Rattle.matching.specs.Settings.{config_in}
use Rattle.matching.specs.Reports.{early_of, is_report}
use Rattle.matching.specs.Runs.{done_of}
use Rattle.matching.specs.Compares.{tag_fault_of, pc_fault_of, word_fault_of, trap_fault_of, next_fault_of}
use Rattle.matching.specs.Compares.{csr_fault_of}
use Rattle.matching.specs.RetireFaults.{retire_fault_in, loaded_fault_in, effect_fault_in, lowest_stray, stray_fault_of}
use Rattle.matching.specs.RetireFaults.{missing_fault_of, torn_fault_of, bypass_fault_of, register_fault_of}
use Rattle.matching.specs.RetireFaults.{amo_fault_of}
use Rattle.matching.specs.RetireFaults.{pair_fault_of}
use Rattle.matching.specs.Tables.{table_fault, table_retiring}
use Rattle.trace_gen.specs.Program.{made_image, pc_of, word_of}
use Rattle.trace_gen.specs.Rounds.{tag_of, says_retire}
use Rattle.gen_laws.proofs.Says.{Seen, Says, seen_after}
use Rattle.gen_laws.proofs.States.{IsUpTo}

-- a tag above the last one
pub tag_fine : (last : Option ℕ) (n tag : ℕ) → IsUpTo last n → n < tag → tag_fault_of last tag ≡ None
tag_fine None n tag up lt = refl
tag_fine (Some k) n tag up lt =
    ap (λ (b : Bool). cond b (Some (fault.TagOrder k)) None) (lt-leb tag k (omega (arith, up, lt)))

same_pc : (want got : ℕ) → want ≡ got → pc_fault_of want got ≡ None
same_pc want got e = ap (λ (b : Bool). cond b None (Some (fault.Pc want got))) (eq-eqb want got e)

same_word : (want got : ℕ) → want ≡ got → word_fault_of want got ≡ None
same_word want got e = ap (λ (b : Bool). cond b None (Some (fault.Word want got))) (eq-eqb want got e)

same_next : (want got : ℕ) → want ≡ got → next_fault_of want got ≡ None
same_next want got e = ap (λ (b : Bool). cond b None (Some (fault.NextPc want got))) (eq-eqb want got e)

five_none : (a b c d e : Option Fault) → a ≡ None → b ≡ None → c ≡ None → d ≡ None → e ≡ None
    → a or_else b or_else c or_else d or_else e ≡ None
five_none a b c d e p q r s t = rw (p, q, r, s, t) refl

four_none : (a b c d : Option Fault) → a ≡ None → b ≡ None → c ≡ None → d ≡ None
    → a or_else b or_else c or_else d ≡ None
four_none a b c d p q r s = rw (p, q, r, s) refl

pub two_none : (a b : Option Fault) → a ≡ None → b ≡ None → a or_else b ≡ None
two_none a b p q = rw (p, q) refl

-- instruction k of a round retires, with this register, and is to do this
module _ (h n : ℕ) (v : Seen) (round k : ℕ) (rd : Option RdValue) (doing : Doing) where
  abbrev pub head : Head
  head = record { hart = h; time = n; tag = tag_of round k }

  abbrev pub retire : Retire
  retire = record {
    pc = pc_of k;
    word = word_of k;
    next = pc_of ((k + 1) % 7);
    trap = None;
    rd = rd;
    csrs = [];
  }

  abbrev pub bypass : Option OpenReport
  bypass = early_of v.early h (tag_of round k)

  abbrev pub does : Done
  does = done_of v.table.run v.table.live bypass (tag_of round k) retire doing

  -- what is seen of it then
  abbrev pub retired : Seen
  retired = record {
    table = table_retiring v.table head retire doing does.hart does.effect.store;
    early = filter (λ (r : OpenReport). not (is_report h (tag_of round k) r)) v.early;
  }

  -- nothing is wrong with it
  pub record IsFine : Type 0 where
    pub plan : plan_of v.table.run.hart made_image (config_in 0) ≡ record { word = word_of k; doing = doing }
    pub last : IsUpTo v.table.last (7 * round + k)
    pub pc : v.table.run.hart.pc ≡ pc_of k
    pub stray : lowest_stray doing h (tag_of round k) v.early ≡ None
    pub trap : does.effect.trap ≡ None
    pub missing : missing_fault_of v.table.live (tag_of round k) doing ≡ None
    pub torn : torn_fault_of v.table.live (tag_of round k) doing ≡ None
    pub bypassed : bypass_fault_of bypass doing ≡ None
    pub next : does.effect.next ≡ pc_of ((k + 1) % 7)
    pub register : register_fault_of doing (is_some bypass) v.table.run.clocks does.effect.rd rd ≡ None
    pub csrs : does.effect.csrs ≡ []
    pub amo : amo_fault_of doing does.effect.store bypass ≡ None
    pub pair : pair_fault_of v.table.run.pair (is_some bypass) doing ≡ None

  effect_fine : IsFine → effect_fault_in v.table.run retire doing does.effect bypass ≡ None
  unfolding effect_fault_in
  effect_fine f =
      five_none (next_fault_of does.effect.next retire.next)
      (register_fault_of doing (is_some bypass) v.table.run.clocks does.effect.rd rd)
      (csr_fault_of does.effect.csrs []) (amo_fault_of doing does.effect.store bypass)
      (pair_fault_of v.table.run.pair (is_some bypass) doing)
      (same_next does.effect.next retire.next f.next) f.register
      (ap (λ (cs : List CsrValue). csr_fault_of cs []) f.csrs) f.amo f.pair

  loaded_fine : IsFine → loaded_fault_in v.table.run v.table.live head retire doing does.effect bypass ≡ None
  loaded_fine f =
      four_none (missing_fault_of v.table.live (tag_of round k) doing) (torn_fault_of v.table.live
      (tag_of round k) doing)
      (bypass_fault_of bypass doing) (effect_fault_in v.table.run retire doing does.effect bypass) f.missing f.torn
      f.bypassed (effect_fine f)

  abbrev planned : PlanOf
  planned = record { word = word_of k; doing = doing }

  retire_fine : IsFine
      → retire_fault_in v.table.run v.table.live v.early head retire planned does.effect bypass ≡ None
  unfolding retire_fault_in
  retire_fine f =
      five_none (stray_fault_of (lowest_stray doing h (tag_of round k) v.early))
      (pc_fault_of v.table.run.hart.pc (pc_of k)) (word_fault_of (word_of k) (word_of k))
      (trap_fault_of does.effect.trap None)
      (loaded_fault_in v.table.run v.table.live head retire doing does.effect bypass)
      (ap stray_fault_of f.stray) (same_pc v.table.run.hart.pc (pc_of k) f.pc) (same_word (word_of k) (word_of k) refl)
      (ap (λ (o : Option ℕ). trap_fault_of o None) f.trap) (loaded_fine f)

  all_fine : IsFine → table_fault made_image (config_in 0) v.early v.table head (body.Retire retire) ≡ None
  all_fine f =
      ap (λ (p : PlanOf). tag_fault_of v.table.last (tag_of round k)
      or_else retire_fault_in v.table.run v.table.live v.early head retire p
      (done_of v.table.run v.table.live bypass (tag_of round k) retire p.doing).effect bypass) f.plan
      ∙ two_none (tag_fault_of v.table.last (tag_of round k))
      (retire_fault_in v.table.run v.table.live v.early head retire planned does.effect bypass)
      (tag_fine v.table.last (7 * round + k) (tag_of round k) f.last (omega arith)) (retire_fine f)

  after_is : IsFine → seen_after (n + 1) v head (body.Retire retire) ≡ retired
  after_is f =
      ap (λ (p : PlanOf). record {
        table =
            table_retiring v.table head retire p.doing
            (done_of v.table.run v.table.live bypass (tag_of round k) retire p.doing).hart
            (done_of v.table.run v.table.live bypass (tag_of round k) retire p.doing).effect.store;
        early = filter (λ (r : OpenReport). not (is_report h (tag_of round k) r)) v.early;
      }) f.plan

  -- so it retires
  pub retires : (Q : Seen → Type 0) → IsFine → Q retired → Says h n (says_retire round k rd ∷ []) v Q
  retires Q f q = (refl, all_fine f, subst Q (sym (after_is f)) q)

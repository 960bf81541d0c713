-- What it means that a Retire has its reports, and is the step.
use Rattle.std.proofs.Common.{ℕ, ◌+◌, ◌%◌, ◌<◌, ◌≡◌, ◌↔◌, Bool, true, false, cond, not, eqb, nat_eq, ◌&&◌}
use Rattle.std.proofs.Common.{is_some, List}
use Rattle.std.proofs.Common.{[], ◌∷◌, Option, Some, None, refl, sym, ap, subst, inl, inr}
use Rattle.std.proofs.lemmas.Bool.{false≢true, and_parts, and_from, eqb-true, eq-eqb, not-false}
use Rattle.std.specs.List.{Contains}
use Rattle.std.specs.Option.{option_eq}
use Rattle.msg_frames.specs.declared.csrs.CsrValue.{CsrValue}
use Rattle.msg_frames.specs.declared.message.Head.{Head}
use Rattle.msg_frames.specs.declared.message.Piece.{Piece}
use Rattle.msg_frames.specs.declared.message.Retire.{Retire}
use Rattle.msg_frames.specs.declared.message.Message.{Message}
use Rattle.elf_image.specs.Images.{Loaded}
use Rattle.rv_step.specs.declared.effect.Effect.{Effect}
use Rattle.rv_step.specs.Plans.{PlanOf}
use Rattle.rv_step.specs.Steps.{Doing, trap, plain, counter, load, store, lr, sc, amo}
use Rattle.matching.specs.declared.reports.OpenReport.{OpenReport}
use Rattle.matching.specs.declared.run.Pair.{Pair}
use Rattle.matching.specs.Compares.{pc_fault_of, word_fault_of, trap_fault_of, next_fault_of, meets}
use Rattle.matching.specs.Compares.{same_csr, csr_entry_fault_of, csr_difference, tag_fault_of}
use Rattle.matching.specs.Matching.{retire_fault_of}
use Rattle.msg_frames.specs.Pieces.{byte_in}
use Rattle.matching.specs.Reports.{live, early, counting}
use Rattle.matching.specs.RetireFaults.{is_stray, lower, lowest_stray, stray_fault_of, is_missing, is_torn, same_read}
use Rattle.matching.specs.RetireFaults.{missing_fault_in, torn_fault_in, reads_missing, reads_torn, missing_fault_of}
use Rattle.matching.specs.RetireFaults.{torn_fault_of, does_amo, bypass_fault_of, amo_fault_in, amo_fault}
use Rattle.matching.specs.RetireFaults.{amo_fault_of}
use Rattle.matching.specs.RetireFaults.{rd_want_of, register_fault_of, is_in_pair, pair_fault_of, effect_fault_in}
use Rattle.matching.specs.RetireFaults.{retire_fault_in}
use Rattle.matching.specs.Runs.{Run, run_of, doing_at, effect_at, plan_at, bypass_at}
use Rattle.matching.specs.Tags.{last_tag}
use Rattle.trace_model.proofs.Lists.{In, contained, listed}
use Rattle.order_laws.specs.Formed.{AreAllRead, HasReads, AreReadAtOnce, HasOneRead, HasReports}
use Rattle.order_laws.specs.Stepped.{AreBypassed, StoresBypassed, RetiresStep, ScIsPaired}
use Rattle.order_laws.proofs.FormedParts.{tag_is}
use Rattle.order_laws.proofs.Tests.{passes, fails, both, then, same_number, same_option, none_below, none_other}

-- ---- stray Bypasses

stray_none : (o : Option ℕ) → (stray_fault_of o ≡ None) ↔ (o ≡ None)
stray_none None = ((λ e. refl), λ e. refl)
stray_none (Some t) = ((λ e. absurd (cc)), λ e. absurd (cc))

lowest_is : (d : Doing) (h t : ℕ) (rs : List OpenReport) → (lowest_stray d h t rs ≡ None)
    ↔ ((r : OpenReport) → In r rs → is_stray d h t r ≡ false)
lowest_is d h t [] = ((λ e r i. absurd i), λ f. refl)
lowest_is d h t (s ∷ rs) = (on (is_stray d h t s) refl (lowest_is d h t rs), back (lowest_is d h t rs))
  where
    on : (b : Bool) → is_stray d h t s ≡ b
        → (lowest_stray d h t rs ≡ None) ↔ ((r : OpenReport) → In r rs → is_stray d h t r ≡ false)
        → cond b (Some (lower s.tag (lowest_stray d h t rs))) (lowest_stray d h t rs) ≡ None
        → (r : OpenReport) → In r (s ∷ rs) → is_stray d h t r ≡ false
    on true q rec e r i = absurd (cc)
    on false q rec e r (inl f) = subst (λ (z : OpenReport). is_stray d h t z ≡ false) (sym f) q
    on false q rec e r (inr j) = rec.0 e r j

    back : (lowest_stray d h t rs ≡ None) ↔ ((r : OpenReport) → In r rs → is_stray d h t r ≡ false)
        → ((r : OpenReport) → In r (s ∷ rs) → is_stray d h t r ≡ false)
        → cond (is_stray d h t s) (Some (lower s.tag (lowest_stray d h t rs))) (lowest_stray d h t rs) ≡ None
    back rec f = rw (f s (inl refl)) (rec.1 (λ r j. f r (inr j)))

stray_is : (d : Doing) (h t : ℕ) (rs : List OpenReport) → (stray_fault_of (lowest_stray d h t rs) ≡ None)
    ↔ ((r : OpenReport) → Contains rs r → is_stray d h t r ≡ false)
stray_is d h t rs = (
  (λ e r i. (lowest_is d h t rs).0 ((stray_none _).0 e) r (listed rs r i)),
  λ f. (stray_none _).1 ((lowest_is d h t rs).1 (λ r i. f r (contained rs r i))),
)

-- ---- Reads

missing_none : (addr : ℕ) (o : Option ℕ) → (missing_fault_in addr o ≡ None) ↔ (o ≡ None)
missing_none addr None = ((λ e. refl), λ e. refl)
missing_none addr (Some k) = ((λ e. absurd (cc)), λ e. absurd (cc))

torn_none : (addr : ℕ) (o : Option ℕ) → (torn_fault_in addr o ≡ None) ↔ (o ≡ None)
torn_none addr None = ((λ e. refl), λ e. refl)
torn_none addr (Some k) = ((λ e. absurd (cc)), λ e. absurd (cc))

-- no test fails below n
all_pass : (p : ℕ → Bool) (n : ℕ) → ((k : ℕ) → k < n → not (p k) ≡ false) ↔ ((k : ℕ) → k < n → p k ≡ true)
all_pass p n = ((λ f k l. not-false (p k) (f k l)), λ f k l. ap not (f k l))

read_is : (rs : List OpenReport) (t addr len : ℕ) → (reads_missing rs t addr len ≡ None) ↔ AreAllRead rs t addr len
read_is rs t addr len = then _ _ _ (missing_none addr _)
    (then _ _ _ (none_below (is_missing rs t addr) len) (all_pass (λ k. is_some (counting rs t (addr + k))) len))

once_is : (rs : List OpenReport) (t addr len : ℕ) → (reads_torn rs t addr len ≡ None) ↔ AreReadAtOnce rs t addr len
once_is rs t addr len = then _ _ _ (torn_none addr _)
    (then _ _ _ (none_below (is_torn rs t addr) len)
    (all_pass (λ k. same_read (counting rs t addr) (counting rs t (addr + k))) len))

reads_are : (rs : List OpenReport) (t : ℕ) (d : Doing) → (missing_fault_of rs t d ≡ None) ↔ HasReads rs t d
reads_are rs t (trap cause value) = ((λ e. tt), λ h. refl)
reads_are rs t (plain i) = ((λ e. tt), λ h. refl)
reads_are rs t (counter i) = ((λ e. tt), λ h. refl)
reads_are rs t (load i addr len) = read_is rs t addr len
reads_are rs t (store i addr len) = ((λ e. tt), λ h. refl)
reads_are rs t (lr i addr len) = read_is rs t addr len
reads_are rs t (sc i addr len) = ((λ e. tt), λ h. refl)
reads_are rs t (amo i addr len) = read_is rs t addr len

-- where a test passes nothing is wrong
asked : {X : Type 0} (b : Bool) (o : Option X) (P Q : Type 0) → (b ≡ true) ↔ P → (o ≡ None) ↔ Q
    → (cond b o None ≡ None) ↔ (P → Q)
asked true o P Q p q = ((λ e z. q.0 e), λ f. q.1 (f (p.0 refl)))
asked false o P Q p q = ((λ e z. absurd (false≢true (p.1 z))), λ f. refl)

onces_are : (rs : List OpenReport) (t : ℕ) (d : Doing) → (torn_fault_of rs t d ≡ None) ↔ HasOneRead rs t d
onces_are rs t (trap cause value) = ((λ e. tt), λ h. refl)
onces_are rs t (plain i) = ((λ e. tt), λ h. refl)
onces_are rs t (counter i) = ((λ e. tt), λ h. refl)
onces_are rs t (load i addr len) =
    asked (eqb (addr % len) 0) (reads_torn rs t addr len) _ _ (same_number (addr % len) 0) (once_is rs t addr len)
onces_are rs t (store i addr len) = ((λ e. tt), λ h. refl)
onces_are rs t (lr i addr len) = once_is rs t addr len
onces_are rs t (sc i addr len) = ((λ e. tt), λ h. refl)
onces_are rs t (amo i addr len) = once_is rs t addr len

-- ---- the Bypass of an AMO or SC

implied : (a b : Bool) → ((a && not b) ≡ false) ↔ (a ≡ true → b ≡ true)
implied true true = ((λ e q. refl), λ h. refl)
implied true false = ((λ e q. absurd (false≢true (sym e))), λ h. absurd (false≢true (h refl)))
implied false b = ((λ e q. absurd (false≢true q)), λ h. refl)

amo_is : (bypass : Option OpenReport) (d : Doing) → (bypass_fault_of bypass d ≡ None)
    ↔ (does_amo d ≡ true → is_some bypass ≡ true)
amo_is bypass d = then _ _ _ (fails (does_amo d && not (is_some bypass)) _) (implied (does_amo d) (is_some bypass))

data_none : (addr : ℕ) (result got : Piece) (o : Option ℕ) → (amo_fault_in addr result got o ≡ None) ↔ (o ≡ None)
data_none addr result got None = ((λ e. refl), λ e. refl)
data_none addr result got (Some k) = ((λ e. absurd (cc)), λ e. absurd (cc))

data_is : (addr len : ℕ) (want : Option Piece) (bypass : Option OpenReport) → (amo_fault addr len want bypass ≡ None)
    ↔ AreBypassed addr len want bypass
data_is addr len None bypass = ((λ e. tt), λ h. refl)
data_is addr len (Some want) None = ((λ e. tt), λ h. refl)
data_is addr len (Some want) (Some r) = then _ _ _ (data_none addr want r.piece _)
    (none_other (byte_in want) (byte_in r.piece) addr len)

stored_is : (d : Doing) (want : Option Piece) (bypass : Option OpenReport) → (amo_fault_of d want bypass ≡ None)
    ↔ StoresBypassed d want bypass
unfolding amo_fault_of
stored_is (trap cause value) want bypass = ((λ e. tt), λ h. refl)
stored_is (plain i) want bypass = ((λ e. tt), λ h. refl)
stored_is (counter i) want bypass = ((λ e. tt), λ h. refl)
stored_is (load i addr len) want bypass = ((λ e. tt), λ h. refl)
stored_is (store i addr len) want bypass = ((λ e. tt), λ h. refl)
stored_is (lr i addr len) want bypass = ((λ e. tt), λ h. refl)
stored_is (sc i addr len) want bypass = data_is addr len want bypass
stored_is (amo i addr len) want bypass = data_is addr len want bypass

pair_is : (pair : Option Pair) (stored : Bool) (d : Doing) → (pair_fault_of pair stored d ≡ None)
    ↔ ScIsPaired pair stored d
pair_is pair stored (trap cause value) = ((λ e. tt), λ h. refl)
pair_is pair stored (plain i) = ((λ e. tt), λ h. refl)
pair_is pair stored (counter i) = ((λ e. tt), λ h. refl)
pair_is pair stored (load i addr len) = ((λ e. tt), λ h. refl)
pair_is pair stored (store i addr len) = ((λ e. tt), λ h. refl)
pair_is pair stored (lr i addr len) = ((λ e. tt), λ h. refl)
pair_is pair stored (sc i addr len) =
    then _ _ _ (fails (stored && not (is_in_pair addr len pair)) _) (implied stored (is_in_pair addr len pair))
pair_is pair stored (amo i addr len) = ((λ e. tt), λ h. refl)

-- ---- the lists of written CSRs

csr_is : (want got : CsrValue) → (same_csr want got ≡ true) ↔ (want ≡ got)
csr_is want got = (
  (λ e.
      let p = and_parts (eqb want.number got.number) (eqb want.value got.value) e in
      let n : want.number ≡ got.number = eqb-true _ _ p.0 in
      let v : want.value ≡ got.value = eqb-true _ _ p.1 in
      λ i. record { number = n i; value = v i }),
  λ e. and_from _ _ (eq-eqb _ _ (ap (λ (c : CsrValue). c.number) e)) (eq-eqb _ _ (ap (λ (c : CsrValue). c.value) e)),
)

csrs_are : (index : ℕ) (wants gots : List CsrValue) → (csr_difference index wants gots ≡ None) ↔ (wants ≡ gots)
csrs_are index [] [] = ((λ e. refl), λ e. refl)
csrs_are index [] (got ∷ gots) = ((λ e. absurd (cc)), λ e. absurd (cc))
csrs_are index (want ∷ wants) [] = ((λ e. absurd (cc)), λ e. absurd (cc))
csrs_are index (want ∷ wants) (got ∷ gots) =
    then _ _ _ (both (csr_entry_fault_of index (Some want) (Some got)) (csr_difference (index + 1) wants gots) _ _
    (then _ _ _ (passes (same_csr want got) _) (csr_is want got)) (csrs_are (index + 1) wants gots)) (
      (λ h i. h.0 i ∷ h.1 i),
      λ e. (let a : want ≡ got = cc in a, let b : wants ≡ gots = cc in b),
    )

-- ---- the rows of a Retire but that of its tag

record Rows (run : Run) (rs bs : List OpenReport) (head : Head) (retire : Retire) (plan : PlanOf) (effect : Effect)
    (bypass : Option OpenReport) : Type 0 where
  bypasses : (r : OpenReport) → Contains bs r → is_stray plan.doing head.hart head.tag r ≡ false
  pc : run.hart.pc ≡ retire.pc
  word : plan.word ≡ retire.word
  trap : effect.trap ≡ retire.trap
  reads : HasReads rs head.tag plan.doing
  once : HasOneRead rs head.tag plan.doing
  bypassed : does_amo plan.doing ≡ true → is_some bypass ≡ true
  next : effect.next ≡ retire.next
  rd : meets (rd_want_of plan.doing (is_some bypass) run.clocks effect.rd) retire.rd ≡ true
  csrs : effect.csrs ≡ retire.csrs
  stored : StoresBypassed plan.doing effect.store bypass
  paired : ScIsPaired run.pair (is_some bypass) plan.doing

module _ (run : Run) (rs bs : List OpenReport) (head : Head) (retire : Retire) (plan : PlanOf) (effect : Effect)
    (bypass : Option OpenReport) where
  pc_is : (pc_fault_of run.hart.pc retire.pc ≡ None) ↔ (run.hart.pc ≡ retire.pc)
  pc_is = then _ _ _ (passes (eqb run.hart.pc retire.pc) _) (same_number run.hart.pc retire.pc)

  word_is : (word_fault_of plan.word retire.word ≡ None) ↔ (plan.word ≡ retire.word)
  word_is = then _ _ _ (passes (eqb plan.word retire.word) _) (same_number plan.word retire.word)

  trap_is : (trap_fault_of effect.trap retire.trap ≡ None) ↔ (effect.trap ≡ retire.trap)
  trap_is = then _ _ _ (passes (option_eq nat_eq effect.trap retire.trap) _) (same_option effect.trap retire.trap)

  next_is : (next_fault_of effect.next retire.next ≡ None) ↔ (effect.next ≡ retire.next)
  next_is = then _ _ _ (passes (eqb effect.next retire.next) _) (same_number effect.next retire.next)

  rows_are : (retire_fault_in run rs bs head retire plan effect bypass ≡ None)
      ↔ Rows run rs bs head retire plan effect bypass
  unfolding retire_fault_in effect_fault_in register_fault_of
  rows_are =
      let chain = both _ _ _ _ (stray_is plan.doing head.hart head.tag bs)
      (both _ _ _ _ pc_is (both _ _ _ _ word_is (both _ _ _ _ trap_is
      (both _ _ _ _ (reads_are rs head.tag plan.doing) (both _ _ _ _ (onces_are rs head.tag plan.doing)
      (both _ _ _ _ (amo_is bypass plan.doing) (both _ _ _ _ next_is
      (both _ _ _ _ (passes (meets (rd_want_of plan.doing (is_some bypass) run.clocks effect.rd) retire.rd) _)
      (both _ _ _ _ (csrs_are 0 effect.csrs retire.csrs)
      (both _ _ _ _ (stored_is plan.doing effect.store bypass)
      (pair_is run.pair (is_some bypass) plan.doing))))))))))) in (
        (λ e. let h = chain.0 e in record {
          bypasses = h.0;
          pc = h.1.0;
          word = h.1.1.0;
          trap = h.1.1.1.0;
          reads = h.1.1.1.1.0;
          once = h.1.1.1.1.1.0;
          bypassed = h.1.1.1.1.1.1.0;
          next = h.1.1.1.1.1.1.1.0;
          rd = h.1.1.1.1.1.1.1.1.0;
          csrs = h.1.1.1.1.1.1.1.1.1.0;
          stored = h.1.1.1.1.1.1.1.1.1.1.0;
          paired = h.1.1.1.1.1.1.1.1.1.1.1;
        }),
        λ r. chain.1 (
          r.bypasses,
          (
            r.pc,
            (
              r.word,
              (
                r.trap,
                (
                  r.reads,
                  (
                    r.once,
                    (
                      r.bypassed,
                      (
                        r.next,
                        (
                          r.rd,
                          (
                            r.csrs,
                            (r.stored, r.paired),
                          ),
                        ),
                      ),
                    ),
                  ),
                ),
              ),
            ),
          ),
        ),
      )

-- a Retire matches exactly where it has its reports, is the step, and is paired
module _ (image : Loaded) (before : List Message) (head : Head) (retire : Retire) where
  abbrev doing : Doing
  doing = doing_at image before head.hart

  abbrev Ours : Type 0
  Ours = HasReports image before head doing × RetiresStep image before head retire
      × ScIsPaired (run_of image before head.hart).pair (is_some (bypass_at before head)) doing

  pub retire_is : (retire_fault_of image before head retire ≡ None) ↔ Ours
  retire_is =
      let chain = both (tag_fault_of (last_tag before head.hart) head.tag) _ _ _
      (tag_is (last_tag before head.hart) head.tag)
      (rows_are (run_of image before head.hart) (live before head.hart) (early before) head retire
      (plan_at image before head.hart) (effect_at image before head retire) (bypass_at before head)) in (
        (λ e. let h = chain.0 e in (
          record {
            younger = h.0;
            bypasses = h.1.bypasses;
            reads = h.1.reads;
            once = h.1.once;
            bypass = h.1.bypassed;
          },
          record {
            pc = h.1.pc;
            word = h.1.word;
            trap = h.1.trap;
            next = h.1.next;
            rd = h.1.rd;
            csrs = h.1.csrs;
            stored = h.1.stored;
          },
          h.1.paired,
        )),
        λ h. chain.1 (
          h.0.younger,
          record {
            bypasses = h.0.bypasses;
            pc = h.1.pc;
            word = h.1.word;
            trap = h.1.trap;
            reads = h.0.reads;
            once = h.0.once;
            bypassed = h.0.bypass;
            next = h.1.next;
            rd = h.1.rd;
            csrs = h.1.csrs;
            stored = h.1.stored;
            paired = h.2;
          },
        ),
      )

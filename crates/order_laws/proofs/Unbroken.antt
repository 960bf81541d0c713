-- Messages that break nothing.
use Rattle.std.proofs.Common.{ℕ, ◌≡◌, Bool, true, false, not, is_some, List, [], ◌∷◌, Option}
use Rattle.std.proofs.Common.{Some, None}
use Rattle.std.proofs.Common.{refl, sym, ap, subst, ◌∙◌, arith}
use Rattle.std.proofs.lemmas.Bool.{false≢true}
use Rattle.std.specs.List.{Contains}
use Rattle.msg_frames.specs.declared.message.Head.{Head}
use Rattle.msg_frames.specs.declared.message.Body.{Body}
use Rattle.msg_frames.specs.declared.message.Body.TheVariants as body
use Rattle.msg_frames.specs.declared.message.Message.{Message}
use Rattle.msg_frames.specs.declared.message.Piece.{Piece}
use Rattle.msg_frames.specs.declared.message.Retire.{Retire}
use Rattle.elf_image.specs.Images.{Loaded, initial_byte}
use Rattle.rv_decode.specs.declared.instruction.Insn.{Insn}
use Rattle.rv_decode.specs.declared.instruction.Insn.TheVariants.{Store}
use Rattle.rv_decode.specs.Kinds.{is_store, is_amo_or_sc}
use Rattle.rv_step.specs.Harts.{HartState}
use Rattle.rv_step.specs.Steps.{Doing, trap, plain, counter, load, store, lr, sc, amo}
use Rattle.rvwmo_model.specs.declared.instructions.Retired.{Retired}
use Rattle.rvwmo_model.specs.declared.operations.Op.{Op}
use Rattle.rvwmo_model.specs.declared.operations.OpKind.TheVariants as kind
use Rattle.rvwmo_model.specs.declared.traces.Trace.{Trace}
use Rattle.rvwmo_model.specs.Legal.{Legal}
use Rattle.rvwmo_model.proofs.Membership.{first_in}
use Rattle.growth_laws.specs.Kinds.{kind_of_insn, kind_of_retired, WellKinded}
use Rattle.growth_laws.specs.Growth.{AddInsn, Adds, adds_loads, adds_store, adds_atomic, adds_nothing, Same}
use Rattle.growth_laws.specs.Growth.{grow_early}
use Rattle.growth_laws.proofs.Quiet.{quiet_insns}
use Rattle.matching.specs.declared.reports.OpenReport.{OpenReport}
use Rattle.matching.specs.Matching.{IsClean}
use Rattle.matching.specs.Reports.{live, early, early_of}
use Rattle.matching.specs.Runs.{run_of, doing_at}
use Rattle.matching.specs.Settings.{config_of}
use Rattle.matching.specs.Tags.{is_early}
use Rattle.trace_model.specs.Entries.{Entry}
use Rattle.trace_model.specs.Growths as growths
use Rattle.trace_model.specs.Retirements.{entry_of}
use Rattle.trace_model.specs.Traces.{trace_of, entry_in, places, stored_at}
use Rattle.trace_model.proofs.CleanLists.{each_message_grows}
use Rattle.trace_model.proofs.Instructions.{plain_quiet, counter_quiet, store_kind, sc_kind}
use Rattle.trace_model.proofs.Plans.{IsPlanned, planned}
use Rattle.order_laws.specs.FaultLaws.{OthersBreakNothing}
use Rattle.order_laws.specs.Prefixes.{IsLegal}
use Rattle.trace_model.specs.Breaking.{may_break_retiring, may_break}
use Rattle.order_laws.proofs.Faultless.{faultless_legal, legal_order}
use Rattle.order_laws.proofs.Fine.{first_legal, kinded, same, grown}

-- ---- one growth

-- the instruction has no operation, or is a plain store
data IsSilent (r : Retired) : Type 0 where
  silent : kind_of_retired r ≡ None → IsSilent r
  stores : is_store r.insn ≡ true → IsSilent r

store_loads : (i : Insn) (stored : Bool) → is_store i ≡ true → kind_of_insn i stored ≡ Some kind.Load → ⊥
store_loads (Store op rs1 rs2 imm) stored e f = cc
store_loads _ stored e f = false≢true e

store_atomic : (i : Insn) → is_store i ≡ true → is_amo_or_sc i ≡ true → ⊥
store_atomic (Store op rs1 rs2 imm) e f = false≢true f
store_atomic _ e f = false≢true e

module _ (initial : ℕ → ℕ) (t t' : Trace) (r : Retired) (new : List Op) (k : WellKinded t) (legal : Legal initial t)
    (s : AddInsn t t' r new) where
  no_kind : (o : Op) → Contains new o → kind_of_retired r ≡ None → ⊥
  no_kind o i e = let f : None ≡ Some o.kind = sym e ∙ s.are_of.kinds o i in cc

  silent_legal : IsSilent r → Adds t t' r new → Legal initial t'
  silent_legal (silent e) (adds_loads a) = absurd (let f : None ≡ Some kind.Load = sym e ∙ a.loads in cc)
  silent_legal (silent e) (adds_store o a) = (quiet_insns initial t t' r new k legal s).store o a
  silent_legal (silent e) (adds_atomic v o a) = absurd (no_kind o
      (subst (λ (l : List Op). Contains l o) (sym a.one) (first_in o [] o refl)) e)
  silent_legal (silent e) (adds_nothing a) = (quiet_insns initial t t' r new k legal s).nothing a
  silent_legal (stores e) (adds_loads a) = absurd (store_loads r.insn r.stored e a.loads)
  silent_legal (stores e) (adds_store o a) = (quiet_insns initial t t' r new k legal s).store o a
  silent_legal (stores e) (adds_atomic v o a) = absurd (store_atomic r.insn e a.atomic)
  silent_legal (stores e) (adds_nothing a) = (quiet_insns initial t t' r new k legal s).nothing a

-- ---- the entry of a Retire

as_silent : (x e : Entry) → Some x ≡ Some e → IsSilent x.insn → IsSilent e.insn
as_silent x e q s = let z : x ≡ e = cc in subst (λ (y : Entry). IsSilent y.insn) z s

entry_silent : (hart : HartState) (rs bs : List OpenReport) (head : Head) (put : List ℕ) (e : Entry) (d : Doing)
    → IsPlanned hart d → entry_of rs bs head put d ≡ Some e
    → may_break_retiring (is_some (early_of bs head.hart head.tag)) d ≡ false → IsSilent e.insn
entry_silent hart rs bs head put e (trap cause value) p q n = absurd (cc)
entry_silent hart rs bs head put e (plain i) p q n = as_silent _ e q (silent (plain_quiet i p).nothing)
entry_silent hart rs bs head put e (counter i) p q n = as_silent _ e q (silent (counter_quiet i p).nothing)
entry_silent hart rs bs head put e (load i addr len) p q n = absurd (false≢true (sym n))
entry_silent hart rs bs head put e (store i addr len) p q n = as_silent _ e q (stores (store_kind i p.0.0).plain)
entry_silent hart rs bs head put e (lr i addr len) p q n = absurd (false≢true (sym n))
entry_silent hart rs bs head put e (sc i addr len) p q n =
    as_silent _ e q (silent (ap (λ (b : Bool). kind_of_insn i b) n ∙ (sc_kind i p.0).failed))
entry_silent hart rs bs head put e (amo i addr len) p q n = absurd (false≢true (sym n))

module _ (image : Loaded) (last : Message) (before : List Message) (head : Head)
    (legal : IsLegal image (last ∷ before)) where
  abbrev older : List Message
  older = last ∷ before

  abbrev old : Trace
  old = trace_of image older

  abbrev new : Body → Trace
  new b = trace_of image (record { head = head; body = b } ∷ older)

  abbrev Clean : Body → Type 0
  Clean b = IsClean image (record { head = head; body = b } ∷ older)

  by_same : (b : Body) → Clean b → Same old (new b) → Legal (initial_byte image) (new b)
  by_same b c s = same image last before head legal b c s

  by_bypass : (piece : Piece) → Clean (body.Bypass piece) → (d : Bool) → not d ≡ false
      → growths.BypassGrows older head piece old (new (body.Bypass piece)) d
      → Legal (initial_byte image) (new (body.Bypass piece))
  by_bypass piece c true n g = grown image last before head legal (body.Bypass piece) c (grow_early _ g) tt
  by_bypass piece c false n g = absurd (false≢true (sym n))

  by_retire : (retire : Retire) → Clean (body.Retire retire)
      → may_break image older head (body.Retire retire) ≡ false → (o : Option Entry)
      → entry_in image older head (body.Retire retire) ≡ o
      → growths.GrownBy old (new (body.Retire retire)) (places older) o
      → Legal (initial_byte image) (new (body.Retire retire))
  by_retire retire c n None q s = by_same (body.Retire retire) c s
  by_retire retire c n (Some e) q s =
      silent_legal (initial_byte image) old (new (body.Retire retire)) e.insn _
      (kinded image last before head legal (body.Retire retire) c) legal s
      (entry_silent (run_of image older head.hart).hart (live older head.hart) (early older) head
      (stored_at image older head retire) e (doing_at image older head.hart)
      (planned (run_of image older head.hart).hart image (config_of older)) q n) s.adds

  unbroken : (b : Body) → Clean b → may_break image older head b ≡ false
      → growths.MessageGrows image older head b old (new b) → Legal (initial_byte image) (new b)
  unbroken (body.Open info) c n g = absurd g
  unbroken (body.Poke poke) c n g = by_same (body.Poke poke) c g
  unbroken (body.Read piece) c n g = by_same (body.Read piece) c g
  unbroken (body.Insert piece) c n g = by_same (body.Insert piece) c g
  unbroken (body.Write write) c n g = absurd (false≢true (sym n))
  unbroken (body.Bypass piece) c n g = by_bypass piece c (is_early older head) n g
  unbroken (body.Retire retire) c n g =
      by_retire retire c n (entry_in image older head (body.Retire retire)) refl g
  unbroken body.Squash c n g = by_same body.Squash c g
  unbroken body.End c n g = by_same body.End c g

pub others_break_nothing : OthersBreakNothing
others_break_nothing image [] m f c n = legal_order image [] m c (first_legal image m.head m.body c)
others_break_nothing image (last ∷ before) m f c n = legal_order image (last ∷ before) m c
    (unbroken image last before m.head (faultless_legal image (last ∷ before) f).1 m.body c n
    (each_message_grows image (last ∷ before) m c (omega arith)))

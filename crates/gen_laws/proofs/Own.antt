-- What the early Bypasses of other harts don't change.
use Rattle.std.proofs.Common.{ℕ, ◌≡◌, ◌==◌, ◌&&◌, not, List, [], ◌∷◌, Bool, true, false, cond, refl, ap, sym, ◌∙◌}
use Rattle.std.proofs.Common.{Some}
use Rattle.std.specs.List.{filter, find}
use Rattle.std.specs.declared.option.Option.{Option}
use Rattle.std.proofs.lemmas.Bool.{eqb-true, eq-eqb, ne_eqb, and_parts}
use Rattle.msg_frames.specs.declared.message.Head.{Head}
use Rattle.msg_frames.specs.declared.message.Retire.{Retire}
use Rattle.msg_frames.specs.declared.message.Body.{Body}
use Rattle.msg_frames.specs.declared.message.Body.TheVariants as body
use Rattle.msg_frames.specs.declared.message.Message.{Message}
use Rattle.elf_image.specs.Images.{Loaded}
use Rattle.rv_step.specs.declared.plan.Config.{Config}
use Rattle.rv_step.specs.declared.effect.Effect.{Effect}
use Rattle.rv_step.specs.Plans.{PlanOf, plan_of}
use Rattle.rv_step.specs.Steps.{Doing}
use Rattle.tandem_base.specs.FirstFault.{◌or_else◌}
use Rattle.verdict_report.specs.declared.fault.Fault.{Fault}
use Rattle.matching.specs.declared.reports.OpenReport.{OpenReport}
use Rattle.matching.specs.Settings.{number_after}
use Rattle.matching.specs.Tags.{last_tag, is_early, is_younger}
use Rattle.matching.specs.Reports.{early_in, early_of, is_report, open_report_of}
use Rattle.matching.specs.Runs.{Run, done_of, doing_in}
use Rattle.matching.specs.Compares.{tag_fault_of, pc_fault_of, word_fault_of, trap_fault_of}
use Rattle.matching.specs.PartFaults.{second_bypass_fault, bypass_range_fault}
use Rattle.matching.specs.RetireFaults.{retire_fault_in, loaded_fault_in, lowest_stray, is_stray, lower, stray_fault_of}
use Rattle.matching.specs.Tables.{Table, table_fault, table_after, table_retiring, early_put, early_dropped}
use Rattle.matching.specs.Tables.{tracked_fault}
use Rattle.matching.specs.Tables.{tracked_under}
use Rattle.matching.proofs.Waits.{filter_kept}

-- those of hart h
abbrev pub early_at : ℕ → List OpenReport → List OpenReport
early_at h es = filter (λ (r : OpenReport). r.hart == h) es

module _ {X : Type 0} (p q : X → Bool) where
  find_one : (a b : Bool) (x : X) (ys : List X) (o : Option X) → p x ≡ a → q x ≡ b → (a ≡ true → b ≡ true)
      → o ≡ find p ys
      → cond a (Some x) o ≡ find p (cond b (x ∷ ys) ys)
  find_one a true x ys o e f g h =
      ap (λ (z : Option X). cond a (Some x) z) h ∙ ap (λ (t : Bool). cond t (Some x) (find p ys)) (sym e)
  find_one true false x ys o e f g h = absurd (let t : false ≡ true = g refl in cc)
  find_one false false x ys o e f g h = h

  -- what is looked for is among those that are kept
  find_kept : ((x : X) → p x ≡ true → q x ≡ true) → (xs : List X) → find p xs ≡ find p (filter q xs)
  find_kept g [] = refl
  find_kept g (x ∷ xs) = find_one (p x) (q x) x (filter q xs) (find p xs) refl refl (g x) (find_kept g xs)

  swap_one : (a b : Bool) (x : X) (xs ys : List X) → p x ≡ a → q x ≡ b → filter q (filter p xs) ≡ filter p ys
      → filter q (cond a (x ∷ filter p xs) (filter p xs)) ≡ filter p (cond b (x ∷ ys) ys)
  swap_one true true x xs ys e f h =
      ap (λ (t : Bool). cond t (x ∷ filter q (filter p xs)) (filter q (filter p xs))) f
      ∙ ap (λ (zs : List X). x ∷ zs) h ∙ ap (λ (t : Bool). cond t (x ∷ filter p ys) (filter p ys)) (sym e)
  swap_one true false x xs ys e f h =
      ap (λ (t : Bool). cond t (x ∷ filter q (filter p xs)) (filter q (filter p xs))) f ∙ h
  swap_one false true x xs ys e f h = h ∙ ap (λ (t : Bool). cond t (x ∷ filter p ys) (filter p ys)) (sym e)
  swap_one false false x xs ys e f h = h

  -- two tests in either order
  filter_swap : (xs : List X) → filter q (filter p xs) ≡ filter p (filter q xs)
  filter_swap [] = refl
  filter_swap (x ∷ xs) = swap_one (p x) (q x) x xs (filter q xs) refl refl (filter_swap xs)

-- the Bypass of an instruction of hart h
pub early_of_own : (es : List OpenReport) (h t : ℕ) → early_of es h t ≡ early_of (early_at h es) h t
early_of_own es h t =
    find_kept (is_report h t) (λ (r : OpenReport). r.hart == h)
    (λ (r : OpenReport) e. (and_parts (r.hart == h) (r.tag == t) e).0) es

stray_one : (doing : Doing) (h t : ℕ) (a b : Bool) (r : OpenReport) (ys : List OpenReport) (o : Option ℕ)
    → is_stray doing h t r ≡ a → (r.hart == h) ≡ b → (a ≡ true → b ≡ true) → o ≡ lowest_stray doing h t ys
    → cond a (Some (lower r.tag o)) o ≡ lowest_stray doing h t (cond b (r ∷ ys) ys)
stray_one doing h t a true r ys o e f g k =
    ap (λ (z : Option ℕ). cond a (Some (lower r.tag z)) z) k
    ∙ ap (λ (x : Bool). cond x (Some (lower r.tag (lowest_stray doing h t ys))) (lowest_stray doing h t ys)) (sym e)
stray_one doing h t true false r ys o e f g k = absurd (let x : false ≡ true = g refl in cc)
stray_one doing h t false false r ys o e f g k = k

stray_own : (doing : Doing) (h t : ℕ) (es : List OpenReport)
    → lowest_stray doing h t es ≡ lowest_stray doing h t (early_at h es)
stray_own doing h t [] = refl
stray_own doing h t (r ∷ es) =
    stray_one doing h t (is_stray doing h t r) (r.hart == h) r (early_at h es) (lowest_stray doing h t es) refl refl
    (λ e. (and_parts (r.hart == h) _ e).0) (stray_own doing h t es)

retire_own : (run : Run) (live es : List OpenReport) (head : Head) (retire : Retire) (plan : PlanOf) (effect : Effect)
    (bypass : Option OpenReport)
    → retire_fault_in run live es head retire plan effect bypass
    ≡ retire_fault_in run live (early_at head.hart es) head retire plan effect bypass
unfolding retire_fault_in
retire_own run live es head retire plan effect bypass =
    ap (λ (o : Option ℕ). stray_fault_of o or_else pc_fault_of run.hart.pc retire.pc
    or_else word_fault_of plan.word retire.word or_else trap_fault_of effect.trap retire.trap
    or_else loaded_fault_in run live head retire plan.doing effect bypass)
    (stray_own plan.doing head.hart head.tag es)

-- what is wrong with a message of hart h
pub fault_own : (image : Loaded) (config : Config) (es : List OpenReport) (t : Table) (head : Head) (b : Body)
    → table_fault image config es t head b ≡ table_fault image config (early_at head.hart es) t head b
fault_own image config es t head (body.Open info) = refl
fault_own image config es t head (body.Poke poke) = refl
fault_own image config es t head (body.Read piece) = refl
fault_own image config es t head (body.Insert piece) = refl
fault_own image config es t head (body.Write write) = refl
fault_own image config es t head (body.Bypass piece) =
    ap (λ (o : Option OpenReport). bypass_range_fault image piece
    or_else cond (is_younger t.last head.tag) (second_bypass_fault head.tag o)
    (tracked_fault piece (tracked_under head.tag t.stores))) (early_of_own es head.hart head.tag)
fault_own image config es t head (body.Retire retire) =
    let plan = plan_of t.run.hart image config in
    ap (λ (o : Option OpenReport). tag_fault_of t.last head.tag
    or_else retire_fault_in t.run t.live es head retire plan
    (done_of t.run t.live o head.tag retire plan.doing).effect o) (early_of_own es head.hart head.tag)
    ∙ ap (λ (f : Option Fault). tag_fault_of t.last head.tag or_else f)
    (retire_own t.run t.live es head retire plan
    (done_of t.run t.live (early_of (early_at head.hart es) head.hart head.tag) head.tag retire plan.doing).effect
    (early_of (early_at head.hart es) head.hart head.tag))
fault_own image config es t head body.Squash = refl
fault_own image config es t head body.End = refl

-- what hart h is after its message
pub after_own : (image : Loaded) (config : Config) (es : List OpenReport) (n : ℕ) (t : Table) (head : Head) (b : Body)
    → table_after image config es n t head b ≡ table_after image config (early_at head.hart es) n t head b
after_own image config es n t head (body.Open info) = refl
after_own image config es n t head (body.Poke poke) = refl
after_own image config es n t head (body.Read piece) = refl
after_own image config es n t head (body.Insert piece) = refl
after_own image config es n t head (body.Write write) = refl
after_own image config es n t head (body.Bypass piece) = refl
after_own image config es n t head (body.Retire retire) =
    let doing = doing_in image config t.run in
    ap (λ (o : Option OpenReport). table_retiring t head retire doing
    (done_of t.run t.live o head.tag retire doing).hart
    (done_of t.run t.live o head.tag retire doing).effect.store) (early_of_own es head.hart head.tag)
after_own image config es n t head body.Squash = refl
after_own image config es n t head body.End = refl

put_one : (b : Bool) (h : ℕ) (r : OpenReport) (es : List OpenReport) → (r.hart == h) ≡ true
    → early_at h (cond b (r ∷ es) es) ≡ cond b (r ∷ early_at h es) (early_at h es)
put_one true h r es e = ap (λ (t : Bool). cond t (r ∷ early_at h es) (early_at h es)) e
put_one false h r es e = refl

put_other : (b : Bool) (h : ℕ) (r : OpenReport) (es : List OpenReport) → (r.hart == h) ≡ false
    → early_at h (cond b (r ∷ es) es) ≡ early_at h es
put_other true h r es e = ap (λ (t : Bool). cond t (r ∷ early_at h es) (early_at h es)) e
put_other false h r es e = refl

-- those of hart h after its message
pub early_own : (before : List Message) (es : List OpenReport) (head : Head) (b : Body)
    → early_at head.hart (early_in before es head b)
    ≡ early_dropped (early_put (number_after before) (last_tag before head.hart) (early_at head.hart es) head b) head b
early_own before es head (body.Open info) = refl
early_own before es head (body.Poke poke) = refl
early_own before es head (body.Read piece) = refl
early_own before es head (body.Insert piece) = refl
early_own before es head (body.Write write) = refl
early_own before es head (body.Bypass piece) =
    put_one (is_early before head) head.hart (open_report_of (number_after before) head piece) es
    (eq-eqb head.hart head.hart refl)
early_own before es head (body.Retire retire) =
    filter_swap (λ (r : OpenReport). not (is_report head.hart head.tag r)) (λ (r : OpenReport). r.hart == head.hart) es
early_own before es head body.Squash = refl
early_own before es head body.End = refl

not_report : (h g tag : ℕ) (r : OpenReport) → (h ≡ g → ⊥) → (r.hart == g) ≡ true → not (is_report h tag r) ≡ true
not_report h g tag r apart e =
    let same : r.hart ≡ g = eqb-true r.hart g e in
    let other : (r.hart == h) ≡ false = ne_eqb r.hart h (λ (s : r.hart ≡ h). apart (sym s ∙ same)) in
    ap (λ (b : Bool). not (b && (r.tag == tag))) other

-- those of another hart
pub early_other : (before : List Message) (es : List OpenReport) (head : Head) (b : Body) (g : ℕ) → (head.hart ≡ g → ⊥)
    → early_at g (early_in before es head b) ≡ early_at g es
early_other before es head (body.Open info) g apart = refl
early_other before es head (body.Poke poke) g apart = refl
early_other before es head (body.Read piece) g apart = refl
early_other before es head (body.Insert piece) g apart = refl
early_other before es head (body.Write write) g apart = refl
early_other before es head (body.Bypass piece) g apart =
    put_other (is_early before head) g (open_report_of (number_after before) head piece) es (ne_eqb head.hart g apart)
early_other before es head (body.Retire retire) g apart =
    filter_kept (λ (r : OpenReport). r.hart == g) (λ (r : OpenReport). not (is_report head.hart head.tag r))
    (λ (r : OpenReport) e. not_report head.hart g head.tag r apart e) es
early_other before es head body.Squash g apart = refl
early_other before es head body.End g apart = refl

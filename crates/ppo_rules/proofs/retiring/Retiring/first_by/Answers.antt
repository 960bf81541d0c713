-- Each arm answers by the rule of its number.
use Rattle.std.proofs.Common.{ℕ, ◌≡◌, sym, subst, ◌∙◌}
use Rattle.rvwmo_model.specs.declared.preserved.Rule.{Rule}
use Rattle.rvwmo_model.specs.declared.preserved.Rule.TheVariants.{R1, R2, R3, R4, R5, R6, R7, R8, R9, R10, R11, R12}
use Rattle.rvwmo_model.specs.declared.preserved.Rule.TheVariants.{R13}
use Rattle.rvwmo_model.specs.Report.{number}
use Rattle.ppo_rules.proofs.Joined.{by_number, no_other}
use Rattle.ppo_rules.proofs.Premises.{asked, dependent, synchronized, stores_wait}
use Rattle.ppo_rules.proofs.retiring.Retiring.first_by.Goals as goal

pub returns-in-1 : goal.returns-in-1
returns-in-1 c initial t t' r new b k s mine fresh e =
    by_number R1 k t' b c.first_by_overlap.result (e ∙ c.in-1.is)
    (c.first_by_overlap.ensures initial t t' b
    (asked initial t t' r new c.args.self.now s b mine c.args.fresh.now fresh) s.legal)

pub returns-in-2 : goal.returns-in-2
returns-in-2 c initial t t' r new b k s mine fresh e =
    by_number R2 k t' b c.first_by_load.result (e ∙ c.in-2.is)
    (c.first_by_load.ensures t t' b (asked initial t t' r new c.args.self.now s b mine c.args.fresh.now fresh))

pub returns-in-3 : goal.returns-in-3
returns-in-3 c initial t t' r new b k s mine fresh e =
    by_number R3 k t' b c.first_by_atomic.result (e ∙ c.in-3.is)
    (c.first_by_atomic.ensures initial t t' b
    (asked initial t t' r new c.args.self.now s b mine c.args.fresh.now fresh) fresh.sources)

pub returns-in-4 : goal.returns-in-4
returns-in-4 c initial t t' r new b k s mine fresh e =
    by_number R4 k t' b c.first_by_fence.result (e ∙ c.in-4.is)
    (c.first_by_fence.ensures t t' r b
    (synchronized initial t t' r new c.args.self.now s b mine c.args.fresh.now fresh c.marked-marked.result
    c.marked-marked.ensures.kind c.marked-marked.ensures.name c.marked-marked.ensures.place
    c.marked-marked.ensures.acquire c.marked-marked.ensures.release)
    (stores_wait initial t t' r new c.args.self.now s b mine c.args.fresh.now fresh))

pub returns-in-5 : goal.returns-in-5
returns-in-5 c initial t t' r new b k s mine fresh e =
    by_number R5 k t' b c.first_by_acquire.result (e ∙ c.in-5.is)
    (c.first_by_acquire.ensures t t' r b
    (synchronized initial t t' r new c.args.self.now s b mine c.args.fresh.now fresh c.marked-marked.result
    c.marked-marked.ensures.kind c.marked-marked.ensures.name c.marked-marked.ensures.place
    c.marked-marked.ensures.acquire c.marked-marked.ensures.release))

pub returns-in-6 : goal.returns-in-6
returns-in-6 c initial t t' r new b k s mine fresh e =
    by_number R6 k t' b c.first_by_release.result (e ∙ c.in-6.is)
    (c.first_by_release.ensures t t' r b
    (synchronized initial t t' r new c.args.self.now s b mine c.args.fresh.now fresh c.marked-marked.result
    c.marked-marked.ensures.kind c.marked-marked.ensures.name c.marked-marked.ensures.place
    c.marked-marked.ensures.acquire c.marked-marked.ensures.release)
    (stores_wait initial t t' r new c.args.self.now s b mine c.args.fresh.now fresh))

pub returns-in-7 : goal.returns-in-7
returns-in-7 c initial t t' r new b k s mine fresh e =
    by_number R7 k t' b c.first_by_rcsc.result (e ∙ c.in-7.is)
    (c.first_by_rcsc.ensures t t' r b
    (synchronized initial t t' r new c.args.self.now s b mine c.args.fresh.now fresh c.marked-marked.result
    c.marked-marked.ensures.kind c.marked-marked.ensures.name c.marked-marked.ensures.place
    c.marked-marked.ensures.acquire c.marked-marked.ensures.release))

pub returns-in-8 : goal.returns-in-8
returns-in-8 c initial t t' r new b k s mine fresh e =
    by_number R8 k t' b c.first_by_pair.result (e ∙ c.in-8.is)
    (c.first_by_pair.ensures t t' r b
    (synchronized initial t t' r new c.args.self.now s b mine c.args.fresh.now fresh c.marked-marked.result
    c.marked-marked.ensures.kind c.marked-marked.ensures.name c.marked-marked.ensures.place
    c.marked-marked.ensures.acquire c.marked-marked.ensures.release)
    s.tables.insn)

pub returns-in-9 : goal.returns-in-9
returns-in-9 c initial t t' r new b k s mine fresh e =
    by_number R9 k t' b c.first_by_address.result (e ∙ c.in-9.is)
    (c.first_by_address.ensures t t' r b
    (dependent initial t t' r new c.args.self.now s b mine c.args.fresh.now fresh c.marked-marked.result.place
    c.marked-marked.ensures.place)
    s.tables.insn)

pub returns-in-10 : goal.returns-in-10
returns-in-10 c initial t t' r new b k s mine fresh e =
    by_number R10 k t' b c.first_by_data.result (e ∙ c.in-10.is)
    (c.first_by_data.ensures t t' r b
    (dependent initial t t' r new c.args.self.now s b mine c.args.fresh.now fresh c.marked-marked.result.place
    c.marked-marked.ensures.place)
    s.tables.insn)

pub returns-in-11 : goal.returns-in-11
returns-in-11 c initial t t' r new b k s mine fresh e =
    by_number R11 k t' b c.first_by_control.result (e ∙ c.in-11.is)
    (c.first_by_control.ensures t t' r b
    (dependent initial t t' r new c.args.self.now s b mine c.args.fresh.now fresh c.marked-marked.result.place
    c.marked-marked.ensures.place)
    (sym fresh.kept.kind ∙ sym c.marked-marked.ensures.kind))

pub returns-in-12 : goal.returns-in-12
returns-in-12 c initial t t' r new b k s mine fresh e =
    by_number R12 k t' b c.first_by_lead.result (e ∙ c.in-12.is)
    (c.first_by_lead.ensures initial t t' b
    (asked initial t t' r new c.args.self.now s b mine c.args.fresh.now fresh) fresh.sources s.legal)

pub returns-in-13 : goal.returns-in-13
returns-in-13 c initial t t' r new b k s mine fresh e =
    by_number R13 k t' b c.first_by_address_between.result (e ∙ c.in-13.is)
    (c.first_by_address_between.ensures t t' r b
    (dependent initial t t' r new c.args.self.now s b mine c.args.fresh.now fresh c.marked-marked.result.place
    c.marked-marked.ensures.place)
    (sym fresh.kept.kind ∙ sym c.marked-marked.ensures.kind))

pub returns-in_default : goal.returns-in_default
returns-in_default c initial t t' r new b k s mine fresh e =
    absurd (no_other (λ (n : ℕ). c.args.rule ≡ n) c.in_default.in_default-own.rest k (sym e))

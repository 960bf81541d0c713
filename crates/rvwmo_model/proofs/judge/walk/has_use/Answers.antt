use Rattle.std.proofs.Common.{◌∙◌, ap, sym}
use Rattle.rv_decode.specs.declared.registers.Register.TheVariants as register
use Rattle.rvwmo_model.specs.Walk.{use_of}
use Rattle.rvwmo_model.proofs.Asked.{one_use, first_use, second_use}
use Rattle.rvwmo_model.proofs.judge.walk.has_use.Goals as goal

pub returns-in-Address : goal.returns-in-Address
returns-in-Address c = one_use c.args.by c.args.insn.now c.address_source.result c.is_some.result
    (λ r. ap (λ b. use_of b c.args.insn.now (register.X r)) c.in-Address.is ∙ c.address_source.ensures r)
    c.is_some.ensures

pub returns-in-Data : goal.returns-in-Data
returns-in-Data c = one_use c.args.by c.args.insn.now c.data_source.result c.is_some-in-Data.result
    (λ r. ap (λ b. use_of b c.args.insn.now (register.X r)) c.in-Data.is ∙ c.data_source.ensures r)
    c.is_some-in-Data.ensures

pub returns-then-is_some : goal.returns-then-is_some
returns-then-is_some c = first_use c.args.by c.args.insn.now c.control_sources-first.result.0
    c.control_sources-first.result.1 c.is_some-in-Control.result
    (λ r. ap (λ b. use_of b c.args.insn.now (register.X r)) c.in-Control.is ∙ c.control_sources-first.ensures r)
    c.is_some-in-Control.ensures c.if-is_some.true

pub returns-else-is_some : goal.returns-else-is_some
returns-else-is_some c = second_use c.args.by c.args.insn.now c.control_sources-first.result.0
    c.control_sources-first.result.1 c.is_some-else-is_some.result
    (λ r. ap (λ b. use_of b c.args.insn.now (register.X r)) c.in-Control.is ∙ c.control_sources-first.ensures r)
    (sym c.is_some-in-Control.ensures ∙ c.if-is_some.false) c.is_some-else-is_some.ensures

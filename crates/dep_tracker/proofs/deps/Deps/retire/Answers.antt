use Rattle.std.proofs.Common.{ℕ, ◌≡◌, Option, Some, Bool, true, is_some, length, sym, ap, subst, ◌∙◌}
use Rattle.csr_file.specs.CsrFile.{is_implemented}
use Rattle.rv_decode.specs.declared.registers.Register.TheVariants.{X}
use Rattle.rv_decode.specs.Registers.{sets, is_number}
use Rattle.tandem_base.specs.declared.mark.Mark.{Mark}
use Rattle.dep_tracker.specs.Marks.{Started}
use Rattle.dep_tracker.specs.Tables.{MarkTable, put_mark, csr_place, later_mark}
use Rattle.dep_tracker.proofs.Standing.{x_fits, csr_known, goes_on, stands_as, put_length}
use Rattle.dep_tracker.proofs.deps.Deps.retire.Goals as goal

pub set_x-requires : goal.set_x-requires
set_x-requires c =
    x_fits c.args.insn.now _ c.destination-target.result c.destination-target.ensures c.requires.insn

pub set_csr-requires : goal.set_csr-requires
set_csr-requires c =
    csr_known c.args.insn.now c.requires.csr c.csr_destination-csr_target.result c.csr_destination-csr_target.ensures

pub returns : goal.returns
returns c = λ ws st.
    let t : MarkTable = c.args.self.now in
    let w : Started = record { insn = c.args.insn.now; start = c.args.start } in
    let target = c.destination-target.result in
    let csr_target = c.csr_destination-csr_target.result in
    let known : (n : ℕ) → csr_target ≡ Some n → is_implemented n ≡ true =
    csr_known w.insn c.requires.csr csr_target c.csr_destination-csr_target.ensures in
    let sets_x : (n : ℕ) → sets w.insn (is_some w.start) (X n) ≡ is_number target n =
    subst (λ (b : Bool). (n : ℕ) → sets w.insn b (X n) ≡ is_number target n) c.is_some-stored.ensures
    c.destination-target.ensures in
    let last = c.self.view_is ∙ c.set_csr.ensures in
    let registers = ap (λ (v : MarkTable). v.registers) last ∙ ap (λ (v : MarkTable). v.registers) c.set_x.ensures
    ∙ ap (λ (o : Option Mark). put_mark target o t.registers) c.later-register.ensures in
    let csrs = ap (λ (v : MarkTable). v.csrs) last
    ∙ ap (λ (v : MarkTable). put_mark (csr_place csr_target) c.later-csr.result v.csrs) c.set_x.ensures
    ∙ ap (λ (o : Option Mark). put_mark (csr_place csr_target) o t.csrs) c.later-csr.ensures in
    let control = c.raise-2.ensures
    ∙ ap (λ (v : MarkTable). later_mark v.control c.branch-control.result) last
    ∙ ap (λ (v : MarkTable). later_mark v.control c.branch-control.result) c.set_x.ensures in
    let past = c.raise.ensures
    ∙ ap (λ (v : MarkTable). later_mark v.past_address c.address-address.result) last
    ∙ ap (λ (v : MarkTable). later_mark v.past_address c.address-address.result) c.set_x.ensures in
    let long : length t.registers ≡ 32 =
    sym (put_length target (later_mark w.start c.to_register.result) t.registers) ∙ ap length (sym registers)
    ∙ c.self.invariant.0 in
    let twelve : length t.csrs ≡ 12 =
    sym (put_length (csr_place csr_target) (later_mark w.start c.to_csr.result) t.csrs) ∙ ap length (sym csrs)
    ∙ c.self.invariant.1 in
    stands_as _ _ _ (sym registers) (sym csrs) (sym control) (sym past)
    (goes_on t w ws st c.requires.insn long twelve target csr_target sets_x c.csr_destination-csr_target.ensures known
    c.to_register.result c.to_csr.result c.address-address.result c.branch-control.result (c.to_register.ensures ws st)
    (c.to_csr.ensures ws st) (c.address-address.ensures ws st) (c.branch-control.ensures ws st))

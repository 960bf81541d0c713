use Rattle.std.proofs.Common.{ℕ, List, reverse, sym, ap, ◌∙◌, arith}
use Rattle.std.proofs.lemmas.List.{length-replicate}
use Rattle.tandem_base.specs.declared.extent.Extent.{Extent}
use Rattle.rvwmo_model.specs.declared.operations.Op.{Op}
use Rattle.trace_model.specs.Entries.{Fixed}
use Rattle.trace_model.specs.Groups.{Access, parts_of}
use Rattle.trace_model.specs.Marks.{HasAtMost, place_in}
use Rattle.trace_model.specs.Retirements.{load_access, load_ops, read_places}
use Rattle.trace_model.proofs.Extents.{extent_seen}
use Rattle.trace_model.proofs.Marks.{parts_same}
use Rattle.trace_model.proofs.Retiring.{counted_length}
use Rattle.trace_model.proofs.retirements.load_use.Goals as goal

pub returns : goal.returns
returns c =
    let live = reverse c.args.live.now in
    let head = c.args.head.now in
    let insn = c.args.insn.now in
    let e = c.args.extent.now in
    let a = load_access live head insn e in
    let places = place_in c.read_places-places.result in
    let within : HasAtMost a e.len = record {
      len = omega arith;
      got = let n = counted_length live head.tag e.addr e.len in omega (arith, n);
      put = let n = length-replicate {A = ℕ} e.len 0 in omega (arith, n);
    } in
    ap (λ (b : Access). Fixed (parts_of b places)) c.load_access-access.ensures
    ∙ ap (λ (ops : List Op). Fixed ops)
    (parts_same a e.len places (read_places live head.tag e) within c.read_places-places.ensures e.len (omega arith))
    ∙ ap (λ (x : Extent). Fixed (load_ops live head insn x)) (sym (extent_seen e))

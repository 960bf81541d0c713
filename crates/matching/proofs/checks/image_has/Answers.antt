use Rattle.std.proofs.Common.{◌+◌}
use Rattle.std.proofs.lemmas.Bool.{and_from, and_parts, le-leb, lt-ltb, leb-true, ltb-true}
use Rattle.elf_image.specs.Images.{loaded_of}
use Rattle.rv_step.proofs.Held.{has_bytes-each, each-has_bytes, same_test}
use Rattle.matching.proofs.checks.image_has.Goals as goal

pub returns : goal.returns
returns c =
    let image = loaded_of c.args.image.now in
    let addr = c.args.extent.addr in
    let len = c.args.extent.len in
    same_test c.holds.result _
    (λ yes.
    each-has_bytes image addr len
    (λ x low high. c.holds.ensures.0 yes x (and_from _ _ (le-leb addr x low) (lt-ltb x (addr + len) high))))
    (λ all.
    c.holds.ensures.1
    (λ x covers.
    has_bytes-each image addr len x all (leb-true addr x (and_parts _ _ covers).0)
    (ltb-true x (addr + len) (and_parts _ _ covers).1)))

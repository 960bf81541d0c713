use Rattle.std.proofs.Common.{◌≡◌, ◌∙◌, sym, refl, true, false, map}
use Rattle.std.specs.List.{range_with_len}
use Rattle.elf_image.specs.Elf.{is_loadable, program_header}
use Rattle.elf_image.proofs.Loads.{kept_more, loads_sized, skipped_more}
use Rattle.elf_image.proofs.program.loadable.Goals as goal
use Rattle.elf_image.proofs.program.loadable.Goals.{then-is_loadable+in_ok-push, else-is_loadable}

pub loop-index-preserved : goal.loop-index-preserved
loop-index-preserved c =
    let bytes = c.args.bytes.now in
    let i = c.loop-index.index in
    let header = c.program_header-header.result in
    elim c.if-is_loadable.branch [
      | then-is_loadable+in_ok-push w ↦
          let passes : is_loadable header ≡ true = sym c.is_loadable.ensures ∙ w.if-is_loadable.true in
          rw w.found-is
          (kept_more is_loadable (program_header bytes) i c.loop-index.found.items w.push.new.self.items header
          c.loop-index.invariant c.program_header-header.ensures passes (w.in_ok-push.ensures {u = tt}).items)
      | else-is_loadable w ↦
          let fails : is_loadable header ≡ false = sym c.is_loadable.ensures ∙ w.if-is_loadable.false in
          rw w.found-is
          (skipped_more is_loadable (program_header bytes) i c.loop-index.found.items c.loop-index.found.items header
          c.loop-index.invariant c.program_header-header.ensures fails refl)
    ]

pub returns-clause-sized : goal.returns-clause-sized
returns-clause-sized c =
    rw c.loop-index.invariant
    (loads_sized (map (program_header c.args.bytes.now) (range_with_len 0 c.loop-index.index)))

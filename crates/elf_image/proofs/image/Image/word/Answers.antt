use Rattle.std.proofs.Common.{◌∙◌, ◌+◌, ◌≤◌, ◌^◌, ◌-◌, refl, sym, arith}
use Rattle.std.proofs.lemmas.List.Elements.{All-contains}
use Rattle.elf_image.specs.Tables.{IsInFile}
use Rattle.elf_image.proofs.Found.{holds_base, word_at-segment}
use Rattle.elf_image.proofs.image.Image.word.Goals as goal

pub returns-in-Some : goal.returns-in-Some
returns-in-Some c =
    let image = c.self.inside in
    let range = c.in-Some.range.now in
    let found = (c.in-Some.ensures {u = tt}).found in
    let among = rw c.deref.ensures.value at found.0 in
    let placed = All-contains (IsInFile image.file.items) image.segments.items range c.self.invariant.in_file among in
    let room : c.args.addr + 4 ≤ range.base + range.size =
    omega (arith, placed.in_range, holds_base range c.args.addr found.1, (c.if-holds_word.ensures {u = tt}).0 refl) in
    let top : c.args.addr ≤ 2 ^ 64 - 4 = omega arith in
    let word = word_at-segment image.entry image.segments.items image.rams.items image.file.items
    range c.args.addr c.self.invariant.apart among found.1 room top in
    let read = rw c.deref-in-Some.ensures.value at c.file_word.ensures in
    rw (← c.self.view_is) (read ∙ sym word)

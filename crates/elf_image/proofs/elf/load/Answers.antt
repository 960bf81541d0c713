use Rattle.std.proofs.Common.{◌≡◌, ◌∙◌, ◌+◌, length, map, sum_by, sym, ap, None, Ok}
use Rattle.elf_image.specs.Elf.{entry_address, segment_of, loads_image, overlap_fault, segment_fault}
use Rattle.elf_image.specs.Faults.{limit_fault}
use Rattle.elf_image.specs.Rams.{span_of}
use Rattle.elf_image.specs.Tables.{segment_in}
use Rattle.elf_image.proofs.Same.{loads_read, none_wrong, same_segments}
use Rattle.elf_image.proofs.elf.load.Goals as goal

pub returns : goal.returns
returns c =
    let bytes = c.args.bytes.now in
    let loads = c.args.loads.now in
    let rams = c.args.rams.now in
    let over = rw c.entry.ensures at (c.in_ok-over.ensures {u = tt}) in
    let placed : segment_fault (length bytes) loads ≡ None =
    none_wrong _ tt (c.in_ok-check_segments.ensures {u = tt}) in
    let limits : limit_fault (length loads + length rams) (sum_by (λ h. h.size) loads + sum_by (λ r. r.size) rams)
    ≡ None =
    rw (← c.load_size.ensures.value, ← c.ram_size.ensures.value)
    (none_wrong _ tt (c.in_ok-check_limits.ensures {u = tt})) in
    let once : overlap_fault loads ≡ None = none_wrong _ tt (c.in_ok-check_overlap.ensures {u = tt}) in
    loads_read (length bytes) loads rams (loads_image bytes loads rams) placed limits once
    ∙ ap (λ i. Ok i)
    (sym (over ∙ same_segments (entry_address bytes) (map (segment_in bytes) c.in_ok-segments.segments.items)
    (map (segment_of bytes) loads) (map span_of rams) (λ x. (c.in_ok-segments.ensures {u = tt}).same bytes x)))

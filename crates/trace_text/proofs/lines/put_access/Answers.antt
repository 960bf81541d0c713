use Rattle.std.proofs.Common.{sym, ◌∷◌, []}
use Rattle.std.proofs.lemmas.Grind.{flat_map-append}
use Rattle.tandem_base.proofs.PutsLaws.{puts_then, puts_as}
use Rattle.trace_text.specs.Lines.{spaced, hart_field, time_field, tag_field, piece_fields}
use Rattle.trace_text.proofs.lines.put_access.Goals as goal

pub returns-clause-puts : goal.returns-clause-puts
returns-clause-puts c =
    let head = c.args.head.now in
    puts_as (puts_then c.put_tagged-end.ensures.puts c.put_piece.ensures.puts)
    (sym (flat_map-append spaced (hart_field head ∷ time_field head ∷ tag_field head
    ∷ []) (piece_fields c.args.piece.now)))

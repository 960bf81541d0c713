use Rattle.std.proofs.Common.{refl, sym, ◌∙◌, ◌∷◌, []}
use Rattle.std.proofs.lemmas.Grind.{flat_map-append}
use Rattle.tandem_base.proofs.PutsLaws.{puts_then, puts_as}
use Rattle.trace_text.specs.Lines.{spaced, hart_field, time_field, tag_field, poke_fields}
use Rattle.trace_text.specs.Lines.{write_fields, retire_fields}
use Rattle.trace_text.proofs.lines.put_fields.Goals as goal

pub returns-in-Open-clause-puts : goal.returns-in-Open-clause-puts
returns-in-Open-clause-puts c =
    puts_as (puts_then c.put_time-end.ensures.puts c.put_open.ensures.puts)
    (rw c.in-Open.is refl)

pub returns-in-Poke-clause-puts : goal.returns-in-Poke-clause-puts
returns-in-Poke-clause-puts c =
    puts_as (puts_then c.put_timed-end.ensures.puts c.put_poke.ensures.puts)
    (sym (flat_map-append spaced (hart_field c.args.head.now ∷ time_field c.args.head.now ∷ []) (poke_fields _))
    ∙ rw c.in-Poke.is refl)

pub returns-in-Write-clause-puts : goal.returns-in-Write-clause-puts
returns-in-Write-clause-puts c =
    puts_as (puts_then c.put_timed-end-in-Write.ensures.puts c.put_write.ensures.puts)
    (sym (flat_map-append spaced (hart_field c.args.head.now ∷ time_field c.args.head.now ∷ []) (write_fields _))
    ∙ rw c.in-Write.is refl)

pub returns-in-Retire-clause-puts : goal.returns-in-Retire-clause-puts
returns-in-Retire-clause-puts c =
    puts_as (puts_then c.put_tagged-end.ensures.puts c.put_retire.ensures.puts)
    (sym (flat_map-append spaced (hart_field c.args.head.now ∷ time_field c.args.head.now ∷ tag_field c.args.head.now
    ∷ []) (retire_fields _)) ∙ rw c.in-Retire.is refl)

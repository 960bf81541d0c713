use Rattle.tandem_cli.proofs.options.parse_limits.Goals as goal

-- each number is that of its part of the word
pub returns : goal.returns
returns c =
    rw (
      c.make_limits.ensures,
      c.number.ensures,
      c.number-2.ensures,
      c.number-3.ensures,
      c.number-4.ensures,
      c.parted-3.ensures.before,
      c.parted-3.ensures.after,
      c.parted-2.ensures.before,
      c.parted-2.ensures.after,
      c.parted.ensures.before,
      c.parted.ensures.after,
    )

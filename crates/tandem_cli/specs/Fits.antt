-- What the options of a run may be relied on for.
use Rattle.std.specs.Prelude.{◌≡◌, ◌%◌, All, IfSome}
use Rattle.elf_image.specs.Rams.{IsRam}
use Rattle.tandem_cli.specs.Options.{Chosen}
use Rattle.tandem_core.specs.Limits.{HasCeilings}

-- a flat image is aligned, each range of RAM is one, and the limits are within their ceilings
pub record IsFit (options : Chosen) : Type 0 where
  pub flat : IfSome options.flat (λ base. base % 4 ≡ 0)
  pub rams : All IsRam options.rams
  pub limits : HasCeilings options.limits

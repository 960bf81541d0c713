-- The lines of the outcomes that have no verdict. A line ends with one newline, and one space
-- separates its parts.
use Rattle.std.specs.Prelude.{ℕ, List, ◌++◌, codes}
use Rattle.std.specs.Fmt.{decimal}
use Rattle.tandem_base.specs.Texts.{newline}
use Rattle.tandem_cli.specs.declared.file_fault.FileFault.{FileFault}
use Rattle.tandem_cli.specs.declared.file_fault.FileFault.TheVariants.{NotElf, Class, Kind, Machine, Headers}
use Rattle.tandem_cli.specs.declared.file_fault.FileFault.TheVariants.{Segment, Overlap, TooLarge}
use Rattle.elf_image.specs.declared.fault.TooLarge as excess
use Rattle.elf_image.specs.declared.fault.TooLarge.TheVariants.{File, Ranges, Sum}

-- the words that `check` takes
abbrev pub usage_line : List ℕ
usage_line = codes "USAGE tandem check IMAGE STREAM [--flat BASE] [--ram BASE:SIZE]... [--limits R,S,K,M]\n"

-- no input of this name is there
abbrev pub missing_line : List ℕ → List ℕ
missing_line name = codes "INPUT missing " ++ name ++ newline

-- the input of this name could not be read
abbrev pub failed_line : List ℕ → List ℕ
failed_line name = codes "INPUT failed " ++ name ++ newline

-- a limit of images, and the count that passes it
abbrev pub excess_text : excess.TooLarge → List ℕ
excess_text (File length) = codes "File " ++ decimal length
excess_text (Ranges count) = codes "Ranges " ++ decimal count
excess_text (Sum size) = codes "Sum " ++ decimal size

-- the file is no image
abbrev pub image_line : FileFault → List ℕ
image_line NotElf = codes "IMAGE 1 NotElf\n"
image_line Class = codes "IMAGE 2 Class\n"
image_line Kind = codes "IMAGE 3 Kind\n"
image_line Machine = codes "IMAGE 4 Machine\n"
image_line (Headers offset) = codes "IMAGE 5 Headers " ++ decimal offset ++ newline
image_line (Segment index) = codes "IMAGE 6 Segment " ++ decimal index ++ newline
image_line (Overlap first second) = codes "IMAGE 7 Overlap " ++ decimal first ++ codes " " ++ decimal second ++ newline
image_line (TooLarge limit) = codes "IMAGE 8 TooLarge " ++ excess_text limit ++ newline

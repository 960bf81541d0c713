-- How much is open after a message.
use Rattle.std.specs.Prelude.{ℕ, ◌+◌, ◌==◌, List, length}
use Rattle.std.specs.List.{filter}
use Rattle.msg_frames.specs.declared.message.Message.{Message}
use Rattle.elf_image.specs.Images.{Loaded}
use Rattle.matching.specs.declared.reports.OpenReport.{OpenReport}
use Rattle.matching.specs.declared.stores.Stored.{Stored}
use Rattle.matching.specs.Reports.{live, early}
use Rattle.matching.specs.Stores.{retired_stores}
use Rattle.matching.specs.PartFaults.{fate_at}
use Rattle.matching.specs.EndFaults.{is_open_store}

-- the live Reads and the early Bypasses of a hart
abbrev pub reads_of : List Message → ℕ → ℕ
reads_of before h = length (live before h) + length (filter (λ (r : OpenReport). r.hart == h) (early before))

-- the retired plain stores of a hart with a byte that isn't performed
abbrev pub stores_of : Loaded → List Message → ℕ → ℕ
stores_of image before h = length (filter (λ (s : Stored). is_open_store (fate_at before h) s)
    (retired_stores image before h))

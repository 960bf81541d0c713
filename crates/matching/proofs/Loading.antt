-- The bytes of the Reads that count are as many as are asked for.
use Rattle.std.proofs.Common.{ℕ, zero, suc, ◌+◌, ◌≡◌, List, [], ◌∷◌, length, refl, arith}
use Rattle.std.specs.declared.option.Option.{Option}
use Rattle.std.proofs.lemmas.List.{length-append}
use Rattle.msg_frames.specs.declared.message.Retire.{Retire}
use Rattle.rv_step.specs.Steps.{Doing, trap, plain, counter, load, store, lr, sc, amo, IsLoaded}
use Rattle.matching.specs.declared.reports.OpenReport.{OpenReport}
use Rattle.matching.specs.Reports.{bytes_counted, byte_counted, counting}
use Rattle.matching.specs.Runs.{outside_of}

pub length-bytes_counted : (rs : List OpenReport) (t addr n : ℕ) → length (bytes_counted rs t addr n) ≡ n
length-bytes_counted rs t addr zero = refl
length-bytes_counted rs t addr (suc n) =
    let l = length-append (bytes_counted rs t addr n) (byte_counted (addr + n) (counting rs t (addr + n)) ∷ []) in
    let i = length-bytes_counted rs t addr n in omega (arith, l, i)

-- a step has the bytes that it loads
pub is_loaded : (live : List OpenReport) (bypass : Option OpenReport) (t : ℕ) (retire : Retire) (doing : Doing)
    → IsLoaded (outside_of live bypass t retire doing) doing
is_loaded live bypass t retire (trap cause value) = tt
is_loaded live bypass t retire (plain i) = tt
is_loaded live bypass t retire (counter i) = tt
is_loaded live bypass t retire (load i addr len) = length-bytes_counted live t addr len
is_loaded live bypass t retire (store i addr len) = tt
is_loaded live bypass t retire (lr i addr len) = length-bytes_counted live t addr len
is_loaded live bypass t retire (sc i addr len) = tt
is_loaded live bypass t retire (amo i addr len) = length-bytes_counted live t addr len

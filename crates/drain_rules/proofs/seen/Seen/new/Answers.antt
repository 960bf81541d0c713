use Rattle.std.proofs.Common.{ℕ, zero, suc, ◌≡◌, replicate, refl, slice_index_or}
use Rattle.drain_rules.specs.Seen.{no_tag}
use Rattle.drain_rules.proofs.seen.Seen.new.Goals as goal

-- each byte has the greatest tag
each : (n j : ℕ) → slice_index_or (replicate n no_tag) j no_tag ≡ no_tag
each zero j = refl
each (suc n) zero = refl
each (suc n) (suc j) = each n j

pub returns-clause-bytes : goal.returns-clause-bytes
returns-clause-bytes c j = each 64 j

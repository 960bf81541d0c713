use Rattle.std.proofs.Common.{◌≡◌, drop, eqb}
use Rattle.std.specs.List.{list_any}
use Rattle.rvwmo_model.proofs.judge.looks.has_tag.Given as goal

abbrev pub invariant-loop-k : goal.invariant-loop-k
invariant-loop-k l = list_any (λ k. eqb k l.tag) l.tags ≡ list_any (λ k. eqb k l.tag) (drop l.k-index l.tags)

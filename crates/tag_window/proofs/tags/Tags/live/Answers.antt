use Rattle.std.proofs.Common.{◌+◌, ◌≤◌, arith}
use Rattle.tag_window.proofs.tags.Tags.live.Goals as goal

pub overflow_cast-result : goal.overflow_cast-result
overflow_cast-result c =
    let s : c.len.result + c.len-2.result ≤ c.self.inside.capacity = omega (
      arith,
      c.len.ensures,
      c.len-2.ensures,
      c.self.invariant.8,
    ) in
    omega (arith, s)

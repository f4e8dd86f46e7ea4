use Rattle.std.proofs.Common.{◌≤◌, arith}
use Rattle.etzvanul.specs.Orderly.{size_most}
use Rattle.etzvanul.proofs.puts.length_with.Goals as goal

pub overflow_add-result : goal.overflow_add-result
overflow_add-result c =
    let small : c.size.result ≤ 20 = rw c.size.ensures (size_most _) in
    omega (arith, small)

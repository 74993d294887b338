-- The sum of the bytes as the library has it; so few bytes do not overflow it.
use Rattle.std.proofs.Common.{rules, ◌≡◌, ◌≤◌, ◌*◌, arith, length, sum}
use Rattle.std.proofs.lemmas.Grind.{common_steps}
use Rattle.std.proofs.lemmas.List.Sums.{sum_by-le}
use Rattle.frame.proofs.SumLaws.{sum_is}
use Rattle.frame.proofs.sums.added.Goals as goal

pub overflow_add-result : goal.overflow_add-result
overflow_add-result c =
    let e : c.sum.result ≡ sum c.args.part.now = search rules in
    let b : sum c.args.part.now ≤ length c.args.part.now * 255 = grind (arith, common_steps, sum_by-le) in
    omega arith

pub returns : goal.returns
returns c =
    let e : c.sum.result ≡ sum c.args.part.now = search rules in
    rw (e, sum_is c.args.part.now)

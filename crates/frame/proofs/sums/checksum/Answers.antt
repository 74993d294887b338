-- A block's sum is taken modulo 256 behind it, which the remainder of the whole does not feel; how long a block is, no line here says.
use Prim.Native.Nat.{◌+◌, ◌%◌}
use mathlib.Core.Path.{ap, ◌∙◌}
use native.Mathlib.Omega.{arith}
use Rattle.frame.specs.declared.sums.TheConstants.{BLOCK}
use Rattle.frame.specs.Sum.{sum_of}
use Rattle.frame.proofs.SumLaws.{sum_front}
use Rattle.frame.proofs.sums.checksum.Goals as goal

pub loop-block-preserved : goal.loop-block-preserved
loop-block-preserved c =
    let l = c.loop-block in
    let b = c.in-Some in
    record {
      in_range = omega arith;
      same = ap (λ s. (s % 256 + sum_of b.rest.now) % 256) c.added-sum.ensures ∙ sum_front BLOCK l.left.now _ _ l.sum b.ensures.cases.0 b.ensures.cases.1 ∙ l.invariant.same;
    }

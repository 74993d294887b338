-- No turn at first, and then one more.
use Rattle.std.proofs.Common.{arith, rules, of_calls, zero, suc, refl}
use Rattle.output.specs.Output.{Turns}
use Rattle.output.proofs.turns.Goals as goal
use Rattle.output.proofs.turns.Goals.{else-loop-test, then-loop-test+then-not-goes_on}

pub loop-init : goal.loop-init
unfolding Turns
loop-init g c = (c.requires.turns, (zero, refl, (refl, refl)))

pub loop-preserved : goal.loop-preserved
unfolding Turns
loop-preserved g c =
    let i = c.loop.invariant in
    (search (rules, of_calls), (suc i.1.0, omega (arith, i.1.1), (c.loop.turn, c.loop.state, i.1.2, c.if-not-goes_on.ensures, c.turn-state.ensures)))

pub returns : goal.returns
returns g c =
    let i = c.loop.invariant in (
      i.1.0,
      c.loop.turn,
      i.1.2,
      λ below.
          elim c.loop-test.branch [
            | else-loop-test w ↦ absurd (omega (arith, i.1.1, below, w.loop-test.false))
            | then-loop-test+then-not-goes_on w ↦ w.if-not-goes_on.ensures
          ],
    )

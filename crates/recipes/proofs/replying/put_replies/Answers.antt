-- One reply more stands in its part of the room.
use native.Mathlib.Omega.{arith}
use Rattle.recipes.proofs.Replies.{ahead_turn}
use Rattle.recipes.proofs.replying.put_replies.Goals as goal

pub loop-k-preserved : goal.loop-k-preserved
loop-k-preserved c =
    let t = c.loop-k in
    ahead_turn c.args.answers.now c.requires.0 c.args.room.now t.room t.lengths _ t.k _ _ c.loop-k-test.true (omega arith) t.invariant c.put_text.ensures

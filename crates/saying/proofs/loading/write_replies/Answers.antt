-- A line is left, whose reply stands in the room; behind it stand the replies to the lines after it.
use native.Mathlib.Omega.{arith}
use Rattle.std.proofs.Common.{◌≡◌, ap, List, ℕ, length}
use Rattle.std.proofs.lemmas.Iterator.Consumers.{count_from_yields_List, YieldsList-from_first}
use Rattle.texts.specs.Texts.{lines_of}
use Rattle.saying.proofs.Wrote.{joined, nothing}
use Rattle.saying.proofs.Recipe.{reply_then, no_reply, reply_part}
use Rattle.saying.proofs.loading.write_replies.Goals as goal

pub loop-k-preserved : goal.loop-k-preserved
loop-k-preserved c =
    let room = c.args.room.now in
    let lengths = c.args.lengths in
    let t = c.loop-k in
    let one = c.write_numbered.ensures in record {
      short = omega arith;
      size = omega arith;
      completes = λ after f. t.invariant.completes after (rw (reply_then lengths room (lines_of c.args.recipe.now) t.k (omega (arith, ap (λ (t : List ℕ). length (lines_of t)) c.new-lines.ensures))) (joined (rw (reply_part lengths room t.k) at one.wrote) f));
    }

pub returns : goal.returns
returns c =
    let t = c.loop-k in
    let lines : c.count-k-end.result ≡ length (lines_of c.args.recipe.now) = count_from_yields_List _ _ c.count-k-end.ensures.ran (YieldsList-from_first (λ x. x.now) (λ s. lines_of s.rest.now) _ (ap (λ (t : List ℕ). lines_of t) c.new-lines.ensures)) in record {
      wrote = t.invariant.completes t.w (rw (no_reply c.args.lengths c.args.room.now (lines_of c.args.recipe.now) t.k (omega arith)) (nothing t.w 0).wrote);
      short = omega arith;
    }

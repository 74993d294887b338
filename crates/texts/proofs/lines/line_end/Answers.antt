-- A part without a line feed is passed whole.
use Rattle.std.proofs.Common.{◌≡◌, ◌∙◌, ◌-◌, ◌≤◌, false, arith, length, take, drop, length-drop}
use lib.Seq.{drop-drop}
use Rattle.texts.specs.Inner.{has_feed}
use Rattle.texts.proofs.Scans.{left, passed}
use Rattle.texts.proofs.lines.line_end.Goals as goal

pub loop-part-preserved : goal.loop-part-preserved
loop-part-preserved c =
    let b = c.args.block.now in
    let at = c.loop-part.at in
    let chunk = rw (left b at) at c.in-Some.ensures.cases in
    let room : 16 ≤ length b - at = rw length-drop at chunk.enough in
    let none : has_feed (take 16 (drop at b)) ≡ false = rw (← chunk.same, ← c.has_feed.ensures) c.if-has_feed.false in
    let p = passed 16 (drop at b) chunk.enough none in
    record { in_range = omega arith; place = c.loop-part.invariant.place ∙ rw (← drop-drop 16 at b) (omega (arith, p)) }

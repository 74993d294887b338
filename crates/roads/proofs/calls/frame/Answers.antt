-- Too small a room is refused first; then no frame; then whoever holds the address is asked what the frame brings.
use mathlib.Core.Path.{sym, ◌∙◌}
use borrow.Author.Tests.{lt-ltb}
use Rattle.roads.specs.Acknowledgements.{frame_reply}
use Rattle.roads.specs.Calls.{answer_frame}
use Rattle.roads.proofs.CallLaws.{silent_place, no_shape, bad_sum, right_sum, shapeless, held_sum, held_right, holder_answer}
use Rattle.roads.proofs.calls.frame.Goals as goal

pub returns-then-room-lt32 : goal.returns-then-room-lt32
unfolding answer_frame frame_reply
returns-then-room-lt32 c = (rw (lt-ltb _ _ c.if-room-lt32.true, c.refused.ensures), rw c.refused.ensures)

pub returns-in-NoFrame : goal.returns-in-NoFrame
returns-in-NoFrame c =
    let a = c.args in (
      rw c.silent.ensures (shapeless a.r a.frame.now a.room.now c.if-room-lt32.false (no_shape a.frame.now (sym c.read.ensures ∙ c.in-NoFrame.is))),
      rw c.silent.ensures (silent_place _ _),
    )

pub returns-in-BadSum : goal.returns-in-BadSum
returns-in-BadSum c =
    let a = c.args in
    let h = c.if-room-lt32.false in
    let k = bad_sum a.frame.now c.in-BadSum.address (sym c.read.ensures ∙ c.in-BadSum.is) in (
      c.to_holder.ensures.0 ∙ rw k.2 (holder_answer a.r a.frame.now a.room.now h k.0 _ (λ n e. held_sum a.r a.frame.now a.room.now h k.0 n e k.1)),
      c.to_holder.ensures.1,
    )

pub returns-in-Request : goal.returns-in-Request
returns-in-Request c =
    let a = c.args in
    let h = c.if-room-lt32.false in
    let k = right_sum a.frame.now c.in-Request.address c.in-Request.parsed (sym c.read.ensures ∙ c.in-Request.is) in (
      c.to_holder-in-Request.ensures.0
          ∙ rw (c.asked.ensures, k.2, k.3) (holder_answer a.r a.frame.now a.room.now h k.0 _ (λ n e. held_right a.r a.frame.now a.room.now h k.0 n e k.1)),
      c.to_holder-in-Request.ensures.1,
    )

-- Too small a room is refused first; else what the line brings is asked of the zone, the reply put into the room, and the place told by the number.
use mathlib.Core.Path.{ap, ◌∙◌}
use borrow.Author.Tests.{lt-ltb}
use Rattle.card.specs.Answers.{number_of}
use Rattle.card.specs.Inner.{ask_of}
use Rattle.roads.specs.Acknowledgements.{text_reply}
use Rattle.roads.specs.Calls.{Answered, answer_text, text_place}
use Rattle.roads.specs.Inner.{asked_by}
use Rattle.roads.proofs.CallLaws.{text_answer, text_placed}
use Rattle.roads.proofs.calls.text.Goals as goal

pub returns-then-room-lt32 : goal.returns-then-room-lt32
unfolding answer_text text_place text_reply
returns-then-room-lt32 c = (rw (lt-ltb _ _ c.if-room-lt32.true, c.refused.ensures), rw (lt-ltb _ _ c.if-room-lt32.true, c.refused.ensures))

pub returns : goal.returns
returns c =
    let a = c.args in
    let answer =
    text_answer
    a.r
    a.zone
    a.line.now
    a.room.now
    _
    _
    c.place_of.result
    c.ask-outcome.result
    c.if-room-lt32.false
    (c.ask-outcome.ensures ∙ ap (ask_of a.r a.zone) (c.asked.ensures ∙ ap (λ x. asked_by x.parsed) c.read-reading.ensures))
    c.put_text-length.ensures in
    (answer, c.place_of.ensures ∙ rw (c.read-reading.ensures, c.range_at.ensures) (text_placed a.r a.zone a.line.now a.room.now (number_of c.ask-outcome.result.answer) (ap (λ (x : Answered). x.said.number) answer)))

-- The head is put at the front, the reply into the part behind it, and the line feed behind both: at most 5, 32 and 1 bytes.
use native.Mathlib.Omega.{arith}
use Rattle.card.specs.Answers.{number_of, values_of}
use Rattle.journal.specs.Inner.{letter_of, reply_of, output_of}
use Rattle.journal.proofs.Outputs.{head_count, reply_count, output_put}
use borrow.Author.Rules.{rules}
use Rattle.journal.proofs.writing.put_output.Goals as goal

pub bounds-room-end : goal.bounds-room-end
bounds-room-end c =
    let h = head_count c.letter.result c.number.result _ _ _ c.put_head-k.ensures in
    let k = reply_count c.args.entry (number_of c.args.answer) (values_of c.args.answer) _ _ _ c.put_reply_or_dash-n.ensures in
    search rules

pub returns-clause-filled : goal.returns-clause-filled
unfolding output_of
returns-clause-filled c =
    let a = c.args in
    let h = head_count c.letter.result c.number.result _ _ _ c.put_head-k.ensures in
    let k = reply_count a.entry (number_of a.answer) (values_of a.answer) _ _ _ c.put_reply_or_dash-n.ensures in
    let head = rw (c.letter.ensures, c.number.ensures) at c.put_head-k.ensures in
    output_put (letter_of a.entry) (number_of a.answer) (reply_of a.entry (number_of a.answer) (values_of a.answer)) a.room.now _ _ _ _ (omega arith) c.put_head-k.auto.room head c.put_reply_or_dash-n.ensures

pub returns-clause-upper_bound : goal.returns-clause-upper_bound
returns-clause-upper_bound c =
    let h = head_count c.letter.result c.number.result _ _ _ c.put_head-k.ensures in
    let k = reply_count c.args.entry (number_of c.args.answer) (values_of c.args.answer) _ _ _ c.put_reply_or_dash-n.ensures in
    omega arith

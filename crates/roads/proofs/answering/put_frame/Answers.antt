-- Each arm puts the definition's reply to its answer.
use Rattle.roads.specs.Acknowledgements.{frame_reply}
use Rattle.roads.proofs.Seen.{refused_frame}
use Rattle.roads.proofs.answering.put_frame.Goals as goal

pub returns-in-Done : goal.returns-in-Done
unfolding frame_reply
returns-in-Done c = rw c.in-Done.is c.put_in_frame.ensures

pub returns-in-Told : goal.returns-in-Told
unfolding frame_reply
returns-in-Told c = rw c.in-Told.is c.put_figures.ensures

pub returns-in-Refused : goal.returns-in-Refused
returns-in-Refused c = rw (c.in-Refused.is, refused_frame c.args.address c.in-Refused.why, ← c.reply_to.ensures) c.put_in_frame-in-Refused.ensures

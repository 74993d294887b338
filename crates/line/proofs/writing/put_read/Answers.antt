-- The head is the whole line.
use Rattle.line.specs.Line.{line_of}
use Rattle.line.proofs.writing.put_read.Goals as goal

pub returns : goal.returns
unfolding line_of
returns c = c.put_head.ensures.head

-- The body is that of the read.
use Rattle.frame.specs.Frame.{frame_of}
use Rattle.frame.proofs.writing.put_read.Goals as goal

pub returns : goal.returns
unfolding frame_of
returns c = rw (← c.index.ensures) c.put_frame.ensures

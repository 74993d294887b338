-- Head, body and tail stand one behind the other, and together are the frame.
use Rattle.frame.proofs.writing.put_frame.Goals as goal

pub returns : goal.returns
returns c = rw c.checksum.ensures at (c.append.ensures.behind _ _ (c.append-at.ensures.behind _ _ c.copy-at.ensures))

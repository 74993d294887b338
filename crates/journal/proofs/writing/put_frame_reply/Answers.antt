-- The frame is what stands at the front of its own room.
use Rattle.roads.proofs.Lengths.{frame_fits}
use Rattle.journal.proofs.Outputs.{taken_back}
use Rattle.journal.proofs.writing.put_frame_reply.Goals as goal

pub put_hex-requires : goal.put_hex-requires
put_hex-requires c = (rw (taken_back _ _ _ _ c.put_frame-n.ensures) (frame_fits _ _ _), c.requires)

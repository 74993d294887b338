-- The part from `at` on is lent to the copy and comes back in its place.
use Rattle.wire.proofs.Room.{lent_part}
use Rattle.wire.proofs.put.Goals as goal

pub returns : goal.returns
returns c = lent_part c.args.room.now c.args.src.now _ c.args.at c.requires c.copy.ensures.contents

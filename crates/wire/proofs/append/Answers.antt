-- What is put behind the bytes at the front fills it with them.
use Rattle.wire.proofs.Room.{put_behind}
use Rattle.wire.proofs.append.Goals as goal

pub returns-clause-behind : goal.returns-clause-behind
returns-clause-behind c = λ first before f. put_behind first c.args.src.now before _ _ c.args.at f c.put.ensures

-- Those that are kept stand at the front.
use native.Mathlib.Omega.{arith}
use Rattle.journal.proofs.Scans.{kept}
use Rattle.journal.proofs.blocks.keep.Goals as goal

pub returns-clause-buffer_after : goal.returns-clause-buffer_after
returns-clause-buffer_after c = kept c.args.buffer.now _ c.args.at c.args.end _ (omega arith) (omega arith) c.min-n.ensures c.copy_within.ensures.after

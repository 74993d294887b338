-- The zone whose turn it is has no other fault; mended, it is one of those passed.
use native.Mathlib.Omega.{arith}
use Rattle.card.proofs.Mending.{mends_sound, mends_turn}
use Rattle.card.proofs.records.Record.all_mended.Goals as goal

pub mended-requires : goal.mended-requires
mended-requires c = mends_sound c.args.self.zones c.loop-z.z-items c.loop-z.z-index _ (omega (arith, c.loop-z-test.true)) c.loop-z.invariant

pub loop-z-preserved : goal.loop-z-preserved
loop-z-preserved c = rw c.mended.ensures (mends_turn c.args.self.zones c.loop-z.z-items c.loop-z.z-index _ (omega (arith, c.loop-z-test.true)) c.loop-z.invariant)

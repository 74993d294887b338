-- A read changes the buffer behind what is held alone, so that what is worked on is the block behind what was held.
use Prim.Native.Nat.{◌-◌}
use native.Mathlib.Omega.{arith}
use lib.Seq.{take-add}
use borrow.Rule.Slice.PartMut.{take_put}
use Rattle.cardlog.specs.Turns.{went_on}
use Rattle.cardlog.proofs.turn.Goals as goal

pub returns : goal.returns
returns g c =
    let a = c.args in
    let kept = take_put a.before.held (16384 - a.before.held) a.buffer.now c.read.new.buf (omega arith) in
    went_on _ (rw (take-add, kept) at c.answer-2.ensures.leaves)

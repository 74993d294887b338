-- What the text call told fits.
use Prim.Native.Nat.{ℕ}
use native.Mathlib.Omega.{arith}
use lib.ListN.{length-take}
use Rattle.saying.proofs.Told.{reply_short, place_short}
use Rattle.saying.proofs.saying.write_said.Goals as goal

pub slice_bounds-room-end : goal.slice_bounds-room-end
slice_bounds-room-end c = omega (arith, reply_short c.args.r c.args.line.now c.text-replied.result _ c.text-replied.ensures.0)

pub slice_bounds-write_replied-end-2 : goal.slice_bounds-write_replied-end-2
slice_bounds-write_replied-end-2 c = omega (arith, length-take {A = ℕ}, reply_short c.args.r c.args.line.now c.text-replied.result _ c.text-replied.ensures.0)

pub write_replied-requires-2 : goal.write_replied-requires-2
write_replied-requires-2 c =
    let t = c.text-replied in (
      omega (arith, length-take {A = ℕ}, reply_short c.args.r c.args.line.now t.result _ t.ensures.0),
      c.if-line-gt600.false,
      place_short c.args.r c.args.line.now t.result t.ensures.1 c.if-line-gt600.false,
      c.requires,
    )

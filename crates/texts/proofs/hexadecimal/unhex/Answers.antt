-- Where the table says more than 15 a byte is no digit, and there are none; else one pair makes one byte more.
use Rattle.std.proofs.Common.{◌≡◌, ◌∙◌, ◌+◌, ◌*◌, ◌/◌, ◌<◌, [], arith, sym, length, take, length-set}
use lib.ListN.{get_or}
use Rattle.texts.proofs.Hex.{pair_at, byte_is, byte_bad, read_odd, read_more, read_bad, read_all}
use Rattle.texts.proofs.hexadecimal.unhex.Goals as goal

pub returns-in_default-clause-room_after : goal.returns-in_default-clause-room_after
returns-in_default-clause-room_after c = sym (read_odd c.args.digits.now (λ e. omega arith))

pub returns-then-high-low-clause-room_after : goal.returns-then-high-low-clause-room_after
returns-then-high-low-clause-room_after c =
    let l = c.args.digits.now in
    let i = c.loop-i.i in
    let h : i < length l / 2 = omega arith in
    let x : c.from.result ≡ get_or l (2 * i) 0 = rw c.as_chunks.ensures.front at c.from.ensures ∙ (pair_at l i [] h).0 in
    let y : c.from-in-loop-i.result ≡ get_or l (2 * i + 1) 0 = rw c.as_chunks.ensures.front at c.from-in-loop-i.ensures ∙ (pair_at l i [] h).1 in
    let v = byte_bad c.args.values.now c.from.result c.from-in-loop-i.result c.requires.1 (omega (arith, c.type_inv.digits (2 * i))) (omega (arith, c.type_inv.digits (2 * i + 1))) c.if-high-low.true in
    sym (read_bad l (take i c.loop-i.room) i (omega arith) (rw (← x, ← y) v) c.loop-i.invariant.bytes)

pub loop-i-preserved : goal.loop-i-preserved
loop-i-preserved c =
    let l = c.args.digits.now in
    let i = c.loop-i.i in
    let h : i < length l / 2 = omega arith in
    let x : c.from.result ≡ get_or l (2 * i) 0 = rw c.as_chunks.ensures.front at c.from.ensures ∙ (pair_at l i [] h).0 in
    let y : c.from-in-loop-i.result ≡ get_or l (2 * i + 1) 0 = rw c.as_chunks.ensures.front at c.from-in-loop-i.ensures ∙ (pair_at l i [] h).1 in
    let v = byte_is c.args.values.now c.from.result c.from-in-loop-i.result c.requires.1 (omega (arith, c.type_inv.digits (2 * i))) (omega (arith, c.type_inv.digits (2 * i + 1))) c.if-high-low.false in
    record {
      same_length = rw length-set c.loop-i.invariant.same_length;
      bytes = read_more l c.loop-i.room i _ (omega arith) (omega arith) (rw (← x, ← y) v) c.loop-i.invariant.bytes;
    }

pub returns-clause-room_after : goal.returns-clause-room_after
returns-clause-room_after c =
    let l = c.args.digits.now in
    let n : c.loop-i.i ≡ length c.as_chunks.result.0.now = omega arith in
    rw (← n) (sym (read_all l (take c.loop-i.i c.loop-i.room) c.loop-i.i (omega arith) c.loop-i.invariant.bytes))

-- Two digits more are put for each byte.
use Rattle.std.proofs.Common.{refl, arith, length-set}
use Rattle.texts.specs.Numbers.{in_hex}
use Rattle.texts.proofs.Hex.{hex_more, hex_all}
use Rattle.texts.proofs.hexadecimal.put_hex.Goals as goal

pub loop-i-init : goal.loop-i-init
unfolding in_hex
loop-i-init c = record { same_length = refl; digits = refl }

pub loop-i-preserved : goal.loop-i-preserved
loop-i-preserved c =
    let t = c.loop-i in
    let e = hex_more c.args.src.now c.args.room.now t.room t.i c.loop-i-test.true (omega arith) t.invariant.digits in
    record { same_length = rw (length-set, length-set) t.invariant.same_length; digits = rw (c.digit.ensures, c.digit-in-loop-i.ensures) e }

pub returns : goal.returns
returns c = hex_all c.args.src.now c.args.room.now c.loop-i.room c.loop-i.i (omega arith) c.loop-i.invariant.digits

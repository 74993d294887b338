-- Each return is the first part of the shape that is wrong; then the checksum that differs; then the request. The laws of the shape gather the tests that were passed.
use Prim.Native.Nat.{ℕ}
use mathlib.Core.Path.{sym, ap, ◌∙◌}
use native.Mathlib.Nat.{add-sub_cancel_left}
use lib.ListN.{take, drop, get_or}
use borrow.Author.Tests.{eq-eqb, ne_eqb, le-leb, lt-leb}
use Rattle.frame.specs.declared.reading.Framed.TheVariants.{Request}
use Rattle.frame.specs.Sum.{checksum_of}
use Rattle.frame.specs.Frame.{body_read, frame_read}
use Rattle.frame.proofs.Shape.{no_length, no_end, no_sum, whole}
use Rattle.frame.proofs.reading.read.Goals as goal

pub returns-then-frame-lt9 : goal.returns-then-frame-lt9
unfolding frame_read
returns-then-frame-lt9 c = rw (lt-leb _ _ c.if-frame-lt9.true)

pub returns-then-frame-ne104 : goal.returns-then-frame-ne104
unfolding frame_read
returns-then-frame-ne104 c = rw (le-leb _ _ c.if-frame-lt9.false, ne_eqb _ _ c.if-frame-ne104.true)

pub returns-then-frame-ne104-2 : goal.returns-then-frame-ne104-2
unfolding frame_read
returns-then-frame-ne104-2 c = rw (le-leb _ _ c.if-frame-lt9.false, eq-eqb _ _ c.if-frame-ne104.false, ne_eqb _ _ c.if-frame-ne104-2.true)

pub returns-then-frame : goal.returns-then-frame
unfolding frame_read
returns-then-frame c =
    rw (le-leb _ _ c.if-frame-lt9.false, eq-eqb _ _ c.if-frame-ne104.false, eq-eqb _ _ c.if-frame-ne104-2.false, ne_eqb _ _ c.if-frame.true)

pub returns-then-frame-l : goal.returns-then-frame-l
returns-then-frame-l c =
    no_length c.args.frame.now c.from-l.result c.from-l.ensures c.if-frame-lt9.false c.if-frame-ne104.false c.if-frame-ne104-2.false c.if-frame.false c.if-frame-l.true

pub returns-then-frame-l-ne22 : goal.returns-then-frame-l-ne22
returns-then-frame-l-ne22 c =
    no_end c.args.frame.now c.from-l.result c.from-l.ensures c.if-frame-lt9.false c.if-frame-ne104.false c.if-frame-ne104-2.false c.if-frame.false c.if-frame-l.false c.if-frame-l-ne22.true

pub returns-then-checksum-frame : goal.returns-then-checksum-frame
returns-then-checksum-frame c =
    let f = c.args.frame.now in
    let sum = c.checksum.ensures ∙ ap (λ (k : ℕ). checksum_of (take k (drop 4 f))) (add-sub_cancel_left 4 c.from-l.result) in
    no_sum f c.from-l.result c.from-l.ensures c.if-frame-lt9.false c.if-frame-ne104.false c.if-frame-ne104-2.false c.if-frame.false c.if-frame-l.false c.if-frame-l-ne22.false (λ q. c.if-checksum-frame.true (sum ∙ q))

pub returns : goal.returns
returns c =
    let f = c.args.frame.now in
    let part = add-sub_cancel_left 4 c.from-l.result in
    let sum = c.checksum.ensures ∙ ap (λ (k : ℕ). checksum_of (take k (drop 4 f))) part in
    ap (Request (get_or f 4 0)) (c.request.ensures ∙ ap (λ (k : ℕ). body_read (take k (drop 4 f))) part)
    ∙ whole f c.from-l.result c.from-l.ensures c.if-frame-lt9.false c.if-frame-ne104.false c.if-frame-ne104-2.false c.if-frame.false c.if-frame-l.false c.if-frame-l-ne22.false (sym sum ∙ c.if-checksum-frame.false)

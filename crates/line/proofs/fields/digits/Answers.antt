-- What is left is walked on from the digits passed, and the first step of that walk is the turn's.
use mathlib.Core.Path.{◌≡◌, sym, ◌∙◌}
use Prim.Native.Nat.{◌≤◌}
use native.Mathlib.Omega.{arith}
use lib.ListN.{length, get_or}
use Rattle.line.proofs.FieldLaws.{ten_more}
use Rattle.line.proofs.DigitLaws.{digits_walked_lem, at_more, at_other, at_surplus, at_short, at_end}
use borrow.Author.Rules.{rules}
use Rattle.line.proofs.fields.digits.Goals as goal

pub returns-then-width-i : goal.returns-then-width-i
returns-then-width-i c = sym (at_surplus _ _ _ _ c.loop-i-test.true c.if-width-i.true) ∙ sym c.loop-i.invariant.3 ∙ digits_walked_lem _ _

pub returns-then-not-is_ascii_digit : goal.returns-then-not-is_ascii_digit
returns-then-not-is_ascii_digit c =
    sym (at_other _ _ _ _ c.loop-i-test.true c.if-width-i.false c.if-not-is_ascii_digit.ensures.cases) ∙ sym c.loop-i.invariant.3 ∙ digits_walked_lem _ _

pub loop-i-preserved : goal.loop-i-preserved
loop-i-preserved c =
    let i = c.loop-i.invariant in
    let x = get_or c.args.field.now c.loop-i.i 0 in
    let low : 48 ≤ x = search rules in
    let high : x ≤ 57 = search rules in
    rw c.from.ensures (
      search rules,
      search rules,
      ten_more _ _ _ i.2 high,
      i.3 ∙ at_more _ _ _ _ c.loop-i-test.true c.if-width-i.false low high,
    )

pub returns-then-field-width : goal.returns-then-field-width
returns-then-field-width c =
    let e : length c.args.field.now ≡ c.loop-i.i = omega arith in
    rw e (sym (at_short _ _ _ _ c.loop-i-test.false (omega arith)) ∙ sym c.loop-i.invariant.3 ∙ digits_walked_lem _ _)

pub returns : goal.returns
returns c = sym (at_end _ _ _ _ c.loop-i-test.false (omega arith)) ∙ sym c.loop-i.invariant.3 ∙ digits_walked_lem _ _

-- The three tests are those of `decimal_of`, and where none of them sends the field back its digits make the number.
use Prim.Native.Nat.{◌≤◌, ◌<◌}
use borrow.Author.Rules.{rules}
use mathlib.Core.Path.{sym, ◌∙◌}
use lib.ListN.{length}
use Rattle.line.proofs.DigitLaws.{read_ok}
use Rattle.texts.proofs.DecimalLaws.{decimal_short, decimal_long, decimal_zeros, decimal_digits, digits_whole}
use Rattle.texts.proofs.decimals.decimal.Goals as goal

pub returns-then-is_empty : goal.returns-then-is_empty
returns-then-is_empty c =
    let h : length c.args.field.now < 1 = search rules in
    sym (decimal_short _ h)

pub returns-then-field-gt5 : goal.returns-then-field-gt5
returns-then-field-gt5 c =
    let h : 1 ≤ length c.args.field.now = search rules in
    sym (decimal_long _ h c.if-field-gt5.true)

pub returns-then-field : goal.returns-then-field
returns-then-field c =
    let h : 1 ≤ length c.args.field.now = search rules in
    sym (decimal_zeros _ h c.if-field-gt5.false c.if-field.true)

pub returns : goal.returns
returns c =
    let l = c.args.field.now in
    let h : 1 ≤ length l = search rules in
    c.ok.ensures.value ∙ rw c.digits.ensures (sym (decimal_digits l h c.if-field-gt5.false c.if-field.false ∙ digits_whole l ∙ read_ok (length l) l))

-- Past the end and at another byte than a space there is no figure; behind a space the field is judged digit by digit, and its indices count from there.
use mathlib.Core.Path.{sym, ◌∙◌}
use borrow.Author.Rules.{rules}
use lib.ListN.{get_or-eq_default}
use borrow.Author.Tests.{eq-eqb, ne_eqb}
use Rattle.line.specs.Inner.{figure_read}
use Rattle.line.proofs.DigitLaws.{read_bound}
use Rattle.line.proofs.fields.figure.Goals as goal

pub returns-then-line-at : goal.returns-then-line-at
unfolding figure_read
returns-then-line-at c = simp (get_or-eq_default c.args.line.now 0 {n = c.args.at} c.if-line-at.true)

pub returns-then-line-at-ne32 : goal.returns-then-line-at-ne32
unfolding figure_read
returns-then-line-at-ne32 c = simp (ne_eqb _ _ c.if-line-at-ne32.true)

pub map_err-requires : goal.map_err-requires
map_err-requires c = λ e h. let b = read_bound _ _ _ (sym c.digits.ensures ∙ h) in search rules

pub returns : goal.returns
unfolding figure_read
returns c = rw (eq-eqb _ _ c.if-line-at-ne32.false, ← c.field.ensures, ← c.digits.ensures) (search rules)

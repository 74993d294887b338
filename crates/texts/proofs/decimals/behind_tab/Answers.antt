-- Past the end and at another byte than a tab there is no decimal.
use mathlib.Core.Path.{◌∙◌}
use lib.ListN.{get_or-eq_default}
use borrow.Author.Tests.{eq-eqb, ne_eqb}
use Rattle.texts.specs.Inner.{numeral_at}
use Rattle.texts.proofs.decimals.behind_tab.Goals as goal

pub returns-then-line-at : goal.returns-then-line-at
unfolding numeral_at
returns-then-line-at c = rw (get_or-eq_default c.args.line.now 0 {n = c.args.at} c.if-line-at.true)

pub returns-then-line-at-ne9 : goal.returns-then-line-at-ne9
unfolding numeral_at
returns-then-line-at-ne9 c = rw (ne_eqb _ _ c.if-line-at-ne9.true)

pub returns : goal.returns
unfolding numeral_at
returns c = c.decimal_from.ensures ∙ rw (eq-eqb _ _ c.if-line-at-ne9.false)

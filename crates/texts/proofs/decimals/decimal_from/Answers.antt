-- The field ends where the search to the line's end stops.
use mathlib.Core.Path.{sym, ◌∙◌}
use Rattle.texts.proofs.DecimalLaws.{numeral_found}
use Rattle.texts.proofs.decimals.decimal_from.Goals as goal

pub returns-in_err-value : goal.returns-in_err-value
returns-in_err-value c = c.from_residual.ensures ∙ sym (numeral_found _ _ c.find-end.result c.decimal.result c.find-end.ensures.place c.decimal.ensures ∙ rw c.in_err-value.was)

pub returns : goal.returns
returns c = sym (numeral_found _ _ c.find-end.result c.decimal.result c.find-end.ensures.place c.decimal.ensures ∙ rw c.in_ok-value.was)

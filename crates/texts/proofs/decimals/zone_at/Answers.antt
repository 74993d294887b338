-- The zone is the decimal from `start` on, and what follows its tab is for it; without either there is none.
use mathlib.Core.Path.{sym, ◌∙◌}
use Rattle.texts.proofs.Fields.{zone_lacking, tab_lacking, zone_there}
use Rattle.texts.proofs.decimals.zone_at.Goals as goal

pub returns-in_err-zone-clause-result_value : goal.returns-in_err-zone-clause-result_value
returns-in_err-zone-clause-result_value c = rw c.from_residual.ensures (sym (zone_lacking c.args.line.now c.args.start (sym c.decimal_from.ensures ∙ c.in_err-zone.was)))

pub returns-then-line-end-clause-result_value : goal.returns-then-line-end-clause-result_value
returns-then-line-end-clause-result_value c = sym (tab_lacking c.args.line.now c.args.start _ _ (sym c.decimal_from.ensures ∙ c.in_ok-zone.was) c.if-line-end.true)

pub returns-clause-result_value : goal.returns-clause-result_value
returns-clause-result_value c = sym (zone_there c.args.line.now c.args.start _ _ (sym c.decimal_from.ensures ∙ c.in_ok-zone.was) c.if-line-end.false)

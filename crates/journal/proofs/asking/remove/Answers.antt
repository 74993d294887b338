-- The decimal behind the tab is the zone, if nothing follows it.
use mathlib.Core.Path.{sym, ◌∙◌}
use Rattle.journal.proofs.Fields.{no_decimal, decimal_behind, no_more, too_many}
use Rattle.journal.proofs.asking.remove.Goals as goal

pub returns-in_err-zone : goal.returns-in_err-zone
returns-in_err-zone c = rw (c.from_residual.ensures, no_decimal 0 _ 1 (sym c.behind_tab.ensures ∙ c.in_err-zone.was))

pub returns-then-i-line : goal.returns-then-i-line
returns-then-i-line c = rw (decimal_behind 0 _ 1 _ _ (sym c.behind_tab.ensures ∙ c.in_ok-zone.was), too_many _ _ c.if-i-line.true)

pub returns : goal.returns
returns c = rw (decimal_behind 0 _ 1 _ _ (sym c.behind_tab.ensures ∙ c.in_ok-zone.was), no_more _ _ c.if-i-line.false)

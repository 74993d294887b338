-- Each decimal is read behind the one before it; the first that is none, or a byte too many, makes the triple none.
use mathlib.Core.Path.{sym, ◌∙◌}
use Rattle.journal.proofs.Fields.{no_decimal, decimal_behind, no_more, too_many}
use Rattle.journal.proofs.asking.three.Goals as goal

pub returns-in_err-a : goal.returns-in_err-a
returns-in_err-a c = rw (c.from_residual.ensures, no_decimal 2 _ 1 (sym c.behind_tab.ensures ∙ c.in_err-a.was))

pub returns-in_err-b : goal.returns-in_err-b
returns-in_err-b c =
    rw (c.from_residual-in_err-b.ensures, decimal_behind 2 _ 1 _ _ (sym c.behind_tab.ensures ∙ c.in_ok-a.was), no_decimal 1 _ _ (sym c.behind_tab-2.ensures ∙ c.in_err-b.was))

pub returns-in_err-c : goal.returns-in_err-c
returns-in_err-c c =
    rw (c.from_residual-in_err-c.ensures, decimal_behind 2 _ 1 _ _ (sym c.behind_tab.ensures ∙ c.in_ok-a.was), decimal_behind 1 _ _ _ _ (sym c.behind_tab-2.ensures ∙ c.in_ok-b.was), no_decimal 0 _ _ (sym c.behind_tab-3.ensures ∙ c.in_err-c.was))

pub returns-then-k-line : goal.returns-then-k-line
returns-then-k-line c =
    rw (decimal_behind 2 _ 1 _ _ (sym c.behind_tab.ensures ∙ c.in_ok-a.was), decimal_behind 1 _ _ _ _ (sym c.behind_tab-2.ensures ∙ c.in_ok-b.was), decimal_behind 0 _ _ _ _ (sym c.behind_tab-3.ensures ∙ c.in_ok-c.was), too_many _ _ c.if-k-line.true)

pub returns : goal.returns
returns c =
    rw (decimal_behind 2 _ 1 _ _ (sym c.behind_tab.ensures ∙ c.in_ok-a.was), decimal_behind 1 _ _ _ _ (sym c.behind_tab-2.ensures ∙ c.in_ok-b.was), decimal_behind 0 _ _ _ _ (sym c.behind_tab-3.ensures ∙ c.in_ok-c.was), no_more _ _ c.if-k-line.false)

-- The figures are read in the row's order; the first that is wrong tells its place, and behind the last the line ends.
use mathlib.Core.Path.{sym, ◌∙◌}
use borrow.Author.Rules.{rules}
use Rattle.line.specs.Inner.{form_walked}
use Rattle.line.proofs.Three.{watched_all, onward_end, made_end}
use Rattle.line.proofs.reading.window.Goals as goal

pub returns-in_err-begin : goal.returns-in_err-begin
unfolding form_walked
returns-in_err-begin c = rw (watched_all _ (sym c.watched.ensures ∙ c.in_ok-flag.was), sym c.figure.ensures ∙ c.in_err-begin.was) (search rules)

pub returns-in_err-end : goal.returns-in_err-end
unfolding form_walked
returns-in_err-end c = rw (watched_all _ (sym c.watched.ensures ∙ c.in_ok-flag.was), sym c.figure.ensures ∙ c.in_ok-begin.was, sym c.figure-2.ensures ∙ c.in_err-end.was) (search rules)

pub returns : goal.returns
unfolding form_walked
returns c = rw (watched_all _ (sym c.watched.ensures ∙ c.in_ok-flag.was), sym c.figure.ensures ∙ c.in_ok-begin.was, sym c.figure-2.ensures ∙ c.in_ok-end.was, onward_end, onward_end, onward_end, onward_end, onward_end, made_end) c.whole.ensures

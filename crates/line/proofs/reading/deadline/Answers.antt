-- The figures are read in the row's order; the first that is wrong tells its place, and behind the last the line ends.
use mathlib.Core.Path.{sym, ◌∙◌}
use borrow.Author.Rules.{rules}
use Rattle.line.specs.Inner.{form_walked}
use Rattle.line.proofs.Three.{watched_all, onward_end, made_end}
use Rattle.line.proofs.reading.deadline.Goals as goal

pub returns-in_err-time : goal.returns-in_err-time
unfolding form_walked
returns-in_err-time c = rw (watched_all _ (sym c.watched.ensures ∙ c.in_ok-flag.was), sym c.figure.ensures ∙ c.in_err-time.was) (search rules)

pub returns : goal.returns
unfolding form_walked
returns c = rw (watched_all _ (sym c.watched.ensures ∙ c.in_ok-flag.was), sym c.figure.ensures ∙ c.in_ok-time.was, onward_end, onward_end, onward_end, onward_end, made_end) c.whole.ensures

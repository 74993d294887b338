-- The figures are read in the row's order; the first that is wrong tells its place, and behind the last the line ends.
use mathlib.Core.Path.{sym, ◌∙◌}
use Rattle.line.specs.Inner.{form_walked}
use Rattle.line.proofs.Three.{watched_all, onward_end, made_end}
use Rattle.line.proofs.reading.reference.Goals as goal

pub returns : goal.returns
unfolding form_walked
returns c = rw (watched_all _ (sym c.watched.ensures ∙ c.in_ok-flag.was), onward_end, onward_end, onward_end, made_end) c.whole.ensures

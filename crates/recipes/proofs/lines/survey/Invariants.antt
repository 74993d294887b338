-- What is gathered and the lines that are left make the whole.
use Rattle.texts.specs.Texts.{lines_of}
use Rattle.recipes.proofs.Surveys.{Ahead}
use Rattle.recipes.proofs.lines.survey.Given as goal

abbrev pub invariant-loop-line : goal.invariant-loop-line
invariant-loop-line l = Ahead (lines_of l.recipe) (lines_of l.line-iterator.rest.now) l.lines l.formed l.cuts

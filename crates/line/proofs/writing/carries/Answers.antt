-- The table's digits give the powers of ten that the road cannot carry.
use mathlib.Core.Path.{refl}
use Rattle.line.specs.Line.{text_road}
use Rattle.line.proofs.writing.carries.Goals as goal

pub returns : goal.returns
returns c = c.carries.ensures text_road refl refl refl

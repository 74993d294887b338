-- The table's bytes give the powers of 256 that the road cannot carry.
use mathlib.Core.Path.{refl}
use Rattle.frame.specs.Frame.{frame_road}
use Rattle.frame.proofs.writing.carries.Goals as goal

pub returns : goal.returns
returns c = c.carries.ensures frame_road refl refl refl

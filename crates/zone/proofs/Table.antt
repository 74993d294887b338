-- The table fits the figures. Assumes nothing.
use mathlib.Core.Path.{◌≡◌, refl}
use lib.ListN.{length}
use Rattle.zone.specs.declared.figures.Figures.{Figures}
use Rattle.zone.specs.declared.figures.Figures.TheVariants.{AhueDeadline, AhueWindow, HzbgLimit, RrueReference, SolwSetpoint}
use Rattle.zone.specs.Table.{layout}
use Rattle.zone.specs.Figures.{form_of, numbers}

-- a form has as many numbers as its row has columns
pub as_many : (f : Figures) → length (numbers f) ≡ length (layout (form_of f)).columns
as_many (AhueDeadline f) = refl
as_many (AhueWindow f) = refl
as_many (HzbgLimit f) = refl
as_many (RrueReference f) = refl
as_many (SolwSetpoint f) = refl

-- All five tests pass exactly where those of the row's entries do.
use mathlib.Core.Path.{◌≡◌}
use mathlib.Core.Bool.{false, ◌&&◌, and_assoc, and-true}
use Prim.Native.Nat.{ℕ}
use lib.ListN.{get_or}
use Rattle.zone.specs.declared.figures.Figures.{Figures}
use Rattle.zone.specs.declared.figures.Figures.TheVariants.{AhueDeadline, AhueWindow, HzbgLimit, RrueReference, SolwSetpoint}
use Rattle.zone.specs.Figures.{each_in_range}
use Rattle.zone.specs.Inner.{five_fit}
use Rattle.zone.proofs.figures.Figures.each_in_range.Goals as goal

all_five : (range : ℕ) (f : Figures) → ((((get_or (five_fit range f) 0 false && get_or (five_fit range f) 1 false) && get_or (five_fit range f) 2 false) && get_or (five_fit range f) 3 false) && get_or (five_fit range f) 4 false) ≡ each_in_range range f
unfolding each_in_range
all_five range (AhueDeadline f) = simp (and_assoc, and-true)
all_five range (AhueWindow f) = simp (and_assoc, and-true)
all_five range (HzbgLimit f) = simp (and_assoc, and-true)
all_five range (RrueReference f) = simp (and_assoc, and-true)
all_five range (SolwSetpoint f) = simp (and_assoc, and-true)

pub returns : goal.returns
returns c = rw c.fits.ensures (all_five _ _)

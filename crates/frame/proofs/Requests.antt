-- The index byte of a group names it. Assumes nothing.
use Rattle.std.specs.Prelude.{Some}
use mathlib.Core.Path.{◌≡◌, refl}
use Rattle.zone.specs.declared.figures.Group.{Group}
use Rattle.zone.specs.declared.figures.Group.TheVariants.{Ahue, Hzbg, Rrue, Solw}
use Rattle.zone.specs.Table.{index}
use Rattle.frame.specs.Frame.{group_indexed}

-- "The index byte alone names the group"
pub index_again : (g : Group) → group_indexed (index g) ≡ Some g
unfolding group_indexed
index_again Ahue = refl
index_again Hzbg = refl
index_again Rrue = refl
index_again Solw = refl

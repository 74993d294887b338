-- A test of each group in turn is the test of every group. Assumes nothing.
use mathlib.Core.Path.{◌≡◌}
use mathlib.Core.Bool.{Bool, ◌&&◌, and_assoc, and-true}
use Rattle.zone.specs.declared.figures.Group.{Group}
use Rattle.zone.specs.declared.figures.Group.TheVariants.{Ahue, Hzbg, Rrue, Solw}
use Rattle.zone.specs.Lists.{every}
use Rattle.zone.specs.Table.{every_group}

pub each_group : (test : Group → Bool) (a b c d : Bool) → a ≡ test Ahue → b ≡ test Hzbg → c ≡ test Rrue → d ≡ test Solw → (a && b && c && d) ≡ every test every_group
each_group test a b c d p q r s = rw (p, q, r, s) (simp (and_assoc, and-true))

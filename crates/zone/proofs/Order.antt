-- Two writes to one zone: to different groups, in either order; to one group, the last (document 02, Req 10). Assumes nothing.
-- By cases, each computed from what a write leaves: so the laws stand without what else is said of a write, and refuse by themselves what would break them.
use mathlib.Core.Path.{◌≡◌, refl, sym, ap, ◌∙◌}
use mathlib.Core.Bool.{false}
use lib.Dec.{eqb}
use borrow.Author.Tests.{eq-eqb}
use Rattle.zone.specs.declared.figures.Group.{Group}
use Rattle.zone.specs.declared.figures.Group.TheVariants.{Ahue, Hzbg, Rrue, Solw}
use Rattle.zone.specs.declared.figures.Figures.{Figures}
use Rattle.zone.specs.declared.figures.Figures.TheVariants.{AhueDeadline, AhueWindow, HzbgLimit, RrueReference, SolwSetpoint}
use Rattle.zone.specs.declared.zones.Zone.{Zone}
use Rattle.zone.specs.Table.{index}
use Rattle.zone.specs.Figures.{group_of}
use Rattle.zone.specs.Zones.{with_figures}
use Rattle.zone.specs.Rules.{GroupsCommute, LastStands}
use Rattle.zone.proofs.Tests.{never}

-- groups with different indices differ
differ : (g h : Group) → eqb (index g) (index h) ≡ false → g ≡ h → ⊥
differ g h t e = never (sym t ∙ eq-eqb (index g) (index h) (ap index e))

-- the two are to different groups and commute, or to one group and the last stands
data TwoWrites (z : Zone) (f g : Figures) : Type 0 where
  commute : (group_of f ≡ group_of g → ⊥) → with_figures (with_figures z f) g ≡ with_figures (with_figures z g) f → TwoWrites z f g
  last : group_of f ≡ group_of g → with_figures (with_figures z f) g ≡ with_figures z g → TwoWrites z f g

two_writes : (z : Zone) (f g : Figures) → TwoWrites z f g
two_writes z (AhueDeadline f) (AhueDeadline g) = last refl refl
two_writes z (AhueDeadline f) (AhueWindow g) = last refl refl
two_writes z (AhueDeadline f) (HzbgLimit g) = commute (differ Ahue Hzbg refl) refl
two_writes z (AhueDeadline f) (RrueReference g) = commute (differ Ahue Rrue refl) refl
two_writes z (AhueDeadline f) (SolwSetpoint g) = commute (differ Ahue Solw refl) refl
two_writes z (AhueWindow f) (AhueDeadline g) = last refl refl
two_writes z (AhueWindow f) (AhueWindow g) = last refl refl
two_writes z (AhueWindow f) (HzbgLimit g) = commute (differ Ahue Hzbg refl) refl
two_writes z (AhueWindow f) (RrueReference g) = commute (differ Ahue Rrue refl) refl
two_writes z (AhueWindow f) (SolwSetpoint g) = commute (differ Ahue Solw refl) refl
two_writes z (HzbgLimit f) (AhueDeadline g) = commute (differ Hzbg Ahue refl) refl
two_writes z (HzbgLimit f) (AhueWindow g) = commute (differ Hzbg Ahue refl) refl
two_writes z (HzbgLimit f) (HzbgLimit g) = last refl refl
two_writes z (HzbgLimit f) (RrueReference g) = commute (differ Hzbg Rrue refl) refl
two_writes z (HzbgLimit f) (SolwSetpoint g) = commute (differ Hzbg Solw refl) refl
two_writes z (RrueReference f) (AhueDeadline g) = commute (differ Rrue Ahue refl) refl
two_writes z (RrueReference f) (AhueWindow g) = commute (differ Rrue Ahue refl) refl
two_writes z (RrueReference f) (HzbgLimit g) = commute (differ Rrue Hzbg refl) refl
two_writes z (RrueReference f) (RrueReference g) = last refl refl
two_writes z (RrueReference f) (SolwSetpoint g) = commute (differ Rrue Solw refl) refl
two_writes z (SolwSetpoint f) (AhueDeadline g) = commute (differ Solw Ahue refl) refl
two_writes z (SolwSetpoint f) (AhueWindow g) = commute (differ Solw Ahue refl) refl
two_writes z (SolwSetpoint f) (HzbgLimit g) = commute (differ Solw Hzbg refl) refl
two_writes z (SolwSetpoint f) (RrueReference g) = commute (differ Solw Rrue refl) refl
two_writes z (SolwSetpoint f) (SolwSetpoint g) = last refl refl

pub groups_commute : GroupsCommute
groups_commute z f g u = by_two (two_writes z f g)
  where
    by_two : TwoWrites z f g → with_figures (with_figures z f) g ≡ with_figures (with_figures z g) f
    by_two (commute d e) = e
    by_two (last s e) = absurd (u s)

pub last_stands : LastStands
last_stands z f g s = by_two (two_writes z f g)
  where
    by_two : TwoWrites z f g → with_figures (with_figures z f) g ≡ with_figures z g
    by_two (commute d e) = absurd (d s)
    by_two (last p e) = e

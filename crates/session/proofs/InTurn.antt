-- Figures set one after the other: what that keeps of a zone. Assumes nothing.
use mathlib.Core.Path.{◌≡◌, sym, ap, ◌∙◌}
use mathlib.Core.List.{List, [], ◌∷◌, ◌++◌}
use Rattle.zone.specs.declared.figures.Group.{Group}
use Rattle.zone.specs.declared.figures.Figures.{Figures}
use Rattle.zone.specs.declared.zones.Zone.{Zone}
use Rattle.zone.specs.Zones.{figures_of}
use Rattle.zone.specs.Rules.{SetsFigures}
use Rattle.session.specs.Changes.{SetsInTurn, NoneOf}

-- these, and then those
pub in_turn_append : (fs gs : List Figures) (z m l : Zone) → SetsInTurn z fs m → SetsInTurn m gs l → SetsInTurn z (fs ++ gs) l
in_turn_append [] gs z m l e s = rw e at s
in_turn_append (f ∷ fs) gs z m l (b, s, rest) more = (b, s, in_turn_append fs gs b m l rest more)

-- what no setting of figures alters
pub in_turn_kept : {A : Type 0} (part : Zone → A) → ((z : Zone) (f : Figures) (l : Zone) → SetsFigures z f l → part l ≡ part z)
    → (fs : List Figures) (z l : Zone) → SetsInTurn z fs l → part l ≡ part z
in_turn_kept part one [] z l e = ap part e
in_turn_kept part one (f ∷ fs) z l (b, s, rest) = in_turn_kept part one fs b l rest ∙ one z f b s

-- the figures of a group to which none of them belongs
pub in_turn_others : (group : Group) (fs : List Figures) (z l : Zone) → NoneOf group fs → SetsInTurn z fs l → figures_of l group ≡ figures_of z group
in_turn_others group [] z l u e = ap (λ (x : Zone). figures_of x group) e
in_turn_others group (f ∷ fs) z l (u, v) (b, s, rest) = in_turn_others group fs b l v rest ∙ s.other_groups group (λ e. u (sym e))

-- Figures are their form with their numbers, there and back. Assumes nothing.
use Prim.Native.Nat.{ℕ, zero, suc, ◌+◌, ◌≤◌}
use mathlib.Core.Path.{◌≡◌, refl, ap, ◌∙◌}
use mathlib.Core.List.{List, [], ◌∷◌}
use native.Mathlib.Omega.{arith}
use lib.ListN.{length, take, drop, get_or}
use lib.Seq.{drop-cons, take_all}
use Rattle.zone.specs.declared.figures.Group.{Group}
use Rattle.zone.specs.declared.figures.Group.TheVariants.{Ahue, Hzbg, Rrue, Solw}
use Rattle.zone.specs.declared.figures.Figures.{Figures}
use Rattle.zone.specs.declared.figures.Figures.TheVariants.{AhueDeadline, AhueWindow, HzbgLimit, RrueReference, SolwSetpoint}
use Rattle.zone.specs.Table.{Form, deadline, window, hzbg, rrue, solw, layout, forms_of}
use Rattle.zone.specs.Figures.{form_of, numbers, made, entries, entries_of}

pub made_again : (f : Figures) → made (form_of f) (numbers f) ≡ f
made_again (AhueDeadline f) = refl
made_again (AhueWindow f) = refl
made_again (HzbgLimit f) = refl
made_again (RrueReference f) = refl
made_again (SolwSetpoint f) = refl

pub form_again : (form : Form) (ns : List ℕ) → form_of (made form ns) ≡ form
form_again deadline ns = refl
form_again window ns = refl
form_again hzbg ns = refl
form_again rrue ns = refl
form_again solw ns = refl

-- n elements from index i on
abbrev elements : ℕ → ℕ → List ℕ → List ℕ
elements zero i l = []
elements (suc n) i l = get_or l i 0 ∷ elements n (suc i) l

elements_take : (n i : ℕ) (l : List ℕ) → i + n ≤ length l → elements n i l ≡ take n (drop i l)
elements_take zero i l h = refl
elements_take (suc n) i l h = rw (drop-cons l i 0 (omega arith)) (ap (λ (r : List ℕ). get_or l i 0 ∷ r) (elements_take n (suc i) l (omega arith)))

whole : (n : ℕ) (l : List ℕ) → length l ≡ n → elements n 0 l ≡ l
whole n l h = elements_take n 0 l (omega arith) ∙ take_all n l (omega arith)

pub numbers_again : (form : Form) (ns : List ℕ) → length ns ≡ length (layout form).columns → numbers (made form ns) ≡ ns
numbers_again deadline ns h = whole 4 ns h
numbers_again window ns h = whole 5 ns h
numbers_again hzbg ns h = whole 1 ns h
numbers_again rrue ns h = whole 3 ns h
numbers_again solw ns h = whole 1 ns h

pub entries_again : (form : Form) (ns : List ℕ) → length ns ≡ length (layout form).columns → entries_of (made form ns) ≡ entries (layout form).columns ns
entries_again form ns h = rw (form_again form ns, numbers_again form ns h)

-- each of the forms is one of the group
abbrev pub AllOf : Group → List Form → Type 0
AllOf group [] = Unit {0}
AllOf group (form ∷ forms) = ((layout form).group ≡ group) × AllOf group forms

pub their_group : (group : Group) → AllOf group (forms_of group)
their_group Ahue = (refl, (refl, tt))
their_group Hzbg = (refl, tt)
their_group Rrue = (refl, tt)
their_group Solw = (refl, tt)

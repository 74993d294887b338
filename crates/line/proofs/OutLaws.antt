-- The place of the first figure out of its range, or of a window's end, by the five tests of the row and its rule. Assumes nothing.
use Prim.Native.Nat.{ℕ, ◌+◌}
use mathlib.Core.Path.{◌≡◌, refl, ◌∙◌}
use mathlib.Core.Bool.{Bool, true, false, not, cond, ◌&&◌}
use mathlib.Core.List.{List, [], ◌∷◌}
use lib.Dec.{ltb}
use lib.ListN.{length, get_or}
use Rattle.std.specs.List.{position_or_len}
use Rattle.std.proofs.Common.{Option, Some, None}
use Rattle.zone.specs.declared.figures.Figures.{Figures}
use Rattle.zone.specs.declared.figures.Figures.TheVariants.{AhueDeadline, AhueWindow, HzbgLimit, RrueReference, SolwSetpoint}
use Rattle.zone.specs.Lists.{every}
use Rattle.zone.specs.Figures.{Entry, entries_of, fits, each_in_range, opens}
use Rattle.zone.specs.Inner.{five_fit}
use Rattle.line.specs.Line.{text_road}
use Rattle.line.specs.Places.{Place, nowhere, offset, told, end_offset, out_from, out_of}

told_cond : (t : Bool) (p : Place) (n : ℕ) → told (cond t p (offset n)) ≡ cond t (told p) n
told_cond true p n = refl
told_cond false p n = refl

-- the walk with a place of its own where each figure fits
abbrev out_else : Place → ℕ → ℕ → List Entry → Place
out_else p range i [] = p
out_else p range i (e ∷ es) = cond (fits range e) (out_else p range (i + text_road.width e.column.kind) es) (offset (i + 1))

else_is : (p : Place) (range i : ℕ) (es : List Entry) → cond (every (fits range) es) p (out_from range i es) ≡ out_else p range i es
unfolding out_from
else_is p range i [] = refl
else_is p range i (e ∷ es) = by_fit (fits range e) (else_is p range (i + text_road.width e.column.kind) es)
  where
    by_fit : (t : Bool) → cond (every (fits range) es) p (out_from range (i + text_road.width e.column.kind) es) ≡ out_else p range (i + text_road.width e.column.kind) es
        → cond (t && every (fits range) es) p (cond t (out_from range (i + text_road.width e.column.kind) es) (offset (i + 1))) ≡ cond t (out_else p range (i + text_road.width e.column.kind) es) (offset (i + 1))
    by_fit true h = h
    by_fit false h = refl

out_else_lem : (range : ℕ) (f : Figures) → out_of range f ≡ out_else (cond (opens f) nowhere (offset end_offset)) range 5 (entries_of f)
unfolding out_of each_in_range
out_else_lem range f = else_is (cond (opens f) nowhere (offset end_offset)) range 5 (entries_of f)

abbrev pub first_out : List Bool → Bool → ℕ
first_out fits rule = cond (get_or fits 0 false) (cond (get_or fits 1 false) (cond (get_or fits 2 false) (cond (get_or fits 3 false) (cond (get_or fits 4 false) (cond rule 0 20) 20) 16) 12) 8) 6

pub out_told : (range : ℕ) (f : Figures) (fits : List Bool) (rule : Bool) → fits ≡ five_fit range f → rule ≡ opens f → first_out fits rule ≡ told (out_of range f)
out_told range (AhueDeadline f) fits rule e o = rw (e, o, out_else_lem, told_cond, told_cond, told_cond, told_cond)
out_told range (AhueWindow f) fits rule e o = rw (e, o, out_else_lem, told_cond, told_cond, told_cond, told_cond, told_cond, told_cond)
out_told range (HzbgLimit f) fits rule e o = rw (e, o, out_else_lem, told_cond)
out_told range (RrueReference f) fits rule e o = rw (e, o, out_else_lem, told_cond, told_cond, told_cond)
out_told range (SolwSetpoint f) fits rule e o = rw (e, o, out_else_lem, told_cond)

-- the library's search for the first of the five that does not fit, and the place that it tells
abbrev pub found : List Bool → Option ℕ
found fits = cond (ltb (position_or_len not fits) (length fits)) (Some (position_or_len not fits)) None

abbrev pub place_by : Option ℕ → Bool → ℕ
place_by (Some i) rule = get_or (6 ∷ 8 ∷ 12 ∷ 16 ∷ 20 ∷ []) i 0
place_by None rule = cond rule 0 20

by_five : (a b c d e rule : Bool) → place_by (found (a ∷ b ∷ c ∷ d ∷ e ∷ [])) rule ≡ first_out (a ∷ b ∷ c ∷ d ∷ e ∷ []) rule
by_five false b c d e rule = refl
by_five true false c d e rule = refl
by_five true true false d e rule = refl
by_five true true true false e rule = refl
by_five true true true true false rule = refl
by_five true true true true true rule = refl

abbrev five_of : List Bool → List Bool
five_of fits = get_or fits 0 false ∷ get_or fits 1 false ∷ get_or fits 2 false ∷ get_or fits 3 false ∷ get_or fits 4 false ∷ []

first_five : (fits : List Bool) (rule : Bool) → place_by (found (five_of fits)) rule ≡ first_out (five_of fits) rule
first_five fits rule = by_five (get_or fits 0 false) (get_or fits 1 false) (get_or fits 2 false) (get_or fits 3 false) (get_or fits 4 false) rule

first_is : (range : ℕ) (f : Figures) (rule : Bool) → place_by (found (five_fit range f)) rule ≡ first_out (five_fit range f) rule
first_is range (AhueDeadline f) rule = first_five (five_fit range (AhueDeadline f)) rule
first_is range (AhueWindow f) rule = first_five (five_fit range (AhueWindow f)) rule
first_is range (HzbgLimit f) rule = first_five (five_fit range (HzbgLimit f)) rule
first_is range (RrueReference f) rule = first_five (five_fit range (RrueReference f)) rule
first_is range (SolwSetpoint f) rule = first_five (five_fit range (SolwSetpoint f)) rule

pub found_told : (range : ℕ) (f : Figures) (fits : List Bool) (r : Option ℕ) (rule : Bool) → r ≡ found fits → fits ≡ five_fit range f → rule ≡ opens f → place_by r rule ≡ told (out_of range f)
found_told range f fits r rule e i o = rw (e, i) (first_is range f rule ∙ out_told range f (five_fit range f) rule refl o)

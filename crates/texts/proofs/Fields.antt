-- Laws of a decimal and what follows it, behind a tab or from an index on, and of a zone and what is for it, as readers of a line cite them. Assumes nothing.
use Rattle.std.specs.Prelude.{None, Option, Some}
use mathlib.Core.Path.{◌≡◌, refl, ◌∙◌}
use mathlib.Core.Bool.{Bool, true, false, cond}
use mathlib.Core.List.{List, []}
use Prim.Native.Nat.{ℕ, ◌+◌, ◌≤◌, ◌<◌}
use native.Mathlib.Nat.{add-zero}
use native.Mathlib.Numerals.{add-one}
use lib.ListN.{length, get_or, drop, drop_of_length-le}
use lib.Dec.{eqb}
use lib.Seq.{drop-drop, drop-cons, get_or-drop}
use Rattle.texts.specs.Texts.{index_of}
use Rattle.texts.specs.Numbers.{decimal_of}
use Rattle.texts.specs.Texts.{tab, field, onward, to, lacking, zoned_by, zoned}
use Rattle.texts.specs.Inner.{numeral_of, numeral_from, numeral_at}

-- `g` makes something of a decimal and of what follows it, and of no decimal always the same. `made` takes both from a numeral, `opened` from
-- the list that begins with the tab: `behind` says that they agree.
module _ {A : Type 0} (g : Option ℕ → List ℕ → A) where
  abbrev pub made : List ℕ → Option (ℕ × ℕ) → A
  made l None = g None []
  made l (Some (v, e)) = g (Some v) (drop e l)

  -- from an index on, where no tab is asked for
  pub taken : ((d : List ℕ) → g None d ≡ g None []) → (l : List ℕ) (start : ℕ) → g (decimal_of (field (drop start l))) (onward (drop start l)) ≡ made l (numeral_from l start)
  taken h l start = rw (drop-drop (index_of tab (drop start l)) start l) (by_figure (decimal_of (field (drop start l))))
    where
      by_figure : (f : Option ℕ) → g f (drop (start + index_of tab (drop start l)) l) ≡ made l (numeral_of f (start + index_of tab (drop start l)))
      by_figure (Some v) = refl
      by_figure None = h (drop (start + index_of tab (drop start l)) l)

  chosen : (l : List ℕ) (t : Bool) (a : A) (n : Option (ℕ × ℕ)) → a ≡ made l n → cond t a (g None []) ≡ made l (cond t n None)
  chosen l true a n e = e
  chosen l false a n e = refl

  abbrev pub opened : List ℕ → A
  opened d = cond (eqb (get_or d 0 0) tab) (g (decimal_of (field (drop 1 d))) (onward (drop 1 d))) (g None [])

  pub behind : ((d : List ℕ) → g None d ≡ g None []) → (l : List ℕ) (at : ℕ) → opened (drop at l) ≡ made l (numeral_at l at)
  unfolding numeral_at
  behind h l at = rw (get_or-drop at l 0 0, add-zero at, drop-drop 1 at l) (chosen l (eqb (get_or l at 0) tab) _ (numeral_from l (at + 1)) (taken h l (at + 1)))

-- ---- a zone and what is for it

pub zone_lacking : (l : List ℕ) (start : ℕ) → numeral_from l start ≡ None → zoned (drop start l) ≡ lacking
unfolding zoned
zone_lacking l start h = taken zoned_by (λ d. refl) l start ∙ rw h

zone_before : (l : List ℕ) (start zone e : ℕ) → numeral_from l start ≡ Some (zone, e) → zoned (drop start l) ≡ zoned_by (Some zone) (drop e l)
unfolding zoned
zone_before l start zone e h = taken zoned_by (λ d. refl) l start ∙ rw h

pub tab_lacking : (l : List ℕ) (start zone e : ℕ) → numeral_from l start ≡ Some (zone, e) → length l ≤ e → zoned (drop start l) ≡ lacking
tab_lacking l start zone e h k = zone_before l start zone e h ∙ rw (drop_of_length-le l k)

pub zone_there : (l : List ℕ) (start zone e : ℕ) → numeral_from l start ≡ Some (zone, e) → e < length l → zoned (drop start l) ≡ to zone (drop (e + 1) l)
zone_there l start zone e h k = zone_before l start zone e h ∙ rw (add-one, drop-cons l e 0 k)

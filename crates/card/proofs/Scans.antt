-- What is found by going through the zones, in the words of the definitions. Assumes nothing.
use Prim.Native.Nat.{ℕ, suc, ◌+◌, ◌<◌, ◌≤◌}
use mathlib.Core.Path.{◌≡◌, refl, sym, ap, ◌∙◌}
use mathlib.Core.Bool.{Bool, true, false, cond, not, ◌&&◌, ◌||◌, and_assoc, and-true}
use mathlib.Core.List.{List, [], ◌∷◌, map}
use native.Mathlib.Numerals.{add-one}
use native.Mathlib.Omega.{arith}
use lib.ListN.{length, get_or, drop, drop_of_length-le, length-map}
use lib.Seq.{drop-cons}
use Rattle.std.specs.List.{list_any}
use Rattle.std.specs.Option.{is_some}
use Rattle.zone.specs.declared.zones.Zone.{Zone}
use Rattle.zone.specs.Lists.{some}
use Rattle.zone.specs.Zones.{holds}
use Rattle.card.specs.Records.{held_in, differ, find_from}
use Rattle.std.specs.Prelude.{Some, None}

-- an array's length, as owning a struct that holds it tells it: there its elements stand under a map
pub length_mapped : (X Y : Type 0) (f : X → Y) (l : List X) (n : ℕ) → length (map f l) ≡ n → length l ≡ n
length_mapped X Y f l n e = sym (length-map l f) ∙ e

-- std's words for what the definitions say
pub some_any : (test : Zone → Bool) (zs : List Zone) → list_any test zs ≡ some test zs
some_any test [] = refl
some_any test (z ∷ zs) = rw (some_any test zs)

-- ---- the search for an address, before zone i and where no zone is left

module _ (i : ℕ) (zs : List Zone) (d : Zone) (h : i < length zs) where
  pub find_hit : (a : ℕ) → holds a (get_or zs i d) ≡ true → find_from i (drop i zs) a ≡ Some i
  unfolding find_from
  find_hit a e = rw (drop-cons zs i d, e)

  pub find_miss : (a : ℕ) → holds a (get_or zs i d) ≡ false → find_from i (drop i zs) a ≡ find_from (i + 1) (drop (i + 1) zs) a
  unfolding find_from
  find_miss a e = rw (add-one, drop-cons zs i d, e)

pub find_end : (i : ℕ) (zs : List Zone) → length zs ≤ i → (a : ℕ) → find_from i (drop i zs) a ≡ None
unfolding find_from
find_end i zs h a = rw (drop_of_length-le zs)

-- ---- addresses compared with those behind them

-- a turn of the loop that compares addresses, whose search behind zone z has found `held`
pub differ_turn : (zs later : List Zone) (z : Zone) (whole ok held : Bool) → zs ≡ z ∷ later → whole ≡ (ok && differ zs) → held ≡ held_in later z.address
    → whole ≡ ((ok && not (z.present && held)) && differ later)
unfolding differ
differ_turn zs later z whole ok held e inv h = rw (inv, e, h, and_assoc)

-- where no zone is left, it has gathered all
pub differ_end : (zs : List Zone) (whole ok : Bool) → length zs ≡ 0 → whole ≡ (ok && differ zs) → ok ≡ whole
unfolding differ
differ_end [] whole ok e inv = sym (inv ∙ and-true ok)
differ_end (z ∷ zs) whole ok e inv = absurd (omega (arith, e))

-- ---- an address is found where some present zone holds it

pub found_held : (k : ℕ) (zs : List Zone) (a : ℕ) → is_some (find_from k zs a) ≡ held_in zs a
unfolding find_from
found_held k [] a = refl
found_held k (z ∷ zs) a = by_first (holds a z) (found_held (suc k) zs a)
  where
    by_first : (t : Bool) → is_some (find_from (suc k) zs a) ≡ held_in zs a → is_some (cond t (Some k) (find_from (suc k) zs a)) ≡ (t || held_in zs a)
    by_first true e = refl
    by_first false e = e

pub found_somewhere : (zs : List Zone) (a n : ℕ) → find_from 0 zs a ≡ Some n → true ≡ held_in zs a
found_somewhere zs a n e = ap is_some (sym e) ∙ found_held 0 zs a

pub found_nowhere : (zs : List Zone) (a : ℕ) → find_from 0 zs a ≡ None → false ≡ held_in zs a
found_nowhere zs a e = ap is_some (sym e) ∙ found_held 0 zs a

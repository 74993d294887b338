-- Laws of a decimal: which fields are none, and where the field behind a tab ends. Assumes nothing.
use Rattle.std.specs.Prelude.{None, Option}
use Prim.Native.Nat.{ℕ, ◌+◌, ◌-◌, ◌≤◌, ◌<◌}
use mathlib.Core.Path.{◌≡◌, refl}
use mathlib.Core.Bool.{true, false}
use mathlib.Core.List.{List}
use native.Mathlib.Omega.{arith}
use lib.ListN.{length, take, drop}
use borrow.Author.Tests.{le-leb, lt-leb, eq-eqb}
use Rattle.texts.specs.Texts.{index_of}
use Rattle.line.specs.Field.{digits_behind, digits_of}
use Rattle.texts.specs.Numbers.{leading_zero, decimal_of}
use Rattle.texts.specs.Texts.{tab}
use Rattle.texts.specs.Inner.{numeral_of, numeral_from}

pub decimal_short : (l : List ℕ) → length l < 1 → decimal_of l ≡ None
unfolding decimal_of
decimal_short l h = rw (lt-leb 1 (length l) h)

pub decimal_long : (l : List ℕ) → 1 ≤ length l → 5 < length l → decimal_of l ≡ None
unfolding decimal_of
decimal_long l h k = rw (le-leb 1 (length l) h, lt-leb (length l) 5 k)

pub decimal_zeros : (l : List ℕ) → 1 ≤ length l → length l ≤ 5 → leading_zero l ≡ true → decimal_of l ≡ None
unfolding decimal_of
decimal_zeros l h k z = rw (le-leb 1 (length l) h, le-leb (length l) 5 k, z)

pub decimal_digits : (l : List ℕ) → 1 ≤ length l → length l ≤ 5 → leading_zero l ≡ false → decimal_of l ≡ digits_behind 0 l
unfolding decimal_of
decimal_digits l h k z = rw (le-leb 1 (length l) h, le-leb (length l) 5 k, z)

-- a field's own digits are as many as it has bytes
pub digits_whole : (l : List ℕ) → digits_behind 0 l ≡ digits_of (length l) l
digits_whole l = rw (eq-eqb (length l) (length l) refl)

-- a field ends where a search for a tab to the end of the line stops
pub numeral_found : (l : List ℕ) (start end : ℕ) (f : Option ℕ) → end ≡ start + index_of tab (drop start l)
    → f ≡ decimal_of (take (end - start) (drop start l)) → numeral_from l start ≡ numeral_of f end
numeral_found l start end f e d =
    let n : end - start ≡ index_of tab (drop start l) = omega arith in
    rw (d, n, ← e)

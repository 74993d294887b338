-- Laws of a field, as its loops cite them: a part of the line up to a space, and how great its digits can get. Assumes nothing.
use mathlib.Core.Path.{◌≡◌, refl, ap}
use mathlib.Core.Bool.{Bool, true, false, cond, not}
use mathlib.Core.List.{List, [], ◌∷◌}
use Prim.Native.Nat.{ℕ, suc, ◌+◌, ◌-◌, ◌*◌, ◌^◌, ◌≤◌, ◌<◌}
use native.Mathlib.Omega.{arith}
use native.Mathlib.Nat.{pow-suc, pow-le-pow_right}
use native.Mathlib.Numerals.{add-one}
use lib.ListN.{length, take, drop, drop_of_length-le}
use lib.Dec.{lit<, eqb, ltb}
use borrow.Author.Tests.{ltb-false}
use Rattle.std.specs.List.{position_or_len}
use Rattle.std.specs.Option.{unwrap_or}
use Rattle.std.proofs.Common.{Some, None}
use Rattle.std.proofs.lemmas.List.Sums.{prefix_len-le-length}
use Rattle.line.specs.Field.{up_to_space}

abbrev pub space : ℕ → Bool
space x = eqb x 32

pub word_past : (l : List ℕ) (e : ℕ) → length l ≤ e → up_to_space (drop e l) ≡ []
unfolding up_to_space
word_past l e h = rw (drop_of_length-le l h)

-- the library's search: its answer, or the length where there is none, is how many do not pass
pub first_passes : {X : Type 0} (p : X → Bool) (l : List X) → unwrap_or (cond (ltb (position_or_len p l) (length l)) (Some (position_or_len p l)) None) (length l) ≡ position_or_len p l
first_passes {X = X} p l = by_test (ltb (position_or_len p l) (length l)) refl
  where
    by_test : (t : Bool) → ltb (position_or_len p l) (length l) ≡ t → unwrap_or (cond t (Some (position_or_len p l)) None) (length l) ≡ position_or_len p l
    by_test true e = refl
    by_test false e = omega (arith, ltb-false (position_or_len p l) (length l) e, prefix_len-le-length {X = X})

-- a field ends at the first space, or with the line
pub up_to_first : (l : List ℕ) → take (position_or_len space l) l ≡ up_to_space l
unfolding up_to_space
up_to_first [] = refl
up_to_first (x ∷ l) = by_test (eqb x 32) (up_to_first l)
  where
    by_test : (t : Bool) → take (position_or_len space l) l ≡ up_to_space l → take (cond (not t) (1 + position_or_len space l) 0) (x ∷ l) ≡ cond t [] (x ∷ up_to_space l)
    by_test true h = refl
    by_test false h = let s : 1 + position_or_len space l ≡ suc (position_or_len space l) = omega arith in rw s (ap (λ (r : List ℕ). x ∷ r) h)

-- one digit more, and the number stays below the power of ten
pub ten_more : (v i x : ℕ) → v < 10 ^ i → x ≤ 57 → v * 10 + (x - 48) < 10 ^ (i + 1)
ten_more v i x h k = rw (add-one, pow-suc) (omega arith)

pub ten_fits : (v i x : ℕ) → v < 10 ^ i → x ≤ 57 → i < 5 → v * 10 + (x - 48) < 100000
ten_fits v i x h k m = omega (arith, ten_more v i x h k, pow-le-pow_right {n = 10} (lit< tt) {i = i + 1} {j = 5} (omega arith))

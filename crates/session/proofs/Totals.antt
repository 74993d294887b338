-- The sum over a list of which one element is set anew, or each is altered with nothing of the sum. Assumes nothing.
use Prim.Native.Nat.{ℕ, zero, suc, ◌+◌, ◌<◌}
use mathlib.Core.Path.{◌≡◌, refl}
use mathlib.Core.List.{List, [], ◌∷◌, map}
use native.Mathlib.Omega.{arith}
use lib.ListN.{length, get_or, set}
use Rattle.zone.specs.Lists.{total}

module _ {A : Type 0} (f : A → ℕ) where
  pub total_set : (d : A) (xs : List A) (n : ℕ) (x : A) → n < length xs → total f (set xs n x) + f (get_or xs n d) ≡ total f xs + f x
  total_set d [] n x h = absurd (omega arith)
  total_set d (y ∷ ys) zero x h = omega arith
  total_set d (y ∷ ys) (suc n) x h = omega (arith, total_set d ys n x (omega arith))

  pub total_same : (d : A) (xs ys : List A) → length ys ≡ length xs → ((n : ℕ) → f (get_or ys n d) ≡ f (get_or xs n d)) → total f ys ≡ total f xs
  total_same d [] [] l h = refl
  total_same d [] (y ∷ ys) l h = absurd (omega arith)
  total_same d (x ∷ xs) [] l h = absurd (omega arith)
  total_same d (x ∷ xs) (y ∷ ys) l h = rw (h 0, total_same d xs ys (omega arith) (λ n. h (suc n)))

  pub total_map : (g : A → A) → ((x : A) → f (g x) ≡ f x) → (xs : List A) → total f (map g xs) ≡ total f xs
  total_map g h [] = refl
  total_map g h (x ∷ xs) = rw (h x, total_map g h xs)

-- Bytes of another number than a name's are no name. Assumes nothing.
use Prim.Native.Nat.{ℕ, ◌<◌}
use mathlib.Core.Path.{◌≡◌, refl}
use mathlib.Core.List.{List, [], ◌∷◌}
use mathlib.Core.Bool.{Bool, true, false, cond}
use native.Mathlib.Omega.{arith}
use lib.Dec.{eqb}
use lib.ListN.{length}
use Rattle.std.proofs.Common.{None}
use Rattle.line.specs.Line.{same, group_named}

unlike : (l m : List ℕ) → (length l ≡ length m → ⊥) → same l m ≡ false
unfolding same
unlike [] [] h = absurd (h refl)
unlike [] (y ∷ m) h = refl
unlike (x ∷ l) [] h = refl
unlike (x ∷ l) (y ∷ m) h = by_first (eqb x y) (unlike l m (λ e. h (omega (arith, e))))
  where
    by_first : (t : Bool) → same l m ≡ false → cond t (same l m) false ≡ false
    by_first true e = e
    by_first false e = refl

none_of : (l : List ℕ) → (length l ≡ 4 → ⊥) → group_named l ≡ None
unfolding group_named
none_of l h = rw (unlike l (65 ∷ 72 ∷ 85 ∷ 69 ∷ []) h, unlike l (72 ∷ 90 ∷ 66 ∷ 71 ∷ []) h, unlike l (82 ∷ 82 ∷ 85 ∷ 69 ∷ []) h, unlike l (83 ∷ 79 ∷ 76 ∷ 87 ∷ []) h)

pub none_shorter : (l : List ℕ) → length l < 4 → group_named l ≡ None
none_shorter l h = none_of l (λ e. omega (arith, e, h))

pub none_longer : (l : List ℕ) → 4 < length l → group_named l ≡ None
none_longer l h = none_of l (λ e. omega (arith, e, h))

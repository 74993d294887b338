-- What tests joined by && and || tell, and how a case that a test picks is proved. Assumes nothing.
use Prim.Native.Nat.{ℕ}
use mathlib.Core.Path.{◌≡◌, refl, sym, subst}
use mathlib.Core.Bool.{Bool, true, false, cond, ◌&&◌, ◌||◌}
use lib.Dec.{T, eqb}
use borrow.Author.Tests.{eqb-true, eqb-false, eq-eqb, ne_eqb}

pub never : {X : Type 0} → false ≡ true → X
never e = absurd (subst T (sym e) tt)

pub both : (t u : Bool) → (t && u) ≡ true → (t ≡ true) × (u ≡ true)
both true true e = (refl, refl)
both true false e = never e
both false u e = never e

pub and_l : (t u : Bool) → (t && u) ≡ true → t ≡ true
and_l t u e = (both t u e).0

pub and_r : (t u : Bool) → (t && u) ≡ true → u ≡ true
and_r t u e = (both t u e).1

-- what cannot be true is false
pub not_so : (t : Bool) → (t ≡ true → ⊥) → t ≡ false
not_so true u = absurd (u refl)
not_so false u = refl

-- two tests that pass together are one
pub alike : (t u : Bool) → (t ≡ true → u ≡ true) → (u ≡ true → t ≡ true) → t ≡ u
alike true u f g = sym (f refl)
alike false true f g = g refl
alike false false f g = refl

pub and_false : (t : Bool) → (t && false) ≡ false
and_false true = refl
and_false false = refl

pub or_true : (t : Bool) → (t || true) ≡ true
or_true true = refl
or_true false = refl

pub neither : (t u : Bool) → (t || u) ≡ false → (t ≡ false) × (u ≡ false)
neither true u e = never (sym e)
neither false true e = never (sym e)
neither false false e = (refl, refl)

-- a case that a test picks has what each side has under its own outcome of the test
pub by_test : {A : Type 0} (P : A → Type 0) (t : Bool) (a b : A) → (t ≡ true → P a) → (t ≡ false → P b) → P (cond t a b)
by_test P true a b f g = f refl
by_test P false a b f g = g refl

pub eqb_sym : (a b : ℕ) → eqb a b ≡ eqb b a
eqb_sym a b = go (eqb a b) refl
  where
    go : (t : Bool) → eqb a b ≡ t → t ≡ eqb b a
    go true e = sym (eq-eqb b a (sym (eqb-true a b e)))
    go false e = sym (ne_eqb b a (λ q. eqb-false a b e (sym q)))

-- A list of refusals gives each number exactly when its row holds and no earlier one does. Assumes nothing.
use Prim.Native.Nat.{ℕ, zero, suc, ◌<◌}
use mathlib.Core.Path.{◌≡◌, refl, sym}
use mathlib.Core.Logic.{◌⊎◌, inl, inr}
use mathlib.Core.Bool.{Bool, true, false, cond, not, ◌&&◌}
use mathlib.Core.List.{List, [], ◌∷◌}
use native.Mathlib.Omega.{arith}
use lib.ListN.{length}
use lib.Dec.{eqb}
use borrow.Author.Tests.{eqb-false, not-true}
use Rattle.zone.specs.Lists.{is_zero, every}
use Rattle.zone.proofs.Tests.{and_l, and_r}
use Rattle.card.specs.Refusals.{Row, first}
use Rattle.card.specs.Rules.{row_at, ExactlyWhen}

-- number n stands in none of the rows
abbrev pub new : ℕ → List Row → Bool
new n rows = every (λ row. not (eqb n row.number)) rows

-- the rows' numbers differ, and none is 0
abbrev pub apart : List Row → Bool
apart [] = true
apart (row ∷ rows) = not (is_zero row.number) && (new row.number rows && apart rows)

pub record Apart (row : Row) (rows : List Row) : Type 0 where
  pub not_zero : is_zero row.number ≡ false
  pub is_new_lem : new row.number rows ≡ true
  pub rest : apart rows ≡ true

taken_apart : (row : Row) (rows : List Row) → apart (row ∷ rows) ≡ true → Apart row rows
taken_apart row rows a =
    let z : not (is_zero row.number) ≡ true = search and_l in
    record { not_zero = not-true (is_zero row.number) z; is_new_lem = search (and_l, and_r); rest = search (and_l, and_r) }

new_here : (n : ℕ) (row : Row) (rows : List Row) → new n (row ∷ rows) ≡ true → n ≡ row.number → ⊥
new_here n row rows h =
    let t : not (eqb n row.number) ≡ true = search and_l in
    eqb-false n row.number (not-true (eqb n row.number) t)

new_there : (n : ℕ) (row : Row) (rows : List Row) → new n (row ∷ rows) ≡ true → new n rows ≡ true
new_there n row rows h = search (and_l, and_r)

-- what is given is 0 or stands in a row; so a number that is neither is not given
not_given : (rows : List Row) (n : ℕ) → is_zero n ≡ false → new n rows ≡ true → first rows ≡ n → ⊥
not_given [] n z h e = eqb-false n 0 z (sym e)
not_given (row ∷ rows) n z h e = by_test row.test (not_given rows n z (new_there n row rows h)) e
  where
    by_test : (t : Bool) → (first rows ≡ n → ⊥) → cond t row.number (first rows) ≡ n → ⊥
    by_test true rest e = new_here n row rows h (sym e)
    by_test false rest e = rest e

-- a number of a later row is not that of this one
not_later : (rows : List Row) (n i : ℕ) → i < length rows → new n rows ≡ true → n ≡ (row_at rows i).number → ⊥
not_later [] n i l h e = omega arith
not_later (row ∷ rows) n zero l h e = new_here n row rows h e
not_later (row ∷ rows) n (suc i) l h e = not_later rows n i (omega arith) (new_there n row rows h) e

abbrev Passed : List Row → ℕ → Type 0
Passed rows i = (j : ℕ) → j < i → (row_at rows j).test ≡ false

abbrev Chosen : List Row → ℕ → Type 0
Chosen rows i = ((row_at rows i).test ≡ true) × Passed rows i

none_before : (rows : List Row) → Passed rows 0
none_before rows j l = absurd (omega arith)

one_more_lem : (row : Row) (rows : List Row) (i : ℕ) → row.test ≡ false → Passed rows i → Passed (row ∷ rows) (suc i)
one_more_lem row rows i f p zero l = f
one_more_lem row rows i f p (suc j) l = p j (omega arith)

chosen : (rows : List Row) → apart rows ≡ true → (i : ℕ) → i < length rows → first rows ≡ (row_at rows i).number → Chosen rows i
chosen [] a i l e = absurd (omega arith)
chosen (row ∷ rows) a zero l e = by_test row.test refl e
  where
    by_test : (t : Bool) → row.test ≡ t → cond t row.number (first rows) ≡ row.number → Chosen (row ∷ rows) 0
    by_test true f e = (f, none_before (row ∷ rows))
    by_test false f e = absurd (not_given rows row.number (taken_apart row rows a).not_zero (taken_apart row rows a).is_new_lem e)
chosen (row ∷ rows) a (suc i) l e = by_test row.test refl (chosen rows (taken_apart row rows a).rest i (omega arith)) e
  where
    by_test : (t : Bool) → row.test ≡ t → (first rows ≡ (row_at rows i).number → Chosen rows i) → cond t row.number (first rows) ≡ (row_at rows i).number → Chosen (row ∷ rows) (suc i)
    by_test true f rest e = absurd (not_later rows row.number i (omega arith) (taken_apart row rows a).is_new_lem e)
    by_test false f rest e = ((rest e).0, one_more_lem row rows i f (rest e).1)

given : (rows : List Row) (i : ℕ) → i < length rows → Chosen rows i → first rows ≡ (row_at rows i).number
given [] i l c = absurd (omega arith)
given (row ∷ rows) zero l c = rw c.0
given (row ∷ rows) (suc i) l c = rw (c.1 0 (omega arith)) (given rows i (omega arith) (c.0, λ j k. c.1 (suc j) (omega arith)))

none : (rows : List Row) → apart rows ≡ true → first rows ≡ 0 → (j : ℕ) → (row_at rows j).test ≡ false
none [] a e j = refl
none (row ∷ rows) a e j = by_test row.test refl e j (none rows (taken_apart row rows a).rest)
  where
    by_test : (t : Bool) → row.test ≡ t → cond t row.number (first rows) ≡ 0 → (j : ℕ) → (first rows ≡ 0 → (j : ℕ) → (row_at rows j).test ≡ false) → (row_at (row ∷ rows) j).test ≡ false
    by_test true f e j rest = absurd (eqb-false row.number 0 (taken_apart row rows a).not_zero e)
    by_test false f e zero rest = f
    by_test false f e (suc j) rest = rest e j

done : (rows : List Row) → ((j : ℕ) → (row_at rows j).test ≡ false) → first rows ≡ 0
done [] h = refl
done (row ∷ rows) h = rw (h 0) (done rows (λ j. h (suc j)))

only : (rows : List Row) → (first rows ≡ 0) ⊎ ((i : ℕ) × (i < length rows) × (first rows ≡ (row_at rows i).number))
only [] = inl refl
only (row ∷ rows) = by_test row.test (only rows)
  where
    by_test : (t : Bool) → (first rows ≡ 0) ⊎ ((i : ℕ) × (i < length rows) × (first rows ≡ (row_at rows i).number))
        → (cond t row.number (first rows) ≡ 0) ⊎ ((i : ℕ) × (i < suc (length rows)) × (cond t row.number (first rows) ≡ (row_at (row ∷ rows) i).number))
    by_test true rest = inr (0, omega arith, refl)
    by_test false (inl e) = inl e
    by_test false (inr k) = inr (suc k.0, omega (arith, k.1), k.2)

pub exactly : (rows : List Row) → apart rows ≡ true → ExactlyWhen rows (first rows)
exactly rows a = record { refused = λ i l. (chosen rows a i l, given rows i l); done = (none rows a, done rows); only = only rows }

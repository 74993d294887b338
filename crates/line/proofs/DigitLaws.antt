-- Digits one at a time, as the loop of `digits` cites them: which is wrong, or what number they make. Assumes nothing.
use Rattle.std.specs.Prelude.{Err, None, Ok, Option, Some}
use Rattle.std.specs.Result.{result_ok}
use Prim.Native.Nat.compare
use Prim.Native.Nat.{ℕ, zero, suc, ◌+◌, ◌-◌, ◌*◌, ◌≤◌, ◌<◌}
use mathlib.Core.Path.{◌≡◌, refl, ◌∙◌}
use mathlib.Core.Bool.{Bool, true, false, cond}
use mathlib.Core.List.{List, [], ◌∷◌}
use mathlib.Core.Logic.{◌⊎◌, inl, inr}
use native.Mathlib.Omega.{arith}
use native.Mathlib.Numerals.{add-one}
use lib.ListN.{length, drop, get_or, drop_of_length-le}
use lib.Seq.{drop-cons}
use lib.Dec.{ltb, eqb}
use borrow.Author.Tests.{lt-ltb, le-ltb, ltb-true, ltb-false, le-leb, lt-leb, ne_eqb}
use Rattle.wire.proofs.Choices.{by_cond}
use Rattle.line.specs.Field.{digits_behind, digits_of}
use Rattle.line.specs.Places.{Place, offset, wrong_from, digits_expected}
use Rattle.line.specs.Inner.{judged_by, digits_read, digits_walked}

-- ---- the walk gives the number where the field is a figure of its width, and the place of the field where it is none

by_digit : (v i w x : ℕ) (l : List ℕ) (t u : Bool) → ltb x 48 ≡ t → ltb 57 x ≡ u
    → digits_walked (v * 10 + (x - 48)) (i + 1) w l ≡ judged_by (cond (eqb (length l) w) (digits_behind (v * 10 + (x - 48)) l) None) (wrong_from (i + 1) (digits_expected w) l)
    → digits_walked v i (suc w) (x ∷ l) ≡ judged_by (cond (eqb (length l) w) (digits_behind v (x ∷ l)) None) (wrong_from i (digits_expected (suc w)) (x ∷ l))
unfolding digits_walked digits_behind wrong_from
by_digit v i w x l true u p q h = rw (p, lt-leb 48 x (ltb-true x 48 p)) (none (eqb (length l) w))
  where
    none : (t : Bool) → Err i ≡ judged_by (cond t None None) (offset i)
    none true = refl
    none false = refl
by_digit v i w x l false true p q h = rw (p, q, le-leb 48 x (ltb-false x 48 p), lt-leb x 57 (ltb-true 57 x q)) (none (eqb (length l) w))
  where
    none : (t : Bool) → Err i ≡ judged_by (cond t None None) (offset i)
    none true = refl
    none false = refl
by_digit v i w x l false false p q h = rw (p, q, le-leb 48 x (ltb-false x 48 p), le-leb x 57 (ltb-false 57 x q)) h

walked_by : (v i w : ℕ) (l : List ℕ) → digits_walked v i w l ≡ judged_by (cond (eqb (length l) w) (digits_behind v l) None) (wrong_from i (digits_expected w) l)
unfolding digits_walked wrong_from digits_behind
walked_by v i zero [] = refl
walked_by v i zero (x ∷ l) = rw (ne_eqb (suc (length l)) 0 (λ e. omega arith))
walked_by v i (suc w) [] = rw (ne_eqb 0 (suc w) (λ e. omega arith))
walked_by v i (suc w) (x ∷ l) = rw (compare.suc-suc (length l) w) (by_digit v i w x l (ltb x 48) (ltb 57 x) refl refl (walked_by (v * 10 + (x - 48)) (i + 1) w l))

pub digits_walked_lem : (w : ℕ) (l : List ℕ) → digits_walked 0 0 w l ≡ digits_read w l
unfolding digits_read
digits_walked_lem w l = walked_by 0 0 w l

-- ---- one turn of the loop, at index i of a field

pub at_start : (w : ℕ) (l : List ℕ) → digits_walked 0 0 w l ≡ digits_walked 0 0 (w - 0) (drop 0 l)
at_start w l =
    let n : w - 0 ≡ w = omega arith in
    rw n

pub at_more : (v i w : ℕ) (l : List ℕ) → i < length l → i < w → 48 ≤ get_or l i 0 → get_or l i 0 ≤ 57
    → digits_walked v i (w - i) (drop i l) ≡ digits_walked (v * 10 + (get_or l i 0 - 48)) (i + 1) (w - (i + 1)) (drop (i + 1) l)
unfolding digits_walked
at_more v i w l h k low high =
    let n : w - i ≡ suc (w - (i + 1)) = omega arith in
    rw (n, drop-cons l i 0 h, add-one i) (simp (le-ltb _ _ low, le-ltb _ _ high))

-- at a byte that is no digit
pub at_other : (v i w : ℕ) (l : List ℕ) → i < length l → i < w → (get_or l i 0 < 48) ⊎ (57 < get_or l i 0) → digits_walked v i (w - i) (drop i l) ≡ Err i
unfolding digits_walked
at_other v i w l h k (inl low) =
    let n : w - i ≡ suc (w - (i + 1)) = omega arith in
    rw (n, drop-cons l i 0 h) (simp (lt-ltb _ _ low))
at_other v i w l h k (inr high) =
    let n : w - i ≡ suc (w - (i + 1)) = omega arith in
    rw (n, drop-cons l i 0 h) (simp (le-ltb (get_or l i 0) 48 (omega arith), lt-ltb _ _ high))

-- more bytes than digits, fewer, and just as many
pub at_surplus : (v i w : ℕ) (l : List ℕ) → i < length l → w ≤ i → digits_walked v i (w - i) (drop i l) ≡ Err i
unfolding digits_walked
at_surplus v i w l h k =
    let n : w - i ≡ 0 = omega arith in
    rw (n, drop-cons l i 0 h)

pub at_short : (v i w : ℕ) (l : List ℕ) → length l ≤ i → i < w → digits_walked v i (w - i) (drop i l) ≡ Err i
unfolding digits_walked
at_short v i w l h k =
    let n : w - i ≡ suc (w - (i + 1)) = omega arith in
    rw (n, drop_of_length-le l h)

pub at_end : (v i w : ℕ) (l : List ℕ) → length l ≤ i → w ≤ i → digits_walked v i (w - i) (drop i l) ≡ Ok v
unfolding digits_walked
at_end v i w l h k =
    let n : w - i ≡ 0 = omega arith in
    rw (n, drop_of_length-le l h)

-- ---- what is wrong is at most one behind the last digit

walked_bound : (v i w : ℕ) (l : List ℕ) (j : ℕ) → digits_walked v i w l ≡ Err j → j ≤ i + w
unfolding digits_walked
walked_bound v i zero [] j e = absurd (let z : ◌≡◌ {A = ℕ} 0 1 = cc in omega arith)
walked_bound v i zero (x ∷ l) j e = let z : i ≡ j = cc in omega arith
walked_bound v i (suc w) [] j e = let z : i ≡ j = cc in omega arith
walked_bound v i (suc w) (x ∷ l) j e =
    by_cond (ltb x 48) e
    (λ t k. let z : i ≡ j = cc in omega arith)
    (λ t k. by_cond (ltb 57 x) k (λ u h. let z : i ≡ j = cc in omega arith) (λ u h. omega (arith, walked_bound (v * 10 + (x - 48)) (i + 1) w l j h)))

pub read_bound : (w : ℕ) (l : List ℕ) (j : ℕ) → digits_read w l ≡ Err j → j ≤ w
read_bound w l j e = omega (arith, walked_bound 0 0 w l j (digits_walked_lem w l ∙ e))

-- ---- whether a field is a figure, without its place

judged_ok : (f : Option ℕ) (p : Place) → f ≡ result_ok (judged_by f p)
judged_ok (Some n) p = refl
judged_ok None p = refl

pub read_ok : (w : ℕ) (l : List ℕ) → digits_of w l ≡ result_ok (digits_read w l)
unfolding digits_read
read_ok w l = judged_ok (digits_of w l) (wrong_from 0 (digits_expected w) l)

-- The rule for a digit field, once over its width: a field is read as n exactly where it is n's `width` digits and n is below ten to the width. Assumes nothing.
use Rattle.std.specs.Prelude.{None, Option, Some}
use mathlib.Core.Path.{◌≡◌, refl, sym, ap, ◌∙◌, subst}
use mathlib.Core.List.{List, [], ◌∷◌, ◌++◌}
use mathlib.Core.Bool.{Bool, true, false, cond}
use Prim.Native.Nat.{ℕ, zero, suc, ◌+◌, ◌-◌, ◌*◌, ◌/◌, ◌%◌, ◌^◌, ◌≤◌, ◌<◌}
use native.Mathlib.Omega.{arith}
use native.Mathlib.Nat.{add-mul, mul_assoc, mul-one, mod-lt, mod-one, mod-eq_of_lt, pow-succ', pow-suc, pow-zero, add-zero, add-sub_cancel_left, pow-le-pow_right, div-div-eq-div-mul, div-one, one-mul, div-lt_iff_lt-mul}
use lib.Arith.{mod-mul, digits_div, digits_mod}
use lib.ListN.{length}
use lib.Dec.{lit<, eqb, ltb}
use borrow.Author.Tests.{eq-eqb, ne_eqb, le-ltb, ltb-false, eqb-true}
use Rattle.line.specs.Field.{up_to_space, digits_behind, digits_of}
use Rattle.line.specs.Line.{digits_for}
use Rattle.line.specs.Rules.{DigitField}

pub ten_pos : (w : ℕ) → 0 < 10 ^ w
ten_pos w = pow-le-pow_right {n = 10} (lit< tt) {i = 0} {j = w} (omega arith)

pub digits_length : (w n : ℕ) → length (digits_for w n) ≡ w
digits_length zero n = refl
digits_length (suc w) n = ap suc (digits_length w n)

pub digits_number : (w n v : ℕ) → digits_behind v (digits_for w n) ≡ Some (v * 10 ^ w + n % 10 ^ w)
unfolding digits_behind
digits_number zero n v = rw (pow-zero, mul-one, mod-one, add-zero)
digits_number (suc w) n v =
    let d : ℕ = n / 10 ^ w % 10 in
    let small : d < 10 = mod-lt (n / 10 ^ w) (lit< tt) in
    let low : 48 ≤ 48 + d = omega arith in
    let high : 48 + d ≤ 57 = omega arith in
    let e : (v * 10 + (48 + d - 48)) * 10 ^ w + n % 10 ^ w ≡ v * 10 ^ suc w + n % 10 ^ suc w =
    rw (pow-succ', mod-mul n {m = 10} {c = 10 ^ w} (lit< tt) (ten_pos w), add-sub_cancel_left, add-mul, mul_assoc) (omega arith) in
    simp (le-ltb (48 + d) 48 low, le-ltb 57 (48 + d) high) (digits_number w n (v * 10 + (48 + d - 48)) ∙ ap Some e)

pub digits_word : (w n : ℕ) (rest : List ℕ) → up_to_space rest ≡ [] → up_to_space (digits_for w n ++ rest) ≡ digits_for w n
unfolding up_to_space
digits_word zero n rest h = h
digits_word (suc w) n rest h =
    let d : ℕ = n / 10 ^ w % 10 in
    let no : 48 + d ≡ 32 → ⊥ = λ e. omega arith in
    simp (ne_eqb (48 + d) 32 no, digits_word w n rest h)

-- a field of `width` digits, and then a space or the end, reads back as its number
pub field_reads : (w n : ℕ) (rest : List ℕ) → n < 10 ^ w → up_to_space rest ≡ [] → digits_of w (up_to_space (digits_for w n ++ rest)) ≡ Some n
field_reads w n rest small h =
    rw (digits_word w n rest h, digits_length w n, eq-eqb w w refl, digits_number w n 0, mod-eq_of_lt small) (ap Some (omega arith))

-- a choice that is a value was not the refusal
first_passed : (t : Bool) (g : Option ℕ) (r : ℕ) → cond t None g ≡ Some r → (t ≡ false) × (g ≡ Some r)
first_passed true g r h = absurd (let z : ◌≡◌ {A = ℕ} 0 1 = cc in omega arith)
first_passed false g r h = (refl, h)

one_more_lem : (x : ℕ) (xs : List ℕ) (v r : ℕ) → 48 ≤ x → x ≤ 57
    → (xs ≡ digits_for (length xs) r) × (r / 10 ^ length xs ≡ v * 10 + (x - 48))
    → (x ∷ xs ≡ digits_for (suc (length xs)) r) × (r / 10 ^ suc (length xs) ≡ v)
one_more_lem x xs v r ge le more = (ap (λ (d : ℕ). d ∷ xs) (sym digit) ∙ ap (λ (t : List ℕ). (48 + r / 10 ^ length xs % 10) ∷ t) more.0, front)
  where
    digit : 48 + r / 10 ^ length xs % 10 ≡ x
    digit = rw (more.1, digits_mod v {m = 10} {r = x - 48} (omega arith)) (omega arith)

    front : r / 10 ^ suc (length xs) ≡ v
    front = rw (pow-suc 10 (length xs), ← div-div-eq-div-mul r (10 ^ length xs) 10, more.1) (digits_div v {m = 10} {r = x - 48} (omega arith))

pub number_digits_lem : (l : List ℕ) (v r : ℕ) → digits_behind v l ≡ Some r → (l ≡ digits_for (length l) r) × (r / 10 ^ length l ≡ v)
unfolding digits_behind
number_digits_lem [] v r h = (refl, ap (λ (k : ℕ). r / k) (pow-zero 10) ∙ div-one r ∙ cc)
number_digits_lem (x ∷ xs) v r h =
    let low = first_passed (ltb x 48) _ r h in
    let high = first_passed (ltb 57 x) _ r low.1 in
    one_more_lem x xs v r (ltb-false x 48 low.0) (ltb-false 57 x high.0) (number_digits_lem xs (v * 10 + (x - 48)) r high.1)

second_passed : (t : Bool) (g : Option ℕ) (r : ℕ) → cond t g None ≡ Some r → (t ≡ true) × (g ≡ Some r)
second_passed true g r h = (refl, h)
second_passed false g r h = absurd (let z : ◌≡◌ {A = ℕ} 0 1 = cc in omega arith)

-- the rule: read as n exactly where the field is the `width` digits of n
pub digit_field : DigitField
digit_field w l n = (to, from)
  where
    to : digits_of w l ≡ Some n → (l ≡ digits_for w n) × (n < 10 ^ w)
    to h =
        let p = second_passed (eqb (length l) w) _ n h in
        let e = eqb-true (length l) w p.0 in
        let q = number_digits_lem l 0 n p.1 in
        let small : n / 10 ^ w < 1 = omega (arith, ap (λ (k : ℕ). n / 10 ^ k) e, q.1) in
        (q.0 ∙ ap (λ (k : ℕ). digits_for k n) e, subst (λ (k : ℕ). n < k) (one-mul (10 ^ w)) ((div-lt_iff_lt-mul (ten_pos w)).0 small))

    from : (l ≡ digits_for w n) × (n < 10 ^ w) → digits_of w l ≡ Some n
    from h = rw (h.0, digits_length w n, eq-eqb w w refl, digits_number w n 0, mod-eq_of_lt h.1) (ap Some (omega arith))

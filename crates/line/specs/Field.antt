-- A field of a line, and the number that its digits make.
use Rattle.std.specs.Prelude.{ℕ, ◌+◌, ◌-◌, ◌*◌, cond, Option, Some, None, List, [], ◌∷◌, length, get_or, drop, ltb, eqb}

-- the bytes up to the first space (32), or all
unfoldable pub up_to_space : List ℕ → List ℕ
up_to_space [] = []
up_to_space (x ∷ xs) = cond (eqb x 32) [] (x ∷ up_to_space xs)

-- "the bytes between its space and the following one or the end", its space being at `at`
abbrev pub field_of : List ℕ → ℕ → List ℕ
field_of l at = up_to_space (drop (at + 1) l)

-- digit by digit, behind a number n that was read so far; where a byte is no digit, 0 to 9 (48 to 57), there is None
unfoldable pub digits_behind : ℕ → List ℕ → Option ℕ
digits_behind n [] = Some n
digits_behind n (x ∷ xs) = cond (ltb x 48) None (cond (ltb 57 x) None (digits_behind (n * 10 + (x - 48)) xs))

-- a field of exactly `width` digits
abbrev pub digits_of : ℕ → List ℕ → Option ℕ
digits_of width l = cond (eqb (length l) width) (digits_behind 0 l) None

-- "each figure after exactly one space": a space at `at`, and behind it a field of `width` digits
unfoldable pub figure_of : List ℕ → ℕ → ℕ → Option ℕ
figure_of l at width = cond (eqb (get_or l at 0) 32) (digits_of width (field_of l at)) None

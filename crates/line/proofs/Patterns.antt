-- A pattern of bytes says what is expected at each index. Assumes nothing.
use Prim.Native.Nat.compare
use Prim.Native.Nat.{ℕ, zero, suc}
use mathlib.Core.Path.{◌≡◌}
use mathlib.Core.List.{List, [], ◌∷◌, map}
use native.Mathlib.Omega.{arith}
use lib.ListN.{length}
use lib.Dec.{leb-zero}
use borrow.Author.Tests.{lt-leb}
use Rattle.line.specs.Places.{Expected, space, digit, expected_at}
use Rattle.line.specs.Inner.{pattern_byte, pattern_at}

pub pattern_says : (es : List Expected) (i : ℕ) → pattern_at (map pattern_byte es) i ≡ expected_at es i
unfolding pattern_at
pattern_says [] i = rw leb-zero
pattern_says (space ∷ es) zero = rw (lt-leb (suc (length (map pattern_byte es))) 0 (omega arith))
pattern_says (digit ∷ es) zero = rw (lt-leb (suc (length (map pattern_byte es))) 0 (omega arith))
pattern_says (space ∷ es) (suc i) = rw (compare.suc-suc (length (map pattern_byte es)) i) (pattern_says es i)
pattern_says (digit ∷ es) (suc i) = rw (compare.suc-suc (length (map pattern_byte es)) i) (pattern_says es i)

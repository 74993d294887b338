-- The checksum.
use Rattle.std.specs.Prelude.{ℕ, ◌+◌, ◌%◌, List, [], ◌∷◌}

unfoldable pub sum_of : List ℕ → ℕ
sum_of [] = 0
sum_of (x ∷ xs) = x + sum_of xs

-- "the sum of the L bytes after the second 68, modulo 256"
abbrev pub checksum_of : List ℕ → ℕ
checksum_of l = sum_of l % 256

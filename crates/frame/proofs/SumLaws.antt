-- Laws of the sum, over the length of a block. Assumes nothing.
use Prim.Native.Nat.{ℕ, zero, suc, ◌+◌, ◌%◌}
use mathlib.Core.Path.{◌≡◌, refl, sym}
use mathlib.Core.List.{List, [], ◌∷◌}
use native.Mathlib.Nat.{zero-add, mod-add-mod, add_assoc}
use lib.ListN.{take, drop}
use lib.Seq.{drop-drop}
use Rattle.std.specs.List.{sum}
use Rattle.std.proofs.lemmas.List.Recursion.{is_sum_by}
use Rattle.frame.specs.Sum.{sum_of}

-- It is the sum as the library has it.
pub sum_is : (l : List ℕ) → sum_of l ≡ sum l
unfolding sum_of
sum_is l = is_sum_by sum_of (λ x. x) refl (λ _ _. refl) l

sum_split : (k : ℕ) (l : List ℕ) → sum_of l ≡ sum_of (take k l) + sum_of (drop k l)
unfolding sum_of
sum_split zero l = sym (zero-add (sum_of l))
sum_split (suc k) [] = refl
sum_split (suc k) (x ∷ l) = rw (sum_split k l) (sym (add_assoc x (sum_of (take k l)) (sum_of (drop k l))))

-- A block of k bytes from index i on: the remainder taken behind it does not alter the remainder of the whole.
pub sum_block : (l : List ℕ) (i k s : ℕ) → ((s + sum_of (take k (drop i l))) % 256 + sum_of (drop (i + k) l)) % 256 ≡ (s + sum_of (drop i l)) % 256
sum_block l i k s = rw (mod-add-mod, add_assoc, ← drop-drop k i l, ← sum_split k (drop i l))

-- The same of a front of any length, and what stands behind it.
pub sum_front : (k : ℕ) (l front rest : List ℕ) (s : ℕ) → front ≡ take k l → rest ≡ drop k l → ((s + sum_of front) % 256 + sum_of rest) % 256 ≡ (s + sum_of l) % 256
sum_front k l front rest s f r = rw (f, r) (rw (zero-add k) at (sum_block l 0 k s))

-- What is kept of a block: bytes from index `at` on, moved to the front. Assumes nothing.
use Prim.Native.Nat.{ℕ, ◌+◌, ◌-◌, ◌≤◌, ◌<◌, min}
use mathlib.Core.Path.{◌≡◌, refl, sym, ap, ◌∙◌}
use mathlib.Core.List.{List}
use mathlib.Core.Bool.{Bool, true, false}
use native.Mathlib.Nat.{min-eq_left, min-eq_right, min-le_left}
use native.Mathlib.Omega.{arith}
use lib.ListN.{length, take, drop, length-take, length-drop}
use lib.Seq.{take_all, take-take, take-add, length-take-le, take_at, drop_at}
use lib.Dec.{leb}
use Rattle.std.specs.List.{copy_within}
use borrow.Author.Tests.{leb-true, leb-false}

-- a part of a text is the text's beginning, from `at` on
part_of : (b : List ℕ) (at end : ℕ) → at ≤ end → end ≤ length b → drop at (take end b) ≡ take (end - at) (drop at b)
part_of b at end h k =
    let whole : end ≡ at + (end - at) = omega arith in
    let front : length (take at b) ≡ at = length-take-le at b (omega arith) in
    ap (λ (n : ℕ). drop at (take n b)) whole ∙ rw (take-add at (end - at) b) (drop_at (take at b) (take (end - at) (drop at b)) at front)

take_least : (l : List ℕ) (k n m : ℕ) → n ≡ min k m → take m (take k l) ≡ take n l
take_least l k n m e = by_test (leb m k) refl
  where
    by_test : (t : Bool) → leb m k ≡ t → take m (take k l) ≡ take n l
    by_test true p =
        let h : m ≤ k = leb-true m k p in
        let q : n ≡ m = e ∙ min-eq_right h in
        rw q (take-take m k l h)
    by_test false p =
        let h : k < m = leb-false m k p in
        let q : n ≡ k = e ∙ min-eq_left (omega arith) in
        let short : length (take k l) ≤ m = rw length-take (omega (arith, min-le_left k (length l))) in
        rw q (take_all m (take k l) short)

-- what is kept of a text that ends at `end`
pub kept : (b now : List ℕ) (at end n : ℕ) → at ≤ end → end ≤ length b → n ≡ min (end - at) 601 → now ≡ copy_within b at (at + n) 0
    → take n now ≡ take 601 (drop at (take end b))
kept b now at end n h k m e =
    let low : n ≤ end - at = rw m (min-le_left (end - at) 601) in
    let front : length (take n (drop at b)) ≡ n = length-take-le n (drop at b) (rw length-drop (omega arith)) in
    let moved : at + n - at ≡ n = omega arith in
    rw (e, moved, take_at (take n (drop at b)) (drop (0 + n) b) n front, part_of b at end h k) (sym (take_least (drop at b) (end - at) n 601 m))

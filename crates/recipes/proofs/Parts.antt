-- A part of a part, in a list of bytes. Assumes nothing.
use Prim.Native.Nat.{ℕ, ◌+◌, ◌-◌, ◌≤◌}
use mathlib.Core.Path.{◌≡◌, ap, ◌∙◌}
use mathlib.Core.List.{List}
use native.Mathlib.Omega.{arith}
use lib.ListN.{length, take, drop, length-drop}
use lib.Seq.{take-add, drop-drop, drop_at, length-take-le}

-- what lies n bytes behind the start of the part of that width from `at` on
pub part_behind : (l : List ℕ) (at width n : ℕ) → at + width ≤ length l → n ≤ width → drop n (take width (drop at l)) ≡ take (width - n) (drop (at + n) l)
part_behind l at width n fits small =
    let whole : width ≡ n + (width - n) = omega arith in
    let front : length (take n (drop at l)) ≡ n = length-take-le n (drop at l) (rw length-drop (omega arith)) in
    ap (λ (m : ℕ). drop n (take m (drop at l))) whole
    ∙ rw (take-add n (width - n) (drop at l), drop-drop n at l) (drop_at (take n (drop at l)) (take (width - n) (drop (at + n) l)) n front)

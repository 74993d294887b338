-- What the searches cite: the library's search is that of the definitions, and parts without a line feed are passed. Assumes nothing.
use Prim.Native.Nat.{ℕ, zero, suc, ◌+◌, ◌-◌, ◌≤◌, ◌<◌}
use mathlib.Core.Path.{◌≡◌, refl, sym}
use mathlib.Core.Bool.{true, false, cond, ◌||◌, or_assoc, or-false}
use mathlib.Core.List.{List, [], ◌∷◌, ◌++◌}
use native.Mathlib.Omega.{arith}
use native.Mathlib.Nat.{zero-add}
use native.Mathlib.Numerals.{add-one}
use lib.Dec.{eqb}
use lib.ListN.{length, take, drop, get_or, drop_of_length-le, length-drop}
use lib.Seq.{take_all, drop-cons}
use Rattle.std.specs.List.{position_or_len}
use Rattle.std.proofs.lemmas.List.Recursion.{is_position_or_len}
use Rattle.texts.specs.Texts.{index_of, line_feed}
use Rattle.texts.specs.Inner.{has_feed}
use Rattle.zone.proofs.Tests.{neither}

-- the part from an index on
pub left : (l : List ℕ) (from : ℕ) → take (length l - from) (drop from l) ≡ drop from l
left l from = take_all (length l - from) (drop from l) (rw length-drop (omega arith))

-- ---- the library's search

pub index_is : (x : ℕ) (l : List ℕ) → index_of x l ≡ position_or_len (λ y. eqb y x) l
unfolding index_of
index_is x l = is_position_or_len (index_of x) (λ y. eqb y x) refl (λ y ys. let s : suc (index_of x ys) ≡ 1 + index_of x ys = omega arith in rw s) l

-- ---- the same byte by byte

-- a byte that is not x is passed
pub find_more : (x : ℕ) (l : List ℕ) (from i : ℕ) → i < length l → eqb (get_or l i 0) x ≡ false
    → from + index_of x (drop from l) ≡ i + index_of x (drop i l) → from + index_of x (drop from l) ≡ i + 1 + index_of x (drop (i + 1) l)
unfolding index_of
find_more x l from i h e p =
    let n : from + index_of x (drop from l) ≡ i + cond (eqb (get_or l i 0) x) 0 (suc (index_of x (drop (suc i) l))) = rw (drop-cons l i 0 h) at p in
    rw add-one (omega (arith, rw e at n))

-- one that is x is the first
pub find_here : (x : ℕ) (l : List ℕ) (from i : ℕ) → i < length l → eqb (get_or l i 0) x ≡ true
    → from + index_of x (drop from l) ≡ i + index_of x (drop i l) → i ≡ from + index_of x (drop from l)
unfolding index_of
find_here x l from i h e p =
    let n : from + index_of x (drop from l) ≡ i + cond (eqb (get_or l i 0) x) 0 (suc (index_of x (drop (suc i) l))) = rw (drop-cons l i 0 h) at p in
    omega (arith, rw e at n)

-- where no byte is left there is none
pub find_end : (x : ℕ) (l : List ℕ) (from i : ℕ) → length l ≤ i
    → from + index_of x (drop from l) ≡ i + index_of x (drop i l) → i ≡ from + index_of x (drop from l)
unfolding index_of
find_end x l from i h p = omega (arith, rw (drop_of_length-le l h) at p)

-- ---- whether a line feed is among the bytes

-- one byte more
pub has_more : (l : List ℕ) (x : ℕ) → has_feed (l ++ (x ∷ [])) ≡ (has_feed l || eqb x line_feed)
unfolding has_feed
has_more [] x = or-false (eqb x line_feed)
has_more (y ∷ l) x = rw (has_more l x) (sym (or_assoc (eqb y line_feed) (has_feed l) (eqb x line_feed)))

-- ---- where the first one is

-- the first k bytes are passed where none of them is one
pub passed : (k : ℕ) (l : List ℕ) → k ≤ length l → has_feed (take k l) ≡ false → index_of line_feed l ≡ k + index_of line_feed (drop k l)
unfolding has_feed index_of
passed zero l h e = sym (zero-add (index_of line_feed l))
passed (suc k) [] h e = absurd (omega arith)
passed (suc k) (x ∷ l) h e =
    let n = neither (eqb x line_feed) (has_feed (take k l)) e in
    rw n.0 (omega (arith, passed k l (omega arith) n.1))

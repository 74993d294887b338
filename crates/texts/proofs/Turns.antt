-- A turn of the iterator over the lines of a text: a line, and what is left behind it and its line feed. Assumes nothing.
use Prim.Native.Nat.{min, ℕ, ◌+◌, ◌-◌, ◌≤◌, ◌<◌}
use mathlib.Core.Path.{◌≡◌, sym, ◌∙◌}
use mathlib.Core.Bool.{true, false}
use mathlib.Core.List.{List, [], ◌∷◌, ◌++◌}
use native.Mathlib.Omega.{arith}
use lib.ListN.{length, take, drop, length-drop, length-append, drop_of_length-le}
use lib.Seq.{take_all, drop-drop}
use lib.Dec.{ltb, eqb}
use borrow.Author.Tests.{ltb-true, ltb-false}
use Rattle.texts.specs.Texts.{index_of, line_feed, ended_behind, begun_behind, unended, lines_of}
use Rattle.texts.proofs.Parts.{by_test, next_line, no_line, end_within}

pub no_more : (t : List ℕ) → length t ≡ 0 → lines_of t ≡ []
no_more t h = no_line t 0 (omega arith)

pub within_text : (t : List ℕ) (end : ℕ) → end ≡ 0 + index_of line_feed t → end ≤ length t
within_text t end e = end_within t 0 end (omega arith) e

-- what is left behind a line and its line feed
behind_line : (t : List ℕ) (end m : ℕ) → end ≤ length t → m ≡ min (length (drop end t)) 1 → take (length (drop end t) - m) (drop m (drop end t)) ≡ drop (end + 1) t
behind_line t end m h k = take_all (length (drop end t) - m) (drop m (drop end t)) (omega (arith, length-drop m (drop end t))) ∙ by_test (ltb end (length t)) inner last
  where
    inner : ltb end (length t) ≡ true → drop m (drop end t) ≡ drop (end + 1) t
    inner b =
        let one : m ≡ 1 = omega (arith, length-drop end t, ltb-true end (length t) b) in
        rw one (drop-drop 1 end t)

    last : ltb end (length t) ≡ false → drop m (drop end t) ≡ drop (end + 1) t
    last b =
        let over : length t ≤ end = ltb-false end (length t) b in
        let past : length t ≤ end + 1 = omega arith in
        let none : m ≡ 0 = omega (arith, length-drop end t) in
        rw none (drop_of_length-le t over ∙ sym (drop_of_length-le t past))

-- a line, and those behind it
pub turn : (t line rest : List ℕ) (end m : ℕ) → 0 < length t → end ≡ 0 + index_of line_feed t → line ≡ take end t → rest ≡ drop end t → m ≡ min (length rest) 1
    → lines_of t ≡ line ∷ lines_of (take (length rest - m) (drop m rest))
turn t line rest end m h e f g k =
    let d : m ≡ min (length (drop end t)) 1 = rw g at k in
    let all : end - 0 ≡ end = omega arith in
    next_line t 0 end h e ∙ rw (all, f, g, behind_line t end m (within_text t end e) d)

-- no text has more lines than bytes
few_behind : (so_far t : List ℕ) → length (ended_behind so_far t ++ unended (begun_behind so_far t)) ≤ length so_far + length t
unfolding ended_behind begun_behind
few_behind [] [] = omega arith
few_behind (x ∷ so_far) [] = omega arith
few_behind so_far (x ∷ t) =
    by_test (eqb x line_feed)
    (λ e. rw e (omega (arith, few_behind [] t)))
    (λ e. rw e (omega (arith, few_behind (so_far ++ (x ∷ [])) t, length-append so_far (x ∷ []))))

pub few_lines : (t : List ℕ) → length (lines_of t) ≤ length t
few_lines t = omega (arith, few_behind [] t)

-- The lines of a text in parts: what a text without a line feed comes to, one up to its first line feed, and one from an index on. Assumes nothing.
use Rattle.std.specs.Prelude.{Option, Some}
use Prim.Native.Nat.{ℕ, zero, suc, ◌+◌, ◌-◌, ◌≤◌, ◌<◌}
use mathlib.Core.Path.{◌≡◌, refl, sym, ap, ◌∙◌}
use mathlib.Core.Bool.{Bool, true, false}
use mathlib.Core.List.{List, [], ◌∷◌, ◌++◌, append-nil, append_assoc}
use native.Mathlib.Omega.{arith}
use lib.ListN.{length, take, drop, length-drop, drop_of_length-le}
use lib.Dec.{ltb, eqb}
use lib.Seq.{append_snoc, drop-drop, take_all}
use borrow.Author.Tests.{eqb-true, ltb-true, ltb-false}
use Rattle.texts.specs.Texts.{index_of}
use Rattle.texts.specs.Texts.{line_feed, ended_behind, begun_behind, ended, begun, unended, lines_of}
use Rattle.texts.specs.Inner.{start_of}

pub by_test : {R : Type 0} (t : Bool) → (t ≡ true → R) → (t ≡ false → R) → R
by_test true f g = f refl
by_test false f g = g refl

-- ---- a text in two parts

pub ended_append : (b s t : List ℕ) → ended_behind b (s ++ t) ≡ ended_behind b s ++ ended_behind (begun_behind b s) t
unfolding ended_behind begun_behind
ended_append b [] t = refl
ended_append b (x ∷ s) t = by_test (eqb x line_feed) (λ e. rw (e, ended_append [] s t)) (λ e. rw e (ended_append (b ++ (x ∷ [])) s t))

pub begun_append : (b s t : List ℕ) → begun_behind b (s ++ t) ≡ begun_behind (begun_behind b s) t
unfolding begun_behind
begun_append b [] t = refl
begun_append b (x ∷ s) t = by_test (eqb x line_feed) (λ e. rw e (begun_append [] s t)) (λ e. rw e (begun_append (b ++ (x ∷ [])) s t))

-- where the first part ends in a line feed, or is empty, no line goes from the one into the other
pub feed_begun : (s : List ℕ) → begun (s ++ (line_feed ∷ [])) ≡ []
unfolding begun_behind
feed_begun s = begun_append [] s (line_feed ∷ [])

pub none_begun : begun [] ≡ []
unfolding begun_behind
none_begun = refl

pub lines_append : (s t : List ℕ) → begun s ≡ [] → lines_of (s ++ t) ≡ lines_of s ++ lines_of t
lines_append s t e = rw (ended_append [] s t, begun_append [] s t, e, append-nil (ended s)) (append_assoc (ended s) (ended t) (unended (begun t)))

-- ---- a line holds no line feed

pub data Plain : List ℕ → Type 0 where
  none : Plain []
  one : {x : ℕ} {l : List ℕ} → eqb x line_feed ≡ false → Plain l → Plain (x ∷ l)

pub plain_ended : (b : List ℕ) {l : List ℕ} → Plain l → ended_behind b l ≡ []
unfolding ended_behind
plain_ended b none = refl
plain_ended b (one {x = x} e p) = rw e (plain_ended (b ++ (x ∷ [])) p)

pub plain_begun : (b : List ℕ) {l : List ℕ} → Plain l → begun_behind b l ≡ b ++ l
unfolding begun_behind
plain_begun b none = sym (append-nil b)
plain_begun b (one {x = x} {l = l} e p) = rw e (plain_begun (b ++ (x ∷ [])) p ∙ append_snoc b x l)

pub plain_take : (n : ℕ) {l : List ℕ} → Plain l → Plain (take n l)
plain_take zero p = none
plain_take (suc n) none = none
plain_take (suc n) (one e p) = one e (plain_take n p)

plain_more : {l : List ℕ} (x : ℕ) → Plain l → eqb x line_feed ≡ false → Plain (l ++ (x ∷ []))
plain_more x none e = one e none
plain_more x (one f p) e = one f (plain_more x p e)

pub begun_plain : (b t : List ℕ) → Plain b → Plain (begun_behind b t)
unfolding begun_behind
begun_plain b [] p = p
begun_plain b (x ∷ t) p = by_test (eqb x line_feed) (λ e. rw e (begun_plain [] t none)) (λ e. rw e (begun_plain (b ++ (x ∷ [])) t (plain_more x p e)))

-- ---- by where the first line feed stands

pub no_feed : (t : List ℕ) → length t ≤ index_of line_feed t → Plain t
unfolding index_of
no_feed [] h = none
no_feed (x ∷ t) h = by_test (eqb x line_feed) (λ e. absurd (omega (arith, rw e at h))) (λ e. one e (no_feed t (omega (arith, rw e at h))))

first_feed : (t : List ℕ) → index_of line_feed t < length t → (t ≡ take (index_of line_feed t) t ++ (line_feed ∷ drop (suc (index_of line_feed t)) t)) × Plain (take (index_of line_feed t) t)
unfolding index_of
first_feed [] h = absurd (omega arith)
first_feed (x ∷ t) h =
    by_test (eqb x line_feed) (λ e. rw e (ap (λ (y : ℕ). y ∷ t) (eqb-true x line_feed e), none))
    (λ e.
    let f = first_feed t (omega (arith, rw e at h)) in
    rw e (ap (λ (l : List ℕ). x ∷ l) f.0, one e f.1))

ended_first : (l rest : List ℕ) → Plain l → ended (l ++ (line_feed ∷ rest)) ≡ l ∷ ended rest
unfolding ended_behind
ended_first l rest p = ended_append [] l (line_feed ∷ rest) ∙ rw (plain_ended [] p, plain_begun [] p)

begun_first : (l rest : List ℕ) → begun (l ++ (line_feed ∷ rest)) ≡ begun rest
unfolding begun_behind
begun_first l rest = begun_append [] l (line_feed ∷ rest)

pub ended_line : (t : List ℕ) → index_of line_feed t < length t → ended t ≡ take (index_of line_feed t) t ∷ ended (drop (suc (index_of line_feed t)) t)
ended_line t h = let f = first_feed t h in ap (λ (s : List ℕ). ended s) f.0 ∙ ended_first (take (index_of line_feed t) t) (drop (suc (index_of line_feed t)) t) f.1

pub begun_line : (t : List ℕ) → index_of line_feed t < length t → begun t ≡ begun (drop (suc (index_of line_feed t)) t)
begun_line t h = let f = first_feed t h in ap (λ (s : List ℕ). begun s) f.0 ∙ begun_first (take (index_of line_feed t) t) (drop (suc (index_of line_feed t)) t)

-- ---- the line from `at` to the line feed at `end`

module _ (block : List ℕ) (at end : ℕ) (h : at ≤ length block) (e : end ≡ at + index_of line_feed (drop at block)) where
  some_feed : end < length block → index_of line_feed (drop at block) < length (drop at block)
  some_feed k = rw length-drop (omega arith)

  behind : drop (suc (index_of line_feed (drop at block))) (drop at block) ≡ drop (end + 1) block
  behind =
      let n : at + suc (index_of line_feed (drop at block)) ≡ end + 1 = omega arith in
      drop-drop (suc (index_of line_feed (drop at block))) at block ∙ rw n

  width : index_of line_feed (drop at block) ≡ end - at
  width = omega arith

  pub turn_ended : end < length block → ended (drop at block) ≡ take (end - at) (drop at block) ∷ ended (drop (end + 1) block)
  turn_ended k = ended_line (drop at block) (some_feed k) ∙ rw (behind, width)

  pub turn_begun : end < length block → begun (drop at block) ≡ begun (drop (end + 1) block)
  turn_begun k = begun_line (drop at block) (some_feed k) ∙ rw behind

  pub last_ended : length block ≤ end → ended (drop at block) ≡ []
  last_ended k = plain_ended [] (no_feed (drop at block) (rw length-drop (omega arith)))

  pub last_begun : length block ≤ end → begun (drop at block) ≡ drop at block
  last_begun k = plain_begun [] (no_feed (drop at block) (rw length-drop (omega arith)))

-- ---- the last line

-- "A last line may lack its line end": it is the line that it would be with it
pub last_lacks : (x : ℕ) (l : List ℕ) → Plain (x ∷ l) → unended (x ∷ l) ≡ ended ((x ∷ l) ++ (line_feed ∷ []))
unfolding ended_behind
last_lacks x l p = sym (ended_first (x ∷ l) [] p)

-- ---- the lines one at a time, the last one with or without its line feed

pub no_line : (block : List ℕ) (at : ℕ) → length block ≤ at → lines_of (drop at block) ≡ []
unfolding ended_behind begun_behind
no_line block at h = rw (drop_of_length-le block h)

-- it ends within the text
feed_within : (t : List ℕ) → index_of line_feed t ≤ length t
unfolding index_of
feed_within [] = omega arith
feed_within (x ∷ t) = by_test (eqb x line_feed) (λ e. rw e (omega arith)) (λ e. rw e (omega (arith, feed_within t)))

pub end_within : (block : List ℕ) (at end : ℕ) → at ≤ length block → end ≡ at + index_of line_feed (drop at block) → end ≤ length block
end_within block at end h e = omega (arith, e, feed_within (drop at block), length-drop at block)

-- the first line from `at` on is what stands up to the next line feed, or all that is left
pub next_line : (block : List ℕ) (at end : ℕ) → at < length block → end ≡ at + index_of line_feed (drop at block)
    → lines_of (drop at block) ≡ take (end - at) (drop at block) ∷ lines_of (drop (end + 1) block)
next_line block at end h e = by_test (ltb end (length block)) (λ t. ended_here (ltb-true end (length block) t)) (λ t. unended_here (ltb-false end (length block) t))
  where
    ended_here : end < length block → lines_of (drop at block) ≡ take (end - at) (drop at block) ∷ lines_of (drop (end + 1) block)
    ended_here k = rw (turn_ended block at end (omega arith) e k, turn_begun block at end (omega arith) e k)

    -- what is left is one line
    some_left : (l : List ℕ) → 0 < length l → unended l ≡ l ∷ []
    some_left [] k = absurd (omega arith)
    some_left (x ∷ l) k = refl

    unended_here : length block ≤ end → lines_of (drop at block) ≡ take (end - at) (drop at block) ∷ lines_of (drop (end + 1) block)
    unended_here k =
        let whole : take (end - at) (drop at block) ≡ drop at block = take_all (end - at) (drop at block) (rw length-drop (omega arith)) in
        let left : 0 < length (drop at block) = rw length-drop (omega arith) in
        rw (last_ended block at end (omega arith) e k, last_begun block at end (omega arith) e k, whole, no_line block (end + 1) (omega arith)) (some_left (drop at block) left)

-- ---- a zone with what is for it

-- what is for a zone begins within the line
pub begins_within : {a : Option (ℕ × ℕ)} {zone start n : ℕ} → start_of a ≤ n → a ≡ Some (zone, start) → start ≤ n
begins_within h e = rw e at h

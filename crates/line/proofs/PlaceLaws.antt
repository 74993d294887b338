-- Walking a line figure by figure comes to what the definitions say: its numbers where nothing is wrong, and else the place. Assumes nothing.
use Rattle.std.specs.Prelude.{Err, None, Ok, Option, Result, Some}
use Prim.Native.Nat.compare
use Prim.Native.Nat.{ℕ, zero, suc, ◌+◌, ◌-◌, ◌*◌, ◌≤◌, ◌<◌}
use mathlib.Core.Path.{◌≡◌, refl, sym, ap, ◌∙◌}
use mathlib.Core.Bool.{Bool, true, false, cond}
use mathlib.Core.List.{List, [], ◌∷◌, ◌++◌}
use native.Mathlib.Omega.{arith}
use native.Mathlib.Numerals.{add-one}
use lib.ListN.{length, drop, get_or, length-drop, drop_of_length-le, get_or-eq_default}
use lib.Seq.{drop-cons, drop-drop}
use lib.Dec.{ltb, eqb}
use borrow.Author.Tests.{lt-leb, le-leb, ltb-true, ltb-false, eq-eqb, ne_eqb, eqb-true, eqb-false}
use Rattle.zone.specs.Lists.{within, total}
use Rattle.zone.specs.Table.{Column, digits}
use Rattle.wire.specs.Road.{are, none, numbers_at}
use Rattle.wire.proofs.Choices.{by_cond}
use Rattle.line.specs.Field.{up_to_space, field_of, digits_behind, digits_of, figure_of}
use Rattle.line.specs.Line.{text_road}
use Rattle.line.specs.Places.{Place, nowhere, offset, Expected, space, meets, wrong_from, digits_expected, figures_expected}
use Rattle.line.specs.Inner.{judged_by, digits_read, moved, figure_read, onward, walk}

-- ---- a field is a figure of its width exactly where it has no place

abbrev Agree : Option ℕ → Place → Type 0
Agree (Some n) nowhere = Unit {0}
Agree (Some n) (offset i) = ⊥
Agree None nowhere = ⊥
Agree None (offset i) = Unit {0}

agree_by : (v i w : ℕ) (l : List ℕ) → Agree (cond (eqb (length l) w) (digits_behind v l) None) (wrong_from i (digits_expected w) l)
unfolding digits_behind wrong_from
agree_by v i zero [] = tt
agree_by v i zero (x ∷ l) = rw (ne_eqb (suc (length l)) 0 (λ e. omega arith)) tt
agree_by v i (suc w) [] = rw (ne_eqb 0 (suc w) (λ e. omega arith)) tt
agree_by v i (suc w) (x ∷ l) = rw (compare.suc-suc (length l) w) (by_digit (ltb x 48) (ltb 57 x) refl refl (agree_by (v * 10 + (x - 48)) (i + 1) w l))
  where
    no : (t : Bool) → Agree (cond t None None) (offset i)
    no true = tt
    no false = tt

    by_digit : (t u : Bool) → ltb x 48 ≡ t → ltb 57 x ≡ u
        → Agree (cond (eqb (length l) w) (digits_behind (v * 10 + (x - 48)) l) None) (wrong_from (i + 1) (digits_expected w) l)
        → Agree (cond (eqb (length l) w) (cond t None (cond u None (digits_behind (v * 10 + (x - 48)) l))) None) (cond (within 48 57 x) (wrong_from (i + 1) (digits_expected w) l) (offset i))
    by_digit true u p q h = rw (lt-leb 48 x (ltb-true x 48 p)) (no (eqb (length l) w))
    by_digit false true p q h = rw (le-leb 48 x (ltb-false x 48 p), lt-leb x 57 (ltb-true 57 x q)) (no (eqb (length l) w))
    by_digit false false p q h = rw (le-leb 48 x (ltb-false x 48 p), le-leb x 57 (ltb-false 57 x q)) h

judged_value : (f : Option ℕ) (p : Place) (n : ℕ) → Agree f p → judged_by f p ≡ Ok n → (f ≡ Some n) × (p ≡ nowhere)
judged_value (Some m) nowhere n a e = (cc, refl)
judged_value (Some m) (offset i) n a e = absurd a
judged_value None p n a e = absurd (let z : ◌≡◌ {A = ℕ} 0 1 = cc in omega arith)

judged_wrong : (f : Option ℕ) (p : Place) (i : ℕ) → Agree f p → judged_by f p ≡ Err i → (f ≡ None) × (p ≡ offset i)
judged_wrong (Some m) p i a e = absurd (let z : ◌≡◌ {A = ℕ} 0 1 = cc in omega arith)
judged_wrong None nowhere i a e = absurd a
judged_wrong None (offset j) i a e = (refl, cc)

-- ---- the place of a field is that of the line, which goes on behind it with a space or ends

abbrev shifted : ℕ → Place → Place
shifted a nowhere = nowhere
shifted a (offset i) = offset (a + i)

shift_cond : (a : ℕ) (t : Bool) (p : Place) (i : ℕ) → cond t (shifted a p) (offset (a + i)) ≡ shifted a (cond t p (offset i))
shift_cond a true p i = refl
shift_cond a false p i = refl

shift : (a i : ℕ) (es : List Expected) (l : List ℕ) → wrong_from (a + i) es l ≡ shifted a (wrong_from i es l)
unfolding wrong_from
shift a i [] [] = refl
shift a i [] (x ∷ l) = refl
shift a i (e ∷ es) [] = refl
shift a i (e ∷ es) (x ∷ l) =
    let n : a + i + 1 ≡ a + (i + 1) = omega arith in
    rw (n, shift a (i + 1) es l) (shift_cond a (meets e x) (wrong_from (i + 1) es l) i)

pub no_place : {R : Type 0} {i : ℕ} → nowhere ≡ offset i → R
no_place h = absurd (let z : ◌≡◌ {A = ℕ} 0 1 = cc in omega arith)

a_place : {R : Type 0} {i : ℕ} → offset i ≡ nowhere → R
a_place h = absurd (let z : ◌≡◌ {A = ℕ} 0 1 = cc in omega arith)

-- behind a row's figures another byte than a space is wrong
no_space : (i x : ℕ) (m : List ℕ) (ks : List Column) → eqb x 32 ≡ false → wrong_from i (figures_expected ks) (x ∷ m) ≡ offset i
unfolding wrong_from
no_space i x m [] e = refl
no_space i x m (k ∷ ks) e = rw e

field_wrong : (w i : ℕ) (m : List ℕ) (ks : List Column) (j : ℕ) → wrong_from i (digits_expected w) (up_to_space m) ≡ offset j → wrong_from i (digits_expected w ++ figures_expected ks) m ≡ offset j
unfolding wrong_from up_to_space
field_wrong zero i [] ks j e = no_place e
field_wrong zero i (x ∷ m) ks j e = by_space (eqb x 32) refl
  where
    by_space : (t : Bool) → eqb x 32 ≡ t → wrong_from i (figures_expected ks) (x ∷ m) ≡ offset j
    by_space true q = no_place (rw q at e)
    by_space false q = no_space i x m ks q ∙ (rw q at e)
field_wrong (suc w) i [] ks j e = e
field_wrong (suc w) i (x ∷ m) ks j e = by_space (eqb x 32) refl (field_wrong w (i + 1) m ks j)
  where
    by_space : (t : Bool) → eqb x 32 ≡ t
        → (wrong_from (i + 1) (digits_expected w) (up_to_space m) ≡ offset j → wrong_from (i + 1) (digits_expected w ++ figures_expected ks) m ≡ offset j)
        → cond (within 48 57 x) (wrong_from (i + 1) (digits_expected w ++ figures_expected ks) m) (offset i) ≡ offset j
    by_space true q more = rw (lt-leb 48 x (omega (arith, eqb-true x 32 q))) (rw q at e)
    by_space false q more =
        by_cond (within 48 57 x) (rw q at e)
        (λ t h. rw t (more h))
        (λ t h. rw t h)

field_right : (w i : ℕ) (m : List ℕ) (es : List Expected) → wrong_from i (digits_expected w) (up_to_space m) ≡ nowhere → (wrong_from i (digits_expected w ++ es) m ≡ wrong_from (i + w) es (drop w m)) × (w ≤ length m)
unfolding wrong_from up_to_space
field_right zero i m es e = ((let n : i + 0 ≡ i = omega arith in rw n), omega arith)
field_right (suc w) i [] es e = a_place e
field_right (suc w) i (x ∷ m) es e = by_space (eqb x 32) refl (field_right w (i + 1) m es)
  where
    by_space : (t : Bool) → eqb x 32 ≡ t
        → (wrong_from (i + 1) (digits_expected w) (up_to_space m) ≡ nowhere → (wrong_from (i + 1) (digits_expected w ++ es) m ≡ wrong_from (i + 1 + w) es (drop w m)) × (w ≤ length m))
        → (cond (within 48 57 x) (wrong_from (i + 1) (digits_expected w ++ es) m) (offset i) ≡ wrong_from (i + suc w) es (drop w m)) × (suc w ≤ suc (length m))
    by_space true q more = a_place (rw q at e)
    by_space false q more =
        by_cond (within 48 57 x) (rw q at e)
        (λ t h.
        let n : i + 1 + w ≡ i + suc w = omega arith in
        (rw (t, ← n) (more h).0, omega (arith, (more h).1)))
        (λ t h. a_place h)

-- ---- one figure

-- a space at an index is within the line
spaced : (l : List ℕ) (at : ℕ) → get_or l at 0 ≡ 32 → at < length l
spaced l at e = by_length (ltb at (length l)) refl
  where
    by_length : (t : Bool) → ltb at (length l) ≡ t → at < length l
    by_length true q = ltb-true at (length l) q
    by_length false q = absurd (eqb-false 0 32 refl (sym (get_or-eq_default l 0 {n = at} (ltb-false at (length l) q)) ∙ e))

space_then : (l : List ℕ) (at : ℕ) (es : List Expected) → get_or l at 0 ≡ 32 → wrong_from at (space ∷ es) (drop at l) ≡ wrong_from (at + 1) es (drop (at + 1) l)
unfolding wrong_from
space_then l at es e = rw (drop-cons l at 0 (spaced l at e), add-one at) (rw (eq-eqb _ _ e))

space_missing : (l : List ℕ) (at : ℕ) (es : List Expected) → at ≤ length l → eqb (get_or l at 0) 32 ≡ false → wrong_from at (space ∷ es) (drop at l) ≡ offset at
unfolding wrong_from
space_missing l at es h e = by_length (ltb at (length l)) refl
  where
    by_length : (t : Bool) → ltb at (length l) ≡ t → wrong_from at (space ∷ es) (drop at l) ≡ offset at
    by_length true q = rw (drop-cons l at 0 (ltb-true at (length l) q)) (rw e)
    by_length false q = rw (drop_of_length-le l (ltb-false at (length l) q))

module _ (l : List ℕ) (at w : ℕ) where
  moved_wrong : (d : Result ℕ ℕ) (j : ℕ) → moved (at + 1) d ≡ Err j → (i : ℕ) × (d ≡ Err i) × (at + 1 + i ≡ j)
  moved_wrong (Ok n) j e = absurd (let z : ◌≡◌ {A = ℕ} 0 1 = cc in omega arith)
  moved_wrong (Err i) j e = (i, refl, cc)

  moved_value : (d : Result ℕ ℕ) (n : ℕ) → moved (at + 1) d ≡ Ok n → d ≡ Ok n
  moved_value (Ok m) n e = cc
  moved_value (Err i) n e = absurd (let z : ◌≡◌ {A = ℕ} 0 1 = cc in omega arith)

  figure_wrong : (ks : List Column) (j : ℕ) → at ≤ length l → figure_read l at w ≡ Err j
      → (figure_of l at w ≡ None) × (wrong_from at (space ∷ (digits_expected w ++ figures_expected ks)) (drop at l) ≡ offset j)
  unfolding figure_read figure_of digits_read
  figure_wrong ks j h e =
      by_cond (eqb (get_or l at 0) 32) e
      (λ t k.
      let m = moved_wrong (digits_read w (field_of l at)) j k in
      let d = judged_wrong (digits_of w (field_of l at)) (wrong_from 0 (digits_expected w) (field_of l at)) m.0 (agree_by 0 0 w (field_of l at)) m.1 in
      let n : at + 1 + 0 ≡ at + 1 = omega arith in
      let p : wrong_from (at + 1) (digits_expected w) (field_of l at) ≡ offset j = rw n at (shift (at + 1) 0 (digits_expected w) (field_of l at)) ∙ ap (shifted (at + 1)) d.1 ∙ ap offset m.2 in
      (rw (t, d.0), space_then l at _ (eqb-true _ _ t) ∙ field_wrong w (at + 1) (drop (at + 1) l) ks j p))
      (λ t k. (rw t, space_missing l at _ h t ∙ (let z : at ≡ j = cc in ap offset z)))

  figure_value : (n : ℕ) → figure_read l at w ≡ Ok n
      → (figure_of l at w ≡ Some n) × (at + (1 + w) ≤ length l) × ((es : List Expected) → wrong_from at (space ∷ (digits_expected w ++ es)) (drop at l) ≡ wrong_from (at + (1 + w)) es (drop (at + (1 + w)) l))
  unfolding figure_read figure_of digits_read
  figure_value n e =
      by_cond (eqb (get_or l at 0) 32) e
      (λ t k.
      let d = judged_value (digits_of w (field_of l at)) (wrong_from 0 (digits_expected w) (field_of l at)) n (agree_by 0 0 w (field_of l at)) (moved_value (digits_read w (field_of l at)) n k) in
      let z : at + 1 + 0 ≡ at + 1 = omega arith in
      let p : wrong_from (at + 1) (digits_expected w) (field_of l at) ≡ nowhere = rw z at (shift (at + 1) 0 (digits_expected w) (field_of l at)) ∙ ap (shifted (at + 1)) d.1 in
      let r = field_right w (at + 1) (drop (at + 1) l) in
      let s = spaced l at (eqb-true _ _ t) in
      let next : at + 1 + w ≡ at + (1 + w) = omega arith in
      let one : w + (at + 1) ≡ at + (1 + w) = omega arith in (
        rw (t, d.0),
        omega (arith, (r [] p).1, length-drop (at + 1) l),
        λ es. space_then l at _ (eqb-true _ _ t) ∙ (r es p).0 ∙ rw (next, drop-drop w (at + 1) l, next),
      ))
      (λ t k. absurd (let z : ◌≡◌ {A = ℕ} 0 1 = cc in omega arith))

-- ---- all figures of a row

-- what the walk comes to, beside the definitions of number and place
abbrev pub Walks : List Column → List ℕ → ℕ → Result (List ℕ) ℕ → Type 0
Walks ks l at (Ok ns) = (wrong_from at (figures_expected ks) (drop at l) ≡ nowhere) × (numbers_at text_road ks l at ≡ are ns) × (length l ≡ at + total (λ k. text_road.width k.kind) ks)
Walks ks l at (Err i) = (wrong_from at (figures_expected ks) (drop at l) ≡ offset i) × (length l ≡ at + total (λ k. text_road.width k.kind) ks → numbers_at text_road ks l at ≡ none)

end_walks : (l : List ℕ) (at : ℕ) → at ≤ length l → Walks [] l at (walk [] l at)
unfolding wrong_from
end_walks l at h = by_length (eqb (length l) at) refl
  where
    by_length : (t : Bool) → eqb (length l) at ≡ t → Walks [] l at (cond t (Ok []) (Err at))
    by_length true q =
        let e = eqb-true (length l) at q in
        (rw (drop_of_length-le l {i = at} (omega (arith, e))), refl, omega (arith, e))
    by_length false q = (rw (drop-cons l at 0 (omega (arith, eqb-false (length l) at q))), λ e. absurd (eqb-false (length l) at q (omega (arith, e))))

step_walks : (k : Column) (ks : List Column) (l : List ℕ) (at : ℕ) → at ≤ length l → (d : Result ℕ ℕ) → figure_read l at (digits k.kind) ≡ d
    → (rest : Result (List ℕ) ℕ) → (at + (1 + digits k.kind) ≤ length l → Walks ks l (at + (1 + digits k.kind)) rest)
    → Walks (k ∷ ks) l at (onward d rest)
step_walks k ks l at h (Err i) e rest more =
    let f = figure_wrong l at (digits k.kind) ks i h e in
    (f.1, λ n. rw f.0)
step_walks k ks l at h (Ok n) e (Err i) more =
    let f = figure_value l at (digits k.kind) n e in
    let m = more f.1 in
    (f.2 (figures_expected ks) ∙ m.0, λ z. rw (f.0, m.1 (omega (arith, z))))
step_walks k ks l at h (Ok n) e (Ok ns) more =
    let f = figure_value l at (digits k.kind) n e in
    let m = more f.1 in
    (f.2 (figures_expected ks) ∙ m.0, rw (f.0, m.1), omega (arith, m.2))

pub walks : (ks : List Column) (l : List ℕ) (at : ℕ) → at ≤ length l → Walks ks l at (walk ks l at)
walks [] l at h = end_walks l at h
walks (k ∷ ks) l at h = step_walks k ks l at h (figure_read l at (digits k.kind)) refl (walk ks l (at + (1 + digits k.kind))) (λ m. walks ks l (at + (1 + digits k.kind)) m)

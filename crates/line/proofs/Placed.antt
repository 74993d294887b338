-- Number and place go together: a line is a syntax error exactly where it has the place of one, and figures are out of range exactly where they have the place of a 9. Both places lie behind the five letters and within the line. Assumes nothing.
use Rattle.std.specs.Prelude.{Err, None, Ok, Option, Some, Result}
use Prim.Native.Nat.{ℕ, ◌+◌, ◌-◌, ◌≤◌, ◌<◌}
use mathlib.Core.Path.{◌≡◌, refl, sym, ap, ◌∙◌}
use mathlib.Core.Logic.{◌↔◌}
use mathlib.Core.Bool.{Bool, true, false, cond, ◌&&◌, ◌||◌}
use mathlib.Core.List.{List, [], ◌∷◌, ◌++◌, append_assoc, append-nil}
use native.Mathlib.Omega.{arith}
use lib.ListN.{length, drop, take, get_or, length-drop, length-append, drop_of_length-le}
use lib.Seq.{drop-cons, drop-append_seam, drop-drop, get_or-drop, get_or-append_seam}
use lib.Dec.{ltb, eqb}
use borrow.Author.Tests.{ltb-true, ltb-false, le-ltb, eq-eqb, ne_eqb, eqb-true, eqb-false}
use Rattle.zone.specs.declared.figures.Group.{Group}
use Rattle.zone.specs.declared.figures.Group.TheVariants.{Ahue, Hzbg, Rrue, Solw}
use Rattle.zone.specs.declared.figures.Figures.{Figures}
use Rattle.zone.specs.declared.figures.WindowFigures.{WindowFigures}
use Rattle.zone.specs.declared.figures.Figures.TheVariants.{AhueDeadline, AhueWindow, HzbgLimit, RrueReference, SolwSetpoint}
use Rattle.zone.specs.declared.figures.Command.TheVariants.{Read, Write}
use Rattle.zone.specs.Table.{Kind, flag, limit, time, digits, setpoint, Form, deadline, window, hzbg, rrue, solw, layout, forms_of, name}
use Rattle.zone.specs.Lists.{every, total}
use Rattle.zone.specs.Figures.{Entry, group_of, made, entries_of, fits, each_in_range, opens, in_range}
use Rattle.zone.proofs.Tests.{never}
use Rattle.wire.specs.Road.{entry_bytes, in_order, figure_bytes, length_of, none, numbers_at, form_read, write_read, command_read, Parsed}
use Rattle.wire.proofs.Choices.{by_cond}
use Rattle.line.specs.declared.reading.Reading.{Reading}
use Rattle.line.specs.Line.{digits_for, L, S, text_road, line_of, group_named, named_read, line_read}
use Rattle.line.specs.Places.{Place, nowhere, offset, told, Expected, wrong_from, figures_expected, form_for, meets, expected_as, wrong_as, named_wrong, wrong_in, out_from, end_offset, out_of, named_expects, expected_in}
use Rattle.line.specs.Rules.{SyntaxHasPlace, SyntaxPlaceWithin, RangeHasPlace, BehindSpace, RangePlaceWithin, EndPlaced, ExpectedThere}
use Rattle.line.specs.Inner.{walk, made_by, form_walked, write_walked}
use Rattle.line.proofs.DigitRule.{digits_length}
use Rattle.line.proofs.Round.{line_only}
use Rattle.line.proofs.PlaceLaws.{no_place, Walks, walks}
use Rattle.wire.specs.declared.Misread.TheVariants.{Syntax, Unknown}

-- ---- a syntax error has a place, and nothing else has

abbrev Together : Parsed → Place → Type 0
Together (Ok c) nowhere = Unit {0}
Together (Ok c) (offset i) = ⊥
Together (Err Unknown) nowhere = Unit {0}
Together (Err Unknown) (offset i) = ⊥
Together (Err Syntax) nowhere = ⊥
Together (Err Syntax) (offset i) = Unit {0}

-- what the code reads, beside what the definitions say
pub record Placed (r : Reading) (parsed : Parsed) (place : Place) : Type 0 where
  pub reading : r ≡ record { parsed = parsed; place = told place }
  pub together : Together parsed place

-- a form that has not the line's length, or is found to have no numbers, is not read
not_read : (form : Form) (l : List ℕ) → (length l ≡ length_of text_road form → numbers_at text_road (layout form).columns l 5 ≡ none) → cond (eqb (length l) (length_of text_road form)) (form_read text_road form l) (Err Syntax) ≡ Err Syntax
unfolding form_read
not_read form l h = by_length (eqb (length l) (length_of text_road form)) refl
  where
    by_length : (t : Bool) → eqb (length l) (length_of text_road form) ≡ t → cond t (form_read text_road form l) (Err Syntax) ≡ Err Syntax
    by_length true q = rw (h (eqb-true _ _ q))
    by_length false q = refl

write_not : (g : Group) (l : List ℕ) → (length l ≡ length_of text_road (form_for g (length l)) → numbers_at text_road (layout (form_for g (length l))).columns l 5 ≡ none) → write_read text_road (forms_of g) l ≡ Err Syntax
unfolding write_read
write_not Ahue l h = by_window (ltb 19 (length l)) refl h
  where
    by_window : (t : Bool) → ltb 19 (length l) ≡ t
        → (length l ≡ length_of text_road (cond t window deadline) → numbers_at text_road (layout (cond t window deadline)).columns l 5 ≡ none)
        → write_read text_road (forms_of Ahue) l ≡ Err Syntax
    by_window true q h = rw (ne_eqb (length l) 19 (λ e. omega (arith, ltb-true 19 (length l) q, e))) (not_read window l h)
    by_window false q h = rw (ne_eqb (length l) 23 (λ e. omega (arith, ltb-false 19 (length l) q, e))) (not_read deadline l h)
write_not Hzbg l h = not_read hzbg l h
write_not Rrue l h = not_read rrue l h
write_not Solw l h = not_read solw l h

write_all : (g : Group) (l : List ℕ) → length l ≡ length_of text_road (form_for g (length l)) → write_read text_road (forms_of g) l ≡ form_read text_road (form_for g (length l)) l
unfolding write_read
write_all Ahue l e = by_window (ltb 19 (length l)) refl e
  where
    by_window : (t : Bool) → ltb 19 (length l) ≡ t → length l ≡ length_of text_road (cond t window deadline)
        → write_read text_road (forms_of Ahue) l ≡ form_read text_road (cond t window deadline) l
    by_window true q e = rw (ne_eqb (length l) 19 (λ z. omega (arith, z, e)), eq-eqb (length l) 23 e)
    by_window false q e = rw (eq-eqb (length l) 19 e)
write_all Hzbg l e = rw (eq-eqb (length l) 9 e)
write_all Rrue l e = rw (eq-eqb (length l) 15 e)
write_all Solw l e = rw (eq-eqb (length l) 9 e)

pub write_placed : (g : Group) (l : List ℕ) → 5 ≤ length l
    → Placed (write_walked (form_walked (form_for g (length l)) l)) (write_read text_road (forms_of g) l) (wrong_from 5 (figures_expected (layout (form_for g (length l))).columns) (drop 5 l))
unfolding form_walked form_read
write_placed g l h = by_walk (walk (layout (form_for g (length l))).columns l 5) (walks (layout (form_for g (length l))).columns l 5 h)
  where
    form : Form
    form = form_for g (length l)

    by_walk : (w : Result (List ℕ) ℕ) → Walks (layout form).columns l 5 w → Placed (write_walked (made_by form w)) (write_read text_road (forms_of g) l) (wrong_from 5 (figures_expected (layout form).columns) (drop 5 l))
    by_walk (Ok ns) k =
        let e : write_read text_road (forms_of g) l ≡ Ok (Write (made form ns)) = write_all g l k.2 ∙ rw k.1 in
        rw (e, k.0) (record { reading = refl; together = tt })
    by_walk (Err i) k = rw (write_not g l k.1, k.0) (record { reading = refl; together = tt })

-- a read: nothing is expected behind its five letters
pub read_whole : (l : List ℕ) → length l ≡ 5 → wrong_from 5 [] (drop 5 l) ≡ nowhere
unfolding wrong_from
read_whole l e = rw (drop_of_length-le l {i = 5} (omega (arith, e)))

pub read_surplus : (l : List ℕ) → 5 ≤ length l → (length l ≡ 5 → ⊥) → wrong_from 5 [] (drop 5 l) ≡ offset 5
unfolding wrong_from
read_surplus l h u = rw (drop-cons l 5 0 (omega (arith, u)))

-- ---- so for every line

as_together : (letter : ℕ) (g : Group) (l : List ℕ) → 5 ≤ length l → Together (command_read text_road letter g l) (wrong_as letter g l)
as_together letter g l long = by_letter (eqb letter L) (eqb letter S)
  where
    by_length : (t : Bool) → eqb (length l) 5 ≡ t → Together (cond t (Ok (Read g)) (Err Syntax)) (wrong_from 5 [] (drop 5 l))
    by_length true q = rw (read_whole l (eqb-true _ _ q)) tt
    by_length false q = rw (read_surplus l long (eqb-false _ _ q)) tt

    by_letter : (t u : Bool)
        → Together (cond t (cond (eqb (length l) 5) (Ok (Read g)) (Err Syntax)) (cond u (write_read text_road (forms_of g) l) (Err Unknown)))
        (cond (t || u) (wrong_from 5 (cond t [] (figures_expected (layout (form_for g (length l))).columns)) (drop 5 l)) nowhere)
    by_letter true u = by_length (eqb (length l) 5) refl
    by_letter false true = (write_placed g l long).together
    by_letter false false = tt

named_together : (n : Option Group) (l : List ℕ) → 5 ≤ length l → Together (named_read n l) (named_wrong n l)
named_together None l long = tt
named_together (Some g) l long = as_together (get_or l 0 0) g l long

together : (l : List ℕ) → Together (line_read l) (wrong_in l)
unfolding line_read wrong_in
together l = by_length (ltb (length l) 5) refl
  where
    by_length : (t : Bool) → ltb (length l) 5 ≡ t → Together (cond t (Err Unknown) (named_read (group_named (take 4 (drop 1 l))) l)) (cond t nowhere (named_wrong (group_named (take 4 (drop 1 l))) l))
    by_length true q = tt
    by_length false q = named_together (group_named (take 4 (drop 1 l))) l (ltb-false _ _ q)

pub syntax_has_place : SyntaxHasPlace
syntax_has_place l = (to (line_read l) (wrong_in l) (together l), from (line_read l) (wrong_in l) (together l))
  where
    to : (r : Parsed) (p : Place) → Together r p → r ≡ Err Syntax → (n : ℕ) × (p ≡ offset n)
    to (Ok c) p t e = absurd (let z : ◌≡◌ {A = ℕ} 0 1 = cc in omega arith)
    to (Err Unknown) p t e = absurd (let z : ◌≡◌ {A = ℕ} 0 1 = cc in omega arith)
    to (Err Syntax) nowhere t e = absurd t
    to (Err Syntax) (offset n) t e = (n, refl)

    from : (r : Parsed) (p : Place) → Together r p → (n : ℕ) × (p ≡ offset n) → r ≡ Err Syntax
    from (Ok c) nowhere t e = no_place e.1
    from (Ok c) (offset n) t e = absurd t
    from (Err Unknown) nowhere t e = no_place e.1
    from (Err Unknown) (offset n) t e = absurd t
    from (Err Syntax) p t e = refl

-- ---- within the line, behind its five letters

from_within : (i : ℕ) (es : List Expected) (l : List ℕ) (n : ℕ) → wrong_from i es l ≡ offset n → (i ≤ n) × (n ≤ i + length l)
unfolding wrong_from
from_within i [] [] n e = no_place e
from_within i [] (x ∷ l) n e = let z : i ≡ n = cc in (omega arith, omega arith)
from_within i (x ∷ es) [] n e = let z : i ≡ n = cc in (omega arith, omega arith)
from_within i (x ∷ es) (y ∷ l) n e =
    by_cond (meets x y) e
    (λ t k. let w = from_within (i + 1) es l n k in (omega (arith, w.0), omega (arith, w.1)))
    (λ t k. let z : i ≡ n = cc in (omega arith, omega arith))

behind_within : (es : List Expected) (l : List ℕ) (n : ℕ) → 5 ≤ length l → wrong_from 5 es (drop 5 l) ≡ offset n → (5 ≤ n) × (n ≤ length l)
behind_within es l n long e =
    let w = from_within 5 es (drop 5 l) n e in
    (w.0, omega (arith, w.1, length-drop 5 l))

named_within : (g : Option Group) (l : List ℕ) (n : ℕ) → 5 ≤ length l → named_wrong g l ≡ offset n → (5 ≤ n) × (n ≤ length l)
named_within None l n long e = no_place e
named_within (Some g) l n long e =
    by_cond (eqb (get_or l 0 0) L || eqb (get_or l 0 0) S) e
    (λ t k. behind_within (expected_as (get_or l 0 0) g (length l)) l n long k)
    (λ t k. no_place k)

pub syntax_place_within : SyntaxPlaceWithin
unfolding wrong_in
syntax_place_within l n e =
    by_cond (ltb (length l) 5) e
    (λ t k. no_place k)
    (λ t k. named_within (group_named (take 4 (drop 1 l))) l n (ltb-false _ _ t) k)

-- ---- figures out of range

out_when : (range i : ℕ) (es : List Entry) → (every (fits range) es ≡ false) ↔ ((n : ℕ) × (out_from range i es ≡ offset n))
unfolding out_from
out_when range i [] = ((λ e. absurd (let z : ◌≡◌ {A = ℕ} 0 1 = cc in omega arith)), (λ p. no_place p.1))
out_when range i (e ∷ es) = by_fit (fits range e) (out_when range (i + text_road.width e.column.kind) es)
  where
    by_fit : (t : Bool) → (every (fits range) es ≡ false) ↔ ((n : ℕ) × (out_from range (i + text_road.width e.column.kind) es ≡ offset n))
        → ((t && every (fits range) es) ≡ false) ↔ ((n : ℕ) × (cond t (out_from range (i + text_road.width e.column.kind) es) (offset (i + 1)) ≡ offset n))
    by_fit true more = more
    by_fit false more = ((λ z. (i + 1, refl)), (λ p. refl))

pub range_has_place : RangeHasPlace
unfolding in_range each_in_range out_of
range_has_place range figures = by_tests (every (fits range) (entries_of figures)) (opens figures) (out_when range 5 (entries_of figures))
  where
    by_tests : (t u : Bool) → (t ≡ false) ↔ ((n : ℕ) × (out_from range 5 (entries_of figures) ≡ offset n))
        → ((t && u) ≡ false) ↔ ((n : ℕ) × (cond t (cond u nowhere (offset end_offset)) (out_from range 5 (entries_of figures)) ≡ offset n))
    by_tests false u own = own
    by_tests true true own = ((λ e. never (sym e)), (λ p. no_place p.1))
    by_tests true false own = ((λ e. (end_offset, refl)), (λ p. refl))

out_within : (range i : ℕ) (es : List Entry) (n : ℕ) → out_from range i es ≡ offset n → (i < n) × (n < i + total (λ e. text_road.width e.column.kind) es)
unfolding out_from
out_within range i [] n e = no_place e
out_within range i (e ∷ es) n h =
    by_cond (fits range e) h
    (λ t k. let w = out_within range (i + text_road.width e.column.kind) es n k in (omega (arith, w.0), omega (arith, w.1)))
    (λ t k. let z : i + 1 ≡ n = cc in (omega arith, wide e.column.kind z))
  where
    wide : (k : Kind) → i + 1 ≡ n → n < i + (text_road.width k + total (λ e. text_road.width e.column.kind) es)
    wide flag z = omega arith
    wide limit z = omega arith
    wide time z = omega arith

in_order_length : (es : List Entry) → length (in_order text_road es) ≡ total (λ e. text_road.width e.column.kind) es
in_order_length [] = refl
in_order_length (e ∷ es) =
    rw (length-append (entry_bytes text_road e) (in_order text_road es), digits_length (digits e.column.kind) e.number, in_order_length es) (omega arith)

write_length : (figures : Figures) → length (line_of (Write figures)) ≡ 5 + total (λ e. text_road.width e.column.kind) (entries_of figures)
unfolding line_of
write_length figures = by_group (group_of figures) (figure_bytes text_road figures) ∙ ap (λ (n : ℕ). 5 + n) (in_order_length (entries_of figures))
  where
    by_group : (g : Group) (l : List ℕ) → length (S ∷ (name g ++ l)) ≡ 5 + length l
    by_group Ahue l = omega arith
    by_group Hzbg l = omega arith
    by_group Rrue l = omega arith
    by_group Solw l = omega arith

-- each figure's bytes begin with a space, at which the walk stands before it
space_before : (range : ℕ) (pre : List ℕ) (es : List Entry) (n : ℕ) → out_from range (length pre) es ≡ offset n → get_or (pre ++ in_order text_road es) (n - 1) 0 ≡ 32
unfolding out_from
space_before range pre [] n h = no_place h
space_before range pre (e ∷ es) n h =
    by_cond (fits range e) h
    (λ t k.
    let l : length (pre ++ entry_bytes text_road e) ≡ length pre + text_road.width e.column.kind = rw (length-append, digits_length (digits e.column.kind) e.number) (omega arith) in
    rw (append_assoc pre (entry_bytes text_road e) (in_order text_road es)) at (space_before range (pre ++ entry_bytes text_road e) es n (ap (λ (i : ℕ). out_from range i es) l ∙ k)))
    (λ t k.
    let z : length pre + 1 ≡ n = cc in
    let m : n - 1 ≡ length pre = omega (arith, z) in
    rw m (get_or-append_seam pre 32 (digits_for (digits e.column.kind) e.number ++ in_order text_road es) 0))

write_space : (range : ℕ) (figures : Figures) (n : ℕ) → out_from range 5 (entries_of figures) ≡ offset n → get_or (line_of (Write figures)) (n - 1) 0 ≡ 32
unfolding line_of
write_space range figures n h = space_before range (S ∷ name (group_of figures)) (entries_of figures) n (by_group (group_of figures) h)
  where
    by_group : (g : Group) → out_from range 5 (entries_of figures) ≡ offset n → out_from range (length (S ∷ name g)) (entries_of figures) ≡ offset n
    by_group Ahue k = k
    by_group Hzbg k = k
    by_group Rrue k = k
    by_group Solw k = k

-- the last figure of a row ends the line
last_figure : (pre : List ℕ) (es : List Entry) (e : Entry) → drop (length pre + total (λ e. text_road.width e.column.kind) es) (pre ++ in_order text_road (es ++ (e ∷ []))) ≡ entry_bytes text_road e
last_figure pre [] e =
    let m : length pre + 0 ≡ length pre = omega arith in
    rw (m, append-nil (entry_bytes text_road e)) (drop-append_seam pre (entry_bytes text_road e))
last_figure pre (x ∷ es) e =
    let l : length (pre ++ entry_bytes text_road x) ≡ length pre + text_road.width x.column.kind = rw (length-append, digits_length (digits x.column.kind) x.number) (omega arith) in
    let m : length pre + (text_road.width x.column.kind + total (λ e. text_road.width e.column.kind) es) ≡ length (pre ++ entry_bytes text_road x) + total (λ e. text_road.width e.column.kind) es = omega (arith, l) in
    rw (m, ← append_assoc pre (entry_bytes text_road x) (in_order text_road (es ++ (e ∷ [])))) (last_figure (pre ++ entry_bytes text_road x) es e)

-- so a window's end does, behind its space
window_end : (f : WindowFigures) → drop 19 (line_of (Write (AhueWindow f))) ≡ 32 ∷ digits_for 3 f.end
unfolding line_of
window_end f = last_figure (S ∷ name Ahue) (take 4 (entries_of (AhueWindow f))) (get_or (entries_of (AhueWindow f)) 4 (record { column = setpoint; number = 0 }))

pub end_placed : EndPlaced
unfolding out_of
end_placed range f e h = record {
  place = rw (e, le-ltb f.begin f.end h);
  its_digits = sym (drop-drop 1 19 (line_of (Write (AhueWindow f)))) ∙ ap (drop 1) (window_end f);
}

-- where a row breaks its rule it is a window, whose end is the last figure
end_within : (figures : Figures) → opens figures ≡ false → BehindSpace (line_of (Write figures)) end_offset
end_within (AhueWindow f) e = record {
  behind_letters = omega arith;
  within_line = omega (arith, write_length (AhueWindow f));
  space_before = sym (get_or-drop 19 (line_of (Write (AhueWindow f))) 0 0) ∙ ap (λ (k : List ℕ). get_or k 0 0) (window_end f);
}
end_within (AhueDeadline f) e = never (sym e)
end_within (HzbgLimit f) e = never (sym e)
end_within (RrueReference f) e = never (sym e)
end_within (SolwSetpoint f) e = never (sym e)

figure_within : (range : ℕ) (figures : Figures) (n : ℕ) → out_from range 5 (entries_of figures) ≡ offset n → BehindSpace (line_of (Write figures)) n
figure_within range figures n o =
    let w = out_within range 5 (entries_of figures) n o in
    record { behind_letters = w.0; within_line = omega (arith, w.1, write_length figures); space_before = write_space range figures n o }

write_within : (range : ℕ) (figures : Figures) (n : ℕ) → out_of range figures ≡ offset n → BehindSpace (line_of (Write figures)) n
unfolding out_of
write_within range figures n o =
    by_cond (each_in_range range figures) o
    (λ t k.
    by_cond (opens figures) k
    (λ u h. no_place h)
    (λ u h.
    let m : end_offset ≡ n = cc in
    rw (← m) (end_within figures u)))
    (λ t k. figure_within range figures n k)

pub range_place_within : RangePlaceWithin
range_place_within l range figures n e o = rw (line_only l (Write figures) e).line_is (write_within range figures n o)

-- ---- what is expected in a wrong line

named_expected : (g : Option Group) (l : List ℕ) (n : ℕ) → named_wrong g l ≡ offset n → wrong_from 5 (named_expects g l) (drop 5 l) ≡ offset n
named_expected None l n e = no_place e
named_expected (Some g) l n e = by_cond (eqb (get_or l 0 0) L || eqb (get_or l 0 0) S) e (λ t k. k) (λ t k. no_place k)

pub expected_there : ExpectedThere
unfolding wrong_in expected_in
expected_there l n e =
    by_cond (ltb (length l) 5) e
    (λ t k. no_place k)
    (λ t k. rw t (named_expected (group_named (take 4 (drop 1 l))) l n k))

-- What the place of an answer says of its line. Assumes nothing.
use Rattle.std.specs.Prelude.{Err, Ok}
use Prim.Native.Nat.{ℕ, ◌≤◌, ◌<◌}
use mathlib.Core.Path.{◌≡◌, refl, ap, ◌∙◌}
use mathlib.Core.Bool.{Bool, true, false, cond, not}
use mathlib.Core.List.{List}
use native.Mathlib.Omega.{arith}
use lib.ListN.{length}
use lib.Dec.{eqb}
use borrow.Author.Tests.{le-ltb, ne_eqb, not-true, eqb-true, eqb-false}
use Rattle.zone.specs.declared.figures.Figures.{Figures}
use Rattle.zone.specs.declared.figures.Command.TheVariants.{Read, Write}
use Rattle.zone.specs.Figures.{group_of, in_range}
use Rattle.zone.specs.Zones.{locks}
use Rattle.card.specs.declared.records.Record.{Record}
use Rattle.card.specs.Refusals.{first}
use Rattle.card.specs.Records.{zone_at, sound, no_zone}
use Rattle.line.specs.Line.{line_read}
use Rattle.line.specs.Places.{told, offset, wrong_in, out_of, out_in}
use Rattle.line.specs.Rules.{BehindSpace}
use Rattle.line.proofs.Placed.{syntax_has_place, syntax_place_within, range_has_place, range_place_within}
use Rattle.roads.specs.Calls.{too_small, parsed_rows, text_result, answer_text, place_by, text_place}
use Rattle.roads.specs.Rules.{PlaceGiven, PlaceTold}
use Rattle.wire.specs.declared.Misread.TheVariants.{Syntax, Unknown}
use Rattle.wire.specs.Road.{Parsed}

-- a number behind the rows of 1, 2 and 3
behind_three : (a b c : Bool) (rest n : ℕ) → 3 < n → cond a 1 (cond b 2 (cond c 3 rest)) ≡ n → rest ≡ n
behind_three true b c rest n h e = absurd (omega (arith, h, e))
behind_three false true c rest n h e = absurd (omega (arith, h, e))
behind_three false false true rest n h e = absurd (omega (arith, h, e))
behind_three false false false rest n h e = e

module _ (r : Record) (n : ℕ) (line room : List ℕ) where
  abbrev rest : Parsed → ℕ
  rest p = first (parsed_rows (zone_at r n) p)

  given : (m : ℕ) → 3 < m → (text_result r n line room).number ≡ m → rest (line_read line) ≡ m
  given m h e = behind_three (too_small room) (not (sound r)) (no_zone r n) (rest (line_read line)) m h e

  two : (t u : Bool) → ◌≡◌ {A = ℕ} (cond t 9 (cond u 10 0)) 8 → ⊥
  two true u e = omega (arith, e)
  two false true e = omega (arith, e)
  two false false e = omega (arith, e)

  nine_of : (t u : Bool) → ◌≡◌ {A = ℕ} (cond t 9 (cond u 10 0)) 9 → t ≡ true
  nine_of true u e = refl
  nine_of false true e = absurd (omega (arith, e))
  nine_of false false e = absurd (omega (arith, e))

  -- 8 is given to a syntax error alone, and 9 to a write whose figures are out of range
  eight_read : (p : Parsed) → rest p ≡ 8 → p ≡ Err Syntax
  eight_read (Ok (Read g)) e = absurd (omega (arith, e))
  eight_read (Ok (Write f)) e = absurd (two (not (in_range (zone_at r n).range f)) (locks (zone_at r n).status.state (group_of f)) e)
  eight_read (Err Unknown) e = absurd (omega (arith, e))
  eight_read (Err Syntax) e = refl

  nine_read : (p : Parsed) → rest p ≡ 9 → (f : Figures) × (p ≡ Ok (Write f)) × (in_range (zone_at r n).range f ≡ false)
  nine_read (Ok (Read g)) e = absurd (omega (arith, e))
  nine_read (Ok (Write f)) e = (f, refl, not-true _ (nine_of (not (in_range (zone_at r n).range f)) (locks (zone_at r n).status.state (group_of f)) e))
  nine_read (Err Unknown) e = absurd (omega (arith, e))
  nine_read (Err Syntax) e = absurd (omega (arith, e))

pub place_given : PlaceGiven
unfolding text_place answer_text
place_given r n line room = record { eight = eight; nine = nine; others = others }
  where
    number : ℕ
    number = (text_result r n line room).number

    range : ℕ
    range = (zone_at r n).range

    eight : number ≡ 8 → (wrong_in line ≡ offset (place_by number range line)) × (5 ≤ place_by number range line) × (place_by number range line ≤ length line)
    eight e =
        let p = (syntax_has_place line).0 (eight_read r n line room (line_read line) (given r n line room 8 (omega arith) e)) in
        let w = syntax_place_within line p.0 p.1 in
        let q : place_by number range line ≡ p.0 = ap (λ (m : ℕ). place_by m range line) e ∙ ap told p.1 in
        rw q (p.1, w.0, w.1)

    nine : number ≡ 9 → (figures : Figures) × (line_read line ≡ Ok (Write figures)) × (out_of range figures ≡ offset (place_by number range line)) × BehindSpace line (place_by number range line)
    nine e =
        let k = nine_read r n line room (line_read line) (given r n line room 9 (omega arith) e) in
        let f = k.0 in
        let p = (range_has_place range f).0 k.2 in
        let q : place_by number range line ≡ p.0 = ap (λ (m : ℕ). place_by m range line) e ∙ ap (λ (x : Parsed). told (out_in range x)) k.1 ∙ ap told p.1 in
        (f, k.1, rw q p.1, rw q (range_place_within line range f p.0 k.1 p.1))

    others : (number ≡ 8 → ⊥) → (number ≡ 9 → ⊥) → place_by number range line ≡ 0
    others u v = rw (ne_eqb number 8 u, ne_eqb number 9 v)

-- so no place is behind the line's end
pub place_below : (r : Record) (n : ℕ) (line room : List ℕ) → text_place r n line room ≤ length line
place_below r n line room = by_number (eqb (answer_text r n line room).said.number 8) (eqb (answer_text r n line room).said.number 9) refl refl
  where
    by_number : (t u : Bool) → eqb (answer_text r n line room).said.number 8 ≡ t → eqb (answer_text r n line room).said.number 9 ≡ u → text_place r n line room ≤ length line
    by_number true u e h = ((place_given r n line room).eight (eqb-true _ _ e)).2
    by_number false true e h = omega (arith, ((place_given r n line room).nine (eqb-true _ _ h)).3.within_line)
    by_number false false e h = omega (arith, (place_given r n line room).others (eqb-false _ _ e) (eqb-false _ _ h))

pub place_told : PlaceTold
unfolding text_place answer_text
place_told r n line room p big s z = record { eight = eight; nine = nine }
  where
    number : ℕ
    number = (text_result r n line room).number

    eight : wrong_in line ≡ offset p → (number ≡ 8) × (place_by number (zone_at r n).range line ≡ p)
    eight e =
        let is = (syntax_has_place line).1 (p, e) in
        let given : number ≡ 8 = rw (le-ltb (length room) 32 big, s, z, is) in
        (given, ap (λ (m : ℕ). place_by m (zone_at r n).range line) given ∙ ap told e)

    nine : (figures : Figures) → line_read line ≡ Ok (Write figures) → out_of (zone_at r n).range figures ≡ offset p → (number ≡ 9) × (place_by number (zone_at r n).range line ≡ p)
    nine f is e =
        let out = (range_has_place (zone_at r n).range f).1 (p, e) in
        let given : number ≡ 9 = rw (le-ltb (length room) 32 big, s, z, is, out) in
        (given, ap (λ (m : ℕ). place_by m (zone_at r n).range line) given ∙ ap (λ (x : Parsed). told (out_in (zone_at r n).range x)) is ∙ ap told e)

-- What came of loading a recipe is in the bounds that `say_loaded` asks for, whatever was loaded. Assumes nothing.
use Rattle.std.specs.Prelude.{Err, None, Ok, Option, Some}
use Prim.Native.Nat.{ℕ, zero, suc, ◌+◌, ◌-◌, ◌*◌, ◌≤◌}
use mathlib.Core.Path.{◌≡◌, refl, ap}
use mathlib.Core.Bool.{Bool, true, false, cond, not, ◌||◌}
use mathlib.Core.List.{List, [], ◌∷◌, ◌++◌, map}
use native.Mathlib.Omega.{arith}
use lib.ListN.{length, take, drop, get_or, replicate, length-append, length-take, length-drop}
use lib.Dec.{ltb, eqb}
use borrow.Author.Tests.{ltb-false}
use Rattle.zone.specs.declared.figures.Group.{Group}
use Rattle.zone.specs.declared.figures.Group.TheVariants.{Ahue, Hzbg, Rrue, Solw}
use Rattle.zone.specs.declared.figures.Command.TheVariants.{Read, Write}
use Rattle.zone.specs.Lists.{is_zero, every, some}
use Rattle.zone.specs.Figures.{opens}
use Rattle.zone.specs.Inner.{five_fit}
use Rattle.zone.proofs.Tests.{neither}
use Rattle.card.specs.declared.records.Record.{Record}
use Rattle.card.specs.Records.{zone_at, sound}
use Rattle.line.specs.Line.{L, S, group_named, line_read}
use Rattle.line.specs.Places.{Place, nowhere, offset, told, Expected, meets, wrong_from, expected_as, named_wrong, wrong_in, out_in}
use Rattle.line.proofs.OutLaws.{first_out, out_told}
use Rattle.roads.specs.Acknowledgements.{text_reply}
use Rattle.roads.specs.Calls.{answer_text, text_place}
use Rattle.roads.proofs.Lengths.{text_fits}
use Rattle.texts.specs.Texts.{lines_of, Zoned, to, lacking, zoned}
use Rattle.texts.proofs.Parts.{by_test}
use Rattle.recipes.specs.Recipes.{lacks, Sending, sending_in, sendings, Sent, sent, in_turn, is_done, room_by, of_refused, one_more, refused_line, loaded_with, refused_with, tried_with, load_of}
use Rattle.saying.specs.Inner.{InBounds}
use Rattle.wire.specs.declared.Misread.TheVariants.{Syntax, Unknown}
use Rattle.wire.specs.Road.{Parsed}

-- ---- no place is behind the longest command

-- a choice between two that are no more than n
either : (t : Bool) (a b n : ℕ) → a ≤ n → b ≤ n → cond t a b ≤ n
either true a b n h k = h
either false a b n h k = k

chosen : (t : Bool) (p q : Place) (n : ℕ) → told p ≤ n → told q ≤ n → told (cond t p q) ≤ n
chosen true p q n h k = h
chosen false p q n h k = k

wrong_below : (i : ℕ) (es : List Expected) (l : List ℕ) → told (wrong_from i es l) ≤ i + length es
unfolding wrong_from
wrong_below i [] [] = omega arith
wrong_below i [] (x ∷ l) = omega arith
wrong_below i (e ∷ es) [] = omega arith
wrong_below i (e ∷ es) (x ∷ l) = chosen (meets e x) (wrong_from (i + 1) es l) (offset i) (i + suc (length es)) (omega (arith, wrong_below (i + 1) es l)) (omega arith)

few_expected : (letter : ℕ) (group : Group) (n : ℕ) → length (expected_as letter group n) ≤ 18
few_expected letter group n = by_test (eqb letter L) (λ e. rw e (omega arith)) (λ e. rw e (figures group))
  where
    figures : (g : Group) → length (expected_as 0 g n) ≤ 18
    figures Ahue = by_test (ltb 19 n) (λ e. rw e (omega arith)) (λ e. rw e (omega arith))
    figures Hzbg = omega arith
    figures Rrue = omega arith
    figures Solw = omega arith

wrong_place : (l : List ℕ) → told (wrong_in l) ≤ 23
unfolding wrong_in
wrong_place l = chosen (ltb (length l) 5) nowhere (named_wrong (group_named (take 4 (drop 1 l))) l) 23 (omega arith) (by_name (group_named (take 4 (drop 1 l))))
  where
    by_name : (n : Option Group) → told (named_wrong n l) ≤ 23
    by_name None = omega arith
    by_name (Some group) =
        let es = expected_as (get_or l 0 0) group (length l) in
        chosen (eqb (get_or l 0 0) L || eqb (get_or l 0 0) S) (wrong_from 5 es (drop 5 l)) nowhere 23 (omega (arith, wrong_below 5 es (drop 5 l), few_expected (get_or l 0 0) group (length l))) (omega arith)

first_out_lem : (fits : List Bool) (rule : Bool) → first_out fits rule ≤ 23
first_out_lem fits rule =
    either (get_or fits 0 false) _ 6 23
    (either (get_or fits 1 false) _ 8 23
    (either (get_or fits 2 false) _ 12 23
    (either (get_or fits 3 false) _ 16 23 (either (get_or fits 4 false) _ 20 23 (either rule 0 20 23 (omega arith) (omega arith)) (omega arith)) (omega arith))
    (omega arith))
    (omega arith))
    (omega arith)

out_place : (range : ℕ) (p : Parsed) → told (out_in range p) ≤ 23
out_place range (Ok (Write f)) = omega (arith, first_out_lem (five_fit range f) (opens f), out_told range f (five_fit range f) (opens f) refl refl)
out_place range (Ok (Read g)) = omega arith
out_place range (Err Unknown) = omega arith
out_place range (Err Syntax) = omega arith

pub place_small : (r : Record) (n : ℕ) (line room : List ℕ) → text_place r n line room ≤ 23
unfolding text_place
place_small r n line room =
    let m = (answer_text r n line room).said.number in
    let range = (zone_at r n).range in
    either (eqb m 8) (told (wrong_in line)) (cond (eqb m 9) (told (out_in range (line_read line))) 0) 23 (wrong_place line)
    (either (eqb m 9) (told (out_in range (line_read line))) 0 23 (out_place range (line_read line)) (omega arith))

-- ---- the lines in turn

few_sendings : (lines : List (List ℕ)) → length (sendings lines) ≤ length lines
few_sendings [] = omega arith
few_sendings (line ∷ lines) = by_zone (zoned line) (few_sendings lines)
  where
    by_zone : (z : Zoned) → length (sendings lines) ≤ length lines → length (sending_in z ++ sendings lines) ≤ suc (length lines)
    by_zone (to zone command) h = omega arith
    by_zone lacking h = omega arith

in_turn_as_many : (r : Record) (lines : List Sending) (room : List ℕ) → length (in_turn r lines room) ≡ length lines
unfolding in_turn
in_turn_as_many r [] room = refl
in_turn_as_many r (line ∷ lines) room = ap suc (in_turn_as_many (sent r line (take 32 room)).answered.after lines (drop 32 room))

zeros : (m k : ℕ) → get_or (replicate m 0) k 0 ≤ 32
zeros zero k = omega arith
zeros (suc m) zero = omega arith
zeros (suc m) (suc k) = zeros m k

replies_short : (r : Record) (lines : List Sending) (room : List ℕ) (m k : ℕ) → get_or (map (λ (one : Sent). one.answered.said.length) (in_turn r lines room) ++ replicate m 0) k 0 ≤ 32
unfolding in_turn answer_text
replies_short r [] room m k = zeros m k
replies_short r (line ∷ lines) room m zero = text_fits (answer_text r line.zone line.command (take 32 room)).said.number (answer_text r line.zone line.command (take 32 room)).said.values
replies_short r (line ∷ lines) room m (suc k) = replies_short (sent r line (take 32 room)).answered.after lines (drop 32 room) m k

one_more_lem : (n m : ℕ) → n ≤ m → one_more n ≤ suc m
one_more_lem zero m h = omega arith
one_more_lem (suc n) m h = omega arith

refused_within : (all : List Sent) → refused_line all ≤ length all
refused_within [] = omega arith
refused_within (one ∷ more) = either (is_done one) (one_more (refused_line more)) 1 (suc (length more)) (one_more_lem (refused_line more) (length more) (refused_within more)) (omega arith)

places_small : (r : Record) (lines : List Sending) (room : List ℕ) → of_refused (λ (one : Sent). one.place) 0 (in_turn r lines room) ≤ 23
unfolding in_turn
places_small r [] room = omega arith
places_small r (line ∷ lines) room =
    let one = sent r line (take 32 room) in
    either (is_done one) _ one.place 23 (places_small one.answered.after lines (drop 32 room)) (place_small r line.zone line.command (take 32 room))

-- the room has as many bytes as before, at least
room_kept : (r : Record) (lines : List Sending) (room : List ℕ) → length room ≤ length (room_by (in_turn r lines room) room)
unfolding in_turn answer_text
room_kept r [] room = omega arith
room_kept r (line ∷ lines) room =
    let one = sent r line (take 32 room) in
    let reply = text_reply one.answered.said.number one.answered.said.values in
    rw (length-append, length-append, length-drop) (omega (arith, room_kept one.answered.after lines (drop 32 room), length-take 32 room, length-drop 32 room))

-- ---- the call

module _ (r : Record) (recipe room : List ℕ) where
  abbrev lines : List (List ℕ)
  lines = lines_of recipe

  abbrev all : List Sent
  all = in_turn r (sendings lines) room

  -- refused before any line is tried
  early : (n : ℕ) → InBounds recipe (refused_with r room (suc n) 0 0)
  early n = record { few = λ e. absurd (omega (arith, e)); roomy = λ e. absurd (omega (arith, e)); short = zeros 64; line = omega arith; place = omega arith }

  tried : length lines ≤ 64 → 32 * length lines ≤ length room → (t : Bool)
      → InBounds recipe (cond t (loaded_with r room all) (refused_with r room (of_refused (λ (one : Sent). one.answered.said.number) 0 all) (refused_line all) (of_refused (λ (one : Sent). one.place) 0 all)))
  tried few roomy true = record {
    few = λ e. few;
    roomy = λ e. omega (arith, roomy, room_kept r (sendings lines) room);
    short = replies_short r (sendings lines) room (64 - length all);
    line = omega arith;
    place = omega arith;
  }
  tried few roomy false = record {
    few = λ e. few;
    roomy = λ e. roomy;
    short = zeros 64;
    line = omega (arith, few, refused_within all, in_turn_as_many r (sendings lines) room, few_sendings lines);
    place = places_small r (sendings lines) room;
  }

  by_form : (a b d : Bool) → ltb (length room) (32 * length lines) ≡ a → (ltb 64 (length lines) || some lacks lines) ≡ d
      → InBounds recipe (cond (is_zero (cond a 1 (cond b 2 (cond d 14 0)))) (tried_with r room all) (refused_with r room (cond a 1 (cond b 2 (cond d 14 0))) 0 0))
  by_form true b d p q = early 0
  by_form false true d p q = early 1
  by_form false false true p q = early 13
  by_form false false false p q = tried (ltb-false 64 (length lines) (neither (ltb 64 (length lines)) (some lacks lines) q).0) (ltb-false (length room) (32 * length lines) p) (every is_done all)

  pub loads_in_bounds : InBounds recipe (load_of r recipe room)
  unfolding load_of
  loads_in_bounds = by_form (ltb (length room) (32 * length lines)) (not (sound r)) (ltb 64 (length lines) || some lacks lines) refl refl

-- A line sent singly, to a sound record and with room of 32 bytes, comes to what is decided at its zone; and so for lines in turn. Assumes nothing.
use Rattle.std.specs.Prelude.{Err, Ok}
use Prim.Native.Nat.{ℕ, zero, suc, ◌+◌, ◌*◌, ◌≤◌}
use mathlib.Core.Path.{◌≡◌, refl, ap, ◌∙◌}
use mathlib.Core.Bool.{Bool, true, false, cond}
use mathlib.Core.List.{List, [], ◌∷◌, ◌++◌, map}
use native.Mathlib.Omega.{arith}
use lib.ListN.{length, take, drop, length-drop}
use lib.Seq.{length-take-le}
use borrow.Author.Tests.{le-ltb, eqb-false}
use Rattle.zone.specs.Lists.{is_zero, every}
use Rattle.zone.specs.declared.figures.Command.{Command}
use Rattle.card.specs.declared.records.Record.{Record}
use Rattle.card.specs.Answers.{Result}
use Rattle.card.specs.Refusals.{Row, ◌gives◌, first}
use Rattle.card.specs.Records.{zone_at, with_zone, sound, no_zone}
use Rattle.card.specs.Calls.{apply_of}
use Rattle.card.proofs.Inner.{same_zone}
use Rattle.card.proofs.Kept.{apply_keeps}
use Rattle.line.specs.Line.{line_read}
use Rattle.roads.specs.Calls.{Answered, parsed_rows, port_rows, result_at, text_result, in_text_reply, answer_text, place_by, text_place}
use Rattle.recipes.specs.Recipes.{Sending, Sent, in_turn, is_done, left_by, room_by, of_refused, one_more, refused_line}
use Rattle.recipes.specs.Inner.{port_result, port_place, Trying, behind, try_from, reply_of, replies_in}
use Rattle.wire.specs.declared.Misread.TheVariants.{Syntax, Unknown}
use Rattle.wire.specs.Road.{Parsed}

-- ---- one line

pub port_text : (r : Record) (line : Sending) (lent : List ℕ) → sound r ≡ true → 32 ≤ length lent → text_result r line.zone line.command lent ≡ port_result r line
port_text r line lent s h = rw (le-ltb (length lent) 32 h, s)

pub port_answer : (r : Record) (line : Sending) (lent : List ℕ) → sound r ≡ true → 32 ≤ length lent → answer_text r line.zone line.command lent ≡ in_text_reply (port_result r line) lent
unfolding answer_text
port_answer r line lent s h = ap (λ (o : Result Record). in_text_reply o lent) (port_text r line lent s h)

pub port_place_lem : (r : Record) (line : Sending) (lent : List ℕ) → sound r ≡ true → 32 ≤ length lent → text_place r line.zone line.command lent ≡ port_place r line
unfolding text_place
port_place_lem r line lent s h = ap (λ (a : Answered). place_by a.said.number (zone_at r line.zone).range line.command) (port_answer r line lent s h)

-- a known command is applied
port_known : (r : Record) (n : ℕ) (line : List ℕ) (c : Command) → sound r ≡ true → line_read line ≡ Ok c → result_at r n (port_rows r n line) (line_read line) ≡ apply_of r n c
unfolding apply_of
port_known r n line c s e = rw (e, s)

-- a line leaves a sound record sound
pub port_stays : (r : Record) (line : Sending) → sound r ≡ true → sound (port_result r line).after ≡ true
port_stays r line s = by_parsed (line_read line.command) refl
  where
    -- what is no command leaves the record
    kept : (done : Bool) → sound (cond done (with_zone r line.zone (zone_at r line.zone)) r) ≡ true
    kept true = rw (same_zone r line.zone) s
    kept false = s

    by_parsed : (p : Parsed) → line_read line.command ≡ p → sound (port_result r line).after ≡ true
    by_parsed (Ok c) e = ap (λ (o : Result Record). sound o.after) (port_known r line.zone line.command c s e) ∙ (apply_keeps r line.zone c).stays s
    by_parsed (Err Unknown) e = rw e (kept (is_zero (first (result_rows (Err Unknown)))))
      where
        result_rows : Parsed → List Row
        result_rows p = (no_zone r line.zone gives 3) ∷ parsed_rows (zone_at r line.zone) p
    by_parsed (Err Syntax) e = rw e (kept (is_zero (first ((no_zone r line.zone gives 3) ∷ parsed_rows (zone_at r line.zone) (Err Syntax)))))

-- ---- the lines in turn

-- trying a line more, which comes to o: t is what comes of those behind it
abbrev pub tried : ℕ → Record → Result Record → ℕ → Trying → Trying
tried k r o place t = cond (is_zero o.number) (behind ((o.number, o.values) ∷ []) t) (record { number = o.number; line = suc k; place = place; done = []; after = r })

pub try_next : (k : ℕ) (r : Record) (line : Sending) (lines : List Sending) (o : Result Record) → port_result r line ≡ o
    → try_from k r (line ∷ lines) ≡ tried k r o (port_place r line) (try_from (suc k) o.after lines)
unfolding try_from
try_next k r line lines o e = ap (λ (x : Result Record). tried k r x (port_place r line) (try_from (suc k) x.after lines)) e

-- the number of a refused line, where k lines were done before
abbrev pub shifted : ℕ → ℕ → ℕ
shifted k zero = zero
shifted k (suc m) = suc (k + m)

-- what is said of lines sent singly, and what came of trying them, where k were done before
pub record Tied (k : ℕ) (r : Record) (room : List ℕ) (all : List Sent) (t : Trying) : Type 0 where
  pub all_done : every is_done all ≡ is_zero t.number
  pub number : of_refused (λ one. one.answered.said.number) 0 all ≡ t.number
  pub line : shifted k (refused_line all) ≡ t.line
  pub place : of_refused (λ one. one.place) 0 all ≡ t.place
  pub left : t.number ≡ 0 → left_by r all ≡ t.after
  pub replies : t.number ≡ 0 → room_by all room ≡ replies_in t.done room
  pub lengths : t.number ≡ 0 → map (λ one. one.answered.said.length) all ≡ map (λ one. length (reply_of one)) t.done

shift_more : (k m : ℕ) → shifted k (one_more m) ≡ shifted (suc k) m
shift_more k zero = refl
shift_more k (suc m) = omega arith

-- a line that comes to o, sent with the first 32 bytes of the room
abbrev pub sent_as : Result Record → ℕ → List Row → List ℕ → Sent
sent_as o place rows room = record { answered = in_text_reply o (take 32 room); place = place; refusals = rows }

pub in_turn_next : (r : Record) (line : Sending) (lines : List Sending) (room : List ℕ) → sound r ≡ true → 32 ≤ length room
    → in_turn r (line ∷ lines) room ≡ sent_as (port_result r line) (port_place r line) (port_rows r line.zone line.command) room ∷ in_turn (port_result r line).after lines (drop 32 room)
unfolding in_turn
in_turn_next r line lines room s h =
    let wide : 32 ≤ length (take 32 room) = omega (arith, length-take-le 32 room h) in
    let answer = port_answer r line (take 32 room) s wide in
    let place = port_place_lem r line (take 32 room) s wide in
    λ i. record { answered = answer i; place = place i; refusals = port_rows r line.zone line.command } ∷ in_turn (answer i).after lines (drop 32 room)

-- one line more, by whether it is done
tied_next : (k : ℕ) (r : Record) (o : Result Record) (place : ℕ) (rows : List Row) (room : List ℕ) (more : List Sent) (t : Trying) → Tied (suc k) o.after (drop 32 room) more t
    → Tied k r room (sent_as o place rows room ∷ more) (tried k r o place t)
tied_next k r o place rows room more t h = by_test (is_zero o.number) refl
  where
    by_test : (z : Bool) → is_zero o.number ≡ z → Tied k r room (sent_as o place rows room ∷ more) (tried k r o place t)
    by_test true e = rw e (record {
      all_done = rw e h.all_done;
      number = rw e h.number;
      line = rw e (shift_more k (refused_line more) ∙ h.line);
      place = rw e h.place;
      left = h.left;
      replies = λ d. ap (λ (l : List ℕ). (sent_as o place rows room).answered.said.room ++ l) (h.replies d);
      lengths = λ d. ap (λ (l : List ℕ). (sent_as o place rows room).answered.said.length ∷ l) (h.lengths d);
    })
    by_test false e =
        let u = eqb-false o.number 0 e in
        rw e (record {
          all_done = rw e;
          number = rw e;
          line = rw e (omega arith);
          place = rw e;
          left = λ d. absurd (u d);
          replies = λ d. absurd (u d);
          lengths = λ d. absurd (u d);
        })

pub tied : (k : ℕ) (r : Record) (lines : List Sending) (room : List ℕ) → sound r ≡ true → 32 * length lines ≤ length room → Tied k r room (in_turn r lines room) (try_from k r lines)
unfolding in_turn try_from
tied k r [] room s h = record { all_done = refl; number = refl; line = refl; place = refl; left = λ e. refl; replies = λ e. refl; lengths = λ e. refl }
tied k r (line ∷ lines) room s h =
    rw (in_turn_next r line lines room s (omega arith))
    (tied_next k r (port_result r line) (port_place r line) (port_rows r line.zone line.command) room _ _ (tied (suc k) (port_result r line).after lines (drop 32 room) (port_stays r line s) (omega (arith, length-drop 32 room))))

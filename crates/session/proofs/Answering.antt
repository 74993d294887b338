-- Demand 1, of each call: one of the numbered answers, the first that applies in the printed order; a refusal leaves the record and writes the acknowledgement alone. Assumes nothing.
use Prim.Native.Nat.{ℕ, ◌*◌, ◌≤◌}
use mathlib.Core.Path.{◌≡◌, refl, ap, ◌∙◌}
use mathlib.Core.Bool.{Bool, true, false, cond, ◌&&◌, ◌||◌}
use mathlib.Core.List.{List, [], ◌∷◌}
use native.Mathlib.Omega.{arith}
use lib.Dec.{eqb}
use lib.ListN.{length, take, drop, length-append, length-drop}
use lib.Seq.{length-take-le}
use borrow.Author.Tests.{eq-eqb, ne_eqb, eqb-true, eqb-false, ltb-false}
use Rattle.zone.specs.declared.figures.Figures.{Figures}
use Rattle.zone.specs.Lists.{is_zero}
use Rattle.zone.specs.Zones.{address_in_range}
use Rattle.zone.proofs.Tests.{or_true}
use Rattle.card.specs.declared.records.Record.{Record}
use Rattle.card.specs.Answers.{Result}
use Rattle.card.specs.Refusals.{Row, first, settled}
use Rattle.card.specs.Records.{zone_at, with_zone}
use Rattle.card.specs.Calls.{add_of, remove_of, report_of, apply_of, choose_source_of, setpoint_in_use_of, book_of, ship_of, merge_of, Repair, repair_of}
use Rattle.card.specs.Rules.{InOrder, KeepsBesides, ExactlyWhen}
use Rattle.card.proofs.Kept.{add_order_lem, remove_order_lem, report_order_lem, apply_order_lem, write_order, choose_source_order_lem, setpoint_in_use_order_lem, book_order_lem, ship_order_lem, merge_order_lem, add_exactly, remove_exactly, report_exactly, apply_exactly, choose_source_exactly, setpoint_in_use_exactly, book_exactly, ship_exactly, merge_exactly, add_keeps, remove_keeps, report_keeps, apply_keeps, choose_source_keeps, setpoint_in_use_keeps, book_keeps, ship_keeps}
use Rattle.card.proofs.Merging.{merge_keeps}
use Rattle.card.proofs.Repairs.{repair_order_lem, repair_exactly, repair_not_done}
use Rattle.wire.specs.Road.{carries_command}
use Rattle.wire.specs.Room.{filled}
use Rattle.line.specs.Line.{text_road, line_of, line_read}
use Rattle.frame.specs.Frame.{frame_road, frame_of, address_in, body_in, body_read}
use Rattle.roads.specs.Acknowledgements.{text_refusal, text_reply, frame_refusal, frame_reply}
use Rattle.roads.specs.Calls.{Answered, said, too_small, parsed_at, text_rows, text_result, in_text_reply, answer_text, zone_found, holder, frame_rows, frame_result, in_frame_reply, answer_frame, compose_rows, composed, composed_line, composed_frame}
use Rattle.roads.proofs.Lengths.{either, text_fits, frame_fits, line_fits, whole_frame_fits, room_kept}
use Rattle.roads.proofs.Exactly.{text_order_lem, frame_order_lem, compose_order_lem, write_line_order, write_frame_order, text_exactly, frame_exactly, compose_line_exactly, compose_frame_exactly}
use Rattle.texts.specs.Texts.{lines_of}
use Rattle.recipes.specs.Recipes.{Sending, sendings, in_turn, room_by, load_of}
use Rattle.recipes.proofs.Cases.{as_many}
use Rattle.recipes.proofs.Told.{Ends, by_its_form, by_a_line, well_done, ends, fine, load_order_lem, number_first, load_exactly, load_refused}
use Rattle.session.specs.Sessions.{text, frame, compose_line, compose_frame, load, add, remove, report, apply, choose_source, setpoint_in_use, book, ship, merge, repair, Call, in_room, quiet, answer_to, Done}
use Rattle.session.specs.Demands.{order, refusals, among, lent, fixed, EveryCallAnswers, WritesHaveTheWholeOrder, CallsHaveTheWholeOrder}

-- ---- the first in the printed order

-- one more number to be among
among_more : (z t u : Bool) → (z || u) ≡ true → (z || (t || u)) ≡ true
among_more true t u h = refl
among_more false true u h = refl
among_more false false u h = h

-- refusals in the printed order give 0 or a number that is printed
first_listed : (rows : List Row) (printed : List ℕ) → InOrder rows printed → among (first rows) (0 ∷ printed) ≡ true
first_listed [] printed e = refl
first_listed (row ∷ rows) [] e = absurd (let z : ◌≡◌ {A = ℕ} 0 1 = cc in omega arith)
first_listed (row ∷ rows) (n ∷ printed) e = by_test row.test (first_listed rows printed rest)
  where
    here : row.number ≡ n
    here = cc

    rest : InOrder rows printed
    rest = cc

    by_test : (t : Bool) → among (first rows) (0 ∷ printed) ≡ true → among (cond t row.number (first rows)) (0 ∷ n ∷ printed) ≡ true
    by_test true h = rw (eq-eqb row.number n here) (or_true (eqb row.number 0))
    by_test false h = among_more (eqb (first rows) 0) (eqb (first rows) n) (among (first rows) printed) h

in_order_lem : (r : Record) (call : Call) → InOrder (refusals r call) (order call)
in_order_lem r (in_room (text n line) room) = text_order_lem r n line room
in_order_lem r (in_room (frame bytes) room) = frame_order_lem r bytes room
in_order_lem r (in_room (compose_line c) room) = compose_order_lem (carries_command text_road c) room
in_order_lem r (in_room (compose_frame a c) room) = compose_order_lem (address_in_range a && carries_command frame_road c) room
in_order_lem r (in_room (load recipe) room) = load_order_lem r recipe room
in_order_lem r (quiet (add n a range)) = add_order_lem r n a range
in_order_lem r (quiet (remove n)) = remove_order_lem r n
in_order_lem r (quiet (report n state actual)) = report_order_lem r n state actual
in_order_lem r (quiet (apply n c)) = apply_order_lem r n c
in_order_lem r (quiet (choose_source n source millivolts)) = choose_source_order_lem r n source millivolts
in_order_lem r (quiet (setpoint_in_use n)) = setpoint_in_use_order_lem r n
in_order_lem r (quiet (book n kg)) = book_order_lem r n kg
in_order_lem r (quiet (ship n kg)) = ship_order_lem r n kg
in_order_lem r (quiet (merge a b)) = merge_order_lem r a b
in_order_lem r (quiet repair) = repair_order_lem r

first_given : (r : Record) (call : Call) → (answer_to r call).said.number ≡ first (refusals r call)
unfolding answer_text answer_frame add_of remove_of report_of apply_of choose_source_of setpoint_in_use_of book_of ship_of merge_of repair_of composed_line composed_frame
first_given r (in_room (text n line) room) = refl
first_given r (in_room (frame bytes) room) = refl
first_given r (in_room (compose_line c) room) = refl
first_given r (in_room (compose_frame a c) room) = refl
first_given r (in_room (load recipe) room) = number_first r recipe room
first_given r (quiet (add n a range)) = refl
first_given r (quiet (remove n)) = refl
first_given r (quiet (report n state actual)) = refl
first_given r (quiet (apply n c)) = refl
first_given r (quiet (choose_source n source millivolts)) = refl
first_given r (quiet (setpoint_in_use n)) = refl
first_given r (quiet (book n kg)) = refl
first_given r (quiet (ship n kg)) = refl
first_given r (quiet (merge a b)) = refl
first_given r (quiet repair) = refl

exactly : (r : Record) (call : Call) → ExactlyWhen (refusals r call) (answer_to r call).said.number
exactly r (in_room (text n line) room) = text_exactly r n line room
exactly r (in_room (frame bytes) room) = frame_exactly r bytes room
exactly r (in_room (compose_line c) room) = compose_line_exactly c room
exactly r (in_room (compose_frame a c) room) = compose_frame_exactly a c room
exactly r (in_room (load recipe) room) = load_exactly r recipe room
exactly r (quiet (add n a range)) = add_exactly r n a range
exactly r (quiet (remove n)) = remove_exactly r n
exactly r (quiet (report n state actual)) = report_exactly r n state actual
exactly r (quiet (apply n c)) = apply_exactly r n c
exactly r (quiet (choose_source n source millivolts)) = choose_source_exactly r n source millivolts
exactly r (quiet (setpoint_in_use n)) = setpoint_in_use_exactly r n
exactly r (quiet (book n kg)) = book_exactly r n kg
exactly r (quiet (ship n kg)) = ship_exactly r n kg
exactly r (quiet (merge a b)) = merge_exactly r a b
exactly r (quiet repair) = repair_exactly r

pub whole_order : WritesHaveTheWholeOrder
whole_order r n figures bytes room = record { by_line = write_line_order r n bytes room figures; by_frame = write_frame_order r bytes room figures; applied = write_order r n figures }

pub whole_order_quiet : CallsHaveTheWholeOrder
whole_order_quiet r (add n a range) u = add_order_lem r n a range
whole_order_quiet r (remove n) u = remove_order_lem r n
whole_order_quiet r (report n state actual) u = report_order_lem r n state actual
whole_order_quiet r (apply n c) u = absurd (u n c refl)
whole_order_quiet r (choose_source n source millivolts) u = choose_source_order_lem r n source millivolts
whole_order_quiet r (setpoint_in_use n) u = setpoint_in_use_order_lem r n
whole_order_quiet r (book n kg) u = book_order_lem r n kg
whole_order_quiet r (ship n kg) u = ship_order_lem r n kg
whole_order_quiet r (merge a b) u = merge_order_lem r a b
whole_order_quiet r repair u = repair_order_lem r

-- ---- a refusal

-- what a list of refusals comes to where one applies
settled_refused : {A : Type 0} (given next : A) (rows : List Row) (values : List Figures) → (first rows ≡ 0 → ⊥) → settled given rows values next ≡ record { number = first rows; values = []; after = given }
settled_refused given next rows values u = rw (ne_eqb (first rows) 0 u)

-- the reply to a refused call is the acknowledgement that is fixed for it
text_fixed : (number : ℕ) → (number ≡ 0 → ⊥) → text_reply number [] ≡ text_refusal number
unfolding text_reply
text_fixed number u = rw (ne_eqb number 0 u)

frame_fixed : (address number : ℕ) → (number ≡ 0 → ⊥) → frame_reply address number [] ≡ frame_refusal address number
unfolding frame_reply
frame_fixed address number u = rw (ne_eqb number 0 u)

abbrev refused_with : Record → ℕ → List ℕ → List ℕ → Answered
refused_with r number reply room = record { said = said number [] reply room; after = r }

text_refused : (r : Record) (n : ℕ) (line room : List ℕ) → ((answer_text r n line room).said.number ≡ 0 → ⊥)
    → answer_text r n line room ≡ refused_with r (answer_text r n line room).said.number (text_refusal (answer_text r n line room).said.number) room
unfolding answer_text
text_refused r n line room u =
    let rows = text_rows r n line room in
    let j = parsed_at (zone_at r n) (line_read line) in
    ap (λ (o : Result Record). in_text_reply o room) (settled_refused r (with_zone r n j.after) rows j.values u) ∙ ap (λ (reply : List ℕ). refused_with r (first rows) reply room) (text_fixed (first rows) u)

frame_refused : (r : Record) (bytes room : List ℕ) → ((answer_frame r bytes room).said.number ≡ 0 → ⊥)
    → answer_frame r bytes room ≡ refused_with r (answer_frame r bytes room).said.number (frame_refusal (address_in bytes) (answer_frame r bytes room).said.number) room
unfolding answer_frame
frame_refused r bytes room u =
    let rows = frame_rows r bytes room in
    let n = zone_found (holder r bytes) in
    let j = parsed_at (zone_at r n) (body_read (body_in bytes)) in
    ap (λ (o : Result Record). in_frame_reply (address_in bytes) o room) (settled_refused r (with_zone r n j.after) rows j.values u)
    ∙ ap (λ (reply : List ℕ). refused_with r (first rows) reply room) (frame_fixed (address_in bytes) (first rows) u)

-- a call that replies nothing, by what it keeps
kept : {touched : ℕ → Type 0} (r : Record) (o : Result Record) → KeepsBesides r touched o → (o.number ≡ 0 → ⊥) → record { said = said o.number o.values [] []; after = o.after } ≡ refused_with r o.number [] []
kept r o k u = rw ((k.refusal u).0, (k.refusal u).1)

refused : (r : Record) (call : Call) → (Done r call → ⊥) → answer_to r call ≡ refused_with r (answer_to r call).said.number (fixed call (answer_to r call).said.number) (lent call)
unfolding composed_line composed_frame
refused r (in_room (text n line) room) u = text_refused r n line room u
refused r (in_room (frame bytes) room) u = frame_refused r bytes room u
refused r (in_room (compose_line c) room) u = rw (ne_eqb (first (compose_rows (carries_command text_road c) room)) 0 u)
refused r (in_room (compose_frame a c) room) u = rw (ne_eqb (first (compose_rows (address_in_range a && carries_command frame_road c) room)) 0 u)
refused r (in_room (load recipe) room) u = load_refused r recipe room u
refused r (quiet (add n a range)) u = kept r (add_of r n a range) (add_keeps r n a range) u
refused r (quiet (remove n)) u = kept r (remove_of r n) (remove_keeps r n) u
refused r (quiet (report n state actual)) u = kept r (report_of r n state actual) (report_keeps r n state actual) u
refused r (quiet (apply n c)) u = kept r (apply_of r n c) (apply_keeps r n c) u
refused r (quiet (choose_source n source millivolts)) u = kept r (choose_source_of r n source millivolts) (choose_source_keeps r n source millivolts) u
refused r (quiet (setpoint_in_use n)) u = kept r (setpoint_in_use_of r n) (setpoint_in_use_keeps r n) u
refused r (quiet (book n kg)) u = kept r (book_of r n kg) (book_keeps r n kg) u
refused r (quiet (ship n kg)) u = kept r (ship_of r n kg) (ship_keeps r n kg) u
refused r (quiet (merge a b)) u = kept r (merge_of r a b) (merge_keeps r a b) u
refused r (quiet repair) u = let e = repair_not_done r u in rw (ap (λ (o : Repair). o.result.after) e, ap (λ (o : Repair). o.result.values) e)

-- ---- the room keeps its length

-- a room below 32 bytes gets no reply, and one of 32 holds every reply
text_room : (r : Record) (n : ℕ) (line room : List ℕ) → length (answer_text r n line room).said.room ≡ length room
unfolding answer_text text_reply
text_room r n line room = by_size (too_small room) refl
  where
    o : Result Record
    o = text_result r n line room

    by_size : (t : Bool) → too_small room ≡ t → length (filled (text_reply o.number o.values) room) ≡ length room
    by_size true e = rw e
    by_size false e = room_kept (text_reply o.number o.values) room (omega (arith, ltb-false (length room) 32 e, text_fits o.number o.values))

frame_room : (r : Record) (bytes room : List ℕ) → length (answer_frame r bytes room).said.room ≡ length room
unfolding answer_frame frame_reply
frame_room r bytes room = by_size (too_small room) refl
  where
    o : Result Record
    o = frame_result r bytes room

    by_size : (t : Bool) → too_small room ≡ t → length (filled (frame_reply (address_in bytes) o.number o.values) room) ≡ length room
    by_size true e = rw e
    by_size false e = room_kept (frame_reply (address_in bytes) o.number o.values) room (omega (arith, ltb-false (length room) 32 e, frame_fits (address_in bytes) o.number o.values))

composed_room : (fits : Bool) (bytes room : List ℕ) → length bytes ≤ 32 → length (composed (compose_rows fits room) bytes room).room ≡ length room
composed_room fits bytes room h = by_size (too_small room) refl
  where
    put : List ℕ
    put = cond (is_zero (first (compose_rows fits room))) bytes []

    by_size : (t : Bool) → too_small room ≡ t → length (filled put room) ≡ length room
    by_size true e = rw e
    by_size false e = room_kept put room (omega (arith, ltb-false (length room) 32 e, either (is_zero (first (compose_rows fits room))) bytes [] 32 h (omega arith)))

-- the lines of a recipe have 32 bytes each, and there are as many
lines_room : (r : Record) (lines : List Sending) (room : List ℕ) → 32 * length lines ≤ length room → length (room_by (in_turn r lines room) room) ≡ length room
unfolding in_turn
lines_room r [] room h = refl
lines_room r (line ∷ lines) room h =
    let one = answer_text r line.zone line.command (take 32 room) in
    let rest = lines_room one.after lines (drop 32 room) (omega (arith, length-drop 32 room)) in
    rw (length-append one.said.room (room_by (in_turn one.after lines (drop 32 room)) (drop 32 room)))
    (omega (arith, text_room r line.zone line.command (take 32 room), length-take-le 32 room (omega arith), rest, length-drop 32 room))

load_room : (r : Record) (recipe room : List ℕ) → length (load_of r recipe room).answered.said.room ≡ length room
load_room r recipe room = by_end (ends r recipe room)
  where
    by_end : Ends r recipe room → length (load_of r recipe room).answered.said.room ≡ length room
    by_end (by_its_form n e) = rw e
    by_end (by_a_line k one w f n e) = rw e
    by_end (well_done w d e) =
        let f = fine r recipe room w in
        rw e (lines_room r (sendings (lines_of recipe)) room (rw (as_many (lines_of recipe) f.formed) f.enough))

same_room : (r : Record) (call : Call) → length (answer_to r call).said.room ≡ length (lent call)
unfolding composed_line composed_frame
same_room r (in_room (text n line) room) = text_room r n line room
same_room r (in_room (frame bytes) room) = frame_room r bytes room
same_room r (in_room (compose_line c) room) = composed_room (carries_command text_road c) (line_of c) room (line_fits c)
same_room r (in_room (compose_frame a c) room) = composed_room (address_in_range a && carries_command frame_road c) (frame_of a c) room (whole_frame_fits a c)
same_room r (in_room (load recipe) room) = load_room r recipe room
same_room r (quiet call) = refl

pub answers : EveryCallAnswers
answers r call = record {
  numbered = ap (λ (n : ℕ). among n (0 ∷ order call)) (first_given r call) ∙ first_listed (refusals r call) (order call) (in_order_lem r call);
  exactly = exactly r call;
  in_order = in_order_lem r call;
  refused = refused r call;
  same_room = same_room r call;
}

-- in short: a call that is not done leaves the record
pub record_kept : (r : Record) (call : Call) → (Done r call → ⊥) → (answer_to r call).after ≡ r
record_kept r call u = ap (λ (a : Answered). a.after) (refused r call u)

-- by whether a call is done
pub by_done : (r : Record) (call : Call) {P : Type 0} → (Done r call → P) → ((Done r call → ⊥) → P) → P
by_done r call {P} f g = by_number (eqb (answer_to r call).said.number 0) refl
  where
    by_number : (t : Bool) → eqb (answer_to r call).said.number 0 ≡ t → P
    by_number true e = f (eqb-true _ 0 e)
    by_number false e = g (eqb-false _ 0 e)

-- Demand 3: by either road the same; nothing else is done or alters a record; and so for whole sessions. Assumes nothing.
use Prim.Native.Nat.{ℕ, suc, ◌≤◌, min}
use mathlib.Core.Path.{◌≡◌, refl, sym, ap, ◌∙◌}
use mathlib.Core.Logic.{◌⊎◌, inl, inr}
use mathlib.Core.Bool.{Bool, true, false, ◌&&◌}
use mathlib.Core.List.{List, [], ◌∷◌}
use native.Mathlib.Omega.{arith}
use native.Mathlib.Nat.{min-le_left, min-le_right, le-min}
use lib.ListN.{length, take, drop}
use lib.Dec.{ltb}
use borrow.Author.Tests.{lt-ltb, ltb-true, ltb-false, not-false}
use Rattle.zone.specs.declared.figures.Command.{Command}
use Rattle.zone.specs.declared.figures.Command.TheVariants.{Read, Write}
use Rattle.zone.specs.Lists.{every}
use Rattle.zone.specs.Figures.{entries_of, in_range}
use Rattle.zone.proofs.Tests.{both}
use Rattle.zone.proofs.Sound.{fits}
use Rattle.card.specs.declared.records.Record.{Record}
use Rattle.card.specs.Answers.{Result}
use Rattle.card.specs.Records.{zone_at, sound}
use Rattle.card.specs.Calls.{command_at, Repair}
use Rattle.card.specs.Rules.{row_at}
use Rattle.card.proofs.Kept.{add_keeps, remove_keeps, report_keeps, apply_keeps, choose_source_keeps, setpoint_in_use_keeps, book_keeps, ship_keeps}
use Rattle.card.proofs.Merging.{merge_keeps}
use Rattle.card.proofs.Storing.{zone_sound_lem}
use Rattle.card.proofs.Repairs.{repair_of_sound}
use Rattle.wire.specs.Road.{carried, carries, carries_command}
use Rattle.line.specs.Line.{text_road, line_of}
use Rattle.line.proofs.Round.{line_only}
use Rattle.frame.specs.Frame.{frame_road, frame_of, address_in}
use Rattle.frame.proofs.Round.{frame_only}
use Rattle.roads.specs.Calls.{Answered, text_result, answer_text, frame_result, answer_frame}
use Rattle.roads.proofs.Applied.{text_applies, frame_applies}
use Rattle.roads.proofs.Replies.{in_range_both}
use Rattle.texts.specs.Texts.{lines_of}
use Rattle.recipes.specs.Recipes.{Sending, sendings, in_turn, left_by, Loading, load_of}
use Rattle.recipes.proofs.Told.{done}
use Rattle.session.specs.Sessions.{text, frame, compose_line, compose_frame, load, add, remove, report, apply, choose_source, setpoint_in_use, book, ship, merge, repair, Call, in_room, quiet, answer_to, after, Done, run_by}
use Rattle.session.specs.Demands.{both_carry, both_bound, BothBounds, BothCarried, Present, Same, SameByBoth, StaysSound, OnlyLines, OnlyFrames, OtherRoad, by_frame, by_text, Rerouted, over, as_before, other_road, SameEnd}
use Rattle.session.proofs.Answering.{record_kept, by_done}
use Rattle.session.proofs.Done.{Applied, line_is_done, frame_is_done}

-- ---- what both roads can carry

pub both_bounds : BothBounds
both_bounds = refl

ltb_min : (n a b : ℕ) → (ltb n a && ltb n b) ≡ ltb n (min a b)
ltb_min n a b = by_test (ltb n (min a b)) refl
  where
    over : (t u : Bool) → ltb n a ≡ t → ltb n b ≡ u → ltb n (min a b) ≡ false → (t && u) ≡ false
    over true true p q e = absurd (omega (arith, ltb-false n (min a b) e, le-min {k = suc n} {a = a} {b = b} (ltb-true n a p) (ltb-true n b q)))
    over true false p q e = refl
    over false u p q e = refl

    by_test : (t : Bool) → ltb n (min a b) ≡ t → (ltb n a && ltb n b) ≡ t
    by_test true e =
        let h = ltb-true n (min a b) e in
        rw (lt-ltb n a (omega (arith, min-le_left a b)), lt-ltb n b (omega (arith, min-le_right a b)))
    by_test false e = over (ltb n a) (ltb n b) refl refl e

swapped : (a b c d : Bool) → ((a && b) && (c && d)) ≡ ((a && c) && (b && d))
swapped true b true d = refl
swapped true true false d = refl
swapped true false false d = refl
swapped false b c d = refl

every_both : {A : Type 0} (f g h : A → Bool) → ((x : A) → (f x && g x) ≡ h x) → (l : List A) → (every f l && every g l) ≡ every h l
every_both f g h e [] = refl
every_both f g h e (x ∷ xs) = swapped (f x) (every f xs) (g x) (every g xs) ∙ rw (e x, every_both f g h e xs)

-- "Figures both roads can carry": each below the bound of its kind
pub both_carried : BothCarried
unfolding carries_command carries
both_carried f =
    every_both (carried text_road) (carried frame_road) (λ e. ltb e.number (both_bound e.column.kind))
    (λ e. ltb_min e.number (text_road.bound e.column.kind) (frame_road.bound e.column.kind))
    (entries_of f)

-- ---- by either road the same

both_parts : (c : Command) → both_carry c ≡ true → (carries_command text_road c ≡ true) × (carries_command frame_road c ≡ true)
both_parts c h = both (carries_command text_road c) (carries_command frame_road c) h

results : (r : Record) (n : ℕ) (c : Command) (room room' : List ℕ) → Present r n → both_carry c ≡ true → 32 ≤ length room → 32 ≤ length room'
    → text_result r n (line_of c) room ≡ frame_result r (frame_of (zone_at r n).address c) room'
results r n c room room' p k h h' =
    text_applies r n c room h (both_parts c k).0 ∙ sym (frame_applies r n c room' p.sound_record p.present h' (both_parts c k).1)

pub same_by_both : SameByBoth
unfolding answer_text answer_frame
same_by_both r n c room room' p k h h' =
    let e = results r n c room room' p k h h' in
    record {
      same_record = ap (λ (o : Result Record). o.after) e;
      same_number = ap (λ (o : Result Record). o.number) e;
      same_figures = ap (λ (o : Result Record). o.values) e;
    }

-- ---- nothing else is answered as done or alters a record

-- what is done, or alters the record, is done
is_done_lem : (r : Record) (call : Call) → ((answer_to r call).said.number ≡ 0) ⊎ ((answer_to r call).after ≡ r → ⊥) → Done r call
is_done_lem r call (inl e) = e
is_done_lem r call (inr u) = by_done r call (λ d. d) (λ v. absurd (u (record_kept r call v)))

-- a command that passed its refusals both roads carry
carried_by_both : (r : Record) (n : ℕ) (c : Command) → Present r n → ((i : ℕ) → (row_at (command_at (zone_at r n) c).rows i).test ≡ false) → both_carry c ≡ true
unfolding carries_command
carried_by_both r n (Read g) p h = refl
carried_by_both r n (Write f) p h =
    let k = fits (zone_at r n) p.present (zone_sound_lem r n p.sound_record) in
    let b = in_range_both (zone_at r n).range f k.own.range (not-false (in_range (zone_at r n).range f) (h 0)) in
    rw (b.0, b.1)

pub only_lines : OnlyLines
only_lines r n line room w =
    let d = line_is_done r n line room (is_done_lem r (in_room (text n line) room) w) in
    record {
      command = d.command;
      line_is = (line_only line d.command d.reads).line_is;
      carried_by_both = carried_by_both r n d.command d.present d.permitted;
      present = d.present;
      served = d.served;
    }

pub only_frames : OnlyFrames
only_frames r bytes room small w =
    let d = frame_is_done r bytes room (is_done_lem r (in_room (frame bytes) room) w) in
    record {
      command = d.command;
      zone = d.zone;
      frame_is = (frame_only bytes (address_in bytes) d.command small d.reads).frame_is ∙ ap (λ (a : ℕ). frame_of a d.command) (sym d.address);
      carried_by_both = carried_by_both r d.zone d.command d.present d.permitted;
      present = d.present;
      served = d.served;
    }

-- ---- a sound record stays sound

-- a done command leaves what applying it leaves
applied_sound : {o : Result Record} (r : Record) (n : ℕ) (c : Command) → sound r ≡ true → Applied o r n c → sound o.after ≡ true
applied_sound r n c s w = rw w.same ((apply_keeps r n c).stays s)

text_sound : (r : Record) (n : ℕ) (line room : List ℕ) → sound r ≡ true → (answer_text r n line room).said.number ≡ 0 → sound (answer_text r n line room).after ≡ true
unfolding answer_text
text_sound r n line room s e = let d = line_is_done r n line room e in applied_sound r n d.command s d.came

frame_sound : (r : Record) (bytes room : List ℕ) → sound r ≡ true → (answer_frame r bytes room).said.number ≡ 0 → sound (answer_frame r bytes room).after ≡ true
unfolding answer_frame
frame_sound r bytes room s e = let d = frame_is_done r bytes room e in applied_sound r d.zone d.command s d.came

-- a refusal leaves the record as it was
kept_or_done : (r : Record) (call : Call) → sound r ≡ true → (Done r call → sound (after r call) ≡ true) → sound (after r call) ≡ true
kept_or_done r call s d = by_done r call d (λ u. rw (record_kept r call u) s)

-- the lines of a recipe, one after the other
lines_sound : (r : Record) (lines : List Sending) (room : List ℕ) → sound r ≡ true → sound (left_by r (in_turn r lines room)) ≡ true
unfolding in_turn
lines_sound r [] room s = s
lines_sound r (line ∷ lines) room s =
    let call = in_room (text line.zone line.command) (take 32 room) in
    lines_sound (after r call) lines (drop 32 room) (kept_or_done r call s (text_sound r line.zone line.command (take 32 room) s))

load_sound : (r : Record) (recipe room : List ℕ) → sound r ≡ true → (load_of r recipe room).answered.said.number ≡ 0 → sound (load_of r recipe room).answered.after ≡ true
load_sound r recipe room s d = ap (λ (o : Loading). sound o.answered.after) (done r recipe room d).comes_to ∙ lines_sound r (sendings (lines_of recipe)) room s

one_sound : (r : Record) (call : Call) → sound r ≡ true → sound (after r call) ≡ true
one_sound r (in_room (text n line) room) s = kept_or_done r (in_room (text n line) room) s (text_sound r n line room s)
one_sound r (in_room (frame bytes) room) s = kept_or_done r (in_room (frame bytes) room) s (frame_sound r bytes room s)
one_sound r (in_room (compose_line c) room) s = s
one_sound r (in_room (compose_frame a c) room) s = s
one_sound r (in_room (load recipe) room) s = kept_or_done r (in_room (load recipe) room) s (load_sound r recipe room s)
one_sound r (quiet (add n a range)) s = (add_keeps r n a range).stays s
one_sound r (quiet (remove n)) s = (remove_keeps r n).stays s
one_sound r (quiet (report n state actual)) s = (report_keeps r n state actual).stays s
one_sound r (quiet (apply n c)) s = (apply_keeps r n c).stays s
one_sound r (quiet (choose_source n source millivolts)) s = (choose_source_keeps r n source millivolts).stays s
one_sound r (quiet (setpoint_in_use n)) s = (setpoint_in_use_keeps r n).stays s
one_sound r (quiet (book n kg)) s = (book_keeps r n kg).stays s
one_sound r (quiet (ship n kg)) s = (ship_keeps r n kg).stays s
one_sound r (quiet (merge a b)) s = (merge_keeps r a b).stays s
one_sound r (quiet repair) s = ap (λ (o : Repair). sound o.result.after) (repair_of_sound r s) ∙ s

pub stays_sound : StaysSound
stays_sound r [] s = s
stays_sound r (x ∷ xs) s = stays_sound (after r x) xs (one_sound r x s)

-- ---- whole sessions

-- once for any kinds of calls: where a call may be sent by another road with the same record, sessions that differ in roads alone end alike
module _ {C : Type 0} (step : Record → C → Record) (Other : Record → C → C → Type 0) (same : (r : Record) (x y : C) → Other r x y → step r x ≡ step r y) where
  pub ends_alike : {r : Record} {xs ys : List C} → Rerouted step Other r xs ys → run_by step r xs ≡ run_by step r ys
  ends_alike over = refl
  ends_alike (as_before x rest) = ends_alike rest
  ends_alike {r} (other_road {xs = xs} {ys = ys} x y o rest) = ends_alike rest ∙ ap (λ (s : Record). run_by step s ys) (same r x y o)

turned : {a b : Answered} → Same a b → Same b a
turned s = record { same_record = sym s.same_record; same_number = sym s.same_number; same_figures = sym s.same_figures }

-- the one lemma for lines and frames
pub same_answer : (r : Record) (x y : Call) → OtherRoad r x y → Same (answer_to r x) (answer_to r y)
same_answer r x y (by_frame n c room room' p k h h') = same_by_both r n c room room' p k h h'
same_answer r x y (by_text n c room room' p k h h') = turned (same_by_both r n c room' room p k h' h)

pub same_end : SameEnd
same_end r xs ys w = ends_alike after OtherRoad (λ r x y o. (same_answer r x y o).same_record) w

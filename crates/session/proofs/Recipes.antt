-- A loaded recipe counts as its lines, and a refused one as none. Assumes nothing.
use Prim.Native.Nat.{ℕ}
use mathlib.Core.Path.{◌≡◌, refl, sym, ap, ◌∙◌}
use mathlib.Core.Bool.{Bool, true, false, cond}
use mathlib.Core.List.{List, [], ◌∷◌, ◌++◌}
use mathlib.Core.Logic.{inl}
use lib.ListN.{take, drop}
use borrow.Author.Tests.{eqb-true, eqb-false}
use Rattle.zone.specs.Lists.{is_zero, every}
use Rattle.card.specs.declared.records.Record.{Record}
use Rattle.card.specs.Records.{zone_at}
use Rattle.line.specs.Line.{line_of}
use Rattle.frame.specs.Frame.{frame_of}
use Rattle.roads.specs.Calls.{Said, Answered, answer_text}
use Rattle.texts.specs.Texts.{lines_of}
use Rattle.recipes.specs.Recipes.{Sending, sendings, in_turn, is_done, left_by, Loading, load_of}
use Rattle.recipes.proofs.Told.{load_refused, done}
use Rattle.session.specs.Sessions.{text, frame, compose_line, compose_frame, load, Call, in_room, quiet, after, said_to, Done, run, answers_by, Throughout}
use Rattle.session.specs.Recipes.{singly, lines_as_calls, said_each, LoadedIsItsLines, counts_as, spelled_out, SameSpelledOut, SameByOtherRoad}
use Rattle.session.specs.Demands.{OtherRoad, by_frame}
use Rattle.session.proofs.Done.{first_done}
use Rattle.session.proofs.Demand3.{only_lines, same_end}

-- ---- the lines as calls

singly_left : (r : Record) (lines : List Sending) (room : List ℕ) → run r (singly lines room) ≡ left_by r (in_turn r lines room)
unfolding in_turn
singly_left r [] room = refl
singly_left r (line ∷ lines) room = singly_left (answer_text r line.zone line.command (take 32 room)).after lines (drop 32 room)

singly_done : (r : Record) (lines : List Sending) (room : List ℕ) → every is_done (in_turn r lines room) ≡ true → Throughout Done r (singly lines room)
unfolding in_turn
singly_done r [] room d = tt
singly_done r (line ∷ lines) room d =
    let one = answer_text r line.zone line.command (take 32 room) in
    let parts = first_done r line lines room d in
    (parts.0, singly_done one.after lines (drop 32 room) parts.1)

-- each is a command's line to a present zone, which has a frame too
singly_others : (r : Record) (lines : List Sending) (room : List ℕ) → every is_done (in_turn r lines room) ≡ true → Throughout (λ s call. (other : Call) × OtherRoad s call other) r (singly lines room)
unfolding in_turn
singly_others r [] room d = tt
singly_others r (line ∷ lines) room d =
    let one = answer_text r line.zone line.command (take 32 room) in
    let parts = first_done r line lines room d in
    let w = only_lines r line.zone line.command (take 32 room) (inl parts.0) in
    let by : (other : Call) × OtherRoad r (in_room (text line.zone (line_of w.command)) (take 32 room)) other
    = (in_room (frame (frame_of (zone_at r line.zone).address w.command)) (take 32 room), by_frame line.zone w.command (take 32 room) (take 32 room) w.present w.carried_by_both w.served w.served) in
    (rw w.line_is by, singly_others one.after lines (drop 32 room) parts.1)

singly_said : (r : Record) (lines : List Sending) (room : List ℕ) → answers_by after said_to r (singly lines room) ≡ said_each (in_turn r lines room)
unfolding in_turn
singly_said r [] room = refl
singly_said r (line ∷ lines) room =
    let one = answer_text r line.zone line.command (take 32 room) in
    ap (λ (l : List Said). one.said ∷ l) (singly_said one.after lines (drop 32 room))

pub is_its_lines : LoadedIsItsLines
is_its_lines r recipe room d =
    let k = done r recipe room d in
    let lines = sendings (lines_of recipe) in
    record {
      record_left = ap (λ (o : Loading). o.answered.after) k.comes_to ∙ sym (singly_left r lines room);
      each_done = singly_done r lines room k.each_done;
      each_said = singly_said r lines room;
      other_roads = singly_others r lines room k.each_done;
    }

-- ---- whole sessions

run_append : (r : Record) (xs ys : List Call) → run r (xs ++ ys) ≡ run (run r xs) ys
run_append r [] ys = refl
run_append r (x ∷ xs) ys = run_append (after r x) xs ys

counts : (r : Record) (call : Call) → run r (counts_as r call) ≡ after r call
counts r (in_room (text n line) room) = refl
counts r (in_room (frame bytes) room) = refl
counts r (in_room (compose_line c) room) = refl
counts r (in_room (compose_frame a c) room) = refl
counts r (in_room (load recipe) room) = by_done (is_zero (load_of r recipe room).answered.said.number) refl
  where
    by_done : (t : Bool) → is_zero (load_of r recipe room).answered.said.number ≡ t → run r (cond t (lines_as_calls recipe room) []) ≡ (load_of r recipe room).answered.after
    by_done true e = sym (is_its_lines r recipe room (eqb-true (load_of r recipe room).answered.said.number 0 e)).record_left
    by_done false e = sym (ap (λ (a : Answered). a.after) (load_refused r recipe room (eqb-false (load_of r recipe room).answered.said.number 0 e)))
counts r (quiet call) = refl

pub same_spelled : SameSpelledOut
same_spelled r [] = refl
same_spelled r (call ∷ calls) =
    same_spelled (after r call) calls
    ∙ ap (λ (s : Record). run s (spelled_out (after r call) calls)) (sym (counts r call))
    ∙ sym (run_append r (counts_as r call) (spelled_out (after r call) calls))

pub same_by_other_road : SameByOtherRoad
same_by_other_road r calls others w = same_spelled r calls ∙ same_end r (spelled_out r calls) others w

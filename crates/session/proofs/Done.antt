-- What is answered as done by a road was a command, and came to what applying it comes to. Assumes nothing.
use Rattle.std.specs.Prelude.{Err, Ok, None, Option, Some}
use Prim.Native.Nat.{ℕ, suc, ◌≤◌}
use mathlib.Core.Path.{◌≡◌, refl, sym, ap, ◌∙◌}
use mathlib.Core.Bool.{true, false, not}
use mathlib.Core.List.{List, ◌∷◌}
use lib.ListN.{length, take, drop}
use lib.Dec.{leb, eqb}
use borrow.Author.Tests.{ltb-false, leb-false, eqb-true, not-false}
use Rattle.zone.specs.declared.figures.Command.{Command}
use Rattle.zone.specs.declared.zones.Zone.{Zone}
use Rattle.zone.specs.Lists.{is_zero, every}
use Rattle.zone.proofs.Tests.{never, both, neither}
use Rattle.card.specs.declared.records.Record.{Record}
use Rattle.card.specs.Answers.{Result}
use Rattle.card.specs.Records.{zone_at, sound, no_zone}
use Rattle.card.specs.Calls.{command_at, apply_of}
use Rattle.card.specs.Rules.{row_at}
use Rattle.card.specs.Inner.{ask_of}
use Rattle.card.proofs.Finding.{found_first, found_there}
use Rattle.wire.specs.Road.{carries_command, Parsed}
use Rattle.line.specs.Line.{text_road, line_of, line_read}
use Rattle.frame.specs.declared.reading.Framed.TheVariants.{Request}
use Rattle.frame.specs.Frame.{frame_road, frame_of, address_in, body_in, shaped, checksum_right, body_read, frame_read}
use Rattle.roads.specs.Inner.{asked_by}
use Rattle.roads.specs.Calls.{parsed_rows, text_result, answer_text, is_nowhere, zone_found, holder, frame_result, answer_frame}
use Rattle.roads.proofs.CallLaws.{asked_text, held_right}
use Rattle.roads.proofs.Applied.{text_applies, frame_applies}
use Rattle.roads.proofs.Exactly.{text_exactly, frame_exactly}
use Rattle.recipes.specs.Recipes.{Sending, in_turn, is_done}
use Rattle.session.specs.Demands.{Present}
use Rattle.wire.specs.declared.Misread.TheVariants.{Syntax, Unknown}

-- what came of it is what applying the command comes to, and that is done
pub record Applied (o : Result Record) (r : Record) (n : ℕ) (c : Command) : Type 0 where
  pub same : o ≡ apply_of r n c
  pub done : (apply_of r n c).number ≡ 0

applied : {o : Result Record} {r : Record} {n : ℕ} {c : Command} → o ≡ apply_of r n c → o.number ≡ 0 → Applied o r n c
applied e d = record { same = e; done = ap (λ (o : Result Record). o.number) (sym e) ∙ d }

-- what passes 7 and 8 is a known command, judged by the rows 9 and 10
known : (z : Zone) (p : Parsed) → ((j : ℕ) → (row_at (parsed_rows z p) j).test ≡ false) → (c : Command) × (p ≡ Ok c) × ((i : ℕ) → (row_at (command_at z c).rows i).test ≡ false)
known z (Ok c) h = (c, refl, λ i. h (suc (suc i)))
known z (Err Unknown) h = never (sym (h 0))
known z (Err Syntax) h = never (sym (h 1))

known_asked : (r : Record) (n : ℕ) (p : Parsed) (c : Command) → p ≡ Ok c → ask_of r n (asked_by p) ≡ apply_of r n c
unfolding ask_of apply_of
known_asked r n p c e = ap (λ (q : Parsed). ask_of r n (asked_by q)) e

there : (r : Record) (n : ℕ) → sound r ≡ true → no_zone r n ≡ false → Present r n
there r n s e =
    let parts = neither (leb 16 n) (not (zone_at r n).present) e in
    record { sound_record = s; below = leb-false 16 n parts.0; present = not-false (zone_at r n).present parts.1 }

-- ---- a line

pub record LineDone (r : Record) (n : ℕ) (line room : List ℕ) : Type 0 where
  pub command : Command
  pub reads : line_read line ≡ Ok command
  pub came : Applied (text_result r n line room) r n command
  pub present : Present r n
  pub permitted : (i : ℕ) → (row_at (command_at (zone_at r n) command).rows i).test ≡ false
  pub served : 32 ≤ length room

pub line_is_done : (r : Record) (n : ℕ) (line room : List ℕ) → (answer_text r n line room).said.number ≡ 0 → LineDone r n line room
unfolding answer_text
line_is_done r n line room e =
    let passed = (text_exactly r n line room).done.0 e in
    let big = ltb-false (length room) 32 (passed 0) in
    let k = known (zone_at r n) (line_read line) (λ j. passed (suc (suc (suc j)))) in
    record {
      command = k.0;
      reads = k.1;
      came = applied (sym (asked_text r n line room big) ∙ known_asked r n (line_read line) k.0 k.1) e;
      present = there r n (not-false (sound r) (passed 1)) (passed 2);
      permitted = k.2;
      served = big;
    }

-- ---- a frame

found_zone : (x : Option ℕ) → is_nowhere x ≡ false → x ≡ Some (zone_found x)
found_zone (Some n) e = refl
found_zone None e = never (sym e)

-- a frame of the right shape and sum is read
read_as_lem : (f : List ℕ) → shaped f ≡ true → checksum_right f ≡ true → frame_read f ≡ Request (address_in f) (body_read (body_in f))
unfolding frame_read
read_as_lem f s c = rw (s, c)

pub record FrameDone (r : Record) (bytes room : List ℕ) : Type 0 where
  pub command : Command
  pub zone : ℕ
  pub found : holder r bytes ≡ Some zone
  pub address : (zone_at r zone).address ≡ address_in bytes
  pub reads : frame_read bytes ≡ Request (address_in bytes) (Ok command)
  pub came : Applied (frame_result r bytes room) r zone command
  pub present : Present r zone
  pub permitted : (i : ℕ) → (row_at (command_at (zone_at r zone) command).rows i).test ≡ false
  pub served : 32 ≤ length room

pub frame_is_done : (r : Record) (bytes room : List ℕ) → (answer_frame r bytes room).said.number ≡ 0 → FrameDone r bytes room
unfolding answer_frame
frame_is_done r f room e =
    let passed = (frame_exactly r f room).done.0 e in
    let big = ltb-false (length room) 32 (passed 0) in
    let s = not-false (sound r) (passed 1) in
    let shape = not-false (shaped f) (passed 2) in
    let n = zone_found (holder r f) in
    let found = found_zone (holder r f) (passed 3) in
    let sum = not-false (checksum_right f) (passed 4) in
    let k = known (zone_at r n) (body_read (body_in f)) (λ j. passed (suc (suc (suc (suc (suc j)))))) in
    record {
      command = k.0;
      zone = n;
      found = found;
      address = eqb-true (zone_at r n).address (address_in f) (both (zone_at r n).present (eqb (zone_at r n).address (address_in f)) ((found_first r (address_in f) n).0 found).here).1;
      reads = read_as_lem f shape sum ∙ ap (Request (address_in f)) k.1;
      came = applied (sym (held_right r f room big shape n found sum) ∙ known_asked r n (body_read (body_in f)) k.0 k.1) e;
      present = there r n s (found_there r (address_in f) n s found);
      permitted = k.2;
      served = big;
    }

-- ---- the line, or the frame, of a command that the road carries

pub line_done : (r : Record) (n : ℕ) (c : Command) (room : List ℕ) → carries_command text_road c ≡ true → (answer_text r n (line_of c) room).said.number ≡ 0 → Applied (text_result r n (line_of c) room) r n c
unfolding answer_text
line_done r n c room k e = applied (text_applies r n c room (line_is_done r n (line_of c) room e).served k) e

pub frame_done_lem : (r : Record) (n : ℕ) (c : Command) (room : List ℕ) → Present r n → carries_command frame_road c ≡ true → (answer_frame r (frame_of (zone_at r n).address c) room).said.number ≡ 0
    → Applied (frame_result r (frame_of (zone_at r n).address c) room) r n c
unfolding answer_frame
frame_done_lem r n c room p k e = applied (frame_applies r n c room p.sound_record p.present (frame_is_done r (frame_of (zone_at r n).address c) room e).served k) e

-- ---- the lines of a recipe

-- of lines that are each done the first is, and so are those behind it, from the record that it leaves
pub first_done : (r : Record) (line : Sending) (lines : List Sending) (room : List ℕ) → every is_done (in_turn r (line ∷ lines) room) ≡ true
    → ((answer_text r line.zone line.command (take 32 room)).said.number ≡ 0) × (every is_done (in_turn (answer_text r line.zone line.command (take 32 room)).after lines (drop 32 room)) ≡ true)
unfolding in_turn
first_done r line lines room d =
    let one = answer_text r line.zone line.command (take 32 room) in
    let parts = both (is_zero one.said.number) (every is_done (in_turn one.after lines (drop 32 room))) d in
    (eqb-true one.said.number 0 parts.0, parts.1)

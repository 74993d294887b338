-- When each number is given, for the four calls. Assumes nothing.
use Rattle.std.specs.Prelude.{Err, Ok}
use Prim.Native.Nat.{ℕ}
use mathlib.Core.Path.{◌≡◌, refl}
use mathlib.Core.Bool.{Bool, true, ◌&&◌}
use mathlib.Core.List.{List, ◌∷◌}
use Rattle.zone.specs.declared.figures.Figures.{Figures}
use Rattle.zone.specs.declared.figures.Command.{Command}
use Rattle.zone.specs.declared.figures.Command.TheVariants.{Read, Write}
use Rattle.zone.specs.declared.zones.Zone.{Zone}
use Rattle.zone.specs.Zones.{address_in_range}
use Rattle.card.specs.declared.records.Record.{Record}
use Rattle.card.specs.Refusals.{◌gives◌}
use Rattle.card.specs.Records.{zone_at}
use Rattle.card.specs.Rules.{ExactlyWhen, numbers_in, InOrder}
use Rattle.card.proofs.Rows.{apart, exactly}
use Rattle.wire.specs.Road.{carries_command, Parsed}
use Rattle.line.specs.Line.{text_road, line_read}
use Rattle.frame.specs.Frame.{frame_road, body_in, body_read}
use Rattle.roads.specs.Calls.{parsed_rows, text_order, text_rows, answer_text, zone_found, holder, frame_order, frame_rows, answer_frame, compose_order, compose_rows, composed_line, composed_frame}
use Rattle.wire.specs.declared.Misread.TheVariants.{Syntax, Unknown}

-- the numbers of the rows differ, whatever the tests are
text_apart : (z : Zone) (p : Parsed) → apart ((true gives 1) ∷ (true gives 2) ∷ (true gives 3) ∷ parsed_rows z p) ≡ true
text_apart z (Ok (Read g)) = refl
text_apart z (Ok (Write f)) = refl
text_apart z (Err Unknown) = refl
text_apart z (Err Syntax) = refl

frame_apart : (z : Zone) (p : Parsed) → apart ((true gives 1) ∷ (true gives 2) ∷ (true gives 4) ∷ (true gives 5) ∷ (true gives 6) ∷ parsed_rows z p) ≡ true
frame_apart z (Ok (Read g)) = refl
frame_apart z (Ok (Write f)) = refl
frame_apart z (Err Unknown) = refl
frame_apart z (Err Syntax) = refl

-- ---- and stand in the printed order

text_order_by : (z : Zone) (p : Parsed) → InOrder ((true gives 1) ∷ (true gives 2) ∷ (true gives 3) ∷ parsed_rows z p) text_order
text_order_by z (Ok (Read g)) = refl
text_order_by z (Ok (Write f)) = refl
text_order_by z (Err Unknown) = refl
text_order_by z (Err Syntax) = refl

pub text_order_lem : (r : Record) (n : ℕ) (line room : List ℕ) → InOrder (text_rows r n line room) text_order
text_order_lem r n line room = text_order_by (zone_at r n) (line_read line)

pub write_line_order : (r : Record) (n : ℕ) (line room : List ℕ) (f : Figures) → line_read line ≡ Ok (Write f) → numbers_in (text_rows r n line room) ≡ text_order
write_line_order r n line room f e = rw e

frame_order_by : (z : Zone) (p : Parsed) → InOrder ((true gives 1) ∷ (true gives 2) ∷ (true gives 4) ∷ (true gives 5) ∷ (true gives 6) ∷ parsed_rows z p) frame_order
frame_order_by z (Ok (Read g)) = refl
frame_order_by z (Ok (Write f)) = refl
frame_order_by z (Err Unknown) = refl
frame_order_by z (Err Syntax) = refl

pub frame_order_lem : (r : Record) (frame room : List ℕ) → InOrder (frame_rows r frame room) frame_order
frame_order_lem r frame room = frame_order_by (zone_at r (zone_found (holder r frame))) (body_read (body_in frame))

pub write_frame_order : (r : Record) (frame room : List ℕ) (f : Figures) → body_read (body_in frame) ≡ Ok (Write f) → numbers_in (frame_rows r frame room) ≡ frame_order
write_frame_order r frame room f e = rw e

pub compose_order_lem : (fits : Bool) (room : List ℕ) → numbers_in (compose_rows fits room) ≡ compose_order
compose_order_lem fits room = refl

-- ---- when each is given

pub text_exactly : (r : Record) (n : ℕ) (line room : List ℕ) → ExactlyWhen (text_rows r n line room) (answer_text r n line room).said.number
unfolding answer_text
text_exactly r n line room = exactly (text_rows r n line room) (text_apart (zone_at r n) (line_read line))

pub frame_exactly : (r : Record) (frame room : List ℕ) → ExactlyWhen (frame_rows r frame room) (answer_frame r frame room).said.number
unfolding answer_frame
frame_exactly r frame room = exactly (frame_rows r frame room) (frame_apart (zone_at r (zone_found (holder r frame))) (body_read (body_in frame)))

pub compose_line_exactly : (c : Command) (room : List ℕ) → ExactlyWhen (compose_rows (carries_command text_road c) room) (composed_line c room).number
unfolding composed_line
compose_line_exactly c room = exactly (compose_rows (carries_command text_road c) room) refl

pub compose_frame_exactly : (address : ℕ) (c : Command) (room : List ℕ) → ExactlyWhen (compose_rows (address_in_range address && carries_command frame_road c) room) (composed_frame address c room).number
unfolding composed_frame
compose_frame_exactly address c room = exactly (compose_rows (address_in_range address && carries_command frame_road c) room) refl

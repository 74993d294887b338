-- What each call of the two roads comes to, for every record, all bytes and every room. Its refusals stand in document 01's order.
use Rattle.std.specs.Prelude.{ℕ, Bool, true, false, cond, not, ◌&&◌, Option, Some, None, Ok, Err, List, [], ◌∷◌, ltb, eqb}
use lib.ListN.{length, take}
use Rattle.zone.specs.declared.figures.Figures.{Figures}
use Rattle.zone.specs.declared.figures.Command.{Command}
use Rattle.zone.specs.declared.zones.Zone.{Zone}
use Rattle.zone.specs.Lists.{is_zero}
use Rattle.zone.specs.Zones.{address_in_range}
use Rattle.card.specs.declared.records.Record.{Record}
use Rattle.card.specs.Answers.{Result, number_of, values_of}
use Rattle.card.specs.Refusals.{Row, ◌gives◌, first, settled}
use Rattle.card.specs.Records.{zone_at, with_zone, sound, find_of, no_zone}
use Rattle.card.specs.Calls.{Judgement, command_at}
use Rattle.wire.specs.declared.Misread.TheVariants.{Syntax, Unknown}
use Rattle.wire.specs.Road.{Parsed, carries_command}
use Rattle.wire.specs.Room.{filled}
use Rattle.line.specs.Line.{text_road, line_of, line_read}
use Rattle.line.specs.Places.{told, wrong_in, out_in}
use Rattle.frame.specs.Frame.{frame_road, frame_of, shaped, body_in, address_in, checksum_right, body_read}
use Rattle.roads.specs.declared.calls.Replied.{Replied}
use Rattle.roads.specs.declared.composing.Composed.{Composed}
use Rattle.roads.specs.Acknowledgements.{text_reply, frame_reply}

-- what is answered: number and values, the length of the reply, and the room afterwards
pub record Said : Type 0 where
  pub number : ℕ
  pub values : List Figures
  pub length : ℕ
  pub room : List ℕ

-- with a reply in its room; "with no reply n is 0"
abbrev pub said : ℕ → List Figures → List ℕ → List ℕ → Said
said number values reply room = record { number = number; values = values; length = lib.ListN.length reply; room = filled reply room }

-- the reply: the first bytes of the room, as many as were said
abbrev pub reply_in : Said → List ℕ
reply_in s = take s.length s.room

-- what is answered, and the record afterwards
pub record Answered : Type 0 where
  pub said : Said
  pub after : Record

abbrev pub replied_seen : Replied → List ℕ → Answered
replied_seen o room = record { said = record { number = number_of o.answer; values = values_of o.answer; length = o.length; room = room }; after = o.after }

-- ---- what a line or a frame is found to be, at a zone

-- "reply room below 32 bytes"
abbrev pub too_small : List ℕ → Bool
too_small room = ltb (length room) 32

-- "unknown function, first letter, name or index; a line under 5 bytes"
abbrev pub is_unknown : Parsed → Bool
is_unknown (Ok command) = false
is_unknown (Err Unknown) = true
is_unknown (Err Syntax) = false

-- "known command, wrong length, spaces or digits"
abbrev pub is_syntax : Parsed → Bool
is_syntax (Ok command) = false
is_syntax (Err Unknown) = false
is_syntax (Err Syntax) = true

-- a known command is judged by the zone: 9, 10
abbrev pub parsed_at : Zone → Parsed → Judgement
parsed_at z (Ok command) = command_at z command
parsed_at z (Err Unknown) = record { rows = []; values = []; after = z }
parsed_at z (Err Syntax) = record { rows = []; values = []; after = z }

-- 7, 8, 9, 10
abbrev pub parsed_rows : Zone → Parsed → List Row
parsed_rows z parsed = (is_unknown parsed gives 7) ∷ (is_syntax parsed gives 8) ∷ (parsed_at z parsed).rows

-- what comes of it at zone n, by a list of refusals
abbrev pub result_at : Record → ℕ → List Row → Parsed → Result Record
result_at r n rows parsed = settled r rows (parsed_at (zone_at r n) parsed).values (with_zone r n (parsed_at (zone_at r n) parsed).after)

-- ---- "Text: 1, 2, 3, 7, 8, 9, 10"

abbrev pub text_order : List ℕ
text_order = 1 ∷ 2 ∷ 3 ∷ 7 ∷ 8 ∷ 9 ∷ 10 ∷ []

-- past 1 and 2: what is left to the zone and the line, 3, 7, 8, 9, 10
abbrev pub port_rows : Record → ℕ → List ℕ → List Row
port_rows r n line = (no_zone r n gives 3) ∷ parsed_rows (zone_at r n) (line_read line)

-- a write's refusals are all of these; those of a read, or of a line that is no command, are their beginning: write_line_order and text_order_lem, in proofs/Exactly.antt
abbrev pub text_rows : Record → ℕ → List ℕ → List ℕ → List Row
text_rows r n line room = (too_small room gives 1) ∷ (not (sound r) gives 2) ∷ port_rows r n line

abbrev pub text_result : Record → ℕ → List ℕ → List ℕ → Result Record
text_result r n line room = result_at r n (text_rows r n line room) (line_read line)

abbrev pub in_text_reply : Result Record → List ℕ → Answered
in_text_reply o room = record { said = said o.number o.values (text_reply o.number o.values) room; after = o.after }

unfoldable pub answer_text : Record → ℕ → List ℕ → List ℕ → Answered
answer_text r n line room = in_text_reply (text_result r n line room) room

-- The place, which stands beside what is answered: "Wire replies stay as they are" (document 02, Req 04). "Answers 8 and 9 on the text road carry that place, all others 0":
-- 8 where the line is wrong, 9 where the first figure starts that is out of range in a zone of that temperature range or, where each is in its own, the end of a window that does not open before it closes (Req 06)
abbrev pub place_by : ℕ → ℕ → List ℕ → ℕ
place_by number range line = cond (eqb number 8) (told (wrong_in line)) (cond (eqb number 9) (told (out_in range (line_read line))) 0)

unfoldable pub text_place : Record → ℕ → List ℕ → List ℕ → ℕ
text_place r n line room = place_by (answer_text r n line room).said.number (zone_at r n).range line

-- ---- "Frame: 1, 2, 4, 5, 6, 7, 8, 9, 10". No answer of this road carries a place

abbrev pub frame_order : List ℕ
frame_order = 1 ∷ 2 ∷ 4 ∷ 5 ∷ 6 ∷ 7 ∷ 8 ∷ 9 ∷ 10 ∷ []

-- "no present zone holds the address"
abbrev pub is_nowhere : Option ℕ → Bool
is_nowhere (Some n) = false
is_nowhere None = true

-- the zone that was found; 16, which is none, where nothing was
abbrev pub zone_found : Option ℕ → ℕ
zone_found (Some n) = n
zone_found None = 16

abbrev pub holder : Record → List ℕ → Option ℕ
holder r frame = find_of r (address_in frame)

-- as with a line: write_frame_order and frame_order_lem
abbrev pub frame_rows : Record → List ℕ → List ℕ → List Row
frame_rows r frame room =
    (too_small room gives 1)
    ∷ (not (sound r) gives 2)
    ∷ (not (shaped frame) gives 4)
    ∷ (is_nowhere (holder r frame) gives 5)
    ∷ (not (checksum_right frame) gives 6)
    ∷ parsed_rows (zone_at r (zone_found (holder r frame))) (body_read (body_in frame))

abbrev pub frame_result : Record → List ℕ → List ℕ → Result Record
frame_result r frame room = result_at r (zone_found (holder r frame)) (frame_rows r frame room) (body_read (body_in frame))

abbrev pub in_frame_reply : ℕ → Result Record → List ℕ → Answered
in_frame_reply address o room = record { said = said o.number o.values (frame_reply address o.number o.values) room; after = o.after }

unfoldable pub answer_frame : Record → List ℕ → List ℕ → Answered
answer_frame r frame room = in_frame_reply (address_in frame) (frame_result r frame room) room

-- ---- "Composing: 1, 9"

abbrev pub compose_order : List ℕ
compose_order = 1 ∷ 9 ∷ []

abbrev pub composed_seen : Composed → List ℕ → Said
composed_seen o room = record { number = number_of o.answer; values = values_of o.answer; length = o.length; room = room }

-- "Figures are judged only by what the road can carry"
abbrev pub compose_rows : Bool → List ℕ → List Row
compose_rows fits room = (too_small room gives 1) ∷ (not fits gives 9) ∷ []

-- done: the bytes; refused: nothing
abbrev pub composed : List Row → List ℕ → List ℕ → Said
composed rows bytes room = said (first rows) [] (cond (is_zero (first rows)) bytes []) room

unfoldable pub composed_line : Command → List ℕ → Said
composed_line command room = composed (compose_rows (carries_command text_road command) room) (line_of command) room

-- "address 1 to 254"
unfoldable pub composed_frame : ℕ → Command → List ℕ → Said
composed_frame address command room = composed (compose_rows (address_in_range address && carries_command frame_road command) room) (frame_of address command) room

-- The three demands, in the buyer's order and words, and at the end what document 02's Req 06 says of sessions. Above each statement stands where it is proved.
-- "P → ⊥" says that P does not hold, "P ⊎ Q" that one of the two does, "P × Q" that both do.
use Rattle.std.specs.Prelude.{ℕ, ◌*◌, ◌≤◌, ◌<◌, min, ◌≡◌, ◌⊎◌, Bool, true, false, cond, ◌&&◌, Ok, List, [], ◌∷◌, map, length, get_or, set, eqb, ltb}
use Rattle.zone.specs.declared.figures.Group.{Group}
use Rattle.zone.specs.declared.figures.Figures.{Figures}
use Rattle.zone.specs.declared.figures.Figures.TheVariants.{AhueWindow}
use Rattle.zone.specs.declared.figures.WindowFigures.{WindowFigures}
use Rattle.zone.specs.declared.figures.Command.{Command}
use Rattle.zone.specs.declared.figures.Command.TheVariants.{Read, Write}
use Rattle.zone.specs.declared.sources.Source.{Source}
use Rattle.zone.specs.declared.zones.Zone.{Zone}
use Rattle.zone.specs.Lists.{some, every}
use Rattle.zone.specs.Table.{Kind, flag, limit, time}
use Rattle.zone.specs.Figures.{group_of, entries_of, in_range}
use Rattle.zone.specs.Zones.{empty_zone, figures_of, address_in_range, locks}
use Rattle.zone.specs.Rules.{SetsFigures, Shut}
use Rattle.card.specs.declared.records.Record.{Record}
use Rattle.card.specs.Refusals.{Row}
use Rattle.card.specs.Records.{zone_at, otherwise_sound, sound}
use Rattle.card.specs.Calls.{add_rows, zone_rows, remove_at, report_at, command_at, choose_source_at, setpoint_in_use_at, book_at, ship_at, merge_rows, repair_rows}
use Rattle.card.specs.Rules.{ExactlyWhen, numbers_in, add_order, remove_order, report_order, apply_order, choose_source_order, setpoint_in_use_order, book_order, ship_order, merge_order, repair_order, InOrder}
use Rattle.wire.specs.Road.{carries_command}
use Rattle.line.specs.Line.{A, S, text_road, line_with, line_of, line_read}
use Rattle.frame.specs.declared.reading.Framed.TheVariants.{Request}
use Rattle.frame.specs.Frame.{frame_road, short_frame, body_with, framed, frame_of, body_in, address_in, shaped, body_read, frame_read}
use Rattle.roads.specs.declared.answering.Acknowledgement.{Acknowledgement}
use Rattle.roads.specs.declared.answering.Acknowledgement.TheVariants.{Okay}
use Rattle.roads.specs.Acknowledgements.{text_of, function_of, text_refusal, frame_refusal}
use Rattle.roads.specs.Calls.{Said, said, Answered, reply_in, text_order, text_rows, answer_text, frame_order, frame_rows, answer_frame, compose_order, compose_rows, composed_line, composed_frame}
use Rattle.texts.specs.Texts.{lines_of}
use Rattle.recipes.specs.Recipes.{sendings, load_order, load_rows}
use Rattle.session.specs.Sessions.{Speaking, text, frame, compose_line, compose_frame, load, Quiet, add, remove, report, apply, choose_source, setpoint_in_use, book, ship, merge, repair, Call, in_room, quiet, answer_to, after, Done, run, Throughout}
use Rattle.session.specs.Changes.{Removes, NotAdded, NotGiven, NotRewritten}

-- ---- 1. "Any bytes, any zone number and any record may be handed to the card."

-- the order of a call's refusals, as document 01 prints it, of removing with 15 behind it (Req 07); of apply, as it follows from that of a line; of the calls of document 02, as its requests have it, of the setpoint in use its beginning, since no figure is handed in, and of a recipe with the numbers that a line may get behind its own
abbrev pub spoken_order : Speaking → List ℕ
spoken_order (text zone line) = text_order
spoken_order (frame bytes) = frame_order
spoken_order (compose_line command) = compose_order
spoken_order (compose_frame address command) = compose_order
spoken_order (load recipe) = load_order

abbrev pub quiet_order : Quiet → List ℕ
quiet_order (add zone address range) = add_order
quiet_order (remove zone) = remove_order
quiet_order (report zone state actual) = report_order
quiet_order (apply zone command) = apply_order
quiet_order (choose_source zone source millivolts) = choose_source_order
quiet_order (setpoint_in_use zone) = setpoint_in_use_order
quiet_order (book zone kilograms) = book_order
quiet_order (ship zone kilograms) = ship_order
quiet_order (merge a b) = merge_order
quiet_order repair = repair_order

abbrev pub order : Call → List ℕ
order (in_room call room) = spoken_order call
order (quiet call) = quiet_order call

-- its refusals, each a test with its number, as its definition has them
abbrev pub spoken_refusals : Record → Speaking → List ℕ → List Row
spoken_refusals r (text zone line) room = text_rows r zone line room
spoken_refusals r (frame bytes) room = frame_rows r bytes room
spoken_refusals r (compose_line command) room = compose_rows (carries_command text_road command) room
spoken_refusals r (compose_frame address command) room = compose_rows (address_in_range address && carries_command frame_road command) room
spoken_refusals r (load recipe) room = load_rows r recipe room

abbrev pub quiet_refusals : Record → Quiet → List Row
quiet_refusals r (add zone address range) = add_rows r zone address range
quiet_refusals r (remove zone) = zone_rows r zone (remove_at (zone_at r zone))
quiet_refusals r (report zone state actual) = zone_rows r zone (report_at (zone_at r zone) state actual)
quiet_refusals r (apply zone command) = zone_rows r zone (command_at (zone_at r zone) command)
quiet_refusals r (choose_source zone source millivolts) = zone_rows r zone (choose_source_at (zone_at r zone) source millivolts)
quiet_refusals r (setpoint_in_use zone) = zone_rows r zone (setpoint_in_use_at (zone_at r zone))
quiet_refusals r (book zone kilograms) = zone_rows r zone (book_at (zone_at r zone) kilograms)
quiet_refusals r (ship zone kilograms) = zone_rows r zone (ship_at (zone_at r zone) kilograms)
quiet_refusals r (merge a b) = merge_rows r a b
quiet_refusals r repair = repair_rows r

abbrev pub refusals : Record → Call → List Row
refusals r (in_room call room) = spoken_refusals r call room
refusals r (quiet call) = quiet_refusals r call

abbrev pub among : ℕ → List ℕ → Bool
among n l = some (eqb n) l

-- the room that a call was lent
abbrev pub lent : Call → List ℕ
lent (in_room call room) = room
lent (quiet call) = []

-- the acknowledgement that document 01 fixes for a refusal of that number: on the two roads, "else none"
abbrev pub fixed_in : Speaking → ℕ → List ℕ
fixed_in (text zone line) number = text_refusal number
fixed_in (frame bytes) number = frame_refusal (address_in bytes) number
fixed_in (compose_line command) number = []
fixed_in (compose_frame address command) number = []
fixed_in (load recipe) number = []

abbrev pub fixed : Call → ℕ → List ℕ
fixed (in_room call room) number = fixed_in call number
fixed (quiet call) number = []

pub record EndsWell (r : Record) (call : Call) : Type 0 where
  -- "Every call ends with one of the numbered answers of document 01.", and of document 02, which numbers more
  pub numbered : among (answer_to r call).said.number (0 ∷ order call) ≡ true
  -- "Given exactly when" and "Where several apply, the first in the call's order is given" (document 01): each number exactly where its test holds and no earlier one does, 0 exactly where none holds, and the numbers stand in the printed order
  pub exactly : ExactlyWhen (refusals r call) (answer_to r call).said.number
  pub in_order : InOrder (refusals r call) (order call)
  -- "A refused call leaves the record as it was and writes nothing but the acknowledgement fixed there." It tells no figures, and the room keeps its contents behind the acknowledgement. (That a refused repair tells no old ends: RepairRefused, in card/specs/Rules.antt)
  pub refused : (Done r call → ⊥) → answer_to r call ≡ record { said = said (answer_to r call).said.number [] (fixed call (answer_to r call).said.number) (lent call); after = r }
  -- whatever is answered fits the room, which keeps its length
  pub same_room : length (answer_to r call).said.room ≡ length (lent call)

-- `answers`, in proofs/Answering.antt
abbrev pub EveryCallAnswers : Type 0
EveryCallAnswers = (r : Record) (call : Call) → EndsWell r call

-- of a write the refusals are the whole printed order: a card that forgets one of them has a shorter list.
pub record WholeOrder (r : Record) (n : ℕ) (figures : Figures) (bytes room : List ℕ) : Type 0 where
  pub by_line : line_read bytes ≡ Ok (Write figures) → numbers_in (refusals r (in_room (text n bytes) room)) ≡ text_order
  pub by_frame : body_read (body_in bytes) ≡ Ok (Write figures) → numbers_in (refusals r (in_room (frame bytes) room)) ≡ frame_order
  pub applied : numbers_in (refusals r (quiet (apply n (Write figures)))) ≡ apply_order

-- `whole_order` and, of the statement below, `whole_order_quiet`, in proofs/Answering.antt
abbrev pub WritesHaveTheWholeOrder : Type 0
WritesHaveTheWholeOrder = (r : Record) (n : ℕ) (figures : Figures) (bytes room : List ℕ) → WholeOrder r n figures bytes room

-- and so of every other call without a room, applying apart: all of its order
abbrev pub CallsHaveTheWholeOrder : Type 0
CallsHaveTheWholeOrder = (r : Record) (call : Quiet) → ((n : ℕ) (command : Command) → call ≡ apply n command → ⊥) → numbers_in (refusals r (quiet call)) ≡ order (quiet call)

-- "Until it is added again a removed zone is never written to": it stays the empty zone, through any session and from any record. A refused addition does not add it.
-- `stays_empty` and `stays_removed`, in proofs/Demand1.antt
abbrev pub StaysEmpty : Type 0
StaysEmpty = (r : Record) (n : ℕ) (calls : List Call) → zone_at r n ≡ empty_zone → Throughout (NotAdded n) r calls → zone_at (run r calls) n ≡ empty_zone

-- the record at the end of a session that began with a call, such as the one that removed the zone
abbrev pub later : Record → Call → List Call → Record
later r call calls = run (after r call) calls

-- a zone that was removed, by removal or by merging (document 02, Req 07), stays the empty zone
abbrev pub StaysRemoved : Type 0
StaysRemoved = (r : Record) (n : ℕ) (call : Call) (calls : List Call) → Removes n r call → Throughout (NotAdded n) (after r call) calls → zone_at (later r call calls) n ≡ empty_zone

-- "an address that no present zone holds meets silence".
pub record Silence (r : Record) (bytes room : List ℕ) : Type 0 where
  pub record_kept : (answer_frame r bytes room).after ≡ r
  pub room_kept : (answer_frame r bytes room).said.room ≡ room
  pub no_reply : (answer_frame r bytes room).said.length ≡ 0
  pub tells_nothing : (answer_frame r bytes room).said.values ≡ []
  -- and where nothing comes before it in the order, the number is 5
  pub five : 32 ≤ length room → sound r ≡ true → shaped bytes ≡ true → (answer_frame r bytes room).said.number ≡ 5

-- `meets_silence`, in proofs/Demand1.antt
abbrev pub MeetsSilence : Type 0
MeetsSilence = (r : Record) (bytes room : List ℕ) → ((n : ℕ) → (zone_at r n).present ≡ true → (zone_at r n).address ≡ address_in bytes → ⊥) → Silence r bytes room

-- the buyer's case: "fitters folded head 5 into head 4. The orders still pointed at head 5. The old card went on answering OK to its address".
-- Once a zone has been removed, by removal or by merging, every call that still points at it is refused, in silence and to the end of any session: one that names its number with 3, until the zone is added again;
-- a frame of document 01's shape to its old address with 5, until a zone is added with that address. (On the two roads with room of 32 bytes; with less it is 1, in silence too.)
abbrev pub refused_silently : ℕ → Record → List ℕ → Answered
refused_silently number r room = record { said = said number [] [] room; after = r }

-- a call without a room that names zone n, other than adding it
pub data PointsAt (n : ℕ) : Quiet → Type 0 where
  applies : (command : Command) → PointsAt n (apply n command)
  reports : (state actual : ℕ) → PointsAt n (report n state actual)
  removes : PointsAt n (remove n)
  chooses : (source : Source) (millivolts : ℕ) → PointsAt n (choose_source n source millivolts)
  asks : PointsAt n (setpoint_in_use n)
  books : (kilograms : ℕ) → PointsAt n (book n kilograms)
  ships : (kilograms : ℕ) → PointsAt n (ship n kilograms)
  merges : (b : ℕ) → PointsAt n (merge n b)
  merges_into : (a : ℕ) → PointsAt n (merge a n)

pub record Gone (r : Record) (n : ℕ) (removal : Call) (calls : List Call) (room : List ℕ) : Type 0 where
  pub by_line : Throughout (NotAdded n) (after r removal) calls → (line : List ℕ) → answer_text (later r removal calls) n line room ≡ refused_silently 3 (later r removal calls) room
  pub by_frame : Throughout (NotGiven (zone_at r n).address) (after r removal) calls
      → (bytes : List ℕ) → shaped bytes ≡ true → address_in bytes ≡ (zone_at r n).address → answer_frame (later r removal calls) bytes room ≡ refused_silently 5 (later r removal calls) room
  -- a recipe with a line to it is refused, in silence too, and so none of its lines is stored (Req 01); which number it gets is that of the first refused line, or 1, 2 or 14
  pub by_recipe : Throughout (NotAdded n) (after r removal) calls → (recipe slots : List ℕ) → some (λ line. eqb line.zone n) (sendings (lines_of recipe)) ≡ true
      → (number : ℕ) × (number ≡ 0 → ⊥) × (answer_to (later r removal calls) (in_room (load recipe) slots) ≡ refused_silently number (later r removal calls) slots)
  -- applying a command, reporting, removing once more, choosing the source, asking for the setpoint in use, booking, shipping, merging it or into it
  pub by_call : Throughout (NotAdded n) (after r removal) calls → (call : Quiet) → PointsAt n call → answer_to (later r removal calls) (quiet call) ≡ refused_silently 3 (later r removal calls) []

-- `stays_gone`, in proofs/Demand1.antt
abbrev pub RemovedStaysGone : Type 0
RemovedStaysGone = (r : Record) (n : ℕ) (removal : Call) (calls : List Call) (room : List ℕ) → Removes n r removal → 32 ≤ length room → Gone r n removal calls room

-- ---- 2. "Replies are those of the device description as document 01 condenses it."

-- a zone present in a sound record
pub record Present (r : Record) (n : ℕ) : Type 0 where
  pub sound_record : sound r ≡ true
  pub below : n < 16
  pub present : (zone_at r n).present ≡ true

-- what is said of a done read: the figures, their reply, and behind it what the room kept
abbrev pub tells : Figures → List ℕ → List ℕ → Said
tells figures reply room = said 0 (figures ∷ []) reply room

-- a read is done, alters nothing and tells the stored figures; its reply is their line, or their frame
pub record Replies (r : Record) (n : ℕ) (group : Group) (room : List ℕ) : Type 0 where
  pub by_line : answer_text r n (line_of (Read group)) room ≡ record { said = tells (figures_of (zone_at r n) group) (line_with A (figures_of (zone_at r n) group)) room; after = r }
  pub by_frame : answer_frame r (frame_of (zone_at r n).address (Read group)) room
      ≡ record { said = tells (figures_of (zone_at r n) group) (framed (body_with (zone_at r n).address 0x00 (figures_of (zone_at r n) group))) room; after = r }
  -- "A read reply with A made S, or with 00 made 69 and a fresh checksum, is the write command of its figures"
  pub line_writes : line_read (set (line_with A (figures_of (zone_at r n) group)) 0 S) ≡ Ok (Write (figures_of (zone_at r n) group))
  pub frame_writes : frame_read (framed (set (body_with (zone_at r n).address 0x00 (figures_of (zone_at r n) group)) 1 0x69)) ≡ Request (zone_at r n).address (Ok (Write (figures_of (zone_at r n) group)))

-- `replies`, in proofs/Demand2.antt
abbrev pub ReadsAreReplied : Type 0
ReadsAreReplied = (r : Record) (n : ℕ) (group : Group) (room : List ℕ) → Present r n → 32 ≤ length room → Replies r n group room

-- a write that is answered as done tells nothing and gets the OK, and behind it the room keeps its contents
pub record WriteReply (r : Record) (n : ℕ) (figures : Figures) (room : List ℕ) : Type 0 where
  pub by_line : carries_command text_road (Write figures) ≡ true → Done r (in_room (text n (line_of (Write figures))) room)
      → (answer_text r n (line_of (Write figures)) room).said ≡ said 0 [] (text_of Okay) room
  pub by_frame : Present r n → carries_command frame_road (Write figures) ≡ true → Done r (in_room (frame (frame_of (zone_at r n).address (Write figures))) room)
      → (answer_frame r (frame_of (zone_at r n).address (Write figures)) room).said ≡ said 0 [] (short_frame (zone_at r n).address 0x00) room

-- `write_replies`, in proofs/Demand2.antt
abbrev pub WritesAreReplied : Type 0
WritesAreReplied = (r : Record) (n : ℕ) (figures : Figures) (room : List ℕ) → WriteReply r n figures room

-- a write to a present zone of a sound record, with room of 32 bytes, is refused with 9 where its figures are out of range (one of them out of its own, or the window's rule broken), else with 10 where the state locks its group, and else done: so a card that refuses all is none
abbrev pub write_number : Zone → Figures → ℕ
write_number z figures = cond (in_range z.range figures) (cond (locks z.status.state (group_of figures)) 10 0) 9

pub record Judged (r : Record) (n : ℕ) (figures : Figures) (room : List ℕ) : Type 0 where
  pub applied : (answer_to r (quiet (apply n (Write figures)))).said.number ≡ write_number (zone_at r n) figures
  pub by_line : carries_command text_road (Write figures) ≡ true → (answer_text r n (line_of (Write figures)) room).said.number ≡ write_number (zone_at r n) figures
  pub by_frame : carries_command frame_road (Write figures) ≡ true → (answer_frame r (frame_of (zone_at r n).address (Write figures)) room).said.number ≡ write_number (zone_at r n) figures

-- `judged`, in proofs/Demand2.antt
abbrev pub WritesAreJudged : Type 0
WritesAreJudged = (r : Record) (n : ℕ) (figures : Figures) (room : List ℕ) → Present r n → 32 ≤ length room → Judged r n figures room

-- what is compared of two answers: the record, the number and the figures. "Demand 3 compares numbers and figures, not places" (document 02, Req 04)
pub record Same (a b : Answered) : Type 0 where
  pub same_record : a.after ≡ b.after
  pub same_number : a.said.number ≡ b.said.number
  pub same_figures : a.said.values ≡ b.said.values

-- "Every command that the card composes, as line or frame, it reads back as that command with those figures."
pub record ReadsBack (address : ℕ) (command : Command) (room : List ℕ) : Type 0 where
  -- a done composing leaves the line, or the frame, in the room, which keeps its contents behind it
  pub line_said : (composed_line command room).number ≡ 0 → composed_line command room ≡ said 0 [] (line_of command) room
  pub frame_said : (composed_frame address command room).number ≡ 0 → composed_frame address command room ≡ said 0 [] (frame_of address command) room
  pub line_back : (composed_line command room).number ≡ 0 → line_read (reply_in (composed_line command room)) ≡ Ok command
  pub frame_back : (composed_frame address command room).number ≡ 0 → frame_read (reply_in (composed_frame address command room)) ≡ Request address (Ok command)
  -- and sent, with reply room of 32 bytes, it comes to what applying the command comes to: the line to any zone of any record, the frame to the present zone of a sound record that has its address
  pub line_sent : (composed_line command room).number ≡ 0
      → (r : Record) (n : ℕ) (room' : List ℕ) → 32 ≤ length room' → Same (answer_text r n (reply_in (composed_line command room)) room') (answer_to r (quiet (apply n command)))
  pub frame_sent : (composed_frame address command room).number ≡ 0
      → (r : Record) (n : ℕ) (room' : List ℕ) → Present r n → (zone_at r n).address ≡ address → 32 ≤ length room'
      → Same (answer_frame r (reply_in (composed_frame address command room)) room') (answer_to r (quiet (apply n command)))

-- `reads_back`, in proofs/Demand2.antt
abbrev pub ComposedReadsBack : Type 0
ComposedReadsBack = (address : ℕ) (command : Command) (room : List ℕ) → ReadsBack address command room

-- "In each section the five acknowledgements, OK included, have to differ" (document 01).
pub record Differ (a b : Acknowledgement) : Type 0 where
  pub in_text : text_of a ≡ text_of b → a ≡ b
  pub in_frames : function_of a ≡ function_of b → a ≡ b

-- `differ`, in proofs/Demand2.antt
abbrev pub AcknowledgementsDiffer : Type 0
AcknowledgementsDiffer = (a b : Acknowledgement) → Differ a b

-- ---- 3. "Take a sound record, a zone present in it, and reply room of 32 bytes."

-- "A command whose figures both roads can carry"
abbrev pub both_carry : Command → Bool
both_carry command = carries_command text_road command && carries_command frame_road command

-- the first number that not both roads can carry
abbrev pub both_bound : Kind → ℕ
both_bound kind = min (text_road.bound kind) (frame_road.bound kind)

-- "flag 0..9, one-byte figures 0..255, two-byte figures 0..999": `both_bounds` and `both_carried`, in proofs/Demand3.antt
abbrev pub BothBounds : Type 0
BothBounds = map both_bound (flag ∷ limit ∷ time ∷ []) ≡ 10 ∷ 256 ∷ 1000 ∷ []

abbrev pub BothCarried : Type 0
BothCarried = (f : Figures) → both_carry (Write f) ≡ every (λ e. ltb e.number (both_bound e.column.kind)) (entries_of f)

-- "leaves the same record and gets the same answer number and figures, whether it comes as text or as a frame".
-- `same_by_both`, in proofs/Demand3.antt
abbrev pub SameByBoth : Type 0
SameByBoth = (r : Record) (n : ℕ) (command : Command) (room room' : List ℕ) → Present r n → both_carry command ≡ true → 32 ≤ length room → 32 ≤ length room'
    → Same (answer_text r n (line_of command) room) (answer_frame r (frame_of (zone_at r n).address command) room')

-- "No other input on either road is answered as done or alters a record": what is, is a command's line to a present zone, or its frame to a present zone's address
abbrev pub DoneOrAlters : Record → Answered → Type 0
DoneOrAlters r answered = (answered.said.number ≡ 0) ⊎ (answered.after ≡ r → ⊥)

pub record IsLine (r : Record) (n : ℕ) (line room : List ℕ) : Type 0 where
  pub command : Command
  pub line_is : line ≡ line_of command
  pub carried_by_both : both_carry command ≡ true
  pub present : Present r n
  pub served : 32 ≤ length room

pub record IsFrame (r : Record) (bytes room : List ℕ) : Type 0 where
  pub command : Command
  pub zone : ℕ
  pub frame_is : bytes ≡ frame_of (zone_at r zone).address command
  pub carried_by_both : both_carry command ≡ true
  pub present : Present r zone
  pub served : 32 ≤ length room

-- `only_lines` and `only_frames`, in proofs/Demand3.antt
abbrev pub OnlyLines : Type 0
OnlyLines = (r : Record) (n : ℕ) (line room : List ℕ) → DoneOrAlters r (answer_text r n line room) → IsLine r n line room

-- of a list of bytes: what comes on the pair has no number above 255
abbrev pub OnlyFrames : Type 0
OnlyFrames = (r : Record) (bytes room : List ℕ) → ((i : ℕ) → get_or bytes i 0 < 256) → DoneOrAlters r (answer_frame r bytes room) → IsFrame r bytes room

-- a sound record stays sound, through any session: `stays_sound`, in proofs/Demand3.antt
abbrev pub StaysSound : Type 0
StaysSound = (r : Record) (calls : List Call) → sound r ≡ true → sound (run r calls) ≡ true

-- the two ways to send a command to a zone present in the sound record at that step, with room of 32 bytes
pub data OtherRoad (r : Record) : Call → Call → Type 0 where
  by_frame : (n : ℕ) (command : Command) (room room' : List ℕ) → Present r n → both_carry command ≡ true → 32 ≤ length room → 32 ≤ length room'
      → OtherRoad r (in_room (text n (line_of command)) room) (in_room (frame (frame_of (zone_at r n).address command)) room')
  by_text : (n : ℕ) (command : Command) (room room' : List ℕ) → Present r n → both_carry command ≡ true → 32 ≤ length room → 32 ≤ length room'
      → OtherRoad r (in_room (frame (frame_of (zone_at r n).address command)) room) (in_room (text n (line_of command)) room')

-- two sessions that differ in roads alone, at any number of places. It is said of any kinds of calls: step is what a call does to the record, Other which calls go by the other road
pub data Rerouted {C : Type 0} (step : Record → C → Record) (Other : Record → C → C → Type 0) : Record → List C → List C → Type 0 where
  over : {r : Record} → Rerouted step Other r [] []
  as_before : {r : Record} {xs ys : List C} (x : C) → Rerouted step Other (step r x) xs ys → Rerouted step Other r (x ∷ xs) (x ∷ ys)
  other_road : {r : Record} {xs ys : List C} (x y : C) → Other r x y → Rerouted step Other (step r x) xs ys → Rerouted step Other r (x ∷ xs) (y ∷ ys)

-- "So in any session, sending any such command by the other road gives the same record at the end."
-- `same_end`, in proofs/Demand3.antt
abbrev pub SameEnd : Type 0
SameEnd = (r : Record) (xs ys : List Call) → Rerouted after OtherRoad r xs ys → run r xs ≡ run r ys

-- ---- the cards that store the first command of a session and only acknowledge later ones, or forget what they stored

-- "A done write sets exactly the figures of its group in its zone" (document 01), and no other zone is touched
pub record SetsOnly (given : Record) (n : ℕ) (figures : Figures) (left : Record) : Type 0 where
  pub sets : SetsFigures (zone_at given n) figures (zone_at left n)
  pub others : (m : ℕ) → (m ≡ n → ⊥) → zone_at left m ≡ zone_at given m

-- whichever way it came, where it is answered as done
pub record WriteStored (given : Record) (n : ℕ) (figures : Figures) (room : List ℕ) : Type 0 where
  pub applied : Done given (quiet (apply n (Write figures))) → SetsOnly given n figures (after given (quiet (apply n (Write figures))))
  pub as_line : carries_command text_road (Write figures) ≡ true → Done given (in_room (text n (line_of (Write figures))) room)
      → SetsOnly given n figures (after given (in_room (text n (line_of (Write figures))) room))
  pub as_frame : Present given n → carries_command frame_road (Write figures) ≡ true → Done given (in_room (frame (frame_of (zone_at given n).address (Write figures))) room)
      → SetsOnly given n figures (after given (in_room (frame (frame_of (zone_at given n).address (Write figures))) room))

-- from whatever record, so from any that a session leaves: "every step starts from the record just handed back" (document 01). (What the lines of a recipe set: lines_set, in Changes.antt.) `every_write_is_stored`, in proofs/Useless.antt
abbrev pub EveryWriteIsStored : Type 0
EveryWriteIsStored = (r : Record) (calls : List Call) (n : ℕ) (figures : Figures) (room : List ℕ) → WriteStored (run r calls) n figures room

-- and whatever comes after: the figures of a present zone's group stay until a done write of that group to it, by itself or in a recipe, its removal or merging into another or, of AHUE, the repair of its window. `stays_stored`, in proofs/Useless.antt
abbrev pub StaysStored : Type 0
StaysStored = (r : Record) (n : ℕ) (group : Group) (calls : List Call) → (zone_at r n).present ≡ true → Throughout (NotRewritten n group) r calls
    → figures_of (zone_at (run r calls) n) group ≡ figures_of (zone_at r n) group

-- ---- "A window must open before it closes", and "for cards in the field a repair call" (document 02, Req 06)

-- "A window with begin not below end now gives 9 on both roads": whatever its other figures and whatever the state, applied to a present zone of a sound record, or sent to it, with room of 32 bytes, by a road that can carry it
pub record GivesNine (r : Record) (n : ℕ) (window : WindowFigures) (room : List ℕ) : Type 0 where
  pub applied : (answer_to r (quiet (apply n (Write (AhueWindow window))))).said.number ≡ 9
  pub by_line : carries_command text_road (Write (AhueWindow window)) ≡ true → (answer_text r n (line_of (Write (AhueWindow window))) room).said.number ≡ 9
  pub by_frame : carries_command frame_road (Write (AhueWindow window)) ≡ true → (answer_frame r (frame_of (zone_at r n).address (Write (AhueWindow window))) room).said.number ≡ 9

-- `shut_gives_nine`, in proofs/Unsound.antt
abbrev pub ShutGivesNine : Type 0
ShutGivesNine = (r : Record) (n : ℕ) (window : WindowFigures) (room : List ℕ) → window.end ≤ window.begin → Present r n → 32 ≤ length room → GivesNine r n window room

-- the room below which a call is refused with 1: 32 bytes, of a recipe for each line; a call that is lent none has none
abbrev pub room_of : Call → ℕ
room_of (in_room (text zone line) room) = 32
room_of (in_room (frame bytes) room) = 32
room_of (in_room (compose_line command) room) = 32
room_of (in_room (compose_frame address command) room) = 32
room_of (in_room (load recipe) room) = 32 * length (lines_of recipe)
room_of (quiet call) = 0

-- a call that tests soundness, past its room: 2 is in its order, it is not the repair itself, and it is lent the room that it needs
pub record TestsSoundness (call : Call) : Type 0 where
  pub two : among 2 (order call) ≡ true
  pub other : call ≡ quiet repair → ⊥
  pub served : room_of call ≤ length (lent call)

-- "and is not sound": each of them, a read too, is refused with 2, in silence, where some zone has such a window, whatever zone it is meant for.
-- `shut_gives_two`, in proofs/Unsound.antt
abbrev pub ShutGivesTwo : Type 0
ShutGivesTwo = (r : Record) (n : ℕ) (window : WindowFigures) (call : Call) → Shut (zone_at r n) window → TestsSoundness call
    → answer_to r call ≡ record { said = said 2 [] [] (lent call); after = r }

-- a repair helps, where that is the only fault: it is done, and leaves a sound record. `repair_helps`, in proofs/Unsound.antt
abbrev pub RepairHelps : Type 0
RepairHelps = (r : Record) → otherwise_sound r ≡ true → Done r (quiet repair) × (sound (after r (quiet repair)) ≡ true)

-- and nothing else does: a record that is not sound stays as it is through any session without a repair. `unsound_stays`, in proofs/Unsound.antt
abbrev pub NoRepair : Record → Call → Type 0
NoRepair r call = call ≡ quiet repair → ⊥

abbrev pub UnsoundStays : Type 0
UnsoundStays = (r : Record) (calls : List Call) → sound r ≡ false → Throughout NoRepair r calls → run r calls ≡ r

-- a record with another fault not even by a repair. `faulty_stays`, in proofs/Unsound.antt
abbrev pub FaultyStays : Type 0
FaultyStays = (r : Record) (calls : List Call) → otherwise_sound r ≡ false → run r calls ≡ r

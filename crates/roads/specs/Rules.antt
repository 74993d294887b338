-- Rules of the calls that are proved of their definitions, besides those that the demands state. Above each stands where.
use Rattle.std.specs.Prelude.{ℕ, ◌≤◌, ◌≡◌, true, false, Ok, List, length}
use Rattle.zone.specs.declared.figures.Group.{Group}
use Rattle.zone.specs.declared.figures.Figures.{Figures}
use Rattle.zone.specs.declared.figures.Command.{Command}
use Rattle.zone.specs.declared.figures.Command.TheVariants.{Read, Write}
use Rattle.zone.specs.declared.zones.Zone.{Zone}
use Rattle.zone.specs.Zones.{figures_of}
use Rattle.card.specs.declared.records.Record.{Record}
use Rattle.card.specs.Records.{zone_at, sound, no_zone}
use Rattle.card.specs.Calls.{apply_of}
use Rattle.wire.specs.Road.{carries_command}
use Rattle.line.specs.Line.{text_road, line_of, line_read}
use Rattle.line.specs.Places.{offset, wrong_in, out_of}
use Rattle.line.specs.Rules.{BehindSpace}
use Rattle.frame.specs.Frame.{frame_road, frame_of, body_in, shaped, body_read}
use Rattle.roads.specs.Calls.{text_result, answer_text, text_place, zone_found, holder, frame_result, answer_frame}

-- A command that a road carries, sent by it with reply room of 32 bytes, comes to what applying the command comes to: number, figures and record. By frame, to the address of a present zone of a sound record.
-- `text_applies` and `frame_applies`, in proofs/Applied.antt
abbrev pub LineApplies : Type 0
LineApplies = (r : Record) (n : ℕ) (command : Command) (room : List ℕ) → 32 ≤ length room → carries_command text_road command ≡ true → text_result r n (line_of command) room ≡ apply_of r n command

abbrev pub FrameApplies : Type 0
FrameApplies = (r : Record) (n : ℕ) (command : Command) (room : List ℕ) → sound r ≡ true → (zone_at r n).present ≡ true → 32 ≤ length room → carries_command frame_road command ≡ true
    → frame_result r (frame_of (zone_at r n).address command) room ≡ apply_of r n command

-- ---- what an answer hangs on, for document 02's Req 10 and Req 12

-- two zones that judge every line and every frame alike: both are there or neither is, with the same temperature range and in the same state
pub record JudgesAlike (z z' : Zone) : Type 0 where
  pub present : z.present ≡ z'.present
  pub range : z.range ≡ z'.range
  pub state : z.status.state ≡ z'.status.state

-- A line's answer, with its reply, its room and its place, hangs on whether the record is sound, on how the zone of its port judges and, of a done read, on the figures of its group; on nothing else of that zone, and of no other.
-- `text_local`, in proofs/Local.antt
abbrev pub LineHangsOnItsZone : Type 0
LineHangsOnItsZone = (r r' : Record) (n : ℕ) (line room : List ℕ) → sound r ≡ sound r' → JudgesAlike (zone_at r n) (zone_at r' n)
    → ((answer_text r n line room).said.number ≡ 0 → (group : Group) → line_read line ≡ Ok (Read group) → figures_of (zone_at r n) group ≡ figures_of (zone_at r' n) group)
    → ((answer_text r n line room).said ≡ (answer_text r' n line room).said) × (text_place r n line room ≡ text_place r' n line room)

-- A frame's answer hangs on whether the record is sound and, where it is, on who holds its address, and on the same of that zone; where nobody does zone 16 stands for it, which is none of the sixteen. Bytes that are no frame have no address, and no zone is asked for them.
-- `frame_local`, in proofs/Local.antt
abbrev pub FrameHangsOnItsZone : Type 0
FrameHangsOnItsZone = (r r' : Record) (bytes room : List ℕ) → sound r ≡ sound r'
    → (sound r ≡ true → shaped bytes ≡ true → (holder r bytes ≡ holder r' bytes) × JudgesAlike (zone_at r (zone_found (holder r bytes))) (zone_at r' (zone_found (holder r bytes))))
    → ((answer_frame r bytes room).said.number ≡ 0 → (group : Group) → body_read (body_in bytes) ≡ Ok (Read group)
    → figures_of (zone_at r (zone_found (holder r bytes))) group ≡ figures_of (zone_at r' (zone_found (holder r bytes))) group)
    → (answer_frame r bytes room).said ≡ (answer_frame r' bytes room).said

-- and neither touches any other zone: a line none but that of its port, a frame none but the one that holds its address. (Bytes that are no frame alter no zone at all, since they are refused: EndsWell, in session/specs/Demands.antt.)
-- `text_touches` and `frame_touches`, in proofs/Local.antt
abbrev pub LineTouchesItsZone : Type 0
LineTouchesItsZone = (r : Record) (n : ℕ) (line room : List ℕ) (m : ℕ) → (m ≡ n → ⊥) → zone_at (answer_text r n line room).after m ≡ zone_at r m

abbrev pub FrameTouchesItsZone : Type 0
FrameTouchesItsZone = (r : Record) (bytes room : List ℕ) (m : ℕ) → (m ≡ zone_found (holder r bytes) → ⊥) → zone_at (answer_frame r bytes room).after m ≡ zone_at r m

-- ---- the place that an answer to a line carries (document 02, Req 04)

-- what a number and a place say of the line that they answer
pub record PlaceWith (number place range : ℕ) (line : List ℕ) : Type 0 where
  -- 8: something is wrong there, behind the five letters and at the line's end at most
  pub eight : number ≡ 8 → (wrong_in line ≡ offset place) × (5 ≤ place) × (place ≤ length line)
  -- 9: the line is a write, and the first of its figures that is out of range, or the end of a window that does not open before it closes, starts there, behind a space and within the line
  pub nine : number ≡ 9 → (figures : Figures) × (line_read line ≡ Ok (Write figures)) × (out_of range figures ≡ offset place) × BehindSpace line place
  -- "all others 0"
  pub others : (number ≡ 8 → ⊥) → (number ≡ 9 → ⊥) → place ≡ 0

-- `place_given`, in proofs/PlaceGiven.antt
abbrev pub PlaceGiven : Type 0
PlaceGiven = (r : Record) (n : ℕ) (line room : List ℕ) → PlaceWith (answer_text r n line room).said.number (text_place r n line room) (zone_at r n).range line

-- and the other way: where nothing comes before it in the order (1, 2, 3), a line that is wrong at p is answered 8 with p, and a write whose figures are out of range at p is answered 9 with p.
-- `place_told`, in proofs/PlaceGiven.antt
pub record PlaceFor (r : Record) (n : ℕ) (line room : List ℕ) (p : ℕ) : Type 0 where
  pub eight : wrong_in line ≡ offset p → ((answer_text r n line room).said.number ≡ 8) × (text_place r n line room ≡ p)
  pub nine : (figures : Figures) → line_read line ≡ Ok (Write figures) → out_of (zone_at r n).range figures ≡ offset p → ((answer_text r n line room).said.number ≡ 9) × (text_place r n line room ≡ p)

abbrev pub PlaceTold : Type 0
PlaceTold = (r : Record) (n : ℕ) (line room : List ℕ) (p : ℕ) → 32 ≤ length room → sound r ≡ true → no_zone r n ≡ false → PlaceFor r n line room p

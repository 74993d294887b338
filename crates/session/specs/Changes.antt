-- What a call does to a zone: what documents 01 and 02 have a done write, report, removal, addition, choice of a source, booking, shipment, merging, repair or recipe set is set, and nothing else becomes of any zone. The hypotheses of the demands on whole sessions are said in these words.
-- "P → ⊥" says that P does not hold, "P × Q" that both do.
use Rattle.std.specs.Prelude.{ℕ, ◌+◌, ◌≡◌, true, false, cond, Ok, Err, List, [], ◌∷◌, ◌++◌, eqb}
use Rattle.zone.specs.declared.figures.Group.{Group}
use Rattle.zone.specs.declared.figures.Group.TheVariants.{Ahue}
use Rattle.zone.specs.declared.figures.Figures.{Figures}
use Rattle.zone.specs.declared.figures.Figures.TheVariants.{AhueWindow}
use Rattle.zone.specs.declared.figures.WindowFigures.{WindowFigures}
use Rattle.zone.specs.declared.figures.Command.TheVariants.{Read, Write}
use Rattle.zone.specs.declared.sources.Source.{Source}
use Rattle.zone.specs.declared.zones.Zone.{Zone}
use Rattle.zone.specs.Figures.{group_of}
use Rattle.zone.specs.Zones.{new_zone, empty_zone, state_numbered, opened}
use Rattle.zone.specs.Rules.{SetsFigures, SetsStatus, SetsOrigin, SetsKilograms, Shut}
use Rattle.card.specs.declared.records.Record.{Record}
use Rattle.card.specs.Records.{zone_at}
use Rattle.line.specs.Line.{line_read}
use Rattle.frame.specs.declared.reading.Framed.TheVariants.{Request}
use Rattle.frame.specs.Frame.{frame_read}
use Rattle.texts.specs.Texts.{lines_of}
use Rattle.recipes.specs.Recipes.{Sending, sendings}
use Rattle.session.specs.Sessions.{text, frame, load, add, remove, report, apply, choose_source, book, ship, merge, repair, Call, in_room, quiet, Done, after}
use Rattle.wire.specs.declared.Misread.TheVariants.{Syntax, Unknown}
use Rattle.wire.specs.Road.{Parsed}

-- the call is a done write of those figures to zone n, applied or by either road
pub data Writes (n : ℕ) (figures : Figures) (r : Record) : Call → Type 0 where
  by_apply : Done r (quiet (apply n (Write figures))) → Writes n figures r (quiet (apply n (Write figures)))
  by_line : (line room : List ℕ) → line_read line ≡ Ok (Write figures) → Done r (in_room (text n line) room) → Writes n figures r (in_room (text n line) room)
  by_frame : (bytes room : List ℕ) → (zone_at r n).present ≡ true → frame_read bytes ≡ Request (zone_at r n).address (Ok (Write figures)) → Done r (in_room (frame bytes) room)
      → Writes n figures r (in_room (frame bytes) room)

-- a done report of that state and actual value to zone n
pub data Reports (n state actual : ℕ) (r : Record) : Call → Type 0 where
  reported : Done r (quiet (report n state actual)) → Reports n state actual r (quiet (report n state actual))

-- a done merging of zone a into b (document 02, Req 07)
pub data Merges (a b : ℕ) (r : Record) : Call → Type 0 where
  merged : Done r (quiet (merge a b)) → Merges a b r (quiet (merge a b))

-- zone n is removed: by a done removal, or since it is merged into another ("Merging zone a into b .. removes a")
pub data Removes (n : ℕ) (r : Record) : Call → Type 0 where
  removed : Done r (quiet (remove n)) → Removes n r (quiet (remove n))
  merged_away : {call : Call} (b : ℕ) → Merges n b r call → Removes n r call

-- a done addition of zone n with that address and temperature range
pub data Adds (n address range : ℕ) (r : Record) : Call → Type 0 where
  added : Done r (quiet (add n address range)) → Adds n address range r (quiet (add n address range))

-- a done choice of that source for zone n, with that input
pub data Chooses (n : ℕ) (source : Source) (millivolts : ℕ) (r : Record) : Call → Type 0 where
  chosen : Done r (quiet (choose_source n source millivolts)) → Chooses n source millivolts r (quiet (choose_source n source millivolts))

-- zone n comes to hold so many kilograms in all (document 02, Req 07): by a done booking ("Booking adds"), by a done shipment ("shipping subtracts": what is left and what was shipped are what was held; a done shipment is never of more, by BookingsJudged), or by a done merging of another zone into it
pub data Rebooks (n kilograms : ℕ) (r : Record) : Call → Type 0 where
  booked : (amount : ℕ) → Done r (quiet (book n amount)) → kilograms ≡ (zone_at r n).kilograms + amount → Rebooks n kilograms r (quiet (book n amount))
  shipped : (amount : ℕ) → Done r (quiet (ship n amount)) → kilograms + amount ≡ (zone_at r n).kilograms → Rebooks n kilograms r (quiet (ship n amount))
  moved_in : {call : Call} (a : ℕ) → Merges a n r call → kilograms ≡ (zone_at r n).kilograms + (zone_at r a).kilograms → Rebooks n kilograms r call

-- what a line asks to write, and what the lines of a recipe ask to write to zone n, in their order (document 02, Req 01)
abbrev pub write_in : Parsed → List Figures
write_in (Ok (Read group)) = []
write_in (Ok (Write figures)) = figures ∷ []
write_in (Err Unknown) = []
write_in (Err Syntax) = []

abbrev pub writes_to : ℕ → List Sending → List Figures
writes_to n [] = []
writes_to n (line ∷ lines) = cond (eqb line.zone n) (write_in (line_read line.command)) [] ++ writes_to n lines

-- a done recipe, whose lines write these figures to zone n
pub data Loads (n : ℕ) (writes : List Figures) (r : Record) : Call → Type 0 where
  loaded : (recipe room : List ℕ) → Done r (in_room (load recipe) room) → writes_to n (sendings (lines_of recipe)) ≡ writes → Loads n writes r (in_room (load recipe) room)

-- from one zone to another, these figures are set, one after the other
abbrev pub SetsInTurn : Zone → List Figures → Zone → Type 0
SetsInTurn z [] left = left ≡ z
SetsInTurn z (figures ∷ more) left = (between : Zone) × SetsFigures z figures between × SetsInTurn between more left

-- a done repair, where zone n has a window whose begin is not below its end
pub data Repairs (n : ℕ) (window : WindowFigures) (r : Record) : Call → Type 0 where
  repaired : Done r (quiet repair) → Shut (zone_at r n) window → Repairs n window r (quiet repair)

-- what is done is set: "A done write sets exactly the figures of its group in its zone"; "A done report sets exactly the state and the actual value of its zone"; "Removing empties the zone", and so does merging it into another; a done addition gives the new zone; a choice sets the source and the input; a booking, a shipment and the merging of another zone into this one set the kilograms; a repair "sets the end to begin + 1 in each such zone"; a recipe sets what its lines do, in turn
pub record Sets (r : Record) (n : ℕ) (call : Call) (z : Zone) : Type 0 where
  pub figures_set : (figures : Figures) → Writes n figures r call → SetsFigures (zone_at r n) figures z
  pub status_set : (state actual : ℕ) → Reports n state actual r call → SetsStatus (zone_at r n) (record { state = state_numbered state; actual = actual }) z
  pub emptied : Removes n r call → z ≡ empty_zone
  pub made_new : (address range : ℕ) → Adds n address range r call → z ≡ new_zone address range
  pub origin_set : (source : Source) (millivolts : ℕ) → Chooses n source millivolts r call → SetsOrigin (zone_at r n) (record { source = source; millivolts = millivolts }) z
  pub kilograms_set : (kilograms : ℕ) → Rebooks n kilograms r call → SetsKilograms (zone_at r n) kilograms z
  pub end_set : (window : WindowFigures) → Repairs n window r call → SetsFigures (zone_at r n) (AhueWindow (opened window)) z
  pub lines_set : (writes : List Figures) → Loads n writes r call → SetsInTurn (zone_at r n) writes z

-- `sets`, in proofs/Changes.antt: of every call and every zone
abbrev pub WhatIsDoneIsSet : Type 0
WhatIsDoneIsSet = (r : Record) (call : Call) (n : ℕ) → Sets r n call (zone_at (after r call) n)

-- and nothing else becomes of zone n: it stays as it is or, where it is present, gets what is written, by itself or by the lines of a recipe in turn, what is reported or chosen, or other kilograms, or is emptied or mended; where it is absent, it may become a new zone
pub data Becomes (r : Record) (n : ℕ) (call : Call) (z : Zone) : Type 0 where
  stays : z ≡ zone_at r n → Becomes r n call z
  written : (figures : Figures) → Writes n figures r call → (zone_at r n).present ≡ true → SetsFigures (zone_at r n) figures z → Becomes r n call z
  was_reported : (state actual : ℕ) → Reports n state actual r call → (zone_at r n).present ≡ true → SetsStatus (zone_at r n) (record { state = state_numbered state; actual = actual }) z → Becomes r n call z
  was_removed : Removes n r call → (zone_at r n).present ≡ true → z ≡ empty_zone → Becomes r n call z
  was_added : (address range : ℕ) → Adds n address range r call → (zone_at r n).present ≡ false → z ≡ new_zone address range → Becomes r n call z
  was_chosen : (source : Source) (millivolts : ℕ) → Chooses n source millivolts r call → (zone_at r n).present ≡ true → SetsOrigin (zone_at r n) (record { source = source; millivolts = millivolts }) z → Becomes r n call z
  was_rebooked : (kilograms : ℕ) → Rebooks n kilograms r call → (zone_at r n).present ≡ true → SetsKilograms (zone_at r n) kilograms z → Becomes r n call z
  was_mended : (window : WindowFigures) → Repairs n window r call → (zone_at r n).present ≡ true → SetsFigures (zone_at r n) (AhueWindow (opened window)) z → Becomes r n call z
  was_loaded : (writes : List Figures) → Loads n writes r call → (zone_at r n).present ≡ true → SetsInTurn (zone_at r n) writes z → Becomes r n call z

-- `becomes`, in proofs/Changes.antt: of every call, whatever it is and whatever it is answered, and of every zone
abbrev pub EveryZoneBecomes : Type 0
EveryZoneBecomes = (r : Record) (call : Call) (n : ℕ) → Becomes r n call (zone_at (after r call) n)

-- ---- what a session is to leave alone

-- zone n is not added; no zone is added with that address. A refused addition adds nothing
abbrev pub NotAdded : ℕ → Record → Call → Type 0
NotAdded n r call = (address range : ℕ) → Adds n address range r call → ⊥

abbrev pub NotGiven : ℕ → Record → Call → Type 0
NotGiven address r call = (n range : ℕ) → Adds n address range r call → ⊥

-- none of these figures are of that group
abbrev pub NoneOf : Group → List Figures → Type 0
NoneOf group [] = Unit {0}
NoneOf group (figures ∷ more) = (group_of figures ≡ group → ⊥) × NoneOf group more

-- no figures of that group are written to zone n, by a recipe neither; it is neither removed nor merged into another and, if the group is AHUE, no window of it is mended
pub record NotRewritten (n : ℕ) (group : Group) (r : Record) (call : Call) : Type 0 where
  pub not_written : (figures : Figures) → group_of figures ≡ group → Writes n figures r call → ⊥
  pub not_removed : Removes n r call → ⊥
  pub not_mended : group ≡ Ahue → (window : WindowFigures) → Repairs n window r call → ⊥
  pub not_loaded : (writes : List Figures) → Loads n writes r call → NoneOf group writes

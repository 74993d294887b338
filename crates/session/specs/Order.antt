-- "Sending order" (document 02, Req 10): which lines and frames may change places, what is the same if they do, and what does not commute. Above each statement stands where it is proved.
-- A card that refuses everything would satisfy all of it but the worked cases; demand 2 rules that one out (WritesAreJudged, in Demands.antt).
-- How to read it. "(x : A) → P" says that P holds for every x, "P → Q" that Q holds where P does ("P → Q → R" that R holds where both do), "⊥" never holds, so "P → ⊥" says that P does not hold, "Unit" always does; "P × Q" says that both hold and "(x : A) × P" that there is an x with P, "P ⊎ Q" that one of the two holds, "P ↔ Q" that each holds where the other does, "Some x" is that x and "None" that there is none, "Ok x" is what was read and "Err y" why it was not, "x ≡ y" that they are equal.
-- Of a "record" all lines hold, of a "data" one; "Type 0" is what statements and kinds of things are, and what stands in braces is found from the rest. "[]" is the empty list, "x ∷ xs" is x and behind it the list xs, "map f xs" has f of each; "A × B" are the pairs "(a, b)", of which ".0" is the first part and ".1" the second; "z.part" is that part of z, "λ x. e" what gives e for x. "true" and "false" are what tests give ("Bool"): "eqb a b" tests whether two numbers are equal, "&&" is and, "||" or, "not" the contrary.
use Rattle.std.specs.Prelude.{ℕ, ◌≡◌, ◌⊎◌, ◌↔◌, true, false, Ok, Err, List, [], ◌∷◌, map}
use Prim.Native.String.{String}
use Rattle.zone.specs.declared.figures.Group.{Group}
use Rattle.zone.specs.declared.figures.Figures.{Figures}
use Rattle.zone.specs.declared.figures.Command.{Command}
use Rattle.zone.specs.declared.figures.Command.TheVariants.{Read, Write}
use Rattle.zone.specs.Figures.{group_of}
use Rattle.zone.specs.Zones.{new_zone}
use Rattle.card.specs.declared.records.Record.{Record}
use Rattle.card.specs.Records.{empty_record, zone_at, with_zone, find_of, no_zone}
use Rattle.card.specs.Calls.{setpoint_told}
use Rattle.line.specs.Line.{line_read}
use Rattle.frame.specs.declared.reading.Framed.{Framed}
use Rattle.frame.specs.declared.reading.Framed.TheVariants.{NoFrame, BadSum, Request}
use Rattle.frame.specs.Frame.{frame_read}
use Rattle.roads.specs.Calls.{zone_found, holder}
use Rattle.session.specs.Sessions.{add, report, Call, quiet, Done, run_by, run, heard_by, answers_of}
use Rattle.session.specs.Inputs.{Input, on_port, on_pair, sent, next, heard, line_on}
use Rattle.wire.specs.declared.Misread.TheVariants.{Unknown}
use Rattle.wire.specs.Road.{Parsed}

-- ---- what a write is, and where it goes

-- what a frame asks for. Bytes that are no frame (4), and a frame whose checksum differs (6), are no command; here both count as unknown. Their numbers stay 4 and 6
abbrev pub request_in : Framed → Parsed
request_in NoFrame = Err Unknown
request_in (BadSum address) = Err Unknown
request_in (Request address parsed) = parsed

-- what an input is read as
abbrev pub input_read : Input → Parsed
input_read (on_port zone line room) = line_read line
input_read (on_pair bytes room) = request_in (frame_read bytes)

-- any input that a road reads as a write is a write, done or refused; and so a read
abbrev pub IsWrite : Input → Figures → Type 0
IsWrite x figures = input_read x ≡ Ok (Write figures)

abbrev pub IsRead : Input → Group → Type 0
IsRead x group = input_read x ≡ Ok (Read group)

-- the zone that it goes to: that of its port, present or not, or the one that holds its address; 16, which is none, where nobody does. (Bytes that are no frame have no address; they are no command either, so what is found for them does not matter)
abbrev pub goes_to : Record → Input → ℕ
goes_to r (on_port zone line room) = zone
goes_to r (on_pair bytes room) = zone_found (holder r bytes)

-- "the same group of one zone": both go to one zone, it is there, and the groups are the same; the two forms of AHUE are one group (group_of). So what goes to no present zone is in no group with anything
pub record SameGroupOfOneZone (r : Record) (x y : Input) (g h : Group) : Type 0 where
  pub zone : goes_to r x ≡ goes_to r y
  pub there : no_zone r (goes_to r x) ≡ false
  pub group : g ≡ h

-- ---- "Two writes to different zones, or to different groups of one zone, must give the same record and each the same answer in either order. .. Both roads, any sound record, nothing between the two."

-- two calls of any kinds, where step is what a call does to the record and answer what is answered: the same record in either order, and of each the same answer in either place
pub record CommuteBy {C A : Type 0} (step : Record → C → Record) (answer : Record → C → A) (r : Record) (x y : C) : Type 0 where
  pub same_record : step (step r x) y ≡ step (step r y) x
  -- x behind y is answered as x is when it comes first
  pub answer_of_x : answer (step r y) x ≡ answer r x
  -- and y behind x as y is
  pub answer_of_y : answer (step r x) y ≡ answer r y

-- "the same answer" is all that is heard: number, figures, reply, the whole room, and the place; each has a room of its own, lent with the same bytes in either place
abbrev pub Commute : Record → Input → Input → Type 0
Commute r x y = CommuteBy next heard r x y

-- Two writes that do not go to the same group of one zone: by whichever roads, in rooms of any size, done or refused, to zones that are there, that are not, and to addresses that nobody holds; and from any record, since one that is not sound refuses both.
-- `writes_commute`, in proofs/Order.antt
abbrev pub WritesCommute : Type 0
WritesCommute = (r : Record) (x y : Input) (f g : Figures) → IsWrite x f → IsWrite y g → (SameGroupOfOneZone r x y (group_of f) (group_of g) → ⊥) → Commute r x y

-- What goes to no present zone (3, 5), or is read as no command (4, 6, 7, 8), commutes with every line and frame. `nowhere_commutes`, in proofs/Order.antt
abbrev pub NowhereCommutes : Type 0
NowhereCommutes = (r : Record) (x y : Input) → (no_zone r (goes_to r x) ≡ true) ⊎ ((command : Command) → input_read x ≡ Ok command → ⊥) → Commute r x y

-- And so does whatever is refused when it comes first, a write to the same group too. `refused_commutes`, in proofs/Order.antt
abbrev pub RefusedCommutes : Type 0
RefusedCommutes = (r : Record) (x y : Input) → (Done r (sent x) → ⊥) → Commute r x y

-- ---- "And where two writes go to the same group of one zone and the second is done, the record is that of the second alone."

-- By whichever roads, from any record, and whether the first is done or not; the second is answered as if it were alone, too. (Where the second is refused the record is that of the first alone: EndsWell, in Demands.antt.) `the_last_stands`, in proofs/Order.antt
abbrev pub TheLastStands : Type 0
TheLastStands = (r : Record) (x y : Input) (f g : Figures) → IsWrite x f → IsWrite y g → SameGroupOfOneZone r x y (group_of f) (group_of g)
    → Done (next r x) (sent y) → (next (next r x) y ≡ next r y) × (heard (next r x) y ≡ heard r y)

-- ---- "The planning tool reorders commands.": another order of a whole session, said once for calls of any kinds

-- x stands in the list
abbrev pub Has : {C : Type 0} → List C → C → Type 0
Has [] x = ⊥
Has (z ∷ zs) x = (z ≡ x) ⊎ Has zs x

-- x stands in it somewhere before y
abbrev pub Before : {C : Type 0} → List C → C → C → Type 0
Before [] x y = ⊥
Before (z ∷ zs) x y = ((z ≡ x) × Has zs y) ⊎ Before zs x y

-- nothing stands in it twice
abbrev pub NoneTwice : {C : Type 0} → List C → Type 0
NoneTwice [] = Unit {0}
NoneTwice (z ∷ zs) = (Has zs z → ⊥) × NoneTwice zs

-- a permitted order: the same calls, each once, and any two that change places are apart, where Apart says which two may
pub record Permitted {C : Type 0} (Apart : C → C → Type 0) (xs ys : List C) : Type 0 where
  pub each_once : NoneTwice xs × NoneTwice ys
  pub same_calls : (x : C) → Has xs x ↔ Has ys x
  pub change_places : (x y : C) → Before xs x y → Before ys y x → Apart x y

-- two sessions from r that end in the same record, and in which each call is answered the same (as Permitted has it, a call stands once in a session, and so has one answer)
pub record AlikeBy {C A : Type 0} (step : Record → C → Record) (answer : Record → C → A) (r : Record) (xs ys : List C) : Type 0 where
  pub same_end : run_by step r xs ≡ run_by step r ys
  pub same_answers : (x : C) (a : A) → Has (heard_by step answer r xs) (x, a) ↔ Has (heard_by step answer r ys) (x, a)

-- calls that are apart commute at every record that is met on the way: Good says what these records have in common, and each call leads from one of them to another
pub record CommuteWhereApart {C A : Type 0} (step : Record → C → Record) (answer : Record → C → A) (Apart : C → C → Type 0) (Good : Record → Type 0) : Type 0 where
  pub stays : (r : Record) (x : C) → Good r → Good (step r x)
  pub commute : (r : Record) (x y : C) → Good r → Apart x y → CommuteBy step answer r x y

-- then every permitted order comes to the same, by exchanges of neighbours. `may_be_reordered`, in proofs/Reordered.antt
abbrev pub MayBeReordered : {C A : Type 0} → (Record → C → Record) → (Record → C → A) → (C → C → Type 0) → (Record → Type 0) → Type 0
MayBeReordered {C} step answer Apart Good = CommuteWhereApart step answer Apart Good → (r : Record) (xs ys : List C) → Good r → Permitted Apart xs ys → AlikeBy step answer r xs ys

-- ---- of lines and frames

-- the same zones are there, and each address is held by the same one
pub record SameZones (r r' : Record) : Type 0 where
  pub there : (n : ℕ) → no_zone r' n ≡ no_zone r n
  pub held : (address : ℕ) → find_of r' address ≡ find_of r address

-- no line and no frame alters that: an absent zone and an address that nobody holds stay so. So where each input of a session goes is judged by the record at the start. `zones_stay`, in proofs/Order.antt
abbrev pub ZonesStay : Type 0
ZonesStay = (r : Record) (x : Input) → SameZones r (next r x)

-- Permitted asks that nothing stands twice; so each input bears a number, and what is sent twice bears two
abbrev pub Numbered : Type 0
Numbered = Input × ℕ

abbrev pub SessionsAlike : Record → List Numbered → List Numbered → Type 0
SessionsAlike r xs ys = AlikeBy (λ s x. next s x.0) (λ s x. heard s x.0) r xs ys

-- Any session of writes, from any record, in any order in which no two writes to the same group of one zone change places: the record at the end and each write's answer are the same. `writes_in_any_order`, in proofs/Order.antt
abbrev pub WritesInAnyOrder : Type 0
WritesInAnyOrder = (r : Record) (xs ys : List Numbered) → ((x : Numbered) → Has xs x → (figures : Figures) × IsWrite x.0 figures)
    → Permitted (λ x y. (f g : Figures) → IsWrite x.0 f → IsWrite y.0 g → SameGroupOfOneZone r x.0 y.0 (group_of f) (group_of g) → ⊥) xs ys → SessionsAlike r xs ys

-- With reads, and with lines and frames of every other kind: two are in each other's way where they go to the same group of one zone and at least one of them writes it
pub data InTheWay (r : Record) (x y : Input) : Type 0 where
  both_write : (f g : Figures) → IsWrite x f → IsWrite y g → SameGroupOfOneZone r x y (group_of f) (group_of g) → InTheWay r x y
  write_read : (f : Figures) (h : Group) → IsWrite x f → IsRead y h → SameGroupOfOneZone r x y (group_of f) h → InTheWay r x y
  read_write : (h : Group) (g : Figures) → IsRead x h → IsWrite y g → SameGroupOfOneZone r x y h (group_of g) → InTheWay r x y

-- any two others commute; WritesCommute and NowhereCommutes are cases of it. `others_commute`, in proofs/Order.antt
abbrev pub OthersCommute : Type 0
OthersCommute = (r : Record) (x y : Input) → (InTheWay r x y → ⊥) → Commute r x y

-- and any session of lines and frames comes to the same in any order in which no two that are in each other's way change places. `in_any_order`, in proofs/Order.antt
abbrev pub InAnyOrder : Type 0
InAnyOrder = (r : Record) (xs ys : List Numbered) → Permitted (λ x y. InTheWay r x.0 y.0 → ⊥) xs ys → SessionsAlike r xs ys

-- Where no input is a read the answers do not hang on the order at all, not even on that of two writes to one group: each is answered as if it came first. (The record at the end may differ.) `as_at_first`, in proofs/Order.antt
abbrev pub AsAtFirst : Type 0
AsAtFirst = (r : Record) (xs : List Input) → ((x : Input) → Has xs x → (group : Group) → IsRead x group → ⊥) → heard_by next heard r xs ≡ map (λ x. (x, heard r x)) xs

-- ---- what does not commute, in worked cases, so that nobody relies on more. Calls that come by no road (adding, removing, reporting, applying a command, choosing a source, the setpoint in use, booking, shipping, merging, repair, composing) are no part of what is said above

-- zone 5 is new, with address 33 and 300 degrees
abbrev pub start : Record
start = with_zone empty_record 5 (new_zone 33 300)

-- a line to a zone, as it is sent
abbrev pub line_to : ℕ → String → Call
line_to zone command = sent (line_on zone command)

-- the commanded setpoint of zone 5 at the end
abbrev pub setpoint_after : List Call → ℕ
setpoint_after calls = (zone_at (run start calls) 5).settings.setpoint.setpoint

-- of each call number and figures, in the order in which they are sent. `order_matters`, in proofs/Worked.antt
pub record OrderMatters : Type 0 where
  -- two writes to one group: both are done, and the last one stands
  pub one_two : answers_of start (line_to 5 "SSOLW 100" ∷ line_to 5 "SSOLW 200" ∷ []) ≡ (0, []) ∷ (0, []) ∷ []
  pub two_one : answers_of start (line_to 5 "SSOLW 200" ∷ line_to 5 "SSOLW 100" ∷ []) ≡ (0, []) ∷ (0, []) ∷ []
  pub two_stands : setpoint_after (line_to 5 "SSOLW 100" ∷ line_to 5 "SSOLW 200" ∷ []) ≡ 200
  pub one_stands : setpoint_after (line_to 5 "SSOLW 200" ∷ line_to 5 "SSOLW 100" ∷ []) ≡ 100
  -- a read, behind a write of what it reads and before it: LSOLW tells 100, or 0
  pub then_read : answers_of start (line_to 5 "SSOLW 100" ∷ line_to 5 "LSOLW" ∷ []) ≡ (0, []) ∷ (0, setpoint_told 100) ∷ []
  pub read_first : answers_of start (line_to 5 "LSOLW" ∷ line_to 5 "SSOLW 100" ∷ []) ≡ (0, setpoint_told 0) ∷ (0, []) ∷ []
  -- a report that zone 5 is On (state 1) with actual value 0, behind a write and before it
  pub then_on : answers_of start (line_to 5 "SHZBG 050" ∷ quiet (report 5 1 0) ∷ []) ≡ (0, []) ∷ (0, []) ∷ []
  pub on_first : answers_of start (quiet (report 5 1 0) ∷ line_to 5 "SHZBG 050" ∷ []) ≡ (0, []) ∷ (10, []) ∷ []
  -- adding zone 6, with address 34 and 300 degrees, behind a write to it and before it
  pub then_added : answers_of start (line_to 6 "SHZBG 050" ∷ quiet (add 6 34 300) ∷ []) ≡ (3, []) ∷ (0, []) ∷ []
  pub added_first : answers_of start (quiet (add 6 34 300) ∷ line_to 6 "SHZBG 050" ∷ []) ≡ (0, []) ∷ (0, []) ∷ []

-- "Who sets the temperature" (document 02, Req 08), over calls of every kind: when a source is chosen, what the card tells of the setpoint in use, what a SOLW does to it, how long a choice lasts, and that nothing else that is answered hangs on a source. Above each statement stands where it is proved.
-- "P → ⊥" says that P does not hold, "P × Q" that both do.
use Rattle.std.specs.Prelude.{ℕ, ◌≤◌, ◌≡◌, Bool, true, false, cond, List, [], map, length}
use Rattle.zone.specs.declared.figures.Group.TheVariants.{Solw}
use Rattle.zone.specs.declared.figures.Figures.TheVariants.{SolwSetpoint}
use Rattle.zone.specs.declared.figures.SetpointFigures.{SetpointFigures}
use Rattle.zone.specs.declared.figures.Command.TheVariants.{Read}
use Rattle.zone.specs.declared.sources.Source.{Source}
use Rattle.zone.specs.declared.sources.Source.TheVariants.{Interface, Voltage}
use Rattle.zone.specs.Sources as sources
use Rattle.zone.specs.Zones.{with_origin}
use Rattle.card.specs.declared.records.Record.{Record}
use Rattle.card.specs.Records.{zone_at, sound}
use Rattle.card.specs.Calls.{setpoint_told}
use Rattle.line.specs.Line.{line_of}
use Rattle.frame.specs.Frame.{frame_of}
use Rattle.roads.specs.Calls.{Said, said, answer_text, text_place, answer_frame}
use Rattle.session.specs.Sessions.{Quiet, add, remove, report, apply, choose_source, setpoint_in_use, book, ship, merge, repair, Call, in_room, quiet, answer_to, after, said_to, Done, run, Throughout, strike, heard_besides}
use Rattle.session.specs.Changes.{Writes, Removes, Chooses, NotAdded}
use Rattle.session.specs.Demands.{Present, later}

-- ---- "another gives the setpoint in use"

-- the card, asked for the setpoint in use of zone n, tells this one: the call is done, and hands back the record as it was
abbrev pub InUse : Record → ℕ → ℕ → Type 0
InUse r n setpoint = answer_to r (quiet (setpoint_in_use n)) ≡ record { said = said 0 (setpoint_told setpoint) [] []; after = r }

-- the source is voltage, with that input
abbrev pub AtVoltage : Record → ℕ → ℕ → Type 0
AtVoltage r n millivolts = (zone_at r n).origin ≡ record { source = Voltage; millivolts = millivolts }

-- what LSOLW tells, whichever way it comes, and the setpoint in use are the same
pub record AsLsolw (r : Record) (n : ℕ) (room : List ℕ) : Type 0 where
  pub applied : (answer_to r (quiet (apply n (Read Solw)))).said.values ≡ (answer_to r (quiet (setpoint_in_use n))).said.values
  pub by_line : (answer_text r n (line_of (Read Solw)) room).said.values ≡ (answer_to r (quiet (setpoint_in_use n))).said.values
  pub by_frame : (answer_frame r (frame_of (zone_at r n).address (Read Solw)) room).said.values ≡ (answer_to r (quiet (setpoint_in_use n))).said.values

-- of a zone present in a sound record
pub record Setpoint (r : Record) (n : ℕ) : Type 0 where
  -- "The setpoint in use is the commanded one, or millivolts times range divided by 10,000, rounded down"
  pub told : InUse r n (sources.setpoint_in_use (zone_at r n))
  -- it is at most the temperature range
  pub within : (setpoint : ℕ) → InUse r n setpoint → setpoint ≤ (zone_at r n).range
  -- under voltage 0 mV give 0; "10 V means the full range"
  pub none : AtVoltage r n 0 → InUse r n 0
  pub full : AtVoltage r n 10000 → InUse r n (zone_at r n).range
  -- under interface it is what LSOLW tells, by a road with room of 32 bytes
  pub commanded : (room : List ℕ) → 32 ≤ length room → (zone_at r n).origin.source ≡ Interface → AsLsolw r n room

-- `setpoint`, in proofs/Sources.antt
abbrev pub SetpointInUse : Type 0
SetpointInUse = (r : Record) (n : ℕ) → Present r n → Setpoint r n

-- under voltage it never falls as the millivolts rise: of two records that have the zone with one temperature range, in whatever else they differ. `never_falls`, in proofs/Sources.antt
abbrev pub NeverFalls : Type 0
NeverFalls = (r r' : Record) (n millivolts millivolts' setpoint setpoint' : ℕ) → Present r n → Present r' n → (zone_at r' n).range ≡ (zone_at r n).range
    → AtVoltage r n millivolts → AtVoltage r' n millivolts' → millivolts ≤ millivolts' → InUse r n setpoint → InUse r' n setpoint' → setpoint ≤ setpoint'

-- ---- "One call sets them"

-- at a zone present in a sound record it is refused with 9 "for more than 10,000 mV", and else done, whatever the state: so a card that refuses every choice is ruled out. `choices_judged`, in proofs/Sources.antt
abbrev pub ChoicesAreJudged : Type 0
ChoicesAreJudged = (r : Record) (n : ℕ) (source : Source) (millivolts : ℕ) → Present r n
    → (answer_to r (quiet (choose_source n source millivolts))).said.number ≡ cond (sources.input_in_range millivolts) 0 9

-- what a done choice leaves in use: that of the voltage, at once, or the figure that was commanded before. `choice_counts`, in proofs/Sources.antt
pub record ChoiceCounts (r : Record) (n millivolts : ℕ) : Type 0 where
  pub of_voltage : Done r (quiet (choose_source n Voltage millivolts)) → InUse (after r (quiet (choose_source n Voltage millivolts))) n (sources.by_voltage millivolts (zone_at r n).range)
  pub of_interface : Done r (quiet (choose_source n Interface millivolts)) → InUse (after r (quiet (choose_source n Interface millivolts))) n (sources.setpoint_by Interface (zone_at r n))

abbrev pub EveryChoiceCounts : Type 0
EveryChoiceCounts = (r : Record) (n millivolts : ℕ) → ChoiceCounts r n millivolts

-- ---- "SOLW counts only if the interface is the chosen source"

-- a done SOLW, applied or by either road (what those of a recipe set: lines_set, in Changes.antt), changes what is in use under interface to the figure written, and under voltage not at all
pub record Counts (r : Record) (n : ℕ) (figures : SetpointFigures) (left : Record) : Type 0 where
  pub by_interface : (zone_at r n).origin.source ≡ Interface → InUse left n figures.setpoint
  pub under_voltage : (zone_at r n).origin.source ≡ Voltage → (setpoint : ℕ) → InUse r n setpoint → InUse left n setpoint

-- `solw_counts`, in proofs/Sources.antt
abbrev pub SolwCounts : Type 0
SolwCounts = (r : Record) (n : ℕ) (figures : SetpointFigures) (call : Call) → Writes n (SolwSetpoint figures) r call → Counts r n figures (after r call)

-- ---- how long a choice lasts

-- no source is chosen for zone n, and it is neither removed nor merged into another
pub record NotRechosen (n : ℕ) (r : Record) (call : Call) : Type 0 where
  pub not_chosen : (source : Source) (millivolts : ℕ) → Chooses n source millivolts r call → ⊥
  pub not_removed : Removes n r call → ⊥

-- source and input of a present zone stay until then, whatever else is called. `stays_chosen`, in proofs/Sources.antt
abbrev pub StaysChosen : Type 0
StaysChosen = (r : Record) (n : ℕ) (calls : List Call) → (zone_at r n).present ≡ true → Throughout (NotRechosen n) r calls → (zone_at (run r calls) n).origin ≡ (zone_at r n).origin

-- "A new zone, like an absent one, has source interface and 0 mV": a removed zone has them to the end of any session that does not add it again, and starts with them once it is added. `starts_anew`, in proofs/Sources.antt
pub record Anew (left : Record) (n : ℕ) : Type 0 where
  pub absent : (zone_at left n).origin ≡ sources.new_origin
  pub added : (address range : ℕ) → Done left (quiet (add n address range)) → (zone_at (after left (quiet (add n address range))) n).origin ≡ sources.new_origin

abbrev pub StartsAnew : Type 0
StartsAnew = (r : Record) (n : ℕ) (removal : Call) (calls : List Call) → Removes n r removal → Throughout (NotAdded n) (after r removal) calls → Anew (later r removal calls) n

-- ---- "LSOLW and SOLW keep to the commanded figure"

-- the two calls of this request
abbrev pub quiet_of_source : Quiet → Bool
quiet_of_source (add zone address range) = false
quiet_of_source (remove zone) = false
quiet_of_source (report zone state actual) = false
quiet_of_source (apply zone command) = false
quiet_of_source (choose_source zone source millivolts) = true
quiet_of_source (setpoint_in_use zone) = true
quiet_of_source (book zone kilograms) = false
quiet_of_source (ship zone kilograms) = false
quiet_of_source (merge a b) = false
quiet_of_source repair = false

abbrev pub of_source : Call → Bool
of_source (in_room call room) = false
of_source (quiet call) = quiet_of_source call

-- a session with these struck out
abbrev pub struck : List Call → List Call
struck calls = strike of_source calls

-- what is answered to all others of a session: numbers, figures, replies and rooms
abbrev pub other_answers : Record → List Call → List Said
other_answers r calls = map (λ p. p.1) (heard_besides of_source after said_to r calls)

-- two sound records whose zones differ, if at all, in source and input alone
pub record Alike (r r' : Record) : Type 0 where
  pub zones : (n : ℕ) → with_origin (zone_at r n) sources.new_origin ≡ with_origin (zone_at r' n) sources.new_origin
  pub sound_one : sound r ≡ true
  pub sound_other : sound r' ≡ true

-- From such records, whatever sources are chosen in a session, all its other calls, by line, by frame or without a road, are answered as they would be without: SOLW, LSOLW and index 35 under either source.
pub record Unseen (r r' : Record) (calls : List Call) : Type 0 where
  pub answers : other_answers r calls ≡ other_answers r' (struck calls)
  -- and at the end the records are alike still
  pub left : Alike (run r calls) (run r' (struck calls))
  -- the place of a wrong line (Req 04), which stands beside its answer, is the same too: here of any line that is sent next
  pub place : (n : ℕ) (line room : List ℕ) → text_place (run r calls) n line room ≡ text_place (run r' (struck calls)) n line room

-- `unseen`, in proofs/Unseen.antt
abbrev pub SourcesAreUnseen : Type 0
SourcesAreUnseen = (r r' : Record) (calls : List Call) → Alike r r' → Unseen r r' calls

-- What each call comes to, for every record, sound or not. Its refusals stand in document 01's order; those of removing, of choosing a source, of the setpoint in use, of booking, shipping and merging and of the repair in that of document 02.
use Rattle.std.specs.Prelude.{ℕ, suc, ◌+◌, ◌-◌, Bool, cond, not, ◌&&◌, ◌||◌, List, [], ◌∷◌, ◌++◌, map, length, replicate, leb, ltb, eqb}
use Rattle.zone.specs.declared.figures.Figures.{Figures}
use Rattle.zone.specs.declared.figures.Command.{Command}
use Rattle.zone.specs.declared.figures.Command.TheVariants.{Read, Write}
use Rattle.zone.specs.declared.figures.Figures.TheVariants.{SolwSetpoint}
use Rattle.zone.specs.declared.sources.Source.{Source}
use Rattle.zone.specs.declared.zones.Zone.{Zone}
use Rattle.zone.specs.Lists.{is_zero}
use Rattle.zone.specs.Figures.{group_of, in_range}
use Rattle.zone.specs.Sources.{input_in_range, setpoint_in_use}
use Rattle.zone.specs.Zones.{new_zone, empty_zone, figures_of, address_in_range, range_known, actual_in_range, booking_in_range, state_numbered, with_status, with_figures, with_origin, with_kilograms, locks, window_opens, mended, end_of}
use Rattle.card.specs.declared.records.Record.{Record}
use Rattle.card.specs.declared.records.OldEnd.{OldEnd}
use Rattle.card.specs.declared.records.OldEnds.{OldEnds}
use Rattle.card.specs.declared.records.Repaired.{Repaired}
use Rattle.card.specs.Answers.{Result, outcome_seen}
use Rattle.card.specs.Refusals.{Row, ◌gives◌, first, settled}
use Rattle.card.specs.Records.{zone_at, with_zone, held_in, otherwise_sound, sound, no_zone}

-- what a zone decides of a call: its own refusals and, where none applies, the values that are told and the zone afterwards
pub record Judgement : Type 0 where
  pub rows : List Row
  pub values : List Figures
  pub after : Zone

-- "Adding a zone (zone, address, range): 2, 3, 12, 9, 11"; 3 is "for adding: above 15 only", 9 "for an address outside 1..254 or a range other than 300 and 500".
-- The last three are the zone's own; `held` says that the "address [is] held by a present zone"
abbrev pub add_at : Zone → ℕ → ℕ → Bool → Judgement
add_at z address range held = record {
  rows = (z.present gives 12) ∷ (not (address_in_range address && range_known range) gives 9) ∷ (held gives 11) ∷ [];
  values = [];
  after = new_zone address range;
}

abbrev pub add_rows : Record → ℕ → ℕ → ℕ → List Row
add_rows r n address range = (not (sound r) gives 2) ∷ (leb 16 n gives 3) ∷ (add_at (zone_at r n) address range (held_in r.zones address)).rows

unfoldable pub add_of : Record → ℕ → ℕ → ℕ → Result Record
add_of r n address range =
    let j = add_at (zone_at r n) address range (held_in r.zones address) in
    settled r (add_rows r n address range) j.values (with_zone r n j.after)

-- ---- calls at a present zone: 2, 3, and then what the zone itself decides

-- "record not sound"; "zone above 15, or absent"; and the zone's own
abbrev pub zone_rows : Record → ℕ → Judgement → List Row
zone_rows r n j = (not (sound r) gives 2) ∷ (no_zone r n gives 3) ∷ j.rows

abbrev pub at_zone : Record → ℕ → Judgement → Result Record
at_zone r n j = settled r (zone_rows r n j) j.values (with_zone r n j.after)

-- "Removing: 2, 3", both of which stand in zone_rows, and "15 for removing a zone with kilograms on it" (document 02, Req 07); "Removing empties the zone"
abbrev pub remove_at : Zone → Judgement
remove_at z = record {
  rows = (not (is_zero z.kilograms) gives 15) ∷ [];
  values = [];
  after = empty_zone;
}

unfoldable pub remove_of : Record → ℕ → Result Record
remove_of r n = at_zone r n (remove_at (zone_at r n))

-- "Reporting state and actual value: 2, 3, 9", the first two in zone_rows; 9 "for a state number above 3 or an actual value above 999"
abbrev pub report_at : Zone → ℕ → ℕ → Judgement
report_at z state actual = record {
  rows = (not (leb state 3 && actual_in_range actual) gives 9) ∷ [];
  values = [];
  after = with_status z (record { state = state_numbered state; actual = actual });
}

unfoldable pub report_of : Record → ℕ → ℕ → ℕ → Result Record
report_of r n state actual = at_zone r n (report_at (zone_at r n) state actual)

-- a write: 2, 3 (in zone_rows), 9, 10, which is what "Text: 1, 2, 3, 7, 8, 9, 10" leaves where the command is known
abbrev pub write_at : Zone → Figures → Judgement
write_at z figures = record {
  rows = (not (in_range z.range figures) gives 9) ∷ (locks z.status.state (group_of figures) gives 10) ∷ [];
  values = [];
  after = with_figures z figures;
}

-- a zone that only tells: it refuses nothing itself, and stays as it is
abbrev pub telling : Zone → List Figures → Judgement
telling z values = record { rows = []; values = values; after = z }

-- a read: 2, 3, in zone_rows. "Reads are permitted in every state"; "a read alters nothing"
abbrev pub command_at : Zone → Command → Judgement
command_at z (Read group) = telling z (figures_of z group ∷ [])
command_at z (Write figures) = write_at z figures

unfoldable pub apply_of : Record → ℕ → Command → Result Record
apply_of r n command = at_zone r n (command_at (zone_at r n) command)

-- ---- "Who sets the temperature" (document 02, Req 08): "One call sets them, another gives the setpoint in use"

-- "9 for more than 10,000 mV, order 2, 3, 9", the first two in zone_rows. No state forbids it: 10 is not in the order
abbrev pub choose_source_at : Zone → Source → ℕ → Judgement
choose_source_at z source millivolts = record {
  rows = (not (input_in_range millivolts) gives 9) ∷ [];
  values = [];
  after = with_origin z (record { source = source; millivolts = millivolts });
}

unfoldable pub choose_source_of : Record → ℕ → Source → ℕ → Result Record
choose_source_of r n source millivolts = at_zone r n (choose_source_at (zone_at r n) source millivolts)

-- a setpoint, as it is told: in the form of SOLW, which is how LSOLW tells one
abbrev pub setpoint_told : ℕ → List Figures
setpoint_told setpoint = SolwSetpoint (record { setpoint = setpoint }) ∷ []

-- of the same order 2, 3, in zone_rows: there is no figure to be out of range
abbrev pub setpoint_in_use_at : Zone → Judgement
setpoint_in_use_at z = telling z (setpoint_told (setpoint_in_use z))

unfoldable pub setpoint_in_use_of : Record → ℕ → Result Record
setpoint_in_use_of r n = at_zone r n (setpoint_in_use_at (zone_at r n))

-- ---- "Bookings that follow the head" (document 02, Req 07): "Orders reserve kilograms on a zone"

-- "Booking adds": 2, 3, in zone_rows, and "16 for booking .. 0 .. or a result above the limit". Amounts of any size are added as numbers, so nothing wraps
abbrev pub book_at : Zone → ℕ → Judgement
book_at z kilograms = record {
  rows = ((is_zero kilograms || not (booking_in_range (z.kilograms + kilograms))) gives 16) ∷ [];
  values = [];
  after = with_kilograms z (z.kilograms + kilograms);
}

unfoldable pub book_of : Record → ℕ → ℕ → Result Record
book_of r n kilograms = at_zone r n (book_at (zone_at r n) kilograms)

-- "shipping subtracts": 2, 3, in zone_rows, and "16 for .. shipping 0, more than is held when shipping"; what is left of a sound zone's kilograms is never above the limit, and what would be below 0 has been refused
abbrev pub ship_at : Zone → ℕ → Judgement
ship_at z kilograms = record {
  rows = ((is_zero kilograms || ltb z.kilograms kilograms) gives 16) ∷ [];
  values = [];
  after = with_kilograms z (z.kilograms - kilograms);
}

unfoldable pub ship_of : Record → ℕ → ℕ → Result Record
ship_of r n kilograms = at_zone r n (ship_at (zone_at r n) kilograms)

-- what stands on b once a's whole booking has moved there
abbrev pub together : Record → ℕ → ℕ → ℕ
together r a b = (zone_at r b).kilograms + (zone_at r a).kilograms

-- "Merging zone a into b": "17 for merging a zone with itself", 16 for "a result above the limit"; "order 2, 3 (first zone, then second), 17, 16". Both zones get the one number 3, and so stand in one row. 0 kg are no fault, and 15 is not given: what stood on a has moved
abbrev pub merge_rows : Record → ℕ → ℕ → List Row
merge_rows r a b = (not (sound r) gives 2) ∷ ((no_zone r a || no_zone r b) gives 3) ∷ (eqb a b gives 17) ∷ (not (booking_in_range (together r a b)) gives 16) ∷ []

-- it "moves a's whole booking to b and removes a; a's other figures are dropped, b's are kept"
abbrev pub merged : Record → ℕ → ℕ → Record
merged r a b = with_zone (with_zone r b (with_kilograms (zone_at r b) (together r a b))) a empty_zone

unfoldable pub merge_of : Record → ℕ → ℕ → Result Record
merge_of r a b = settled r (merge_rows r a b) [] (merged r a b)

-- ---- "For cards in the field a repair call" (document 02, Req 06): in every state, and without arguments

-- "Any other unsoundness gives 2"
abbrev pub repair_rows : Record → List Row
repair_rows r = (not (otherwise_sound r) gives 2) ∷ []

-- it "sets the end to begin + 1 in each such zone .. and touches nothing else": mended leaves a zone without such a window as it is
abbrev pub all_mended : Record → Record
all_mended r = record { zones = map mended r.zones }

-- it "tells those zones and their old ends": in rising order, here from zone n on
unfoldable pub old_ends_from : ℕ → List Zone → List OldEnd
old_ends_from n [] = []
old_ends_from n (z ∷ zones) = cond (window_opens z) (old_ends_from (suc n) zones) (record { zone = n; end = end_of z.watch } ∷ old_ends_from (suc n) zones)

-- as they are handed back, in sixteen entries: how many are told, and zeros behind these
abbrev pub told_as : List OldEnd → OldEnds
told_as told = record { count = length told; ends = told ++ replicate (16 - length told) (record { zone = 0; end = 0 }) }

-- what a repair comes to: what every call comes to, and what it tells
pub record Repair : Type 0 where
  pub result : Result Record
  pub told : OldEnds

abbrev pub repair_seen : Repaired → Repair
repair_seen o = record { result = outcome_seen o.outcome; told = o.told }

-- a refusal tells nothing
unfoldable pub repair_of : Record → Repair
repair_of r = record {
  result = settled r (repair_rows r) [] (all_mended r);
  told = told_as (cond (is_zero (first (repair_rows r))) (old_ends_from 0 r.zones) []);
}

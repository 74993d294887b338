-- Worked calls, computed: what is answered is what documents 01 and 02 say, in one table for each call. Assumes nothing.
use Prim.Native.Nat.{ℕ}
use mathlib.Core.Path.{◌≡◌, refl}
use mathlib.Core.Bool.{true}
use mathlib.Core.List.{List, [], ◌∷◌, map}
use Rattle.zone.specs.declared.figures.Group.TheVariants as group
use Rattle.zone.specs.declared.figures.Figures.{Figures}
use Rattle.zone.specs.declared.figures.Figures.TheVariants.{AhueDeadline, AhueWindow, HzbgLimit, RrueReference, SolwSetpoint}
use Rattle.zone.specs.declared.figures.Command.TheVariants.{Read, Write}
use Rattle.zone.specs.declared.sources.Source.{Source}
use Rattle.zone.specs.declared.sources.Source.TheVariants.{Interface, Voltage}
use Rattle.zone.specs.declared.zones.Watch.TheVariants.{Window}
use Rattle.zone.specs.Figures.{each_in_range, in_range, all_zero}
use Rattle.zone.specs.declared.zones.Zone.{Zone}
use Rattle.zone.specs.Zones.{new_zone, empty_zone, zone_otherwise_sound, zone_sound, state_numbered, with_status, with_watch, with_origin, with_kilograms}
use Rattle.card.specs.declared.records.Record.{Record}
use Rattle.std.specs.Prelude.{Some, None}
use Rattle.card.specs.Answers.{Result}
use Rattle.card.specs.Records.{empty_record, with_zone, differ, otherwise_sound, sound, find_from, find_of}
use Rattle.card.specs.Calls.{add_of, remove_of, report_of, apply_of, choose_source_of, setpoint_told, setpoint_in_use_of, book_of, ship_of, merge_of, old_ends_from, repair_of}
use Rattle.card.specs.Rules.{EmptyIsSound, told_in, leaves}

-- ---- soundness

new_zone_sound : zone_sound (new_zone 33 300) ≡ true
unfolding zone_sound zone_otherwise_sound each_in_range
new_zone_sound = refl

pub empty_record_sound : EmptyIsSound
unfolding sound otherwise_sound differ zone_sound zone_otherwise_sound all_zero
empty_record_sound = refl

-- zone 5 holds address 33 and has 300 degrees
start : Record
unfolding add_of sound otherwise_sound differ zone_sound zone_otherwise_sound in_range each_in_range all_zero
start = (add_of empty_record 5 33 300).after

-- and has so many kilograms on it
holding : ℕ → Record
unfolding start
holding kilograms = with_zone start 5 (with_kilograms (new_zone 33 300) kilograms)

-- records that are not sound: an absent zone with a window of zeros, one with a new zone's figures, two zones with one address, a setpoint of 301 in 300 degrees, an input of 10,001 mV, an absent zone with 1 mV and one with source voltage, 1,000,001 kg, and an absent zone with 1 kg
unsound : List Record
unfolding start
unsound =
    with_zone start 2 (with_watch empty_zone (Window (record { flag = 0; lower = 0; upper = 0; begin = 0; end = 0 })))
    ∷ with_zone start 2 (with_watch empty_zone (new_zone 33 300).watch)
    ∷ with_zone start 2 (new_zone 33 500)
    ∷ with_zone start 2 (Rattle.zone.specs.Zones.with_figures (new_zone 34 300) (SolwSetpoint (record { setpoint = 301 })))
    ∷ with_zone start 2 (with_origin (new_zone 34 300) (record { source = Interface; millivolts = 10001 }))
    ∷ with_zone start 2 (with_origin empty_zone (record { source = Interface; millivolts = 1 }))
    ∷ with_zone start 2 (with_origin empty_zone (record { source = Voltage; millivolts = 0 }))
    ∷ with_zone start 2 (with_kilograms (new_zone 34 300) 1000001)
    ∷ with_zone start 2 (with_kilograms empty_zone 1)
    ∷ []

-- one bad zone spoils every call: 2, also where another zone is meant
spoilt : map (λ r. (apply_of r 5 (Read group.Hzbg)).number) unsound ≡ 2 ∷ 2 ∷ 2 ∷ 2 ∷ 2 ∷ 2 ∷ 2 ∷ 2 ∷ 2 ∷ []
unfolding unsound start add_of apply_of sound otherwise_sound differ zone_sound zone_otherwise_sound in_range each_in_range all_zero
spoilt = refl

-- ---- the calls: what is asked beside the number that is given

record Asked (A : Type 0) : Type 0 where
  asks : A
  gives : ℕ

infix 5 ◌is◌
abbrev ◌is◌ : {A : Type 0} → A → ℕ → Asked A
asked is number = record { asks = asked; gives = number }

-- zone, address and range
adding : List (Asked (ℕ × ℕ × ℕ))
adding =
    ((6, 34, 500) is 0)
    ∷ ((15, 254, 300) is 0)
    ∷ ((16, 34, 300) is 3)
    ∷ ((65541, 34, 300) is 3)
    ∷ ((5, 0, 0) is 12)
    ∷ ((6, 0, 300) is 9)
    ∷ ((6, 255, 300) is 9)
    ∷ ((6, 65569, 300) is 9)
    ∷ ((6, 34, 400) is 9)
    ∷ ((6, 34, 65836) is 9)
    ∷ ((6, 33, 400) is 9)
    ∷ ((6, 33, 500) is 11)
    ∷ []

added : map (λ a. (add_of start a.asks.0 a.asks.1 a.asks.2).number) adding ≡ map (λ a. a.gives) adding
unfolding adding start add_of sound otherwise_sound differ zone_sound zone_otherwise_sound in_range each_in_range all_zero
added = refl

-- the kilograms on zone 5, and the zone that is removed
removing : List (Asked (ℕ × ℕ))
removing = ((0, 5) is 0) ∷ ((1, 5) is 15) ∷ ((1000000, 5) is 15) ∷ ((0, 4) is 3) ∷ ((1, 4) is 3) ∷ ((0, 16) is 3) ∷ ((0, 65541) is 3) ∷ []

removed : map (λ a. (remove_of (holding a.asks.0) a.asks.1).number) removing ≡ map (λ a. a.gives) removing
unfolding removing holding start add_of remove_of sound otherwise_sound differ zone_sound zone_otherwise_sound in_range each_in_range all_zero
removed = refl

-- zone, state and actual value
reporting : List (Asked (ℕ × ℕ × ℕ))
reporting = ((5, 3, 999) is 0) ∷ ((4, 4, 0) is 3) ∷ ((5, 4, 0) is 9) ∷ ((5, 65536, 0) is 9) ∷ ((5, 0, 1000) is 9) ∷ []

reported : map (λ a. (report_of start a.asks.0 a.asks.1 a.asks.2).number) reporting ≡ map (λ a. a.gives) reporting
unfolding reporting start add_of report_of sound otherwise_sound differ zone_sound zone_otherwise_sound in_range each_in_range all_zero
reported = refl

deadline_of : ℕ → ℕ → Figures
deadline_of lower upper = AhueDeadline (record { flag = 1; lower = lower; upper = upper; time = 0 })

window_of : ℕ → ℕ → Figures
window_of begin end = AhueWindow (record { flag = 1; lower = 10; upper = 10; begin = begin; end = end })

-- the state that zone 5 is in, and a write to it
writing : List (Asked (ℕ × Figures))
unfolding deadline_of window_of
writing =
    ((0, SolwSetpoint (record { setpoint = 300 })) is 0)
    ∷ ((0, SolwSetpoint (record { setpoint = 301 })) is 9)
    ∷ ((1, SolwSetpoint (record { setpoint = 300 })) is 0)
    ∷ ((0, HzbgLimit (record { time = 999 })) is 0)
    ∷ ((0, HzbgLimit (record { time = 1000 })) is 9)
    ∷ ((1, HzbgLimit (record { time = 999 })) is 10)
    ∷ ((1, HzbgLimit (record { time = 1000 })) is 9)
    ∷ ((2, HzbgLimit (record { time = 999 })) is 10)
    ∷ ((3, HzbgLimit (record { time = 999 })) is 0)
    ∷ ((0, RrueReference (record { flag = 0; lower = 5; upper = 100 })) is 0)
    ∷ ((0, RrueReference (record { flag = 0; lower = 5; upper = 101 })) is 9)
    ∷ ((0, RrueReference (record { flag = 2; lower = 5; upper = 100 })) is 9)
    ∷ ((0, deadline_of 5 99) is 0)
    ∷ ((0, deadline_of 4 99) is 9)
    ∷ ((0, deadline_of 5 100) is 9)
    ∷ ((0, window_of 0 999) is 0)
    ∷ ((0, window_of 0 1) is 0)
    ∷ ((0, window_of 998 999) is 0)
    ∷ ((0, window_of 999 999) is 9)
    ∷ ((0, window_of 0 0) is 9)
    ∷ ((0, window_of 0 1000) is 9)
    ∷ ((0, window_of 500 200) is 9)
    ∷ ((0, window_of 200 200) is 9)
    ∷ ((0, window_of 200 201) is 0)
    ∷ ((0, window_of 998 1) is 9)
    ∷ ((1, window_of 500 200) is 9)
    ∷ ((1, window_of 200 500) is 10)
    ∷ []

written : map (λ a. (apply_of (report_of start 5 a.asks.0 20).after 5 (Write a.asks.1)).number) writing ≡ map (λ a. a.gives) writing
unfolding writing deadline_of window_of start add_of report_of apply_of sound otherwise_sound differ zone_sound zone_otherwise_sound in_range each_in_range all_zero
written = refl

-- AHUE is read in the form last written
last_form : (apply_of (apply_of (apply_of start 5 (Write (window_of 20 50))).after 5 (Write (deadline_of 5 99))).after 5 (Read group.Ahue)).values ≡ deadline_of 5 99 ∷ []
unfolding deadline_of window_of start add_of apply_of sound otherwise_sound differ zone_sound zone_otherwise_sound in_range each_in_range all_zero
last_form = refl

-- the address is found at its zone; an absent zone holds none, not even 0
found : map (find_of start) (33 ∷ 34 ∷ 0 ∷ 65569 ∷ []) ≡ Some 5 ∷ None ∷ None ∷ None ∷ []
unfolding start add_of sound otherwise_sound differ zone_sound zone_otherwise_sound in_range each_in_range all_zero find_from
found = refl

-- ---- who sets the temperature (document 02, Req 08)

-- the state that zone 5 is in, and the zone, source and millivolts that are chosen
choosing : List (Asked (ℕ × ℕ × Source × ℕ))
choosing =
    ((0, 5, Voltage, 10000) is 0)
    ∷ ((0, 5, Interface, 10000) is 0)
    ∷ ((1, 5, Voltage, 0) is 0)
    ∷ ((2, 5, Voltage, 1) is 0)
    ∷ ((3, 5, Interface, 0) is 0)
    ∷ ((0, 5, Voltage, 10001) is 9)
    ∷ ((1, 5, Interface, 10001) is 9)
    ∷ ((0, 5, Voltage, 65536) is 9)
    ∷ ((0, 5, Voltage, 4294967295) is 9)
    ∷ ((0, 4, Voltage, 0) is 3)
    ∷ ((0, 4, Voltage, 10001) is 3)
    ∷ ((0, 16, Voltage, 0) is 3)
    ∷ ((0, 65541, Voltage, 0) is 3)
    ∷ []

chosen : map (λ a. (choose_source_of (report_of start 5 a.asks.0 20).after a.asks.1 a.asks.2 a.asks.3).number) choosing ≡ map (λ a. a.gives) choosing
unfolding choosing start add_of report_of choose_source_of sound otherwise_sound differ zone_sound zone_otherwise_sound in_range each_in_range all_zero
chosen = refl

-- zone 5, with a setpoint of 185 and a range of 300, beside zone 6 with 0 and 500
commanded : Record
unfolding start
commanded = (add_of (apply_of start 5 (Write (SolwSetpoint (record { setpoint = 185 })))).after 6 34 500).after

-- source and millivolts, and what is then in use in zone 5 and in zone 6
usage : List (Source × ℕ × ℕ × ℕ)
usage =
    (Voltage, 0, 0, 0)
    ∷ (Voltage, 10000, 300, 500)
    ∷ (Voltage, 5000, 150, 250)
    ∷ (Voltage, 9999, 299, 499)
    ∷ (Voltage, 19, 0, 0)
    ∷ (Voltage, 20, 0, 1)
    ∷ (Voltage, 33, 0, 1)
    ∷ (Voltage, 34, 1, 1)
    ∷ (Interface, 5000, 185, 0)
    ∷ (Interface, 0, 185, 0)
    ∷ []

in_use_at : ℕ → List (List Figures)
in_use_at n = map (λ a. (setpoint_in_use_of (choose_source_of commanded n a.0 a.1).after n).values) usage

used : (in_use_at 5 ≡ map (λ a. setpoint_told a.2) usage) × (in_use_at 6 ≡ map (λ a. setpoint_told a.3) usage)
unfolding in_use_at usage commanded start add_of apply_of choose_source_of setpoint_in_use_of sound otherwise_sound differ zone_sound zone_otherwise_sound in_range each_in_range all_zero
used = (refl, refl)

-- "LSOLW and SOLW keep to the commanded figure": under voltage SOLW is done and LSOLW tells what it wrote, and what is in use is another
written_under_voltage : Result Record
written_under_voltage = apply_of (choose_source_of commanded 5 Voltage 5000).after 5 (Write (SolwSetpoint (record { setpoint = 300 })))

keeps_to_commanded : (written_under_voltage.number ≡ 0)
    × ((apply_of written_under_voltage.after 5 (Read group.Solw)).values ≡ setpoint_told 300)
    × ((setpoint_in_use_of written_under_voltage.after 5).values ≡ setpoint_told 150)
unfolding written_under_voltage commanded start add_of apply_of choose_source_of setpoint_in_use_of sound otherwise_sound differ zone_sound zone_otherwise_sound in_range each_in_range all_zero
keeps_to_commanded = (refl, refl, refl)

-- ---- bookings (document 02, Req 07)

-- the kilograms on zone 5, and the zone and the kilograms that are booked
booking : List (Asked (ℕ × ℕ × ℕ))
booking =
    ((0, 5, 1) is 0)
    ∷ ((0, 5, 1000000) is 0)
    ∷ ((999999, 5, 1) is 0)
    ∷ ((0, 5, 0) is 16)
    ∷ ((0, 5, 1000001) is 16)
    ∷ ((1, 5, 1000000) is 16)
    ∷ ((1000000, 5, 1) is 16)
    ∷ ((1, 5, 4294967295) is 16)
    ∷ ((1000000, 5, 4294967295) is 16)
    ∷ ((0, 4, 1) is 3)
    ∷ ((0, 4, 0) is 3)
    ∷ ((0, 16, 1) is 3)
    ∷ ((0, 65541, 1) is 3)
    ∷ []

booked : map (λ a. (book_of (holding a.asks.0) a.asks.1 a.asks.2).number) booking ≡ map (λ a. a.gives) booking
unfolding booking holding start add_of book_of sound otherwise_sound differ zone_sound zone_otherwise_sound in_range each_in_range all_zero
booked = refl

-- and that are shipped
shipping : List (Asked (ℕ × ℕ × ℕ))
shipping =
    ((1, 5, 1) is 0)
    ∷ ((1000000, 5, 1) is 0)
    ∷ ((1000000, 5, 1000000) is 0)
    ∷ ((0, 5, 0) is 16)
    ∷ ((1, 5, 0) is 16)
    ∷ ((0, 5, 1) is 16)
    ∷ ((1, 5, 2) is 16)
    ∷ ((1000000, 5, 4294967295) is 16)
    ∷ ((1, 4, 1) is 3)
    ∷ ((1, 16, 1) is 3)
    ∷ []

shipped : map (λ a. (ship_of (holding a.asks.0) a.asks.1 a.asks.2).number) shipping ≡ map (λ a. a.gives) shipping
unfolding shipping holding start add_of ship_of sound otherwise_sound differ zone_sound zone_otherwise_sound in_range each_in_range all_zero
shipped = refl

-- "Booking adds, shipping subtracts": 40,000 kg booked on top of 1, and 1,500 kg shipped of 40,000
adds_and_subtracts : ((book_of (holding 1) 5 40000).after ≡ holding 40001) × ((ship_of (holding 40000) 5 1500).after ≡ holding 38500)
unfolding holding start add_of book_of ship_of sound otherwise_sound differ zone_sound zone_otherwise_sound in_range each_in_range all_zero
adds_and_subtracts = (refl, refl)

-- zones 4 and 5, whose heating limits are 7 and 5 seconds, zone 4 in the state On, with so many kilograms on each
heads : ℕ → ℕ → Record
unfolding start
heads on4 on5 = with_zone (with_zone start 5 (limited (new_zone 33 300) 50 on5)) 4 (with_status (limited (new_zone 34 500) 70 on4) (record { state = state_numbered 1; actual = 20 }))
  where
    limited : Zone → ℕ → ℕ → Zone
    limited z limit kilograms = with_kilograms (Rattle.zone.specs.Zones.with_figures z (HzbgLimit (record { time = limit }))) kilograms

-- the kilograms on zones 4 and 5, and which zone is merged into which
merging : List (Asked (ℕ × ℕ × ℕ × ℕ))
merging =
    ((0, 40000, 5, 4) is 0)
    ∷ ((960000, 40000, 5, 4) is 0)
    ∷ ((960000, 40000, 4, 5) is 0)
    ∷ ((0, 0, 5, 4) is 0)
    ∷ ((1000000, 0, 5, 4) is 0)
    ∷ ((960001, 40000, 5, 4) is 16)
    ∷ ((1000000, 1000000, 4, 5) is 16)
    ∷ ((0, 40000, 5, 5) is 17)
    ∷ ((1000000, 1000000, 4, 4) is 17)
    ∷ ((0, 40000, 6, 6) is 3)
    ∷ ((0, 40000, 6, 5) is 3)
    ∷ ((1000000, 40000, 5, 6) is 3)
    ∷ ((0, 40000, 16, 16) is 3)
    ∷ ((0, 40000, 5, 65540) is 3)
    ∷ []

merged_by_number : map (λ a. (merge_of (heads a.asks.0 a.asks.1) a.asks.2 a.asks.3).number) merging ≡ map (λ a. a.gives) merging
unfolding merging heads start add_of merge_of sound otherwise_sound differ zone_sound zone_otherwise_sound in_range each_in_range all_zero
merged_by_number = refl

-- "fitters folded head 5 into head 4": forty tonnes stand on head 4, which keeps its heating limit, and head 5 is gone; and the other way round
folded : ((merge_of (heads 2500 40000) 5 4).after ≡ with_zone (heads 42500 0) 5 empty_zone) × ((merge_of (heads 2500 40000) 4 5).after ≡ with_zone (heads 0 42500) 4 empty_zone)
unfolding heads start add_of merge_of sound otherwise_sound differ zone_sound zone_otherwise_sound in_range each_in_range all_zero
folded = (refl, refl)

-- ---- a repair (document 02, Req 06)

-- zone 2 with that window
with_window : Record → ℕ → ℕ → Record
with_window r begin end = with_zone r 2 (with_watch (new_zone 34 500) (Window (record { flag = 1; lower = 10; upper = 10; begin = begin; end = end })))

-- "from 50.0 to 20.0 seconds"; equal figures; the widest that can be mended; neighbouring figures, which are no fault; and a begin and an end out of their own ranges, which are another
repairing : List (Asked (ℕ × ℕ))
repairing = ((500, 200) is 0) ∷ ((200, 200) is 0) ∷ ((998, 1) is 0) ∷ ((200, 201) is 0) ∷ ((999, 999) is 2) ∷ ((5, 0) is 2) ∷ []

repaired_by_number : map (λ a. (repair_of (with_window start a.asks.0 a.asks.1)).result.number) repairing ≡ map (λ a. a.gives) repairing
unfolding repairing with_window start add_of repair_of sound otherwise_sound differ zone_sound zone_otherwise_sound in_range each_in_range all_zero
repaired_by_number = refl

-- what they tell, and the end afterwards, which is begin + 1 where something was told
ends_told : map (λ a. told_in (repair_of (with_window start a.asks.0 a.asks.1)).told) repairing
    ≡ (record { zone = 2; end = 200 } ∷ []) ∷ (record { zone = 2; end = 200 } ∷ []) ∷ (record { zone = 2; end = 1 } ∷ []) ∷ [] ∷ [] ∷ [] ∷ []
unfolding repairing with_window start add_of repair_of old_ends_from sound otherwise_sound differ zone_sound zone_otherwise_sound in_range each_in_range all_zero
ends_told = refl

repaired_records : map (λ a. (repair_of (with_window start a.asks.0 a.asks.1)).result.after) repairing
    ≡ with_window start 500 501 ∷ with_window start 200 201 ∷ with_window start 998 999 ∷ with_window start 200 201 ∷ with_window start 999 999 ∷ with_window start 5 0 ∷ []
unfolding repairing with_window start add_of repair_of sound otherwise_sound differ zone_sound zone_otherwise_sound in_range each_in_range all_zero
repaired_records = refl

-- two such zones, one of them in On and the other in Calibration: both are mended, and told in rising order
twice : ℕ → ℕ → Record
unfolding start
twice first second = with_zone (with_zone start 2 (shut_in (new_zone 34 500) 1 700 first)) 5 (shut_in (new_zone 33 300) 2 300 second)
  where
    shut_in : Zone → ℕ → ℕ → ℕ → Zone
    shut_in z state begin end = with_watch (with_status z (record { state = state_numbered state; actual = 20 })) (Window (record { flag = 1; lower = 10; upper = 10; begin = begin; end = end }))

both_mended : (repair_of (twice 100 300)).result ≡ record { number = 0; values = []; after = twice 701 301 }
unfolding twice start add_of repair_of sound otherwise_sound differ zone_sound zone_otherwise_sound in_range each_in_range all_zero
both_mended = refl

both_told : told_in (repair_of (twice 100 300)).told ≡ record { zone = 2; end = 100 } ∷ record { zone = 5; end = 300 } ∷ []
unfolding twice start add_of repair_of old_ends_from sound otherwise_sound differ zone_sound zone_otherwise_sound in_range each_in_range all_zero
both_told = refl

-- such a window in zone 2 and another fault in zone 5, a setpoint of 301 in 300 degrees: 2, and nothing is mended or told
shut_and_faulty : repair_of (with_zone (with_window start 500 200) 5 (Rattle.zone.specs.Zones.with_figures (new_zone 33 300) (SolwSetpoint (record { setpoint = 301 }))))
    ≡ leaves (with_zone (with_window start 500 200) 5 (Rattle.zone.specs.Zones.with_figures (new_zone 33 300) (SolwSetpoint (record { setpoint = 301 })))) 2
unfolding with_window start add_of repair_of old_ends_from sound otherwise_sound differ zone_sound zone_otherwise_sound in_range each_in_range all_zero
shut_and_faulty = refl

-- another fault anywhere: 2
spoilt_too : map (λ r. (repair_of r).result.number) unsound ≡ 2 ∷ 2 ∷ 2 ∷ 2 ∷ 2 ∷ 2 ∷ 2 ∷ 2 ∷ 2 ∷ []
unfolding unsound start add_of repair_of sound otherwise_sound differ zone_sound zone_otherwise_sound in_range each_in_range all_zero
spoilt_too = refl

-- such a window spoils every other call, a read of another zone too
shut_spoils : map (λ a. (apply_of (with_window start a.asks.0 a.asks.1) 5 (Read group.Hzbg)).number) repairing ≡ 2 ∷ 2 ∷ 2 ∷ 0 ∷ 2 ∷ 2 ∷ []
unfolding repairing with_window start add_of apply_of sound otherwise_sound differ zone_sound zone_otherwise_sound in_range each_in_range all_zero
shut_spoils = refl

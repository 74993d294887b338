-- The zone: what a new and an absent one hold, when one is sound, what is read from it and written to it, and how a window is mended.
use Rattle.std.specs.Prelude.{ℕ, ◌+◌, Bool, true, false, cond, ◌&&◌, ◌||◌, leb, eqb}
use Rattle.zone.specs.declared.figures.Group.{Group}
use Rattle.zone.specs.declared.figures.Group.TheVariants.{Ahue, Hzbg, Rrue, Solw}
use Rattle.zone.specs.declared.figures.Figures.{Figures}
use Rattle.zone.specs.declared.figures.WindowFigures.{WindowFigures}
use Rattle.zone.specs.declared.figures.Figures.TheVariants.{AhueDeadline, AhueWindow, HzbgLimit, RrueReference, SolwSetpoint}
use Rattle.zone.specs.declared.status.State.{State}
use Rattle.zone.specs.declared.status.State.TheVariants.{Off, On, Calibration, Error}
use Rattle.zone.specs.declared.status.Status.{Status}
use Rattle.zone.specs.declared.sources.Origin.{Origin}
use Rattle.zone.specs.declared.zones.Watch.{Watch}
use Rattle.zone.specs.declared.zones.Watch.TheVariants.{Deadline, Window}
use Rattle.zone.specs.declared.zones.Settings.{Settings}
use Rattle.zone.specs.declared.zones.Zone.{Zone}
use Rattle.zone.specs.Lists.{within, is_zero, every}
use Rattle.zone.specs.Table.{every_group}
use Rattle.zone.specs.Figures.{each_in_range, opens, all_zero}
use Rattle.zone.specs.Sources.{input_in_range, new_origin, is_new}

-- "A new zone is Off with actual value 0, watch off (deadline form, lower 10, upper 10, time 10), heating limit 0, reference watch off with 10 and 10, setpoint 0"; and by document 02 "source interface and 0 mV" (Req 08) and no kilograms: "New and absent zones hold 0" (Req 07)
abbrev pub new_zone : ℕ → ℕ → Zone
new_zone address range = record {
  present = true;
  address = address;
  range = range;
  status = record { state = Off; actual = 0 };
  watch = Deadline (record { flag = 0; lower = 10; upper = 10; time = 10 });
  settings = record { limit = record { time = 0 }; reference = record { flag = 0; lower = 10; upper = 10 }; setpoint = record { setpoint = 0 } };
  origin = new_origin;
  kilograms = 0;
}

-- "An absent zone holds nothing: all its numbers are 0, its state is Off, its watch a deadline"; its source is interface (Req 08), and it holds 0 kg (Req 07)
abbrev pub empty_zone : Zone
empty_zone = record {
  present = false;
  address = 0;
  range = 0;
  status = record { state = Off; actual = 0 };
  watch = Deadline (record { flag = 0; lower = 0; upper = 0; time = 0 });
  settings = record { limit = record { time = 0 }; reference = record { flag = 0; lower = 0; upper = 0 }; setpoint = record { setpoint = 0 } };
  origin = new_origin;
  kilograms = 0;
}

-- ---- what is read

abbrev pub watch_figures : Watch → Figures
watch_figures (Deadline f) = AhueDeadline f
watch_figures (Window f) = AhueWindow f

-- the figures of a group; "AHUE is read in the form last written"
abbrev pub figures_of : Zone → Group → Figures
figures_of z Ahue = watch_figures z.watch
figures_of z Hzbg = HzbgLimit z.settings.limit
figures_of z Rrue = RrueReference z.settings.reference
figures_of z Solw = SolwSetpoint z.settings.setpoint

-- a present zone with that address
abbrev pub holds : ℕ → Zone → Bool
holds address z = z.present && eqb z.address address

-- ---- when it is sound

-- "an address, 1 to 254"
abbrev pub address_in_range : ℕ → Bool
address_in_range address = within 1 254 address

-- "a temperature range, 300 or 500"
abbrev pub range_known : ℕ → Bool
range_known range = eqb range 300 || eqb range 500

-- "the actual value, 0 to 999"
abbrev pub actual_in_range : ℕ → Bool
actual_in_range actual = leb actual 999

abbrev pub groups_each_in_range : Zone → Bool
groups_each_in_range z = every (λ group. each_in_range z.range (figures_of z group)) every_group

-- "A zone holds 0 to 1,000,000 kg" (document 02, Req 07)
abbrev pub booking_in_range : ℕ → Bool
booking_in_range kilograms = leb kilograms 1000000

-- "every figure of every present zone lies in its range", each judged by its own, and so do its input (Req 08) and its kilograms (Req 07); of the state and the source there is nothing to test, since their types have just the four and the two
abbrev pub present_otherwise_sound : Zone → Bool
present_otherwise_sound z = address_in_range z.address && range_known z.range && actual_in_range z.status.actual && input_in_range z.origin.millivolts && booking_in_range z.kilograms && groups_each_in_range z

abbrev pub is_off : State → Bool
is_off Off = true
is_off On = false
is_off Calibration = false
is_off Error = false

abbrev pub is_deadline : Watch → Bool
is_deadline (Deadline f) = true
is_deadline (Window f) = false

abbrev pub groups_zero : Zone → Bool
groups_zero z = every (λ group. all_zero (figures_of z group)) every_group

-- "An absent zone holds nothing", as a test: an absent zone that passes it is empty_zone (absent_empty, in proofs/Sound.antt)
abbrev pub holds_nothing : Zone → Bool
holds_nothing z = is_zero z.address && is_zero z.range && is_zero z.status.actual && is_zero z.kilograms && (groups_zero z && is_off z.status.state && is_deadline z.watch && is_new z.origin)

-- what document 01 asks of each zone of a sound record, with its source and input (Req 08) and its kilograms (Req 07): soundness without the rule that a window opens before it closes
unfoldable pub zone_otherwise_sound : Zone → Bool
zone_otherwise_sound z = cond z.present (present_otherwise_sound z) (holds_nothing z)

-- that rule, of the zone's watch. An absent zone that holds nothing has a deadline, and keeps it
abbrev pub window_opens : Zone → Bool
window_opens z = opens (figures_of z Ahue)

-- "A window with begin not below end .. is not sound" (document 02, Req 06): what a sound record asks of each of its zones
unfoldable pub zone_sound : Zone → Bool
zone_sound z = zone_otherwise_sound z && window_opens z

-- ---- what is written

-- "states 0 Off, 1 On, 2 Calibration, 3 Error": numbered so for the log, and taken for the report too. A number above 3 is refused before its state could matter
abbrev pub state_numbered : ℕ → State
state_numbered n = cond (eqb n 0) Off (cond (eqb n 1) On (cond (eqb n 2) Calibration Error))

abbrev pub with_status : Zone → Status → Zone
with_status z status = record { present = z.present; address = z.address; range = z.range; status = status; watch = z.watch; settings = z.settings; origin = z.origin; kilograms = z.kilograms }

abbrev pub with_watch : Zone → Watch → Zone
with_watch z watch = record { present = z.present; address = z.address; range = z.range; status = z.status; watch = watch; settings = z.settings; origin = z.origin; kilograms = z.kilograms }

abbrev pub with_settings : Zone → Settings → Zone
with_settings z settings = record { present = z.present; address = z.address; range = z.range; status = z.status; watch = z.watch; settings = settings; origin = z.origin; kilograms = z.kilograms }

abbrev pub with_origin : Zone → Origin → Zone
with_origin z origin = record { present = z.present; address = z.address; range = z.range; status = z.status; watch = z.watch; settings = z.settings; origin = origin; kilograms = z.kilograms }

abbrev pub with_kilograms : Zone → ℕ → Zone
with_kilograms z kilograms = record { present = z.present; address = z.address; range = z.range; status = z.status; watch = z.watch; settings = z.settings; origin = z.origin; kilograms = kilograms }

-- the zone with the figures of one group set
abbrev pub with_figures : Zone → Figures → Zone
with_figures z (AhueDeadline f) = with_watch z (Deadline f)
with_figures z (AhueWindow f) = with_watch z (Window f)
with_figures z (HzbgLimit f) = with_settings z (record { limit = f; reference = z.settings.reference; setpoint = z.settings.setpoint })
with_figures z (RrueReference f) = with_settings z (record { limit = z.settings.limit; reference = f; setpoint = z.settings.setpoint })
with_figures z (SolwSetpoint f) = with_settings z (record { limit = z.settings.limit; reference = z.settings.reference; setpoint = f })

-- "SOLW may be written in every state"
abbrev pub lockable : Group → Bool
lockable Ahue = true
lockable Hzbg = true
lockable Rrue = true
lockable Solw = false

-- "the other groups may not be written in On or Calibration"
abbrev pub locks : State → Group → Bool
locks Off group = false
locks On group = lockable group
locks Calibration group = lockable group
locks Error group = false

-- ---- what is mended

-- "a repair call sets the end to begin + 1 in each such zone .. and touches nothing else" (document 02, Req 06)
abbrev pub opened : WindowFigures → WindowFigures
opened f = record { flag = f.flag; lower = f.lower; upper = f.upper; begin = f.begin; end = f.begin + 1 }

abbrev pub opened_watch : Watch → Watch
opened_watch (Deadline f) = Deadline f
opened_watch (Window f) = Window (opened f)

-- "each such zone" is one whose window does not open before it closes; any other stays as it is
abbrev pub mended : Zone → Zone
mended z = cond (window_opens z) z (with_watch z (opened_watch z.watch))

-- the end of a window; 0 of a deadline, which is never told
abbrev pub end_of : Watch → ℕ
end_of (Deadline f) = 0
end_of (Window f) = f.end

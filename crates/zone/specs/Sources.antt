-- "Who sets the temperature" (document 02, Req 08): the source and the input of a zone, together its origin, and its setpoint in use.
use Rattle.std.specs.Prelude.{ℕ, ◌*◌, ◌/◌, Bool, true, false, ◌&&◌, leb}
use Rattle.zone.specs.declared.sources.Source.{Source}
use Rattle.zone.specs.declared.sources.Source.TheVariants.{Interface, Voltage}
use Rattle.zone.specs.declared.sources.Origin.{Origin}
use Rattle.zone.specs.declared.zones.Zone.{Zone}
use Rattle.zone.specs.Lists.{is_zero}

-- "an input of 0 to 10,000 millivolts"
abbrev pub input_in_range : ℕ → Bool
input_in_range millivolts = leb millivolts 10000

-- "A new zone, like an absent one, has source interface and 0 mV"
abbrev pub new_origin : Origin
new_origin = record { source = Interface; millivolts = 0 }

abbrev pub is_interface : Source → Bool
is_interface Interface = true
is_interface Voltage = false

-- as a test: an origin that passes it is new_origin (origin_new, in proofs/Sound.antt)
abbrev pub is_new : Origin → Bool
is_new origin = is_interface origin.source && is_zero origin.millivolts

-- "10 V means the full range": "millivolts times range divided by 10,000, rounded down". The product is divided, and the rest is dropped (RoundedDown, in Rules.antt)
abbrev pub by_voltage : ℕ → ℕ → ℕ
by_voltage millivolts range = millivolts * range / 10000

-- "The setpoint in use is the commanded one, or" that of the voltage: of zone z, if that were its source
abbrev pub setpoint_by : Source → Zone → ℕ
setpoint_by Interface z = z.settings.setpoint.setpoint
setpoint_by Voltage z = by_voltage z.origin.millivolts z.range

-- and it has one of its own
abbrev pub setpoint_in_use : Zone → ℕ
setpoint_in_use z = setpoint_by z.origin.source z

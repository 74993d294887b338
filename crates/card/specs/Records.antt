-- The record: its sixteen zones, when it is sound, and where an address is held.
use Rattle.std.specs.Prelude.{ℕ, suc, Bool, true, cond, not, ◌&&◌, ◌||◌, Option, Some, None, List, [], ◌∷◌, length, get_or, set, replicate, leb, eqb}
use Rattle.zone.specs.declared.zones.Zone.{Zone}
use Rattle.zone.specs.Lists.{every, some}
use Rattle.zone.specs.Zones.{empty_zone, zone_otherwise_sound, zone_sound, holds}
use Rattle.card.specs.declared.records.Record.{Record}

-- sixteen times the empty zone
abbrev pub empty_record : Record
empty_record = record { zones = replicate 16 empty_zone }

-- zone n; a number above 15 has the empty zone
abbrev pub zone_at : Record → ℕ → Zone
zone_at r n = get_or r.zones n empty_zone

-- the record with z at zone n
abbrev pub with_zone : Record → ℕ → Zone → Record
with_zone r n z = record { zones = set r.zones n z }

-- "address held by a present zone"
abbrev pub held_in : List Zone → ℕ → Bool
held_in zones address = some (holds address) zones

-- "an address .. which no other present zone has"
unfoldable pub differ : List Zone → Bool
differ [] = true
differ (z ∷ zones) = not (z.present && held_in zones z.address) && differ zones

-- "A record has sixteen zones, numbered 0 to 15" (the code's type has just these; a list might have others)
abbrev pub sixteen : Record → Bool
sixteen r = eqb (length r.zones) 16

-- "A record is sound if every figure of every present zone lies in its range, addresses differ and absent zones are empty", by what is asked of each zone
abbrev pub sound_by : (Zone → Bool) → Record → Bool
sound_by zone r = sixteen r && (every zone r.zones && differ r.zones)

unfoldable pub sound : Record → Bool
sound r = sound_by zone_sound r

-- soundness without the rule that a window opens before it closes; what fails it is the "other unsoundness" of document 02, Req 06
unfoldable pub otherwise_sound : Record → Bool
otherwise_sound r = sound_by zone_otherwise_sound r

-- "An address is looked up from zone 0 upward; the search ends at the first zone that holds it". Some n is zone n; None says that no zone holds it
unfoldable pub find_from : ℕ → List Zone → ℕ → Option ℕ
find_from n [] address = None
find_from n (z ∷ zones) address = cond (holds address z) (Some n) (find_from (suc n) zones address)

abbrev pub find_of : Record → ℕ → Option ℕ
find_of r address = find_from 0 r.zones address

-- "zone above 15, or absent"
abbrev pub no_zone : Record → ℕ → Bool
no_zone r n = leb 16 n || not (zone_at r n).present

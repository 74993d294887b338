-- Document 01's rules of what is written, as statements about a zone before and after. proofs/Written.antt proves them of the definitions: sets_figures, sets_status and, of document 02, sets_origin (Req 08) and sets_kilograms (Req 07). At the end those of Req 06, how Req 08 rounds, and what Req 10 says of one zone.
use Rattle.std.specs.Prelude.{ℕ, ◌+◌, ◌*◌, ◌≤◌, ◌<◌, ◌≡◌, ◌↔◌, false}
use Rattle.zone.specs.declared.figures.Group.{Group}
use Rattle.zone.specs.declared.figures.Figures.{Figures}
use Rattle.zone.specs.declared.figures.Figures.TheVariants.{AhueWindow}
use Rattle.zone.specs.declared.figures.WindowFigures.{WindowFigures}
use Rattle.zone.specs.declared.status.Status.{Status}
use Rattle.zone.specs.declared.sources.Origin.{Origin}
use Rattle.zone.specs.declared.zones.Watch.TheVariants.{Window}
use Rattle.zone.specs.declared.zones.Zone.{Zone}
use Rattle.zone.specs.Figures.{group_of, each_in_range, opens, in_range}
use Rattle.zone.specs.Sources.{by_voltage}
use Rattle.zone.specs.Zones.{figures_of, zone_otherwise_sound, zone_sound, with_figures}

-- the zone stays present, or absent, with its address and its temperature range
pub record SameHead (before after : Zone) : Type 0 where
  pub present : after.present ≡ before.present
  pub address : after.address ≡ before.address
  pub range : after.range ≡ before.range

-- "A done write sets exactly the figures of its group in its zone"
pub record SetsFigures (before : Zone) (figures : Figures) (after : Zone) : Type 0 where
  pub head : SameHead before after
  pub status : after.status ≡ before.status
  pub origin : after.origin ≡ before.origin
  pub kilograms : after.kilograms ≡ before.kilograms
  pub its_group : figures_of after (group_of figures) ≡ figures
  pub other_groups : (group : Group) → (group ≡ group_of figures → ⊥) → figures_of after group ≡ figures_of before group

-- "A done report sets exactly the state and the actual value of its zone"
pub record SetsStatus (before : Zone) (status : Status) (after : Zone) : Type 0 where
  pub head : SameHead before after
  pub reported : after.status ≡ status
  pub origin : after.origin ≡ before.origin
  pub kilograms : after.kilograms ≡ before.kilograms
  pub groups : (group : Group) → figures_of after group ≡ figures_of before group

-- "One call sets them" (document 02, Req 08): the source and the input, and nothing else of the zone
pub record SetsOrigin (before : Zone) (origin : Origin) (after : Zone) : Type 0 where
  pub head : SameHead before after
  pub status : after.status ≡ before.status
  pub chosen : after.origin ≡ origin
  pub kilograms : after.kilograms ≡ before.kilograms
  pub groups : (group : Group) → figures_of after group ≡ figures_of before group

-- what a booking, a shipment and a merging into the zone set (document 02, Req 07): the kilograms on it, and nothing else of it
pub record SetsKilograms (before : Zone) (kilograms : ℕ) (after : Zone) : Type 0 where
  pub head : SameHead before after
  pub status : after.status ≡ before.status
  pub origin : after.origin ≡ before.origin
  pub held : after.kilograms ≡ kilograms
  pub groups : (group : Group) → figures_of after group ≡ figures_of before group

-- zone z has that window, and it is "a window with begin not below end" (document 02, Req 06)
pub record Shut (z : Zone) (window : WindowFigures) : Type 0 where
  pub has : z.watch ≡ Window window
  pub not_below : window.end ≤ window.begin

-- figures break the rule exactly where they are such a window. `rule_broken`, in proofs/Mended.antt
abbrev pub RuleBroken : Type 0
RuleBroken = (figures : Figures) → (opens figures ≡ false) ↔ ((window : WindowFigures) × (figures ≡ AhueWindow window) × (window.end ≤ window.begin))

-- and what is no such window is judged as before: its figures each by its own range, a zone by what else is asked of it. `range_as_before` and `sound_as_before`, in proofs/Mended.antt
abbrev pub RangeAsBefore : Type 0
RangeAsBefore = (range : ℕ) (figures : Figures) → ((window : WindowFigures) → figures ≡ AhueWindow window → window.end ≤ window.begin → ⊥) → in_range range figures ≡ each_in_range range figures

abbrev pub SoundAsBefore : Type 0
SoundAsBefore = (z : Zone) → ((window : WindowFigures) → Shut z window → ⊥) → zone_sound z ≡ zone_otherwise_sound z

-- "millivolts times range divided by 10,000, rounded down" (document 02, Req 08): the most whole degrees that are not above so many ten-thousandths of the range. `rounded_down`, in proofs/InUse.antt
abbrev pub RoundedDown : Type 0
RoundedDown = (millivolts range : ℕ) → (by_voltage millivolts range * 10000 ≤ millivolts * range) × (millivolts * range < (by_voltage millivolts range + 1) * 10000)

-- What document 02's Req 10 says of one zone; what a done write leaves is with_figures.
-- "Two writes .. to different groups of one zone, must give the same record .. in either order". `groups_commute`, in proofs/Order.antt
abbrev pub GroupsCommute : Type 0
GroupsCommute = (z : Zone) (f g : Figures) → (group_of f ≡ group_of g → ⊥) → with_figures (with_figures z f) g ≡ with_figures (with_figures z g) f

-- "where two writes go to the same group of one zone and the second is done, the record is that of the second alone": a first one that was done leaves no trace. `last_stands`, in proofs/Order.antt
abbrev pub LastStands : Type 0
LastStands = (z : Zone) (f g : Figures) → group_of f ≡ group_of g → with_figures (with_figures z f) g ≡ with_figures z g

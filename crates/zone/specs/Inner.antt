-- What the functions on the way come to. No rule of document 01 stands here, and nobody has to believe it.
use Rattle.std.specs.Prelude.{ℕ, Bool, List, ◌++◌, map, take, replicate}
use Rattle.zone.specs.declared.figures.Figures.{Figures}
use Rattle.zone.specs.declared.figures.Ranged.{Ranged}
use Rattle.zone.specs.declared.zones.Watch.{Watch}
use Rattle.zone.specs.declared.zones.Watch.TheVariants.{Deadline, Window}
use Rattle.zone.specs.Lists.{within}
use Rattle.zone.specs.Figures.{Entry, entries_of}

-- a figure with its range, in a zone of that temperature range
abbrev pub ranged_of : ℕ → Entry → Ranged
ranged_of range e = record { number = e.number; lowest = e.column.lowest; highest = e.column.highest range }

abbrev pub ranged_fits : Ranged → Bool
ranged_fits g = within g.lowest g.highest g.number

-- the figures in order; the longest row has five, and behind a shorter one stand zeros, which lie in a range of zero to zero
abbrev pub five : ℕ → Figures → List Ranged
five range figures = take 5 (map (ranged_of range) (entries_of figures) ++ replicate 5 (record { number = 0; lowest = 0; highest = 0 }))

-- which of the five lie in their range
abbrev pub five_fit : ℕ → Figures → List Bool
five_fit range figures = map ranged_fits (five range figures)

-- the begin of a window; a deadline has none
abbrev pub begin_of : Watch → ℕ
begin_of (Deadline f) = 0
begin_of (Window f) = f.begin

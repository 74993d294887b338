-- What a zone is and what can be said to it, in the words of documents 01 and 02. Start with Table, then Figures, Sources, Zones and Rules; Inner has steps on the way.
-- The types (Group, Figures, Command, State, Status, Source, Origin, Watch, Settings, Zone) are those of the code: src/figures.rt, src/status.rt, src/sources.rt and src/zones.rt.
pub mod Lists
pub mod Table
pub mod Figures
pub mod Sources
pub mod Zones
pub mod Rules
pub mod Inner

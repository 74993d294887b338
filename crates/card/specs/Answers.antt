-- Document 01's table of answer numbers, with 14 to 17 of document 02, and what is seen of an answer: its number, its values and what is handed back.
use Rattle.std.specs.Prelude.{ℕ, List, [], ◌∷◌}
use Rattle.zone.specs.declared.figures.Figures.{Figures}
use Rattle.card.specs.declared.answers.Refusal.{Refusal}
use Rattle.card.specs.declared.answers.Refusal.TheVariants.{NoRoom, NotSound, NoZone, NoFrame, NobodyHolds, Checksum, Unknown, Syntax, OutOfRange, Locked, AddressHeld, AlreadyPresent, Unreadable, NoRecipe, StillBooked, BadAmount, SameZone}
use Rattle.card.specs.declared.answers.Answer.{Answer}
use Rattle.card.specs.declared.answers.Answer.TheVariants.{Done, Told, Refused}
use Rattle.card.specs.declared.records.Record.{Record}
use Rattle.card.specs.declared.records.Outcome.{Outcome}

-- "No." and "Given exactly when"
abbrev pub refusal_number : Refusal → ℕ
-- "reply room below 32 bytes"
refusal_number NoRoom = 1
-- "record not sound"; for a repair "any other unsoundness" (document 02, Req 06)
refusal_number NotSound = 2
-- "zone above 15, or absent (for adding: above 15 only)"
refusal_number NoZone = 3
-- "frame is not of the shape 68 L L 68 .. 16 with length L + 6 and L at least 3"
refusal_number NoFrame = 4
-- "no present zone holds the address"
refusal_number NobodyHolds = 5
-- "checksum differs"
refusal_number Checksum = 6
-- "unknown function, first letter, name or index; a line under 5 bytes"
refusal_number Unknown = 7
-- "known command, wrong length, spaces or digits"
refusal_number Syntax = 8
-- "a figure outside its range (composing: one the road can't carry)", since Req 06 "A window with begin not below end", since Req 08 "more than 10,000 mV"
refusal_number OutOfRange = 9
-- "write not permitted in this state"
refusal_number Locked = 10
-- "adding: address held by a present zone"
refusal_number AddressHeld = 11
-- "adding: zone already present"
refusal_number AlreadyPresent = 12
-- "log line unreadable (the program only)"
refusal_number Unreadable = 13
-- document 02, Req 01: "14 for more than 64 lines or a line without its zone and tab"
refusal_number NoRecipe = 14
-- document 02, Req 07, none of which has a reply: "15 for removing a zone with kilograms on it"
refusal_number StillBooked = 15
-- "16 for booking or shipping 0, more than is held when shipping, or a result above the limit"
refusal_number BadAmount = 16
-- "17 for merging a zone with itself"
refusal_number SameZone = 17

abbrev pub number_of : Answer → ℕ
number_of Done = 0
number_of (Told figures) = 0
number_of (Refused why) = refusal_number why

-- the figures that a done read tells, or the setpoint in use (document 02, Req 08); no other answer has any
abbrev pub values_of : Answer → List Figures
values_of Done = []
values_of (Told figures) = figures ∷ []
values_of (Refused why) = []

-- what a call comes to, in the paper's terms: its number, the values beside it, and what is handed back (A is the record)
pub record Result (A : Type 0) : Type 0 where
  pub number : ℕ
  pub values : List Figures
  pub after : A

-- what is seen of the outcome that the code hands back
abbrev pub outcome_seen : Outcome → Result Record
outcome_seen o = record { number = number_of o.answer; values = values_of o.answer; after = o.after }

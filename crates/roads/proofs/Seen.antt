-- A reply in its room is what is said of it, and a refusal has a number other than 0. Assumes nothing.
use Prim.Native.Nat.{ℕ}
use mathlib.Core.Path.{◌≡◌, refl}
use mathlib.Core.Bool.{false}
use mathlib.Core.List.{List}
use Rattle.zone.specs.declared.figures.Figures.{Figures}
use Rattle.zone.specs.Lists.{is_zero}
use Rattle.card.specs.declared.answers.Refusal.{Refusal}
use Rattle.card.specs.declared.answers.Refusal.TheVariants.{NoRoom, NotSound, NoZone, NoFrame, NobodyHolds, Checksum, Unknown, Syntax, OutOfRange, Locked, AddressHeld, AlreadyPresent, Unreadable, NoRecipe, StillBooked, BadAmount, SameZone}
use Rattle.card.specs.Answers.{refusal_number}
use Rattle.wire.specs.Room.{Filled}
use Rattle.roads.specs.Acknowledgements.{reply_to, in_text, text_reply, in_frame, frame_reply}
use Rattle.roads.specs.Calls.{said}

pub said_of : (number : ℕ) (values : List Figures) (reply room after : List ℕ) (n : ℕ) → Filled reply room after n
    → record { number = number; values = values; length = n; room = after } ≡ said number values reply room
said_of number values reply room after n f = λ i. record { number = number; values = values; length = f.count i; room = f.contents i }

not_done : (why : Refusal) → is_zero (refusal_number why) ≡ false
not_done NoRoom = refl
not_done NotSound = refl
not_done NoZone = refl
not_done NoFrame = refl
not_done NobodyHolds = refl
not_done Checksum = refl
not_done Unknown = refl
not_done Syntax = refl
not_done OutOfRange = refl
not_done Locked = refl
not_done AddressHeld = refl
not_done AlreadyPresent = refl
not_done Unreadable = refl
not_done NoRecipe = refl
not_done StillBooked = refl
not_done BadAmount = refl
not_done SameZone = refl

pub refused_text_lem : (why : Refusal) (values : List Figures) → text_reply (refusal_number why) values ≡ in_text (reply_to (refusal_number why))
unfolding text_reply
refused_text_lem why values = rw (not_done why)

pub refused_frame : (address : ℕ) (why : Refusal) (values : List Figures) → frame_reply address (refusal_number why) values ≡ in_frame address (reply_to (refusal_number why))
unfolding frame_reply
refused_frame address why values = rw (not_done why)

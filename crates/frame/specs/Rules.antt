-- Rules of the frame road that are proved of its definitions. Above each stands where.
use Rattle.std.specs.Prelude.{ℕ, ◌<◌, ◌≡◌, true, Ok, List, [], ◌∷◌, map, get_or}
use Rattle.zone.specs.declared.figures.Command.{Command}
use Rattle.zone.specs.Table.{every_form}
use Rattle.wire.specs.Road.{carries_command, length_of}
use Rattle.frame.specs.declared.reading.Framed.TheVariants.{Request}
use Rattle.frame.specs.Frame.{frame_road, frame_of, frame_read}

-- "L of a write is 8 for AHUE deadline, 10 for AHUE window, 5 for HZBG, 6 for RRUE, 5 for SOLW": sums over the table. `frame_lengths`, in proofs/Round.antt
abbrev pub FrameLengths : Type 0
FrameLengths = map (length_of frame_road) every_form ≡ 8 ∷ 10 ∷ 5 ∷ 6 ∷ 5 ∷ []

-- the frame of a command that the road carries is read as that command to that address. `frame_reads`, in proofs/Round.antt
abbrev pub FrameReads : Type 0
FrameReads = (address : ℕ) (command : Command) → carries_command frame_road command ≡ true → frame_read (frame_of address command) ≡ Request address (Ok command)

-- a list of bytes
abbrev pub Bytes : List ℕ → Type 0
Bytes l = (i : ℕ) → get_or l i 0 < 256

-- and nothing else is: bytes that are read as a command to an address are exactly its frame, and the road carries its figures. `frame_only`, in proofs/Round.antt
pub record ItsFrame (bytes : List ℕ) (address : ℕ) (command : Command) : Type 0 where
  pub frame_is : bytes ≡ frame_of address command
  pub carried : carries_command frame_road command ≡ true

abbrev pub OnlyItsFrame : Type 0
OnlyItsFrame = (bytes : List ℕ) (address : ℕ) (command : Command) → Bytes bytes → frame_read bytes ≡ Request address (Ok command) → ItsFrame bytes address command

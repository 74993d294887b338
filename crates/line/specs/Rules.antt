-- Rules of the text road that are proved of its definitions. Above each stands where.
use Rattle.std.specs.Prelude.{ℕ, ◌-◌, ◌≤◌, ◌<◌, ◌^◌, ◌≡◌, ◌↔◌, true, false, Some, Ok, Err, List, [], ◌∷◌, map, length, get_or, drop}
use Rattle.zone.specs.declared.figures.Figures.{Figures}
use Rattle.zone.specs.declared.figures.Figures.TheVariants.{AhueWindow}
use Rattle.zone.specs.declared.figures.WindowFigures.{WindowFigures}
use Rattle.zone.specs.declared.figures.Command.{Command}
use Rattle.zone.specs.Table.{every_form}
use Rattle.zone.specs.declared.figures.Command.TheVariants.{Write}
use Rattle.zone.specs.Figures.{each_in_range, in_range}
use Rattle.wire.specs.declared.Misread.TheVariants.{Syntax}
use Rattle.wire.specs.Road.{carries_command, length_of}
use Rattle.line.specs.Field.{digits_of}
use Rattle.line.specs.Line.{digits_for, text_road, line_of, line_read}
use Rattle.line.specs.Places.{offset, wrong_from, wrong_in, out_of, expected_in}

-- "The rule for a digit field is proved once over its width": a field is read as n exactly where it is the `width` digits of n. `digit_field`, in proofs/DigitRule.antt
abbrev pub DigitField : Type 0
DigitField = (width : ℕ) (field : List ℕ) (n : ℕ) → (digits_of width field ≡ Some n) ↔ ((field ≡ digits_for width n) × (n < 10 ^ width))

-- "a write is 19 bytes for AHUE deadline, 23 for AHUE window, 9 for HZBG, 15 for RRUE, 9 for SOLW": sums over the table. `line_lengths`, in proofs/Round.antt
abbrev pub LineLengths : Type 0
LineLengths = map (length_of text_road) every_form ≡ 19 ∷ 23 ∷ 9 ∷ 15 ∷ 9 ∷ []

-- the line of a command that the road carries is read as that command. `line_reads`, in proofs/Round.antt
abbrev pub LineReads : Type 0
LineReads = (command : Command) → carries_command text_road command ≡ true → line_read (line_of command) ≡ Ok command

-- and nothing else is: what is read as a command is exactly its line, and the road carries its figures. `line_only`, in proofs/Round.antt
pub record ItsLine (line : List ℕ) (command : Command) : Type 0 where
  pub line_is : line ≡ line_of command
  pub carried : carries_command text_road command ≡ true

abbrev pub OnlyItsLine : Type 0
OnlyItsLine = (line : List ℕ) (command : Command) → line_read line ≡ Ok command → ItsLine line command

-- ---- places, document 02, Req 04

-- a line is a syntax error, by document 01's definition of it, exactly where it has the place of an 8. `syntax_has_place`, in proofs/Placed.antt
abbrev pub SyntaxHasPlace : Type 0
SyntaxHasPlace = (line : List ℕ) → (line_read line ≡ Err Syntax) ↔ ((n : ℕ) × (wrong_in line ≡ offset n))

-- which lies behind the five letters, and at the line's end at most. `syntax_place_within`, in proofs/Placed.antt
abbrev pub SyntaxPlaceWithin : Type 0
SyntaxPlaceWithin = (line : List ℕ) (n : ℕ) → wrong_in line ≡ offset n → (5 ≤ n) × (n ≤ length line)

-- figures are out of range exactly where they have the place of a 9. `range_has_place`, in proofs/Placed.antt
abbrev pub RangeHasPlace : Type 0
RangeHasPlace = (range : ℕ) (figures : Figures) → (in_range range figures ≡ false) ↔ ((n : ℕ) × (out_of range figures ≡ offset n))

-- which is that of a byte of the line, and the byte before it is a space. `range_place_within`, in proofs/Placed.antt
pub record BehindSpace (line : List ℕ) (n : ℕ) : Type 0 where
  pub behind_letters : 5 < n
  pub within_line : n < length line
  pub space_before : get_or line (n - 1) 0 ≡ 32

abbrev pub RangePlaceWithin : Type 0
RangePlaceWithin = (line : List ℕ) (range : ℕ) (figures : Figures) (n : ℕ) → line_read line ≡ Ok (Write figures) → out_of range figures ≡ offset n → BehindSpace line n

-- a window with begin not below end is "placed at the end figure if each figure is in its own range" (document 02, Req 06): at 20, where the digits of its end stand. `end_placed`, in proofs/Placed.antt
pub record AtTheEnd (range : ℕ) (window : WindowFigures) : Type 0 where
  pub place : out_of range (AhueWindow window) ≡ offset 20
  pub its_digits : drop 20 (line_of (Write (AhueWindow window))) ≡ digits_for 3 window.end

abbrev pub EndPlaced : Type 0
EndPlaced = (range : ℕ) (window : WindowFigures) → each_in_range range (AhueWindow window) ≡ true → window.end ≤ window.begin → AtTheEnd range window

-- what is expected in a wrong line is what its place was found by. `expected_there`, in proofs/Placed.antt
abbrev pub ExpectedThere : Type 0
ExpectedThere = (line : List ℕ) (n : ℕ) → wrong_in line ≡ offset n → wrong_from 5 (expected_in line) (drop 5 line) ≡ offset n

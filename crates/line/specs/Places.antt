-- Where a line is wrong: document 02, Req 04, "Say where the line is wrong", and of a window Req 06. An offset counts the line's bytes from 0.
use Rattle.std.specs.Prelude.{ℕ, zero, suc, ◌+◌, ◌-◌, Bool, cond, ◌||◌, Option, Some, None, Ok, Err, List, [], ◌∷◌, ◌++◌, length, get_or, take, drop, ltb, eqb}
use Rattle.zone.specs.declared.figures.Group.{Group}
use Rattle.zone.specs.declared.figures.Group.TheVariants.{Ahue, Hzbg, Rrue, Solw}
use Rattle.zone.specs.declared.figures.Figures.{Figures}
use Rattle.zone.specs.declared.figures.Command.TheVariants.{Read, Write}
use Rattle.zone.specs.Lists.{within}
use Rattle.zone.specs.Table.{time, Column, digits, Form, deadline, window, hzbg, rrue, solw, layout}
use Rattle.zone.specs.Figures.{Entry, entries_of, fits, each_in_range, opens}
use Rattle.wire.specs.declared.Misread.TheVariants.{Syntax, Unknown}
use Rattle.wire.specs.Road.{Parsed, length_of}
use Rattle.line.specs.declared.expecting.Expects.{Expects}
use Rattle.line.specs.declared.expecting.Expects.TheVariants.{Space, Digit, Nothing}
use Rattle.line.specs.Line.{L, S, text_road, group_named}

-- nothing is wrong, or it is at that offset
pub data Place : Type 0 where
  nowhere : Place
  offset : ℕ → Place

-- the place as a number; 0 where nothing is wrong
abbrev pub told : Place → ℕ
told nowhere = 0
told (offset n) = n

-- ---- the place of an 8

-- "the expected digit or space"
pub data Expected : Type 0 where
  space digit : Expected

-- a space is 32; the digits 0 to 9 are 48 to 57
abbrev pub meets : Expected → ℕ → Bool
meets space x = eqb x 32
meets digit x = within 48 57 x

-- what is expected from offset i on, held against the bytes that stand there; where no byte is left, i is the line's length
unfoldable pub wrong_from : ℕ → List Expected → List ℕ → Place
-- "the line offset of the first byte that isn't the expected digit or space"
wrong_from i (e ∷ es) (x ∷ l) = cond (meets e x) (wrong_from (i + 1) es l) (offset i)
-- "or the line's length if it stops short"
wrong_from i (e ∷ es) [] = offset i
-- "Surplus bytes are placed at the first of them"
wrong_from i [] (x ∷ l) = offset i
wrong_from i [] [] = nowhere

abbrev pub digits_expected : ℕ → List Expected
digits_expected zero = []
digits_expected (suc width) = digit ∷ digits_expected width

-- for each figure of a row a space and its digits
abbrev pub figures_expected : List Column → List Expected
figures_expected [] = []
figures_expected (k ∷ ks) = space ∷ (digits_expected (digits k.kind) ++ figures_expected ks)

-- the form that a write of n bytes to a group is read as: "An AHUE write longer than 19 bytes is read as a window"
abbrev pub form_for : Group → ℕ → Form
form_for Ahue n = cond (ltb 19 n) window deadline
form_for Hzbg n = hzbg
form_for Rrue n = rrue
form_for Solw n = solw

-- what the line of a known command expects behind its five letters: a read nothing ("A read is L and the four capital letters"), a write of n bytes the figures of its form
abbrev pub expected_as : ℕ → Group → ℕ → List Expected
expected_as letter group n = cond (eqb letter L) [] (figures_expected (layout (form_for group n)).columns)

-- first letters other than L and S are no known command's
abbrev pub wrong_as : ℕ → Group → List ℕ → Place
wrong_as letter group l = cond (eqb letter L || eqb letter S) (wrong_from 5 (expected_as letter group (length l)) (drop 5 l)) nowhere

abbrev pub named_wrong : Option Group → List ℕ → Place
named_wrong None l = nowhere
named_wrong (Some group) l = wrong_as (get_or l 0 0) group l

-- where the line of a known command is wrong; a line of none has no such place
unfoldable pub wrong_in : List ℕ → Place
wrong_in l = cond (ltb (length l) 5) nowhere (named_wrong (group_named (take 4 (drop 1 l))) l)

-- ---- the place of a 9

-- "for 9 it is where the first figure out of range starts": behind its space, which stands at offset i
unfoldable pub out_from : ℕ → ℕ → List Entry → Place
out_from range i [] = nowhere
out_from range i (e ∷ es) = cond (fits range e) (out_from range (i + text_road.width e.column.kind) es) (offset (i + 1))

-- the offset of a window's end figure: its three digits are the last of the line
abbrev pub end_offset : ℕ
end_offset = length_of text_road window - digits time

-- a window whose begin is not below its end is "placed at the end figure if each figure is in its own range" (document 02, Req 06); else the place is that of the first figure out of its own range. The figures stand behind the five letters
unfoldable pub out_of : ℕ → Figures → Place
out_of range figures = cond (each_in_range range figures) (cond (opens figures) nowhere (offset end_offset)) (out_from range 5 (entries_of figures))

-- what is found of the figures of a line that was read; only a write has any
abbrev pub of_figures : {A : Type 0} → (Figures → A) → A → Parsed → A
of_figures found none (Ok (Write figures)) = found figures
of_figures found none (Ok (Read group)) = none
of_figures found none (Err Unknown) = none
of_figures found none (Err Syntax) = none

abbrev pub out_in : ℕ → Parsed → Place
out_in range parsed = of_figures (out_of range) nowhere parsed

-- ---- what is expected there, for people

-- what a list of expectations has at an index; behind its end nothing more is expected
abbrev pub expected_at : List Expected → ℕ → Expects
expected_at [] i = Nothing
expected_at (space ∷ es) zero = Space
expected_at (digit ∷ es) zero = Digit
expected_at (e ∷ es) (suc i) = expected_at es i

abbrev pub named_expects : Option Group → List ℕ → List Expected
named_expects None l = []
named_expects (Some group) l = expected_as (get_or l 0 0) group (length l)

-- what is expected in a line of a known command; its place was found by it (expected_there, in proofs/Placed.antt)
unfoldable pub expected_in : List ℕ → List Expected
expected_in l = cond (ltb (length l) 5) [] (named_expects (group_named (take 4 (drop 1 l))) l)

-- How long a reply is: at most 32 bytes as a line, 16 as a frame, so that a room of 32 bytes holds it and keeps its length. Assumes nothing.
use Rattle.std.specs.Prelude.{None, Option, Some}
use Prim.Native.Nat.{ℕ, ◌≤◌}
use mathlib.Core.Path.{◌≡◌}
use mathlib.Core.Bool.{Bool, true, false, cond}
use mathlib.Core.List.{List, [], ◌∷◌}
use native.Mathlib.Omega.{arith}
use lib.ListN.{length, length-append, length-drop}
use Rattle.zone.specs.declared.figures.Group.{Group}
use Rattle.zone.specs.declared.figures.Group.TheVariants.{Ahue, Hzbg, Rrue, Solw}
use Rattle.zone.specs.declared.figures.Figures.{Figures}
use Rattle.zone.specs.declared.figures.Figures.TheVariants.{AhueDeadline, AhueWindow, HzbgLimit, RrueReference, SolwSetpoint}
use Rattle.zone.specs.declared.figures.Command.{Command}
use Rattle.zone.specs.declared.figures.Command.TheVariants.{Read, Write}
use Rattle.zone.specs.Lists.{is_zero}
use Rattle.wire.specs.Room.{filled}
use Rattle.line.specs.Line.{A, S, line_with, line_of}
use Rattle.frame.specs.Frame.{writing, body_with, framed, frame_of}
use Rattle.roads.specs.declared.answering.Acknowledgement.{Acknowledgement}
use Rattle.roads.specs.declared.answering.Acknowledgement.TheVariants.{Okay, CommandError, SyntaxError, CommandLock, TransferError}
use Rattle.roads.specs.Acknowledgements.{text_of, function_of, reply_to, in_text, text_done, text_reply, in_frame, frame_done, frame_reply}

-- whichever list a test picks
pub either : (t : Bool) (xs ys : List ℕ) (n : ℕ) → length xs ≤ n → length ys ≤ n → length (cond t xs ys) ≤ n
either true xs ys n h k = h
either false xs ys n h k = k

-- a reply in text
text_of_lem : (a : Acknowledgement) → length (text_of a) ≤ 32
text_of_lem Okay = omega arith
text_of_lem CommandError = omega arith
text_of_lem SyntaxError = omega arith
text_of_lem CommandLock = omega arith
text_of_lem TransferError = omega arith

in_text_lem : (reply : Option Acknowledgement) → length (in_text reply) ≤ 32
in_text_lem None = omega arith
in_text_lem (Some a) = text_of_lem a

line_with_lem : (letter : ℕ) (figures : Figures) → length (line_with letter figures) ≤ 32
line_with_lem letter (AhueDeadline f) = omega arith
line_with_lem letter (AhueWindow f) = omega arith
line_with_lem letter (HzbgLimit f) = omega arith
line_with_lem letter (RrueReference f) = omega arith
line_with_lem letter (SolwSetpoint f) = omega arith

text_done_lem : (values : List Figures) → length (text_done values) ≤ 32
text_done_lem [] = omega arith
text_done_lem (figures ∷ more) = line_with_lem A figures

pub text_fits : (number : ℕ) (values : List Figures) → length (text_reply number values) ≤ 32
unfolding text_reply
text_fits number values = either (is_zero number) (text_done values) (in_text (reply_to number)) 32 (text_done_lem values) (in_text_lem (reply_to number))

-- a reply in a frame, and each of its bytes in two digits
in_frame_lem : (address : ℕ) (reply : Option Acknowledgement) → length (in_frame address reply) ≤ 16
in_frame_lem address None = omega arith
in_frame_lem address (Some a) = omega arith

frame_with : (address function : ℕ) (figures : Figures) → length (framed (body_with address function figures)) ≤ 16
frame_with address function (AhueDeadline f) = omega arith
frame_with address function (AhueWindow f) = omega arith
frame_with address function (HzbgLimit f) = omega arith
frame_with address function (RrueReference f) = omega arith
frame_with address function (SolwSetpoint f) = omega arith

frame_done_lem : (address : ℕ) (values : List Figures) → length (frame_done address values) ≤ 16
frame_done_lem address [] = omega arith
frame_done_lem address (figures ∷ more) = frame_with address (function_of Okay) figures

pub frame_fits : (address number : ℕ) (values : List Figures) → length (frame_reply address number values) ≤ 16
unfolding frame_reply
frame_fits address number values = either (is_zero number) (frame_done address values) (in_frame address (reply_to number)) 16 (frame_done_lem address values) (in_frame_lem address (reply_to number))

-- what is composed
read_line : (group : Group) → length (line_of (Read group)) ≤ 32
unfolding line_of
read_line Ahue = omega arith
read_line Hzbg = omega arith
read_line Rrue = omega arith
read_line Solw = omega arith

pub line_fits : (command : Command) → length (line_of command) ≤ 32
unfolding line_of
line_fits (Read group) = read_line group
line_fits (Write figures) = line_with_lem S figures

pub whole_frame_fits : (address : ℕ) (command : Command) → length (frame_of address command) ≤ 32
unfolding frame_of
whole_frame_fits address (Read group) = omega arith
whole_frame_fits address (Write figures) = omega (arith, frame_with address writing figures)

-- ---- a room that holds the reply keeps its length

pub room_kept : (reply room : List ℕ) → length reply ≤ length room → length (filled reply room) ≡ length room
room_kept reply room h = simp (length-append, length-drop) (omega arith)

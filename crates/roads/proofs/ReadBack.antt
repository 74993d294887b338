-- What the card composes it reads back: the bytes that a done composing left in the room are that command, with those figures. Assumes nothing.
use Rattle.std.specs.Prelude.{Ok}
use Prim.Native.Nat.{ℕ}
use mathlib.Core.Path.{◌≡◌, ap, ◌∙◌}
use mathlib.Core.Bool.{true, ◌&&◌}
use mathlib.Core.List.{List}
use lib.ListN.{length, drop}
use lib.Seq.{take-append_seam}
use borrow.Author.Tests.{not-false}
use Rattle.zone.specs.declared.figures.Command.{Command}
use Rattle.zone.specs.Zones.{address_in_range}
use Rattle.zone.proofs.Tests.{both}
use Rattle.wire.specs.Road.{carries_command}
use Rattle.line.specs.Line.{text_road, line_of, line_read}
use Rattle.line.proofs.Round.{line_reads}
use Rattle.frame.specs.declared.reading.Framed.TheVariants.{Request}
use Rattle.frame.specs.Frame.{frame_road, frame_of, frame_read}
use Rattle.frame.proofs.Round.{frame_reads}
use Rattle.roads.specs.Calls.{reply_in, composed_line, composed_frame}
use Rattle.roads.proofs.Exactly.{compose_line_exactly, compose_frame_exactly}

-- what a done composing left in the room, and that the road carries it
pub line_composed : (c : Command) (room : List ℕ) → (composed_line c room).number ≡ 0 → reply_in (composed_line c room) ≡ line_of c
unfolding composed_line
line_composed c room e = rw e (take-append_seam (line_of c) (drop (length (line_of c)) room))

pub line_carried : (c : Command) (room : List ℕ) → (composed_line c room).number ≡ 0 → carries_command text_road c ≡ true
line_carried c room e = not-false (carries_command text_road c) ((compose_line_exactly c room).done.0 e 1)

pub frame_composed : (a : ℕ) (c : Command) (room : List ℕ) → (composed_frame a c room).number ≡ 0 → reply_in (composed_frame a c room) ≡ frame_of a c
unfolding composed_frame
frame_composed a c room e = rw e (take-append_seam (frame_of a c) (drop (length (frame_of a c)) room))

pub frame_carried : (a : ℕ) (c : Command) (room : List ℕ) → (composed_frame a c room).number ≡ 0 → carries_command frame_road c ≡ true
frame_carried a c room e =
    let carried = not-false (address_in_range a && carries_command frame_road c) ((compose_frame_exactly a c room).done.0 e 1) in
    (both (address_in_range a) (carries_command frame_road c) carried).1

-- the buyer's second demand: "Every command that the card composes, as line or frame, it reads back as that command with those figures"
pub line_reads_back : (c : Command) (room : List ℕ) → (composed_line c room).number ≡ 0 → line_read (reply_in (composed_line c room)) ≡ Ok c
line_reads_back c room e = ap line_read (line_composed c room e) ∙ line_reads c (line_carried c room e)

pub frame_reads_back : (a : ℕ) (c : Command) (room : List ℕ) → (composed_frame a c room).number ≡ 0 → frame_read (reply_in (composed_frame a c room)) ≡ Request a (Ok c)
frame_reads_back a c room e = ap frame_read (frame_composed a c room e) ∙ frame_reads a c (frame_carried a c room e)

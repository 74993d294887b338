-- Each return is the definition's first row whose test holds; what passes both is put into the room.
use mathlib.Core.List.{[]}
use borrow.Author.Tests.{le-ltb}
use Rattle.wire.specs.Road.{carries_command}
use Rattle.frame.specs.Frame.{frame_of}
use Rattle.roads.specs.Calls.{composed_frame}
use Rattle.roads.proofs.Seen.{said_of}
use Rattle.roads.proofs.composing.compose_frame.Goals as goal

pub returns-in-Read : goal.returns-in-Read
unfolding composed_frame carries_command
returns-in-Read c =
    rw (c.done.ensures, c.in-Read.is, le-ltb _ _ c.if-room-lt32.false, ← c.address_in_range.ensures, c.if-not-address_in_range.false) (said_of 0 [] _ _ _ _ c.put_read.ensures)

pub returns-then-carries : goal.returns-then-carries
unfolding composed_frame carries_command frame_of
returns-then-carries c =
    rw (c.done-then-carries.ensures, c.in-Write.is, le-ltb _ _ c.if-room-lt32.false, ← c.address_in_range.ensures, c.if-not-address_in_range.false, ← c.carries.ensures, c.if-carries.true)
    (said_of 0 [] _ _ _ _ c.put_figures.ensures)

pub returns-else-carries : goal.returns-else-carries
unfolding composed_frame carries_command
returns-else-carries c =
    rw (c.refused-else-carries.ensures, c.in-Write.is, le-ltb _ _ c.if-room-lt32.false, ← c.address_in_range.ensures, c.if-not-address_in_range.false, ← c.carries.ensures, c.if-carries.false)

-- Each return is the definition's first row whose test holds; what passes both is put into the room.
use mathlib.Core.List.{[]}
use borrow.Author.Tests.{le-ltb}
use Rattle.wire.specs.Road.{carries_command}
use Rattle.line.specs.Line.{line_of}
use Rattle.roads.specs.Calls.{composed_line}
use Rattle.roads.proofs.Seen.{said_of}
use Rattle.roads.proofs.composing.compose_line.Goals as goal

pub returns-in-Read : goal.returns-in-Read
unfolding composed_line carries_command
returns-in-Read c = rw (c.done.ensures, c.in-Read.is, le-ltb _ _ c.if-room-lt32.false) (said_of 0 [] _ _ _ _ c.put_read.ensures)

pub returns-then-carries : goal.returns-then-carries
unfolding composed_line carries_command line_of
returns-then-carries c =
    rw (c.done-then-carries.ensures, c.in-Write.is, le-ltb _ _ c.if-room-lt32.false, ← c.carries.ensures, c.if-carries.true) (said_of 0 [] _ _ _ _ c.put_figures.ensures)

pub returns-else-carries : goal.returns-else-carries
unfolding composed_line carries_command
returns-else-carries c = rw (c.refused-else-carries.ensures, c.in-Write.is, le-ltb _ _ c.if-room-lt32.false, ← c.carries.ensures, c.if-carries.false)

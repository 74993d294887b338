-- Without the tab or too long, the line cannot be read; otherwise the digits made the frame's bytes at the front of the room, or none.
use mathlib.Core.Path.{sym, ◌∙◌}
use Rattle.journal.proofs.Fields.{frame_untabbed, frame_long, frame_digits}
use Rattle.journal.proofs.asking.Reader.frame.Goals as goal
use Rattle.journal.proofs.asking.Reader.frame.Goals.{then-not-is_tabbed-via-then-not-is_tabbed, then-not-is_tabbed-via-else-not-is_tabbed+then-line-gt524}

pub returns-then-not-is_tabbed : goal.returns-then-not-is_tabbed
returns-then-not-is_tabbed c =
    elim c.then-not-is_tabbed.branch [
      | then-not-is_tabbed-via-then-not-is_tabbed w ↦ rw (frame_untabbed _ (sym c.is_tabbed.ensures ∙ w.if-not-is_tabbed.true))
      | then-not-is_tabbed-via-else-not-is_tabbed+then-line-gt524 w ↦ rw (frame_long _ (sym c.is_tabbed.ensures ∙ w.if-not-is_tabbed.false) w.if-line-gt524.true)
    ]

pub returns-in_err-n : goal.returns-in_err-n
returns-in_err-n c = rw (c.from_residual.ensures, frame_digits _ (sym c.is_tabbed.ensures ∙ c.if-not-is_tabbed.false) c.if-line-gt524.false _ c.unhex.ensures.room_after, c.in_err-n.was)

pub returns : goal.returns
returns c = rw (frame_digits _ (sym c.is_tabbed.ensures ∙ c.if-not-is_tabbed.false) c.if-line-gt524.false _ c.unhex.ensures.room_after, c.in_ok-n.was, c.read.ensures)

-- The ended lines are answered, and what stands behind them is kept.
use lib.ListN.{take}
use Rattle.journal.specs.Inner.{Worked}
use Rattle.journal.proofs.Texts.{fed_seen}
use Rattle.journal.proofs.blocks.feed.Goals as goal

pub returns-clause-buffer_after : goal.returns-clause-buffer_after
returns-clause-buffer_after c =
    let a = c.args in
    let text = take a.end a.buffer.now in
    let w : Worked a.given text _ c.lines-done.result = c.lines-done.ensures in
    fed_seen a.given text _ _ c.lines-done.result c.keep.result w c.keep.ensures.buffer_after

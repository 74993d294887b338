-- The name stands behind the letter.
use Rattle.line.proofs.writing.put_head.Goals as goal

pub returns-clause-head : goal.returns-clause-head
returns-clause-head c = rw c.name.ensures at (c.append.ensures.behind _ _ c.copy-at.ensures)

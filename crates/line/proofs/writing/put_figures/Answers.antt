-- In each arm the figures of its row stand behind the head.
use Rattle.line.proofs.writing.put_figures.Goals as goal

pub returns-in-AhueDeadline : goal.returns-in-AhueDeadline
returns-in-AhueDeadline c =
    let head = rw (c.group.ensures, c.in-AhueDeadline.is) at c.put_head-at.ensures.head in
    let limits = c.append-at.ensures.behind _ _ head in
    rw c.in-AhueDeadline.is (rw (c.watched.ensures, c.figure.ensures) at (c.append.ensures.behind _ _ limits))

pub returns-in-AhueWindow : goal.returns-in-AhueWindow
returns-in-AhueWindow c =
    let head = rw (c.group.ensures, c.in-AhueWindow.is) at c.put_head-at.ensures.head in
    let limits = c.append-at-in-AhueWindow.ensures.behind _ _ head in
    let begin = c.append-at-in-AhueWindow-2.ensures.behind _ _ limits in
    rw c.in-AhueWindow.is
    (rw (c.watched-in-AhueWindow.ensures, c.figure-in-AhueWindow.ensures, c.figure-in-AhueWindow-2.ensures) at (c.append-in-AhueWindow.ensures.behind _ _ begin))

pub returns-in-HzbgLimit : goal.returns-in-HzbgLimit
returns-in-HzbgLimit c =
    let head = rw (c.group.ensures, c.in-HzbgLimit.is) at c.put_head-at.ensures.head in
    rw c.in-HzbgLimit.is (rw c.figure-in-HzbgLimit.ensures at (c.append-in-HzbgLimit.ensures.behind _ _ head))

pub returns-in-RrueReference : goal.returns-in-RrueReference
returns-in-RrueReference c =
    let head = rw (c.group.ensures, c.in-RrueReference.is) at c.put_head-at.ensures.head in
    rw c.in-RrueReference.is (rw c.watched-in-RrueReference.ensures at (c.append-in-RrueReference.ensures.behind _ _ head))

pub returns-in-SolwSetpoint : goal.returns-in-SolwSetpoint
returns-in-SolwSetpoint c =
    let head = rw (c.group.ensures, c.in-SolwSetpoint.is) at c.put_head-at.ensures.head in
    rw c.in-SolwSetpoint.is (rw c.figure-in-SolwSetpoint.ensures at (c.append-in-SolwSetpoint.ensures.behind _ _ head))

-- Each arm holds its figures against the bounds of their kinds.
use mathlib.Core.Bool.{and_assoc, and-true}
use Rattle.wire.specs.Road.{carries}
use Rattle.wire.proofs.carries.Goals as goal

pub returns-in-AhueDeadline : goal.returns-in-AhueDeadline
unfolding carries
returns-in-AhueDeadline g c = λ road flag limit time. simp (c.in-AhueDeadline.is, flag, limit, time, and_assoc, and-true)

pub returns-in-AhueWindow : goal.returns-in-AhueWindow
unfolding carries
returns-in-AhueWindow g c = λ road flag limit time. simp (c.in-AhueWindow.is, flag, limit, time, and_assoc, and-true)

pub returns-in-HzbgLimit : goal.returns-in-HzbgLimit
unfolding carries
returns-in-HzbgLimit g c = λ road flag limit time. simp (c.in-HzbgLimit.is, time, and-true)

pub returns-in-RrueReference : goal.returns-in-RrueReference
unfolding carries
returns-in-RrueReference g c = λ road flag limit time. simp (c.in-RrueReference.is, flag, limit, and_assoc, and-true)

pub returns-in-SolwSetpoint : goal.returns-in-SolwSetpoint
unfolding carries
returns-in-SolwSetpoint g c = λ road flag limit time. simp (c.in-SolwSetpoint.is, time, and-true)

-- A command that is known is asked as it is.
use Rattle.card.specs.Calls.{apply_of}
use Rattle.card.specs.Inner.{ask_of}
use Rattle.card.proofs.records.Record.apply.Goals as goal

pub returns : goal.returns
unfolding apply_of ask_of
returns c = c.ask.ensures

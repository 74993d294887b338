-- What the zone decides, stored.
use borrow.Author.Rules.{rules}
use Rattle.card.specs.Records.{zone_at}
use Rattle.card.specs.Calls.{setpoint_in_use_at, setpoint_in_use_of}
use Rattle.card.proofs.records.Record.setpoint_in_use.Goals as goal

pub returns : goal.returns
unfolding setpoint_in_use_of
returns c = let a = c.args in c.at.ensures (setpoint_in_use_at (zone_at a.self a.zone)) (λ v p. search rules)

-- What the zone decides, stored.
use borrow.Author.Rules.{rules}
use Rattle.card.specs.Records.{zone_at}
use Rattle.card.specs.Calls.{ship_at, ship_of}
use Rattle.card.proofs.records.Record.ship.Goals as goal

pub returns : goal.returns
unfolding ship_of
returns c = let a = c.args in c.at.ensures (ship_at (zone_at a.self a.zone) a.kilograms) (λ v p. search rules)

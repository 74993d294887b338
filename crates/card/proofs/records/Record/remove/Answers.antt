-- What the zone decides, stored.
use borrow.Author.Rules.{rules}
use Rattle.card.specs.Records.{zone_at}
use Rattle.card.specs.Calls.{remove_at, remove_of}
use Rattle.card.proofs.records.Record.remove.Goals as goal

pub returns : goal.returns
unfolding remove_of
returns c = let a = c.args in c.at.ensures (remove_at (zone_at a.self a.zone)) (λ v p. search rules)

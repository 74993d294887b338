-- What the zone decides, stored.
use borrow.Author.Rules.{rules}
use Rattle.card.specs.Records.{zone_at}
use Rattle.card.specs.Calls.{choose_source_at, choose_source_of}
use Rattle.card.proofs.records.Record.choose_source.Goals as goal

pub returns : goal.returns
unfolding choose_source_of
returns c = let a = c.args in c.at.ensures (choose_source_at (zone_at a.self a.zone) a.source a.millivolts) (λ v p. search rules)

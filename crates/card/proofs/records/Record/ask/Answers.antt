-- What the zone decides, stored.
use borrow.Author.Rules.{rules}
use Rattle.card.specs.Records.{zone_at}
use Rattle.card.specs.Inner.{ask_at, ask_of}
use Rattle.card.proofs.records.Record.ask.Goals as goal

pub returns : goal.returns
unfolding ask_of
returns c = let a = c.args in c.at.ensures (ask_at (zone_at a.self a.zone) a.asked) (λ v p. search rules)

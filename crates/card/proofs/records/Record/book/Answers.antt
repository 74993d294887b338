-- What the zone decides, stored.
use borrow.Author.Rules.{rules}
use Rattle.card.specs.Records.{zone_at}
use Rattle.card.specs.Calls.{book_at, book_of}
use Rattle.card.proofs.records.Record.book.Goals as goal

pub returns : goal.returns
unfolding book_of
returns c = let a = c.args in c.at.ensures (book_at (zone_at a.self a.zone) a.kilograms) (λ v p. search rules)

-- What the zone decides, stored.
use borrow.Author.Rules.{rules}
use Rattle.card.specs.Records.{zone_at}
use Rattle.card.specs.Calls.{report_at, report_of}
use Rattle.card.proofs.records.Record.report.Goals as goal

pub returns : goal.returns
unfolding report_of
returns c = let a = c.args in c.at.ensures (report_at (zone_at a.self a.zone) a.state a.actual) (λ v p. search rules)

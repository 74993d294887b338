-- An address is found where, and only where, some present zone holds it.
use mathlib.Core.Path.{◌∙◌}
use Rattle.card.proofs.Scans.{found_held}
use Rattle.card.proofs.records.Record.is_held.Goals as goal

pub returns : goal.returns
returns c = (rw c.find.ensures at c.is_some.ensures) ∙ found_held 0 c.args.self.zones c.args.address

-- Before each turn the old ends stored, and those of the zones that are left, make the whole.
use Rattle.card.proofs.Mending.{Gathers}
use Rattle.card.proofs.records.Record.old_ends.Given as goal

abbrev pub invariant-loop-zone : goal.invariant-loop-zone
invariant-loop-zone l = Gathers l.fn.self.zones l.told.ends l.told.count l.zone

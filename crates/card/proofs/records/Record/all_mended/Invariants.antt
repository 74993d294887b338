-- Before each turn the zones passed are mended, and those that are left make the whole.
use Rattle.card.proofs.Mending.{MendsTo}
use Rattle.card.proofs.records.Record.all_mended.Given as goal

abbrev pub invariant-loop-z : goal.invariant-loop-z
invariant-loop-z l = MendsTo l.fn.self.zones l.z-items l.z-index

-- The zones passed, as gathered, and those that are left make the whole.
use mathlib.Core.Path.{◌≡◌}
use mathlib.Core.Bool.{◌&&◌}
use lib.ListN.{length}
use Rattle.card.specs.Records.{differ}
use Rattle.card.proofs.records.Record.addresses_differ.Given as goal

abbrev pub invariant-loop-z : goal.invariant-loop-z
invariant-loop-z l = differ l.fn.self.zones ≡ (l.ok && differ l.zones)

abbrev pub decreases-loop-z : goal.decreases-loop-z
decreases-loop-z l = length l.zones

-- Before each turn the search over all zones is the search over those that are left. Where none is left, nobody holds the address.
use Prim.Native.Nat.{◌≤◌, ◌-◌}
use mathlib.Core.Path.{◌≡◌}
use lib.ListN.{drop}
use Rattle.card.specs.Records.{find_from}
use Rattle.card.proofs.records.Record.find.Given as goal

abbrev pub invariant-loop-i : goal.invariant-loop-i
invariant-loop-i l = (l.i ≤ 16) × (find_from 0 l.self.zones l.address ≡ find_from l.i (drop l.i l.self.zones) l.address)

abbrev pub decreases-loop-i : goal.decreases-loop-i
decreases-loop-i l = 16 - l.i

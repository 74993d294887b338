-- Before each turn the digits passed make `value`, which is below ten to their number, and what is left is walked on from there.
use Prim.Native.Nat.{◌-◌, ◌^◌, ◌≤◌, ◌<◌}
use mathlib.Core.Path.{◌≡◌}
use lib.ListN.{length, drop}
use Rattle.line.specs.Inner.{digits_walked}
use Rattle.line.proofs.fields.digits.Given as goal

abbrev pub invariant-loop-i : goal.invariant-loop-i
invariant-loop-i l = (l.i ≤ length l.field) × (l.i ≤ l.width) × (l.value < 10 ^ l.i) × (digits_walked 0 0 l.width l.field ≡ digits_walked l.value l.i (l.width - l.i) (drop l.i l.field))

-- Before each turn what the whole block comes to is the output so far, and then what the rest of the block comes to from the record as it stands.
use Prim.Native.Nat.{◌*◌, ◌-◌, ◌≤◌}
use mathlib.Core.Path.{◌≡◌}
use lib.ListN.{length, take, drop}
use Rattle.card.specs.Records.{sound}
use Rattle.journal.proofs.Texts.{Ahead}
use Rattle.journal.proofs.blocks.lines.Given as goal

abbrev pub invariant-loop-reader : goal.invariant-loop-reader
invariant-loop-reader l =
    (l.at ≤ length l.block) × (l.filled ≤ 8 * l.at) × (length l.out ≡ length l.initial.out) × (l.fit ≡ sound l.r) × Ahead l.initial.r l.block l.r (take l.filled l.out) (drop l.at l.block)

abbrev pub decreases-loop-reader : goal.decreases-loop-reader
decreases-loop-reader l = length l.block - l.at

-- Before each turn what comes of all the lines is the answers so far, and then what comes of the rest from the record as it stands.
use mathlib.Core.Path.{◌≡◌}
use mathlib.Core.List.{map}
use lib.ListN.{length, take}
use Rattle.recipes.specs.Inner.{cut_seen, told}
use Rattle.recipes.proofs.Turns.{Ahead}
use Rattle.recipes.proofs.loading.try_lines.Given as goal

abbrev pub invariant-loop-k : goal.invariant-loop-k
invariant-loop-k l = (length l.answers ≡ 64) × Ahead l.initial.r (map cut_seen l.cuts) l.r (map told (take l.k l.answers)) l.k

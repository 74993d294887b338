-- Before each turn the replies that stand in the room, and those that are left, make all of them, and so do their lengths.
use mathlib.Core.List.{map}
use Rattle.recipes.specs.Inner.{told}
use Rattle.recipes.proofs.Replies.{Ahead}
use Rattle.recipes.proofs.replying.put_replies.Given as goal

abbrev pub invariant-loop-k : goal.invariant-loop-k
invariant-loop-k l = Ahead (map told l.answers) l.initial.room l.room l.lengths l.k

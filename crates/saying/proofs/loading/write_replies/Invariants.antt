-- Before each turn the replies to the lines that are left, written behind the text so far, complete the replies to all.
use Prim.Native.Nat.{◌+◌, ◌*◌, ◌≤◌}
use mathlib.Core.Path.{◌≡◌}
use lib.ListN.{length, drop}
use Rattle.texts.specs.Texts.{lines_of}
use Rattle.saying.specs.declared.writing.Writer.{Writer}
use Rattle.saying.specs.Loading.{replies_from}
use Rattle.saying.specs.Inner.{Wrote}
use Rattle.saying.proofs.loading.write_replies.Given as goal

abbrev pub invariant-loop-k : goal.invariant-loop-k
invariant-loop-k l = record {
  short : l.w.filled ≤ l.initial.w.filled + 37 * l.k;
  size : length l.w.room.now ≡ length l.initial.w.room.now;
  completes : (after : Writer) → Wrote (replies_from l.lengths l.room l.k (drop l.k (lines_of l.recipe))) l.w after → Wrote (replies_from l.lengths l.room 0 (lines_of l.recipe)) l.initial.w after;
}

-- Before each turn no line feed stands between `from` and `at`, so that the search from `at` on finds what the search from `from` on does.
use Rattle.std.proofs.Common.{◌≡◌, ◌+◌, ◌-◌, ◌≤◌, length, drop}
use Rattle.texts.specs.Texts.{line_feed, index_of}
use Rattle.texts.proofs.lines.line_end.Given as goal

abbrev pub invariant-loop-part : goal.invariant-loop-part
invariant-loop-part l = record {
  in_range : l.at ≤ length l.block;
  place : l.from + index_of line_feed (drop l.from l.block) ≡ l.at + index_of line_feed (drop l.at l.block);
}

abbrev pub decreases-loop-part : goal.decreases-loop-part
decreases-loop-part l = length l.block - l.at

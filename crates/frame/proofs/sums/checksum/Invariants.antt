-- Before each turn the sum so far and the bytes that are left make the checksum of all.
use Rattle.std.proofs.Common.{◌≡◌, ◌+◌, ◌%◌, ◌<◌, length}
use Rattle.frame.specs.Sum.{sum_of}
use Rattle.frame.proofs.sums.checksum.Given as goal

abbrev pub invariant-loop-block : goal.invariant-loop-block
invariant-loop-block l = record {
  in_range : l.sum < 256;
  same : (l.sum + sum_of l.left) % 256 ≡ sum_of l.fn.bytes % 256;
}

abbrev pub decreases-loop-block : goal.decreases-loop-block
decreases-loop-block l = length l.left

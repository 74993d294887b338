-- Before each turn the bytes are those put so far, and then those of the digits that are left.
use Rattle.std.proofs.Common.{◌≡◌, ◌*◌, length, take, drop}
use Rattle.texts.specs.Numbers.{bytes_read}
use Rattle.texts.proofs.Hex.{prepend}
use Rattle.texts.proofs.hexadecimal.unhex.Given as goal

abbrev pub invariant-loop-i : goal.invariant-loop-i
invariant-loop-i l = record {
  same_length : length l.room ≡ length l.initial.room;
  bytes : bytes_read l.digits ≡ prepend (take l.i l.room) (bytes_read (drop (2 * l.i) l.digits));
}

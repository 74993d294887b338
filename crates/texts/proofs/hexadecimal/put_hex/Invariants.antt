-- Before each turn the digits of the bytes passed stand at the front of the room, and behind them what it held before.
use Rattle.std.proofs.Common.{◌≡◌, ◌*◌, ◌++◌, length, take, drop}
use Rattle.texts.specs.Numbers.{in_hex}
use Rattle.texts.proofs.hexadecimal.put_hex.Given as goal

abbrev pub invariant-loop-i : goal.invariant-loop-i
invariant-loop-i l = record {
  same_length : length l.room ≡ length l.initial.room;
  digits : l.room ≡ in_hex (take l.i l.src) ++ drop (2 * l.i) l.initial.room;
}

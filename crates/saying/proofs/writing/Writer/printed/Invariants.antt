-- Before each turn the bytes passed stand as they print behind what was there.
use mathlib.Core.List.{map}
use lib.ListN.{take}
use Rattle.saying.specs.Saying.{printed}
use Rattle.saying.specs.Inner.{Wrote}
use Rattle.saying.proofs.writing.Writer.printed.Given as goal

abbrev pub invariant-loop-byte : goal.invariant-loop-byte
invariant-loop-byte l = Wrote (map printed (take l.byte-index l.line)) l.initial.self l.self

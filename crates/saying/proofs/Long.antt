-- Of a line that is too long nothing is said but that it is: so its first 601 bytes say the same as all of it. Assumes nothing.
use Prim.Native.Nat.{ℕ, ◌<◌}
use mathlib.Core.Path.{◌≡◌, refl}
use mathlib.Core.Bool.{Bool, true, false}
use mathlib.Core.List.{List}
use native.Mathlib.Omega.{arith}
use lib.ListN.{length, take, length-take}
use lib.Seq.{take_all}
use lib.Dec.{ltb}
use borrow.Author.Tests.{lt-ltb, ltb-true, ltb-false}
use Rattle.card.specs.declared.records.Record.{Record}
use Rattle.saying.specs.Saying.{say_of}

pub cut_long : (r : Record) (line : List ℕ) → say_of r (take 601 line) ≡ say_of r line
unfolding say_of
cut_long r line = by_length (ltb 600 (length line)) refl
  where
    by_length : (t : Bool) → ltb 600 (length line) ≡ t → say_of r (take 601 line) ≡ say_of r line
    by_length true q =
        let long = ltb-true 600 (length line) q in
        let n : 600 < length (take 601 line) = rw length-take (omega arith) in
        rw (q, lt-ltb 600 (length (take 601 line)) n)
    by_length false q = rw (take_all 601 line (omega (arith, ltb-false 600 (length line) q)))

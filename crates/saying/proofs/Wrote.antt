-- Texts one behind the other. Assumes nothing.
use Prim.Native.Nat.{ℕ}
use mathlib.Core.Path.{ap, refl, sym, ◌∙◌}
use mathlib.Core.List.{List, [], ◌++◌, append_assoc, append-nil}
use native.Mathlib.Omega.{arith}
use lib.ListN.{length-append}
use Rattle.saying.specs.declared.writing.Writer.{Writer}
use Rattle.saying.specs.Inner.{written, Wrote, WroteAtMost}

-- a text behind a text
pub joined : {a b : List ℕ} {o p q : Writer} → Wrote a o p → Wrote b p q → Wrote (a ++ b) o q
joined {a} {b} {o} f g = record {
  same_room = g.same_room ∙ f.same_room;
  size = g.size ∙ f.size;
  filled = rw length-append (omega (arith, f.filled, g.filled));
  contents = g.contents ∙ ap (λ (l : List ℕ). l ++ b) f.contents ∙ append_assoc (written o) a b;
}

-- nothing at all
pub nothing : (w : Writer) (n : ℕ) → WroteAtMost n [] w w
nothing w n = record {
  wrote = record { same_room = refl; size = refl; filled = omega arith; contents = sym (append-nil (written w)) };
  short = omega arith;
}

-- A choice taken apart, and the cases that are none. Assumes nothing.
use Rattle.std.specs.Prelude.{Err, None, Ok, Some}
use Prim.Native.Nat.{ℕ}
use mathlib.Core.Path.{◌≡◌, refl}
use mathlib.Core.Bool.{Bool, true, false, cond}
use native.Mathlib.Omega.{arith}
use Rattle.zone.specs.declared.figures.Command.{Command}
use Rattle.zone.specs.declared.figures.Group.{Group}
use Rattle.wire.specs.declared.Misread.TheVariants.{Syntax, Unknown}

-- what a test chose, by the outcome of the test
pub by_cond : {A R : Type 0} {a b x : A} (t : Bool) → cond t a b ≡ x → (t ≡ true → a ≡ x → R) → (t ≡ false → b ≡ x → R) → R
by_cond true h f g = f refl h
by_cond false h f g = g refl h

-- what is no command, or no group, is none
pub unknown_never : {R : Type 0} {c : Command} → (Err Unknown) ≡ Ok c → R
unknown_never h = absurd (let z : ◌≡◌ {A = ℕ} 0 1 = cc in omega arith)

pub syntax_never : {R : Type 0} {c : Command} → (Err Syntax) ≡ Ok c → R
syntax_never h = absurd (let z : ◌≡◌ {A = ℕ} 0 1 = cc in omega arith)

pub nothing_never : {R : Type 0} {g : Group} → None ≡ Some g → R
nothing_never h = absurd (let z : ◌≡◌ {A = ℕ} 0 1 = cc in omega arith)

-- Figures read one behind the other: flag, lower and upper limit, with which three of the rows begin, together; and the end of a row. Assumes nothing.
use Rattle.std.specs.Prelude.{Err, Ok, Result}
use Prim.Native.Nat.{ℕ}
use mathlib.Core.Path.{◌≡◌, refl, ap}
use mathlib.Core.Bool.{Bool, true, false, cond}
use mathlib.Core.List.{List, ◌∷◌}
use Rattle.zone.specs.Table.{Form}
use Rattle.zone.specs.Figures.{made}
use native.Mathlib.Omega.{arith}
use Rattle.line.specs.Inner.{figure_read, watched_by, watched_of, onward, made_by}

abbrev joined : List ℕ → Result (List ℕ) ℕ → Result (List ℕ) ℕ
joined l rest = onward (figure_read l 5 1) (onward (figure_read l 7 3) (onward (figure_read l 11 3) rest))

wrong_of : (f g h : Result ℕ ℕ) (rest : Result (List ℕ) ℕ) (i : ℕ) → watched_by f g h ≡ Err i → onward f (onward g (onward h rest)) ≡ Err i
wrong_of (Ok a) (Ok b) (Ok c) rest i e = absurd (let z : ◌≡◌ {A = ℕ} 0 1 = cc in omega arith)
wrong_of (Ok a) (Ok b) (Err j) rest i e = cc
wrong_of (Ok a) (Err j) h rest i e = cc
wrong_of (Err j) g h rest i e = cc

all_of : (f g h : Result ℕ ℕ) (rest : Result (List ℕ) ℕ) (a b c : ℕ) → watched_by f g h ≡ Ok (a, b, c) → onward f (onward g (onward h rest)) ≡ onward (Ok a) (onward (Ok b) (onward (Ok c) rest))
all_of (Ok x) (Ok y) (Ok z) rest a b c e =
    let k : ◌≡◌ {A = ℕ × ℕ × ℕ} (x, y, z) (a, b, c) = cc in
    ap (λ (n : ℕ × ℕ × ℕ). onward (Ok n.0) (onward (Ok n.1) (onward (Ok n.2) rest))) k
all_of (Ok x) (Ok y) (Err j) rest a b c e = absurd (let z : ◌≡◌ {A = ℕ} 0 1 = cc in omega arith)
all_of (Ok x) (Err j) h rest a b c e = absurd (let z : ◌≡◌ {A = ℕ} 0 1 = cc in omega arith)
all_of (Err j) g h rest a b c e = absurd (let z : ◌≡◌ {A = ℕ} 0 1 = cc in omega arith)

pub watched_wrong : (l : List ℕ) {i : ℕ} → watched_of l ≡ Err i → (rest : Result (List ℕ) ℕ) → joined l rest ≡ Err i
unfolding watched_of
watched_wrong l {i} e rest = wrong_of (figure_read l 5 1) (figure_read l 7 3) (figure_read l 11 3) rest i e

pub watched_all : (l : List ℕ) {a b c : ℕ} → watched_of l ≡ Ok (a, b, c) → (rest : Result (List ℕ) ℕ) → joined l rest ≡ onward (Ok a) (onward (Ok b) (onward (Ok c) rest))
unfolding watched_of
watched_all l {a} {b} {c} e rest = all_of (figure_read l 5 1) (figure_read l 7 3) (figure_read l 11 3) rest a b c e

-- where the line ends behind the last figure, or does not
pub onward_end : (n : ℕ) (t : Bool) (ns : List ℕ) (i : ℕ) → onward (Ok n) (cond t (Ok ns) (Err i)) ≡ cond t (Ok (n ∷ ns)) (Err i)
onward_end n true ns i = refl
onward_end n false ns i = refl

pub made_end : (form : Form) (t : Bool) (ns : List ℕ) (i : ℕ) → made_by form (cond t (Ok ns) (Err i)) ≡ cond t (Ok (made form ns)) (Err i)
made_end form true ns i = refl
made_end form false ns i = refl

-- A line feed ends the line; another byte is held behind it, unless 601 are held already.
use Prim.Native.Nat.{ℕ, ◌+◌, ◌≤◌, ◌<◌}
use mathlib.Core.Path.{◌≡◌, refl, sym, ap, ◌∙◌}
use mathlib.Core.List.{List, [], ◌∷◌, ◌++◌}
use native.Mathlib.Omega.{arith}
use native.Mathlib.Numerals.{add-one}
use lib.ListN.{length, take, set, length-append, length-take}
use lib.Seq.{take-suc-set, take_all, take-append_seam}
use Rattle.cardsay.specs.Turns.{grew}
use Rattle.cardsay.proofs.hear.Goals as goal

-- 601 bytes and one more are cut to the 601
full : (line : List ℕ) (x : ℕ) → length line ≡ 601 → take 601 line ≡ take 601 (take 601 line ++ (x ∷ []))
full line x e =
    let n : length (take 601 line) ≡ 601 = rw length-take (omega arith) in
    sym (ap (λ (k : ℕ). take k (take 601 line ++ (x ∷ []))) (sym n) ∙ take-append_seam (take 601 line) (x ∷ []))

-- fewer, and one more
room_left : (line : List ℕ) (held x : ℕ) → held < 601 → length line ≡ 601 → take (held + 1) (set line held x) ≡ take 601 (take held line ++ (x ∷ []))
room_left line held x h e =
    let n : length (take held line ++ (x ∷ [])) ≤ 601 = rw (length-append, length-take) (omega arith) in
    rw (add-one held, take_all 601 (take held line ++ (x ∷ [])) n) (take-suc-set line held x (omega (arith, e)))

pub returns-then-held-eq601 : goal.returns-then-held-eq601
returns-then-held-eq601 g c =
    let a = c.args in
    grew c.if-x-eq10.false refl refl (rw c.if-held-eq601.true (full a.line.now a.x c.told-line))

pub returns : goal.returns
returns g c =
    let a = c.args in
    grew c.if-x-eq10.false refl refl (room_left a.line.now a.state.now.held a.x (omega arith) c.told-line)

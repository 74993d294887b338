-- Each arm's pattern is that of its form's figures; of AHUE's two the length decides.
use mathlib.Core.Path.{◌≡◌, ap, ◌∙◌}
use mathlib.Core.Logic.{◌⊎◌, inl, inr}
use mathlib.Core.List.{List}
use Prim.Native.Nat.{ℕ}
use Rattle.zone.specs.declared.figures.Group.{Group}
use borrow.Author.Tests.{lt-ltb, le-ltb}
use Rattle.zone.specs.declared.figures.Group.TheVariants.{Ahue, Hzbg, Rrue, Solw}
use Rattle.line.specs.Line.{S}
use Rattle.line.specs.Places.{Expected, expected_as, expected_at}
use Rattle.line.proofs.Patterns.{pattern_says}
use Rattle.line.proofs.expecting.write_expects.Goals as goal

-- HZBG and SOLW expect one pattern
alike : (group : Group) (length : ℕ) → (group ≡ Hzbg) ⊎ (group ≡ Solw) → expected_as S Hzbg 9 ≡ expected_as S group length
alike group length (inl e) = rw e
alike group length (inr e) = rw e

pub returns-then-length-gt19 : goal.returns-then-length-gt19
returns-then-length-gt19 c = rw (c.in-Ahue.is, lt-ltb _ _ c.if-length-gt19.true) (c.in_pattern.ensures ∙ pattern_says (expected_as S Ahue 23) _)

pub returns-else-length-gt19 : goal.returns-else-length-gt19
returns-else-length-gt19 c = rw (c.in-Ahue.is, le-ltb _ _ c.if-length-gt19.false) (c.in_pattern-else-length-gt19.ensures ∙ pattern_says (expected_as S Ahue 19) _)

pub returns-in-Hzbg : goal.returns-in-Hzbg
returns-in-Hzbg c = c.in_pattern-in-Hzbg.ensures ∙ pattern_says (expected_as S Hzbg 9) _ ∙ ap (λ (es : List Expected). expected_at es c.args.i) (alike _ c.args.length c.in-Hzbg.is)

pub returns-in-Rrue : goal.returns-in-Rrue
returns-in-Rrue c = rw c.in-Rrue.is (c.in_pattern-in-Rrue.ensures ∙ pattern_says (expected_as S Rrue 15) _)

-- Each return is the definition's case: too short, no known name, a read, a write.
use mathlib.Core.Path.{sym, ◌∙◌}
use borrow.Author.Tests.{eq-eqb, ne_eqb, lt-ltb, le-ltb}
use Rattle.line.specs.Places.{expected_in}
use Rattle.line.proofs.expecting.expected.Goals as goal

pub returns-then-line-lt5 : goal.returns-then-line-lt5
unfolding expected_in
returns-then-line-lt5 c = rw (lt-ltb _ _ c.if-line-lt5.true)

pub returns-in_default : goal.returns-in_default
unfolding expected_in
returns-in_default c = rw (le-ltb _ _ c.if-line-lt5.false, sym c.named.ensures ∙ c.in_default.is)

pub returns-then-line-eq76 : goal.returns-then-line-eq76
unfolding expected_in
returns-then-line-eq76 c = rw (le-ltb _ _ c.if-line-lt5.false, sym c.named.ensures ∙ c.in-Some.is, eq-eqb _ _ c.if-line-eq76.true)

pub returns : goal.returns
unfolding expected_in
returns c = rw (le-ltb _ _ c.if-line-lt5.false, sym c.named.ensures ∙ c.in-Some.is, ne_eqb _ _ c.if-line-eq76.false) c.write_expects.ensures

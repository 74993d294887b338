-- Each return is the definitions' case: too short, no known name, a read of the right or a wrong length, a write, another letter.
use mathlib.Core.Path.{sym, ◌∙◌}
use native.Mathlib.Omega.{arith}
use lib.ListN.{get_or}
use borrow.Author.Tests.{eq-eqb, ne_eqb, lt-ltb, le-ltb}
use Rattle.line.specs.Line.{L, S, line_read}
use Rattle.line.specs.Places.{wrong_in}
use Rattle.line.proofs.Placed.{write_placed, read_whole, read_surplus}
use Rattle.line.proofs.reading.read.Goals as goal

pub returns-then-line-lt5 : goal.returns-then-line-lt5
unfolding line_read wrong_in
returns-then-line-lt5 c = rw (lt-ltb _ _ c.if-line-lt5.true) c.found.ensures

pub returns-in_default : goal.returns-in_default
unfolding line_read wrong_in
returns-in_default c = rw (le-ltb _ _ c.if-line-lt5.false, sym c.named.ensures ∙ c.in_default.is) c.found-in_default.ensures

pub returns-then-line-eq5 : goal.returns-then-line-eq5
unfolding line_read wrong_in
returns-then-line-eq5 c = rw (le-ltb _ _ c.if-line-lt5.false, sym c.named.ensures ∙ c.in-Some.is, eq-eqb _ _ c.in-76.is, eq-eqb _ _ c.if-line-eq5.true, read_whole _ c.if-line-eq5.true) c.found-then-line-eq5.ensures

pub returns-else-line-eq5 : goal.returns-else-line-eq5
unfolding line_read wrong_in
returns-else-line-eq5 c =
    let long = c.if-line-lt5.false in
    rw (le-ltb _ _ long, sym c.named.ensures ∙ c.in-Some.is, eq-eqb _ _ c.in-76.is, ne_eqb _ _ c.if-line-eq5.false, read_surplus _ long c.if-line-eq5.false) c.misread.ensures

pub returns-in-83 : goal.returns-in-83
unfolding line_read wrong_in
returns-in-83 c =
    let long = c.if-line-lt5.false in
    rw (le-ltb _ _ long, sym c.named.ensures ∙ c.in-Some.is, ne_eqb (get_or c.args.line.now 0 0) L (λ k. omega arith), eq-eqb _ _ c.in-83.is) (c.write.ensures ∙ (write_placed c.in-Some.group c.args.line.now long).reading)

pub returns-in_default-letter : goal.returns-in_default-letter
unfolding line_read wrong_in
returns-in_default-letter c = rw (le-ltb _ _ c.if-line-lt5.false, sym c.named.ensures ∙ c.in-Some.is, ne_eqb (get_or c.args.line.now 0 0) L (λ k. omega arith), ne_eqb (get_or c.args.line.now 0 0) S (λ k. omega arith)) c.found-in_default-letter.ensures

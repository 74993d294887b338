-- The arms are the definition's cases.
use Rattle.std.proofs.Common.{◌∙◌, sym, ◌≤◌, rules, tests, length, get_or}
use borrow.Author.Tests.{le-leb, lt-leb, eq-eqb, ne_eqb}
use Rattle.line.specs.Inner.{pattern_at}
use Rattle.line.proofs.expecting.in_pattern.Goals as goal

pub returns-in-Some-eq32 : goal.returns-in-Some-eq32
unfolding pattern_at
returns-in-Some-eq32 c =
    let there = c.in-Some-eq32.ensures.lookup.3 in
    rw (lt-leb _ _ there.0, eq-eqb _ _ (sym (there.1 0) ∙ c.in-Some-eq32.field-0-test))

pub returns-in-Some : goal.returns-in-Some
unfolding pattern_at
returns-in-Some c =
    let there = c.in-Some.ensures.lookup.3 in
    rw (lt-leb _ _ there.0, ne_eqb (get_or c.args.pattern.now c.args.i 0) 32 (λ q. c.in-Some.field-0-test.1 (there.1 0 ∙ q)))

pub returns-in-None : goal.returns-in-None
unfolding pattern_at
returns-in-None c =
    let k : length c.args.pattern.now ≤ c.args.i = search (rules, tests) in
    rw (le-leb _ _ k)

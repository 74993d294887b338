-- A zone that does not hold the address is passed; one that does is found.
use mathlib.Core.Path.{◌≡◌, sym, ◌∙◌}
use native.Mathlib.Omega.{arith}
use lib.ListN.{length}
use borrow.Author.Rules.{rules}
use Rattle.card.proofs.Scans.{length_mapped, find_hit, find_miss, find_end}
use Rattle.card.proofs.records.Record.find.Goals as goal

pub loop-i-preserved : goal.loop-i-preserved
loop-i-preserved c =
    let zs = c.args.self.zones in
    let h : length zs ≡ 16 = search (rules, length_mapped) in
    (search rules, c.loop-i.invariant.1 ∙ find_miss c.loop-i.i zs _ (omega arith) _ (sym c.holds.ensures ∙ c.if-holds.false))

pub returns-then-i-ge16 : goal.returns-then-i-ge16
returns-then-i-ge16 c =
    let zs = c.args.self.zones in
    let h : length zs ≡ 16 = search (rules, length_mapped) in
    sym (c.loop-i.invariant.1 ∙ find_end c.loop-i.i zs (omega arith) _)

pub returns-then-holds : goal.returns-then-holds
returns-then-holds c =
    let zs = c.args.self.zones in
    let h : length zs ≡ 16 = search (rules, length_mapped) in
    sym (c.loop-i.invariant.1 ∙ find_hit c.loop-i.i zs _ (omega arith) _ (sym c.holds.ensures ∙ c.if-holds.true))

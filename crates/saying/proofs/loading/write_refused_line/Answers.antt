-- Zone and command are the parts of the line in front of its tab and behind it; nothing is said of a line that lacks them.
use mathlib.Core.Path.{◌≡◌}
use lib.ListN.{length}
use Rattle.card.proofs.Scans.{length_mapped}
use Rattle.saying.proofs.Recipe.{tab_before, said_of_line}
use borrow.Author.Rules.{rules}
use Rattle.saying.proofs.loading.write_refused_line.Goals as goal

pub overflow_sub-end : goal.overflow_sub-end
overflow_sub-end c = tab_before c.args.line.now c.zone_at.result c.zone_at.ensures.result_value c.zone_at.ensures.result_in_bounds c.in-Some.is

pub returns-in-Some : goal.returns-in-Some
returns-in-Some c =
    let a = c.args in
    let z = c.zone_at in
    let sixteen : length a.loaded.after.zones ≡ 16 = search (rules, length_mapped) in
    rw (said_of_line a.line.now z.result z.ensures.result_value z.ensures.result_in_bounds c.in-Some.is a.loaded.after _ a.loaded.place _ sixteen c.range_at.ensures) at c.write_marked.ensures

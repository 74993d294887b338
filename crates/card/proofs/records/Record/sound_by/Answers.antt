-- The two scans are the definition's; that there are sixteen zones is the array's length.
use mathlib.Core.Path.{◌≡◌}
use lib.ListN.{length}
use borrow.Author.Rules.{rules}
use borrow.Author.Tests.{eq-eqb}
use Rattle.std.specs.List.{list_all}
use Rattle.std.proofs.lemmas.Iterator.{YieldsList-from_slice}
use Rattle.std.proofs.lemmas.Iterator.Search.{all_from_yields_List}
use Rattle.card.proofs.Scans.{length_mapped}
use Rattle.card.proofs.records.Record.sound_by.Goals as goal

pub returns : goal.returns
returns g c = λ test d.
    let zs = c.args.self.now.zones in
    let h : length zs ≡ 16 = search (rules, length_mapped) in
    let e : c.all.result ≡ list_all test zs = all_from_yields_List test _ _ c.all.result c.all.ensures.ran (YieldsList-from_slice zs cc) (λ x b q k. (search rules, d x.now b (search rules))) in
    rw (eq-eqb (length zs) 16 h, c.addresses_differ.ensures, e)

-- The library's search gives the first index, or none where there is none.
use Rattle.std.proofs.Common.{◌≡◌, ◌∙◌, sym, ◌-◌, eqb, rules, tests, length, take, drop}
use Rattle.std.proofs.lemmas.Iterator.{YieldsList-from_slice}
use Rattle.std.proofs.lemmas.Iterator.Search.{position_from_yields_List}
use Rattle.texts.specs.Texts.{index_of}
use Rattle.line.proofs.FieldLaws.{first_passes}
use Rattle.texts.proofs.Scans.{left, index_is}
use Rattle.texts.proofs.lines.find.Goals as goal

pub returns-clause-place : goal.returns-clause-place
returns-clause-place c =
    let b = c.args.bytes.now in
    let x = c.args.x in
    let part = take (length b - c.args.from) (drop c.args.from b) in
    let e = position_from_yields_List (λ y. eqb y x) _ _ c.position.result c.position.ensures.ran (YieldsList-from_slice part c.iter.ensures.rest) (λ y t q k. search (rules, tests)) in
    let n : c.unwrap_or.result ≡ index_of x part = c.unwrap_or.ensures ∙ rw e (first_passes (λ y. eqb y x) part) ∙ sym (index_is x part) in
    rw (n, left b c.args.from)

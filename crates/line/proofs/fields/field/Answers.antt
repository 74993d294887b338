-- The library's search gives the first space, or none where there is none.
use Rattle.std.proofs.Common.{◌≡◌, ◌∙◌, sym, ◌+◌, ◌-◌, rules, tests, arith, length, take, drop}
use Rattle.std.specs.List.{position_or_len}
use lib.ListN.{length-drop}
use lib.Seq.{take_all}
use Rattle.std.proofs.lemmas.Iterator.{YieldsList-from_slice}
use Rattle.std.proofs.lemmas.Iterator.Search.{position_from_yields_List}
use Rattle.line.proofs.FieldLaws.{space, word_past, first_passes, up_to_first}
use Rattle.line.proofs.fields.field.Goals as goal

pub returns-then-line-at : goal.returns-then-line-at
returns-then-line-at c = sym (word_past c.args.line.now (c.args.at + 1) (omega arith))

pub returns : goal.returns
returns c =
    let behind = drop (c.args.at + 1) c.args.line.now in
    let part = take (length c.args.line.now - (c.args.at + 1)) behind in
    let whole : part ≡ behind = take_all (length c.args.line.now - (c.args.at + 1)) behind (rw length-drop (omega arith)) in
    let e = position_from_yields_List space _ _ c.position.result c.position.ensures.ran (YieldsList-from_slice part c.iter.ensures.rest) (λ y t q k. search (rules, tests)) in
    let n : c.unwrap_or-end.result ≡ position_or_len space part = c.unwrap_or-end.ensures ∙ rw e (first_passes space part) in
    rw (n, whole) (up_to_first behind)

-- The first of the five that does not fit tells the place; where all fit, the rule does.
use Rattle.std.proofs.Common.{◌≡◌, ◌∙◌, refl, sym, rules, tests, not, true, false, Some, None}
use Rattle.std.proofs.lemmas.Iterator.{YieldsList-from_slice}
use Rattle.std.proofs.lemmas.Iterator.Search.{position_from_yields_List}
use Rattle.line.proofs.OutLaws.{found, found_told}
use Rattle.line.proofs.reading.first_out.Goals as goal

pub returns-in-Some : goal.returns-in-Some
returns-in-Some c =
    let fits = c.fits.result in
    let e : c.position.result ≡ found fits = position_from_yields_List not _ _ c.position.result c.position.ensures.ran (YieldsList-from_slice fits c.iter.ensures.rest) (λ y t q k. search (rules, tests)) in
    found_told _ c.args.figures fits (Some c.in-Some.i) _ (sym c.in-Some.is ∙ e) c.fits.ensures refl

pub returns-in-None : goal.returns-in-None
returns-in-None c =
    let fits = c.fits.result in
    let e : c.position.result ≡ found fits = position_from_yields_List not _ _ c.position.result c.position.ensures.ran (YieldsList-from_slice fits c.iter.ensures.rest) (λ y t q k. search (rules, tests)) in
    found_told _ c.args.figures fits None true (sym c.in-None.is ∙ e) c.fits.ensures (sym c.if-opens.true ∙ c.opens.ensures)

pub returns-in-None-2 : goal.returns-in-None-2
returns-in-None-2 c =
    let fits = c.fits.result in
    let e : c.position.result ≡ found fits = position_from_yields_List not _ _ c.position.result c.position.ensures.ran (YieldsList-from_slice fits c.iter.ensures.rest) (λ y t q k. search (rules, tests)) in
    found_told _ c.args.figures fits None false (sym c.in-None.is ∙ e) c.fits.ensures (sym c.if-opens.false ∙ c.opens.ensures)

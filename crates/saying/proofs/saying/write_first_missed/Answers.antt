-- The first figure of the five that is out of its range is the first of the entries that is; the zeros behind these are in theirs.
use Rattle.std.proofs.Common.{rules, tests, Option, Some, None, ◌≡◌, ℕ, List, [], ◌∷◌, ◌++◌, Bool, true, false, not, cond, map, replicate, refl, ap, ◌∙◌}
use Rattle.std.specs.List.{find}
use Rattle.std.proofs.lemmas.Iterator.{YieldsList-from_slice}
use Rattle.std.proofs.lemmas.Iterator.Search.{find_from_yields_List}
use Rattle.zone.specs.declared.figures.Figures.{Figures}
use Rattle.zone.specs.declared.figures.Figures.TheVariants.{AhueDeadline, AhueWindow, HzbgLimit, RrueReference, SolwSetpoint}
use Rattle.zone.specs.declared.figures.Ranged.{Ranged}
use Rattle.zone.specs.Lists.{within}
use Rattle.zone.specs.Figures.{Entry, entries_of, fits}
use Rattle.zone.specs.Inner.{five, ranged_of}
use Rattle.saying.specs.Saying.{range_missed}
use Rattle.saying.specs.Inner.{range_in}
use Rattle.saying.proofs.Wrote.{nothing}
use Rattle.saying.proofs.saying.write_first_missed.Goals as goal

abbrev misses : Ranged → Bool
misses g = not (within g.lowest g.highest g.number)

abbrev range_of : Option Ranged → List ℕ
range_of None = []
range_of (Some g) = range_in g

one_more : (b : Bool) (g : Ranged) (o : Option Ranged) (text : List ℕ) → range_of o ≡ text → range_of (cond (not b) (Some g) o) ≡ cond b text (range_in g)
one_more true g o text e = e
one_more false g o text e = refl

by_entries : (range : ℕ) (es : List Entry) (zeros : List Ranged) → find misses zeros ≡ None → range_of (find misses (map (ranged_of range) es ++ zeros)) ≡ range_missed range es
unfolding range_missed
by_entries range [] zeros e = rw e
by_entries range (x ∷ es) zeros e = one_more (fits range x) (ranged_of range x) _ _ (by_entries range es zeros e)

abbrev zeros : ℕ → List Ranged
zeros n = replicate n (record { number = 0; lowest = 0; highest = 0 })

missed_is : (range : ℕ) (f : Figures) → range_of (find misses (five range f)) ≡ range_missed range (entries_of f)
missed_is range (AhueDeadline f) = by_entries range (entries_of (AhueDeadline f)) (zeros 1) refl
missed_is range (AhueWindow f) = by_entries range (entries_of (AhueWindow f)) (zeros 0) refl
missed_is range (HzbgLimit f) = by_entries range (entries_of (HzbgLimit f)) (zeros 4) refl
missed_is range (RrueReference f) = by_entries range (entries_of (RrueReference f)) (zeros 2) refl
missed_is range (SolwSetpoint f) = by_entries range (entries_of (SolwSetpoint f)) (zeros 4) refl

pub returns-in-Some : goal.returns-in-Some
returns-in-Some c =
    let found = find_from_yields_List misses _ _ c.find-first.result c.find-first.ensures.ran (YieldsList-from_slice c.row-row.result cc) (λ x b q k. search (rules, tests)) in
    let told : range_in c.in-Some.field-0.now ≡ range_missed c.args.range (entries_of c.args.figures) = ap range_of (rw (c.in-Some.is, c.row-row.ensures) at found) ∙ missed_is c.args.range c.args.figures in
    rw (← told) c.write_range.ensures

pub returns-in_default : goal.returns-in_default
returns-in_default c =
    let found = find_from_yields_List misses _ _ c.find-first.result c.find-first.ensures.ran (YieldsList-from_slice c.row-row.result cc) (λ x b q k. search (rules, tests)) in
    let told : ◌≡◌ {A = List ℕ} [] (range_missed c.args.range (entries_of c.args.figures)) = ap range_of (rw (c.in_default.is, c.row-row.ensures) at found) ∙ missed_is c.args.range c.args.figures in
    rw (← told) (nothing c.args.w.now 10)

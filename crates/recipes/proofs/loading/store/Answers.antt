-- The tests are those of the definition, in its order; then what came of trying the lines decides.
use Prim.Native.Nat.{ℕ}
use mathlib.Core.Path.{◌≡◌, sym, ap, ◌∙◌}
use mathlib.Core.Bool.{true}
use mathlib.Core.List.{List, map}
use native.Mathlib.Omega.{arith}
use lib.ListN.{length, take}
use lib.Seq.{length-take-le}
use borrow.Author.Tests.{ltb-false}
use Rattle.std.proofs.lemmas.Result.{err_from_is_err_and}
use Rattle.zone.proofs.Tests.{neither}
use Rattle.card.specs.declared.records.Record.{Record}
use Rattle.card.specs.Records.{sound}
use Rattle.texts.specs.Texts.{lines_of}
use Rattle.recipes.specs.declared.lines.Cut.{Cut}
use Rattle.recipes.specs.Recipes.{sendings}
use Rattle.recipes.specs.Inner.{cut_seen, CutOut, Trying, try_from}
use Rattle.recipes.proofs.Turns.{refused_above}
use Rattle.recipes.proofs.Cases.{no_room, not_sound, unformed, stopped, loaded}
use Rattle.recipes.proofs.loading.store.Goals as goal

pub returns-then-room-lines-clause-stopped : goal.returns-then-room-lines-clause-stopped
returns-then-room-lines-clause-stopped c =
    let a = c.args in
    rw c.into.ensures (no_room a.r.now a.recipe.now a.room.now (rw c.survey-lines.ensures.lines at c.if-room-lines.true))

pub returns-then-not-is_sound-clause-stopped : goal.returns-then-not-is_sound-clause-stopped
returns-then-not-is_sound-clause-stopped c =
    let a = c.args in
    let enough = rw c.survey-lines.ensures.lines at c.if-room-lines.false in
    rw c.into-then-not-is_sound.ensures (not_sound a.r.now a.recipe.now a.room.now enough (sym c.is_sound.ensures ∙ c.if-not-is_sound.true))

pub returns-in_err-formed-clause-stopped : goal.returns-in_err-formed-clause-stopped
returns-in_err-formed-clause-stopped c =
    let a = c.args in
    let p = err_from_is_err_and c.from_residual.result c.from_residual.ensures.1 in
    let ill = rw c.in_err-formed.was at c.survey-lines.ensures.ill in
    let enough = rw c.survey-lines.ensures.lines at c.if-room-lines.false in
    let is_sound : sound a.r.now ≡ true = sym c.is_sound.ensures ∙ c.if-not-is_sound.false in
    rw (p.1, p.2, ill.0) (unformed a.r.now a.recipe.now a.room.now enough is_sound ill.1)

-- ---- the lines are tried

-- the lines that were cut are those of the recipe
cut_lines : (r : Record) (lines : List (List ℕ)) (n : ℕ) (cuts : List Cut) → n ≡ length lines → CutOut lines cuts → try_from 0 r (map cut_seen (take n cuts)) ≡ try_from 0 r (sendings lines)
cut_lines r lines n cuts e cut = rw e (ap (try_from 0 r) cut.cut)

pub returns-in_err-try_lines-clause-stopped : goal.returns-in_err-try_lines-clause-stopped
returns-in_err-try_lines-clause-stopped c =
    let a = c.args in
    let p = err_from_is_err_and c.from_residual-in_err-try_lines.result c.from_residual-in_err-try_lines.ensures.1 in
    let enough = rw c.survey-lines.ensures.lines at c.if-room-lines.false in
    let is_sound : sound a.r.now ≡ true = sym c.is_sound.ensures ∙ c.if-not-is_sound.false in
    let cut = rw c.in_ok-formed.was at c.survey-lines.ensures.cut in
    let stop = rw (cut_lines a.r.now (lines_of a.recipe.now) _ _ c.survey-lines.ensures.lines cut) at c.in_err-try_lines.ensures.stopped in
    let told = stopped a.r.now a.recipe.now a.room.now enough is_sound cut.formed (λ z. absurd (omega (arith, refused_above c.in_err-try_lines.field-0.0.why, sym stop.number ∙ z))) in
    rw (p.1, p.2) (rw (stop.number, stop.line, stop.place) at told)

pub returns-clause-done : goal.returns-clause-done
returns-clause-done c =
    let a = c.args in
    let enough = rw c.survey-lines.ensures.lines at c.if-room-lines.false in
    let is_sound : sound a.r.now ≡ true = sym c.is_sound.ensures ∙ c.if-not-is_sound.false in
    let cut = rw c.in_ok-formed.was at c.survey-lines.ensures.cut in
    let few = ltb-false 64 (length (lines_of a.recipe.now)) (neither _ _ cut.formed).0 in
    let long = length-take-le c.survey-lines.result.0 c.survey-lines.new.cuts (omega (arith, cut.places, few, c.survey-lines.ensures.lines)) in
    let all = rw (cut_lines a.r.now (lines_of a.recipe.now) _ _ c.survey-lines.ensures.lines cut, long) at c.in_ok-try_lines.ensures.done in
    let told = loaded a.r.now a.recipe.now a.room.now enough is_sound cut.formed (ap (λ (x : Trying). x.number) all) in
    rw (c.put_replies.ensures.room_after, c.put_replies.ensures.value) (rw all at told)

-- The refusals are the definition's rows, in its order. What passes them is done by two stores: the sum on zone b, and then the empty zone at a.
use mathlib.Core.Path.{ap, ◌∙◌}
use mathlib.Core.List.{[]}
use borrow.Author.Tests.{eq-eqb, ne_eqb}
use Rattle.zone.specs.Zones.{empty_zone}
use Rattle.card.specs.declared.records.Record.{Record}
use Rattle.card.specs.Answers.{Result}
use Rattle.card.specs.Records.{with_zone}
use Rattle.card.specs.Calls.{merge_of}
use Rattle.card.proofs.records.Record.merge.Goals as goal

pub returns-then-not-is_sound : goal.returns-then-not-is_sound
unfolding merge_of
returns-then-not-is_sound c = rw c.refused.ensures (rw (← c.is_sound.ensures, c.if-not-is_sound.true))

pub returns-then-is_missing : goal.returns-then-is_missing
unfolding merge_of
returns-then-is_missing c =
    rw c.refused-then-is_missing.ensures
    (rw (← c.is_sound.ensures, c.if-not-is_sound.false, ← c.is_missing.ensures, ← c.is_missing-2.ensures, c.if-is_missing.true))

pub returns-then-a-b : goal.returns-then-a-b
unfolding merge_of
returns-then-a-b c =
    rw c.refused-then-a-b.ensures
    (rw (← c.is_sound.ensures, c.if-not-is_sound.false, ← c.is_missing.ensures, ← c.is_missing-2.ensures, c.if-is_missing.false, eq-eqb _ _ c.if-a-b.true))

pub returns-then-not-more_in_range : goal.returns-then-not-more_in_range
unfolding merge_of
returns-then-not-more_in_range c =
    rw c.refused-then-not-more_in_range.ensures
    (rw (← c.is_sound.ensures, c.if-not-is_sound.false, ← c.is_missing.ensures, ← c.is_missing-2.ensures, c.if-is_missing.false, ne_eqb _ _ c.if-a-b.false, ← c.more_in_range.ensures, c.if-not-more_in_range.true))

pub returns : goal.returns
unfolding merge_of
returns c =
    let stored_b = ap (λ (o : Result Record). o.after) c.changed-summed.ensures in
    rw (← c.is_sound.ensures, c.if-not-is_sound.false, ← c.is_missing.ensures, ← c.is_missing-2.ensures, c.if-is_missing.false, ne_eqb _ _ c.if-a-b.false, ← c.more_in_range.ensures, c.if-not-more_in_range.false)
    (c.changed.ensures ∙ ap (λ (x : Record). record { number = 0; values = []; after = with_zone x c.args.a empty_zone }) stored_b)

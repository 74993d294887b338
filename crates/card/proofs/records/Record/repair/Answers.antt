-- Another fault: the refusal, with nothing told. None: each zone mended, and the old ends.
use mathlib.Core.Path.{◌≡◌, sym, ◌∙◌}
use mathlib.Core.Bool.{true, false}
use Rattle.card.specs.Records.{otherwise_sound}
use Rattle.card.specs.Calls.{repair_of}
use Rattle.card.proofs.Storing.{otherwise_parts}
use Rattle.card.proofs.records.Record.repair.Goals as goal

pub returns-then-not-is_otherwise_sound : goal.returns-then-not-is_otherwise_sound
unfolding repair_of
returns-then-not-is_otherwise_sound c =
    let faulty : otherwise_sound c.args.self ≡ false = sym c.is_otherwise_sound.ensures ∙ c.if-not-is_otherwise_sound.true in
    rw (c.refused.ensures, c.none.ensures, faulty)

pub all_mended-requires : goal.all_mended-requires
all_mended-requires c = (otherwise_parts c.args.self (sym c.is_otherwise_sound.ensures ∙ c.if-not-is_otherwise_sound.false)).zones

pub returns : goal.returns
unfolding repair_of
returns c =
    let faultless : otherwise_sound c.args.self ≡ true = sym c.is_otherwise_sound.ensures ∙ c.if-not-is_otherwise_sound.false in
    rw (c.old_ends.ensures, c.all_mended.ensures, faultless)

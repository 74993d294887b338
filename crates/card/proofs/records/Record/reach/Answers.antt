-- Each return is the definition's first test that holds; the last has passed both.
use Rattle.card.specs.Inner.{reach_of}
use Rattle.card.proofs.records.Record.reach.Goals as goal

pub returns-then-not-is_sound : goal.returns-then-not-is_sound
unfolding reach_of
returns-then-not-is_sound c = rw (← c.is_sound.ensures, c.if-not-is_sound.true)

pub returns-then-is_missing : goal.returns-then-is_missing
unfolding reach_of
returns-then-is_missing c = rw (← c.is_sound.ensures, c.if-not-is_sound.false, ← c.is_missing.ensures, c.if-is_missing.true)

pub returns : goal.returns
unfolding reach_of
returns c = rw (← c.is_sound.ensures, c.if-not-is_sound.false, ← c.is_missing.ensures, c.if-is_missing.false)

-- What is asked of each zone is what the definition asks of it.
use borrow.Author.Rules.{rules}
use Rattle.zone.specs.Zones.{zone_otherwise_sound}
use Rattle.card.specs.Records.{otherwise_sound}
use Rattle.card.proofs.records.Record.is_otherwise_sound.Goals as goal

pub returns : goal.returns
unfolding otherwise_sound
returns c = c.sound_by.ensures zone_otherwise_sound (λ z b k. search rules)

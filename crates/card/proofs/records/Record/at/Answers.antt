-- Where the zone is reached it decides, and its decision is stored; where not, the call is refused for that reason.
use mathlib.Core.Path.{sym, ap, ◌∙◌}
use Rattle.card.specs.Inner.{stored}
use Rattle.card.proofs.Inner.{stopped, reaches, stored_settled}
use Rattle.card.proofs.Storing.{zone_sound_lem}
use Rattle.card.proofs.records.Record.at.Goals as goal

pub changed-requires : goal.changed-requires
changed-requires g c = (reaches _ _ _ (sym c.in-Ok.ensures)).below

pub rule-requires : goal.rule-requires
rule-requires g c =
    let k = reaches _ _ _ (sym c.in-Ok.ensures) in
    c.requires c.in-Ok.z (rw k.zone (zone_sound_lem _ _ k.sound_record))

pub returns-in-Err : goal.returns-in-Err
returns-in-Err g c = λ j d. rw c.refused.ensures (stopped _ _ _ j (sym c.in-Err.ensures))

pub returns-in-Ok : goal.returns-in-Ok
returns-in-Ok g c =
    λ j d.
    let k = reaches _ _ _ (sym c.in-Ok.ensures) in
    c.changed.ensures ∙ ap (stored c.args.self c.args.zone) (d c.rule.result (rw k.zone at c.rule.ensures)) ∙ rw (k.sound_record, k.there) (stored_settled c.args.self c.args.zone j.rows j.values j.after)

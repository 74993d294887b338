-- What a turn gathers, and what is gathered at the end.
use mathlib.Core.Path.{◌∙◌}
use Rattle.zone.specs.Zones.{holds}
use Rattle.card.proofs.Scans.{some_any, differ_turn, differ_end}
use Rattle.card.proofs.records.Record.addresses_differ.Goals as goal

pub loop-z-preserved : goal.loop-z-preserved
loop-z-preserved c =
    let z = c.in-Some.z.now in
    let later = c.in-Some.later.now in
    differ_turn c.loop-z.zones.now later z _ c.loop-z.ok c.held_among.result c.in-Some.ensures.cases.0 c.loop-z.invariant (c.held_among.ensures ∙ some_any (holds z.address) later)

pub returns : goal.returns
returns c = differ_end c.loop-z.zones.now _ c.loop-z.ok c.in_default.ensures.cases c.loop-z.invariant

-- An unsound record and a number above 15 are refused first; else the zone decides, and its decision is stored.
use Prim.Native.Nat.{◌≤◌, ◌<◌}
use mathlib.Core.Path.{◌≡◌, ap, ◌∙◌}
use native.Mathlib.Omega.{arith}
use lib.ListN.{length}
use borrow.Author.Rules.{rules}
use borrow.Author.Tests.{le-leb, lt-leb}
use Rattle.zone.specs.Zones.{empty_zone}
use Rattle.card.specs.Calls.{add_at, add_of}
use Rattle.card.specs.Records.{zone_at}
use Rattle.card.specs.Inner.{stored}
use Rattle.card.proofs.Inner.{stored_settled}
use Rattle.card.proofs.Scans.{length_mapped}
use Rattle.card.proofs.records.Record.add.Goals as goal

pub returns-then-not-is_sound : goal.returns-then-not-is_sound
unfolding add_of
returns-then-not-is_sound c = rw c.refused.ensures (rw (← c.is_sound.ensures, c.if-not-is_sound.true))

pub returns-in_default : goal.returns-in_default
unfolding add_of
returns-in_default c =
    let h : length c.args.self.zones ≡ 16 = search (rules, length_mapped) in
    let above : 16 ≤ c.args.zone = omega (arith, c.in_default.ensures.lookup.3) in
    rw c.refused-in_default.ensures (rw (← c.is_sound.ensures, c.if-not-is_sound.false, le-leb _ _ above))

pub returns : goal.returns
unfolding add_of
returns c =
    let a = c.args in
    let h : length a.self.zones ≡ 16 = search (rules, length_mapped) in
    let below : a.zone < 16 = omega (arith, c.in-Some.ensures.lookup.3.0) in
    let there : c.in-Some.z.now ≡ zone_at a.self a.zone = c.in-Some.ensures.lookup.3.1 empty_zone in
    let j = add_at (zone_at a.self a.zone) a.address a.range c.is_held.result in
    c.changed.ensures
    ∙ ap (stored a.self a.zone) (rw there at c.added.ensures)
    ∙ rw (← c.is_sound.ensures, c.if-not-is_sound.false, lt-leb _ _ below, ← c.is_held.ensures) (stored_settled a.self a.zone j.rows j.values j.after)

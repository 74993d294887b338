-- To be the empty zone, by the derived test, is what soundness asks of an absent zone. Assumes nothing.
use mathlib.Core.Path.{◌≡◌, refl, sym, ◌∙◌}
use mathlib.Core.Bool.{true, false, ◌&&◌, and-true}
use Rattle.zone.specs.declared.sources.Source.{Source}
use Rattle.zone.specs.declared.sources.Source.TheVariants.{Interface, Voltage}
use Rattle.zone.specs.declared.status.State.{State}
use Rattle.zone.specs.declared.status.State.TheVariants.{Off, On, Calibration, Error}
use Rattle.zone.specs.declared.zones.Watch.{Watch}
use Rattle.zone.specs.declared.zones.Watch.TheVariants.{Deadline, Window}
use Rattle.zone.specs.declared.zones.Zone.{Zone}
use Rattle.zone.specs.contracts.sources.SourcePartialEq.TheImpl as source
use Rattle.zone.specs.contracts.status.StatePartialEq.TheImpl as state
use Rattle.zone.specs.contracts.zones.WatchPartialEq.TheImpl as watch
use Rattle.zone.specs.contracts.zones.ZonePartialEq.TheImpl as zone
use Rattle.zone.specs.Lists.{is_zero}
use Rattle.zone.specs.Figures.{all_zero}
use Rattle.zone.specs.Sources.{is_interface}
use Rattle.zone.specs.Zones.{empty_zone, watch_figures, is_off, is_deadline, holds_nothing, zone_otherwise_sound}
use Rattle.zone.proofs.Tests.{and_l, and_r, alike}
use Rattle.zone.proofs.Sound.{otherwise_empty}

off_same : (s : State) → state.ghosts.eq s Off ≡ is_off s
off_same Off = refl
off_same On = refl
off_same Calibration = refl
off_same Error = refl

interface_same : (s : Source) → source.ghosts.eq s Interface ≡ is_interface s
interface_same Interface = refl
interface_same Voltage = refl

watch_same : (w : Watch) → watch.ghosts.eq w empty_zone.watch ≡ (is_deadline w && all_zero (watch_figures w))
unfolding all_zero
watch_same (Deadline f) = simp and-true
watch_same (Window f) = refl

same_nothing : (z : Zone) → zone.ghosts.eq z empty_zone ≡ true → holds_nothing z ≡ true
unfolding all_zero
same_nothing z e =
    let address : is_zero z.address ≡ true = search (and_l, and_r) depth 12 in
    let range : is_zero z.range ≡ true = search (and_l, and_r) depth 12 in
    let off : is_off z.status.state ≡ true = sym (off_same z.status.state) ∙ search (and_l, and_r) depth 12 in
    let actual : is_zero z.status.actual ≡ true = search (and_l, and_r) depth 12 in
    let watch : (is_deadline z.watch && all_zero (watch_figures z.watch)) ≡ true = sym (watch_same z.watch) ∙ search (and_l, and_r) depth 12 in
    let deadline : is_deadline z.watch ≡ true = search and_l in
    let ahue : all_zero (watch_figures z.watch) ≡ true = search and_r in
    let limit : is_zero z.settings.limit.time ≡ true = search (and_l, and_r) depth 12 in
    let flag : is_zero z.settings.reference.flag ≡ true = search (and_l, and_r) depth 12 in
    let lower : is_zero z.settings.reference.lower ≡ true = search (and_l, and_r) depth 12 in
    let upper : is_zero z.settings.reference.upper ≡ true = search (and_l, and_r) depth 12 in
    let setpoint : is_zero z.settings.setpoint.setpoint ≡ true = search (and_l, and_r) depth 12 in
    let interface : is_interface z.origin.source ≡ true = sym (interface_same z.origin.source) ∙ search (and_l, and_r) depth 12 in
    let input : is_zero z.origin.millivolts ≡ true = search (and_l, and_r) depth 12 in
    let kilograms : is_zero z.kilograms ≡ true = search (and_l, and_r) depth 12 in
    rw (address, range, actual, kilograms, ahue, limit, flag, lower, upper, setpoint, off, deadline, interface, input)

-- of an absent zone
pub same_empty : (z : Zone) → z.present ≡ false → zone.ghosts.eq z empty_zone ≡ zone_otherwise_sound z
unfolding zone_otherwise_sound
same_empty z p = alike (zone.ghosts.eq z empty_zone) (zone_otherwise_sound z) (λ e. rw p (same_nothing z e)) (λ s. rw (otherwise_empty z p s))

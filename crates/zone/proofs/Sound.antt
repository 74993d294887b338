-- Which zones are sound: the new and the empty one, and a sound one after a write, a report, a choice of the source or a booking in range. An absent one is the empty zone. Assumes nothing.
use Prim.Native.Nat.{ℕ}
use mathlib.Core.Path.{◌≡◌, refl, ◌∙◌}
use mathlib.Core.Bool.{Bool, true, false, and-true}
use lib.Dec.{leb-zero}
use borrow.Author.Tests.{eqb-true}
use Rattle.zone.specs.declared.figures.Group.TheVariants.{Ahue, Hzbg, Rrue, Solw}
use Rattle.zone.specs.declared.figures.Figures.{Figures}
use Rattle.zone.specs.declared.figures.Figures.TheVariants.{AhueDeadline, AhueWindow, HzbgLimit, RrueReference, SolwSetpoint}
use Rattle.zone.specs.declared.status.State.{State}
use Rattle.zone.specs.declared.status.State.TheVariants.{Off, On, Calibration, Error}
use Rattle.zone.specs.declared.status.Status.{Status}
use Rattle.zone.specs.declared.sources.Source.{Source}
use Rattle.zone.specs.declared.sources.Source.TheVariants.{Interface, Voltage}
use Rattle.zone.specs.declared.sources.Origin.{Origin}
use Rattle.zone.specs.declared.zones.Watch.{Watch}
use Rattle.zone.specs.declared.zones.Watch.TheVariants.{Deadline, Window}
use Rattle.zone.specs.declared.zones.Settings.{Settings}
use Rattle.zone.specs.declared.zones.Zone.{Zone}
use Rattle.zone.specs.Lists.{is_zero}
use Rattle.zone.specs.Figures.{each_in_range, opens, in_range, all_zero}
use Rattle.zone.specs.Sources.{input_in_range, new_origin, is_interface, is_new}
use Rattle.zone.specs.Zones.{new_zone, empty_zone, watch_figures, figures_of, address_in_range, range_known, actual_in_range, booking_in_range, is_off, is_deadline, groups_each_in_range, present_otherwise_sound, groups_zero, holds_nothing, zone_otherwise_sound, window_opens, zone_sound, with_status, with_origin, with_kilograms, with_figures}
use Rattle.zone.proofs.Tests.{never, both, and_l, and_r}

-- the numbers of a present zone that stand in no group of commands
pub record OwnFit (a temperature value millivolts held : ℕ) : Type 0 where
  pub address : address_in_range a ≡ true
  pub range : range_known temperature ≡ true
  pub actual : actual_in_range value ≡ true
  pub input : input_in_range millivolts ≡ true
  pub booking : booking_in_range held ≡ true

-- the parts of a present zone's soundness, one by one, by how a group's figures are judged
pub record FitBy (test : ℕ → Figures → Bool) (z : Zone) : Type 0 where
  pub own : OwnFit z.address z.range z.status.actual z.origin.millivolts z.kilograms
  pub ahue : test z.range (figures_of z Ahue) ≡ true
  pub hzbg : test z.range (figures_of z Hzbg) ≡ true
  pub rrue : test z.range (figures_of z Rrue) ≡ true
  pub solw : test z.range (figures_of z Solw) ≡ true

abbrev pub Fit : Zone → Type 0
Fit z = FitBy in_range z

-- without the rule: each figure by its own range
abbrev pub OtherwiseFit : Zone → Type 0
OtherwiseFit z = FitBy each_in_range z

pub otherwise_fits : (z : Zone) → z.present ≡ true → zone_otherwise_sound z ≡ true → OtherwiseFit z
unfolding zone_otherwise_sound
otherwise_fits z p s =
    let h : present_otherwise_sound z ≡ true = rw p at s in
    let groups : groups_each_in_range z ≡ true = search (and_l, and_r) in
    record {
      own = record { address = search (and_l, and_r); range = search (and_l, and_r); actual = search (and_l, and_r); input = search (and_l, and_r); booking = search (and_l, and_r) };
      ahue = search and_l;
      hzbg = search (and_l, and_r);
      rrue = search (and_l, and_r);
      solw = search (and_l, and_r);
    }

pub otherwise_fitting : (z : Zone) → z.present ≡ true → OtherwiseFit z → zone_otherwise_sound z ≡ true
unfolding zone_otherwise_sound
otherwise_fitting z p k = rw p (rw (k.own.address, k.own.range, k.own.actual, k.own.input, k.own.booking, k.ahue, k.hzbg, k.rrue, k.solw))

-- ---- the rule

-- what keeps it is judged by its figures' own ranges, as it was before the rule
pub range_kept : (range : ℕ) (f : Figures) → opens f ≡ true → in_range range f ≡ each_in_range range f
unfolding in_range
range_kept range f e = rw e (and-true (each_in_range range f))

pub sound_kept : (z : Zone) → window_opens z ≡ true → zone_sound z ≡ zone_otherwise_sound z
unfolding zone_sound
sound_kept z e = rw e (and-true (zone_otherwise_sound z))

-- in range is each figure in its own, and the rule
pub in_range_parts : (range : ℕ) (f : Figures) → in_range range f ≡ true → (each_in_range range f ≡ true) × (opens f ≡ true)
unfolding in_range
in_range_parts range f e = both (each_in_range range f) (opens f) e

pub sound_zone_parts : (z : Zone) → zone_sound z ≡ true → (zone_otherwise_sound z ≡ true) × (window_opens z ≡ true)
unfolding zone_sound
sound_zone_parts z e = both (zone_otherwise_sound z) (window_opens z) e

pub sound_zone : (z : Zone) → zone_otherwise_sound z ≡ true → window_opens z ≡ true → zone_sound z ≡ true
sound_zone z s w = sound_kept z w ∙ s

-- ---- with the rule

pub fits : (z : Zone) → z.present ≡ true → zone_sound z ≡ true → Fit z
fits z p s =
    let parts = sound_zone_parts z s in
    let k = otherwise_fits z p parts.0 in
    record {
      own = k.own;
      ahue = range_kept z.range (figures_of z Ahue) parts.1 ∙ k.ahue;
      hzbg = range_kept z.range (figures_of z Hzbg) refl ∙ k.hzbg;
      rrue = range_kept z.range (figures_of z Rrue) refl ∙ k.rrue;
      solw = range_kept z.range (figures_of z Solw) refl ∙ k.solw;
    }

pub fitting : (z : Zone) → z.present ≡ true → Fit z → zone_sound z ≡ true
fitting z p k =
    let ahue = in_range_parts z.range (figures_of z Ahue) k.ahue in
    sound_zone z
    (otherwise_fitting z p
    (record {
      own = k.own;
      ahue = ahue.0;
      hzbg = (in_range_parts z.range (figures_of z Hzbg) k.hzbg).0;
      rrue = (in_range_parts z.range (figures_of z Rrue) k.rrue).0;
      solw = (in_range_parts z.range (figures_of z Solw) k.solw).0;
    }))
    ahue.1

pub empty_sound : zone_sound empty_zone ≡ true
unfolding zone_sound zone_otherwise_sound all_zero
empty_sound = refl

pub new_sound : (address range : ℕ) → address_in_range address ≡ true → range_known range ≡ true → zone_sound (new_zone address range) ≡ true
unfolding zone_sound zone_otherwise_sound each_in_range
new_sound address range a r = rw (a, r, leb-zero range)

pub status_sound : (z : Zone) (s : Status) → z.present ≡ true → zone_sound z ≡ true → actual_in_range s.actual ≡ true → zone_sound (with_status z s) ≡ true
status_sound z s p h a =
    let k = fits z p h in
    fitting (with_status z s) p (record { own = record { address = k.own.address; range = k.own.range; actual = a; input = k.own.input; booking = k.own.booking }; ahue = k.ahue; hzbg = k.hzbg; rrue = k.rrue; solw = k.solw })

pub origin_sound : (z : Zone) (o : Origin) → z.present ≡ true → zone_sound z ≡ true → input_in_range o.millivolts ≡ true → zone_sound (with_origin z o) ≡ true
origin_sound z o p h i =
    let k = fits z p h in
    fitting (with_origin z o) p (record { own = record { address = k.own.address; range = k.own.range; actual = k.own.actual; input = i; booking = k.own.booking }; ahue = k.ahue; hzbg = k.hzbg; rrue = k.rrue; solw = k.solw })

pub kilograms_sound : (z : Zone) (kg : ℕ) → z.present ≡ true → zone_sound z ≡ true → booking_in_range kg ≡ true → zone_sound (with_kilograms z kg) ≡ true
kilograms_sound z kg p h b =
    let k = fits z p h in
    fitting (with_kilograms z kg) p (record { own = record { address = k.own.address; range = k.own.range; actual = k.own.actual; input = k.own.input; booking = b }; ahue = k.ahue; hzbg = k.hzbg; rrue = k.rrue; solw = k.solw })

pub figures_sound : (z : Zone) (f : Figures) → z.present ≡ true → zone_sound z ≡ true → in_range z.range f ≡ true → zone_sound (with_figures z f) ≡ true
figures_sound z f p h e = by_form f e
  where
    k : Fit z
    k = fits z p h

    by_form : (f : Figures) → in_range z.range f ≡ true → zone_sound (with_figures z f) ≡ true
    by_form (AhueDeadline f) e = fitting _ p (record { own = k.own; ahue = e; hzbg = k.hzbg; rrue = k.rrue; solw = k.solw })
    by_form (AhueWindow f) e = fitting _ p (record { own = k.own; ahue = e; hzbg = k.hzbg; rrue = k.rrue; solw = k.solw })
    by_form (HzbgLimit f) e = fitting _ p (record { own = k.own; ahue = k.ahue; hzbg = e; rrue = k.rrue; solw = k.solw })
    by_form (RrueReference f) e = fitting _ p (record { own = k.own; ahue = k.ahue; hzbg = k.hzbg; rrue = e; solw = k.solw })
    by_form (SolwSetpoint f) e = fitting _ p (record { own = k.own; ahue = k.ahue; hzbg = k.hzbg; rrue = k.rrue; solw = e })

-- ---- an absent zone that is sound is the empty zone

off : (s : State) → is_off s ≡ true → s ≡ Off
off Off e = refl
off On e = never e
off Calibration e = never e
off Error e = never e

zero : (n : ℕ) → is_zero n ≡ true → n ≡ 0
zero n e = eqb-true n 0 e

watch_zero : (w : Watch) → is_deadline w ≡ true → all_zero (watch_figures w) ≡ true → w ≡ empty_zone.watch
unfolding all_zero
watch_zero (Deadline f) e h =
    let flag : f.flag ≡ 0 = zero _ (search and_l) in
    let lower : f.lower ≡ 0 = zero _ (search (and_l, and_r)) in
    let upper : f.upper ≡ 0 = zero _ (search (and_l, and_r)) in
    let time : f.time ≡ 0 = zero _ (search (and_l, and_r)) in
    λ i. Deadline (record { flag = flag i; lower = lower i; upper = upper i; time = time i })
watch_zero (Window f) e h = never e

settings_zero : (s : Settings) → all_zero (HzbgLimit s.limit) ≡ true → all_zero (RrueReference s.reference) ≡ true → all_zero (SolwSetpoint s.setpoint) ≡ true → s ≡ empty_zone.settings
unfolding all_zero
settings_zero s l r p =
    let time : s.limit.time ≡ 0 = zero _ (search and_l) in
    let flag : s.reference.flag ≡ 0 = zero _ (search and_l) in
    let lower : s.reference.lower ≡ 0 = zero _ (search (and_l, and_r)) in
    let upper : s.reference.upper ≡ 0 = zero _ (search (and_l, and_r)) in
    let setpoint : s.setpoint.setpoint ≡ 0 = zero _ (search and_l) in
    λ i. record { limit = record { time = time i }; reference = record { flag = flag i; lower = lower i; upper = upper i }; setpoint = record { setpoint = setpoint i } }

by_interface : (s : Source) → is_interface s ≡ true → s ≡ Interface
by_interface Interface e = refl
by_interface Voltage e = never e

origin_new : (o : Origin) → is_new o ≡ true → o ≡ new_origin
origin_new o e =
    let source : o.source ≡ Interface = by_interface _ (search and_l) in
    let millivolts : o.millivolts ≡ 0 = zero _ (search and_r) in
    λ i. record { source = source i; millivolts = millivolts i }

pub otherwise_empty : (z : Zone) → z.present ≡ false → zone_otherwise_sound z ≡ true → z ≡ empty_zone
unfolding zone_otherwise_sound
otherwise_empty z p s =
    let h : holds_nothing z ≡ true = rw p at s in
    let groups : groups_zero z ≡ true = search (and_l, and_r) in
    let address : z.address ≡ 0 = zero _ (search (and_l, and_r)) in
    let range : z.range ≡ 0 = zero _ (search (and_l, and_r)) in
    let actual : z.status.actual ≡ 0 = zero _ (search (and_l, and_r)) in
    let kilograms : z.kilograms ≡ 0 = zero _ (search (and_l, and_r)) in
    let state : z.status.state ≡ Off = off _ (search (and_l, and_r)) in
    let watch = watch_zero z.watch (search (and_l, and_r)) (search and_l) in
    let settings = settings_zero z.settings (search (and_l, and_r)) (search (and_l, and_r)) (search (and_l, and_r)) in
    let origin = origin_new z.origin (search (and_l, and_r)) in
    λ i. record { present = p i; address = address i; range = range i; status = record { state = state i; actual = actual i }; watch = watch i; settings = settings i; origin = origin i; kilograms = kilograms i }

pub absent_empty : (z : Zone) → z.present ≡ false → zone_sound z ≡ true → z ≡ empty_zone
absent_empty z p s = otherwise_empty z p (sound_zone_parts z s).0

-- What a write, a report, a choice of the source and a booking set, and that they set nothing else. Assumes nothing.
use Prim.Native.Nat.{ℕ}
use mathlib.Core.Path.{◌≡◌, refl, ap}
use Rattle.zone.specs.declared.figures.Group.{Group}
use Rattle.zone.specs.declared.figures.Group.TheVariants.{Ahue, Hzbg, Rrue, Solw}
use Rattle.zone.specs.declared.figures.Figures.{Figures}
use Rattle.zone.specs.declared.figures.Figures.TheVariants.{AhueDeadline, AhueWindow, HzbgLimit, RrueReference, SolwSetpoint}
use Rattle.zone.specs.declared.status.Status.{Status}
use Rattle.zone.specs.declared.sources.Origin.{Origin}
use Rattle.zone.specs.declared.zones.Watch.{Watch}
use Rattle.zone.specs.declared.zones.Watch.TheVariants.{Deadline, Window}
use Rattle.zone.specs.declared.zones.Settings.{Settings}
use Rattle.zone.specs.declared.zones.Zone.{Zone}
use Rattle.zone.specs.Figures.{group_of}
use Rattle.zone.specs.Zones.{watch_figures, figures_of, with_status, with_watch, with_settings, with_origin, with_kilograms, with_figures}
use Rattle.zone.specs.Rules.{SameHead, SetsFigures, SetsStatus, SetsOrigin, SetsKilograms}

-- a write sets the watch or the settings: what holds of the zone with any other of these holds of what is written
by_write : (z : Zone) (f : Figures) (P : Zone → Type 0) → ((w : Watch) → P (with_watch z w)) → ((s : Settings) → P (with_settings z s)) → P (with_figures z f)
by_write z (AhueDeadline f) P w s = w (Deadline f)
by_write z (AhueWindow f) P w s = w (Window f)
by_write z (HzbgLimit f) P w s = s _
by_write z (RrueReference f) P w s = s _
by_write z (SolwSetpoint f) P w s = s _

written_group : (z : Zone) (f : Figures) → figures_of (with_figures z f) (group_of f) ≡ f
written_group z (AhueDeadline f) = refl
written_group z (AhueWindow f) = refl
written_group z (HzbgLimit f) = refl
written_group z (RrueReference f) = refl
written_group z (SolwSetpoint f) = refl

written_others : (z : Zone) (f : Figures) (g : Group) → (g ≡ group_of f → ⊥) → figures_of (with_figures z f) g ≡ figures_of z g
written_others z (AhueDeadline f) Ahue h = absurd (h refl)
written_others z (AhueDeadline f) Hzbg h = refl
written_others z (AhueDeadline f) Rrue h = refl
written_others z (AhueDeadline f) Solw h = refl
written_others z (AhueWindow f) Ahue h = absurd (h refl)
written_others z (AhueWindow f) Hzbg h = refl
written_others z (AhueWindow f) Rrue h = refl
written_others z (AhueWindow f) Solw h = refl
written_others z (HzbgLimit f) Ahue h = refl
written_others z (HzbgLimit f) Hzbg h = absurd (h refl)
written_others z (HzbgLimit f) Rrue h = refl
written_others z (HzbgLimit f) Solw h = refl
written_others z (RrueReference f) Ahue h = refl
written_others z (RrueReference f) Hzbg h = refl
written_others z (RrueReference f) Rrue h = absurd (h refl)
written_others z (RrueReference f) Solw h = refl
written_others z (SolwSetpoint f) Ahue h = refl
written_others z (SolwSetpoint f) Hzbg h = refl
written_others z (SolwSetpoint f) Rrue h = refl
written_others z (SolwSetpoint f) Solw h = absurd (h refl)

pub sets_figures : (z : Zone) (f : Figures) → SetsFigures z f (with_figures z f)
sets_figures z f = record {
  head = by_write z f (SameHead z) (λ w. record { present = refl; address = refl; range = refl }) (λ s. record { present = refl; address = refl; range = refl });
  status = by_write z f (λ x. x.status ≡ z.status) (λ w. refl) (λ s. refl);
  origin = by_write z f (λ x. x.origin ≡ z.origin) (λ w. refl) (λ s. refl);
  kilograms = by_write z f (λ x. x.kilograms ≡ z.kilograms) (λ w. refl) (λ s. refl);
  its_group = written_group z f;
  other_groups = written_others z f;
}

-- the figures of the groups stand in the watch and in the settings
pub same_groups : (z z' : Zone) → z'.watch ≡ z.watch → z'.settings ≡ z.settings → (g : Group) → figures_of z' g ≡ figures_of z g
same_groups z z' w s Ahue = ap watch_figures w
same_groups z z' w s Hzbg = ap (λ (x : Settings). HzbgLimit x.limit) s
same_groups z z' w s Rrue = ap (λ (x : Settings). RrueReference x.reference) s
same_groups z z' w s Solw = ap (λ (x : Settings). SolwSetpoint x.setpoint) s

pub sets_status : (z : Zone) (s : Status) → SetsStatus z s (with_status z s)
sets_status z s = record { head = record { present = refl; address = refl; range = refl }; reported = refl; origin = refl; kilograms = refl; groups = same_groups z (with_status z s) refl refl }

pub sets_origin : (z : Zone) (o : Origin) → SetsOrigin z o (with_origin z o)
sets_origin z o = record { head = record { present = refl; address = refl; range = refl }; status = refl; chosen = refl; kilograms = refl; groups = same_groups z (with_origin z o) refl refl }

pub sets_kilograms : (z : Zone) (kg : ℕ) → SetsKilograms z kg (with_kilograms z kg)
sets_kilograms z kg = record { head = record { present = refl; address = refl; range = refl }; status = refl; origin = refl; held = refl; groups = same_groups z (with_kilograms z kg) refl refl }

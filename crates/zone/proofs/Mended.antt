-- A zone whose only fault is its window, mended: it is sound, and nothing but the window's end is altered. Assumes nothing.
use Prim.Native.Nat.{ℕ, ◌+◌, ◌≤◌, ◌<◌}
use mathlib.Core.Path.{◌≡◌, refl, sym, ap, ◌∙◌}
use mathlib.Core.Bool.{Bool, true, false}
use native.Mathlib.Omega.{arith}
use lib.Dec.{leb, ltb, leb-zero}
use borrow.Author.Tests.{leb-true, le-leb, lt-ltb, le-ltb, ltb-false}
use Rattle.zone.specs.declared.figures.Figures.{Figures}
use Rattle.zone.specs.declared.figures.Figures.TheVariants.{AhueDeadline, AhueWindow, HzbgLimit, RrueReference, SolwSetpoint}
use Rattle.zone.specs.declared.figures.WindowFigures.{WindowFigures}
use Rattle.zone.specs.declared.zones.Watch.{Watch}
use Rattle.zone.specs.declared.zones.Watch.TheVariants.{Deadline, Window}
use Rattle.zone.specs.declared.zones.Zone.{Zone}
use Rattle.zone.specs.Figures.{each_in_range, opens, in_range}
use Rattle.zone.specs.Zones.{watch_figures, is_deadline, zone_otherwise_sound, window_opens, with_watch, opened, opened_watch, mended}
use Rattle.zone.specs.Rules.{SetsFigures, Shut, RuleBroken, RangeAsBefore, SoundAsBefore}
use Rattle.zone.specs.Inner.{begin_of}
use Rattle.zone.proofs.Tests.{never, and_l, and_r, and_false}
use Rattle.zone.proofs.Sound.{otherwise_fits, otherwise_fitting, range_kept, sound_kept, otherwise_empty}
use Rattle.zone.proofs.Written.{sets_figures}

-- an absent zone has no window; so a zone that has one is present
pub window_present : (z : Zone) (f : WindowFigures) → zone_otherwise_sound z ≡ true → z.watch ≡ Window f → z.present ≡ true
window_present z f s w = by_presence z.present refl
  where
    by_presence : (p : Bool) → z.present ≡ p → p ≡ true
    by_presence true e = refl
    by_presence false e = never (ap is_deadline (sym w ∙ ap (λ (x : Zone). x.watch) (otherwise_empty z e s)))

-- the figures of a window, each in its own range
window_each : (z : Zone) (f : WindowFigures) → zone_otherwise_sound z ≡ true → z.watch ≡ Window f → each_in_range z.range (AhueWindow f) ≡ true
window_each z f s w = ap (λ (x : Watch). each_in_range z.range (watch_figures x)) (sym w) ∙ (otherwise_fits z (window_present z f s w) s).ahue

-- its begin leaves room for an end above it
pub begin_in : (range : ℕ) (f : WindowFigures) → each_in_range range (AhueWindow f) ≡ true → f.begin < 999
unfolding each_in_range
begin_in range f e =
    let h : leb f.begin 998 ≡ true = search (and_l, and_r) in
    omega (arith, leb-true f.begin 998 h)

pub begin_below : (z : Zone) → zone_otherwise_sound z ≡ true → begin_of z.watch < 999
begin_below z s = by_watch z.watch refl
  where
    by_watch : (w : Watch) → z.watch ≡ w → begin_of w < 999
    by_watch (Deadline f) e = omega arith
    by_watch (Window f) e = begin_in z.range f (window_each z f s e)

-- and the new end lies in its own range
opened_in : (range : ℕ) (f : WindowFigures) → each_in_range range (AhueWindow f) ≡ true → f.begin < 999 → each_in_range range (AhueWindow (opened f)) ≡ true
unfolding each_in_range
opened_in range f e h =
    let flag : leb f.flag 1 ≡ true = search (and_l, and_r) in
    let lower : leb 5 f.lower ≡ true = search (and_l, and_r) in
    let lower' : leb f.lower 99 ≡ true = search (and_l, and_r) in
    let upper : leb 5 f.upper ≡ true = search (and_l, and_r) in
    let upper' : leb f.upper 99 ≡ true = search (and_l, and_r) in
    let begin : leb f.begin 998 ≡ true = search (and_l, and_r) in
    rw (leb-zero f.flag, leb-zero f.begin, flag, lower, lower', upper, upper', begin, le-leb 1 (f.begin + 1) (omega arith), le-leb (f.begin + 1) 999 (omega arith))

-- ---- the zone, mended

-- a zone keeps the rule, or it has such a window
pub by_window : (z : Zone) {P : Type 0} → (window_opens z ≡ true → P) → ((f : WindowFigures) → Shut z f → P) → P
by_window z {P} keeps breaks = by_watch z.watch refl
  where
    by_opens : (f : WindowFigures) (t : Bool) → ltb f.begin f.end ≡ t → z.watch ≡ Window f → P
    by_opens f true e w = keeps (ap (λ (x : Watch). opens (watch_figures x)) w ∙ e)
    by_opens f false e w = breaks f (record { has = w; not_below = ltb-false f.begin f.end e })

    by_watch : (x : Watch) → z.watch ≡ x → P
    by_watch (Deadline f) w = keeps (ap (λ (x : Watch). opens (watch_figures x)) w)
    by_watch (Window f) w = by_opens f (ltb f.begin f.end) refl w

pub shut_breaks : (z : Zone) (f : WindowFigures) → Shut z f → window_opens z ≡ false
shut_breaks z f s = ap (λ (x : Watch). opens (watch_figures x)) s.has ∙ le-ltb f.begin f.end s.not_below

pub not_shut : (z : Zone) (f : WindowFigures) → window_opens z ≡ true → Shut z f → ⊥
not_shut z f w s = never (sym (shut_breaks z f s) ∙ w)

broken : (figures : Figures) → (window : WindowFigures) × (figures ≡ AhueWindow window) × (window.end ≤ window.begin) → opens figures ≡ false
broken figures w = ap opens w.1 ∙ le-ltb w.0.begin w.0.end w.2

pub rule_broken : RuleBroken
rule_broken (AhueWindow f) = ((λ e. (f, refl, ltb-false f.begin f.end e)), broken (AhueWindow f))
rule_broken (AhueDeadline f) = ((λ e. never (sym e)), broken (AhueDeadline f))
rule_broken (HzbgLimit f) = ((λ e. never (sym e)), broken (HzbgLimit f))
rule_broken (RrueReference f) = ((λ e. never (sym e)), broken (RrueReference f))
rule_broken (SolwSetpoint f) = ((λ e. never (sym e)), broken (SolwSetpoint f))

pub range_as_before : RangeAsBefore
range_as_before range figures u = by_rule (opens figures) refl
  where
    by_rule : (t : Bool) → opens figures ≡ t → in_range range figures ≡ each_in_range range figures
    by_rule true e = range_kept range figures e
    by_rule false e = let w = (rule_broken figures).0 e in absurd (u w.0 w.1 w.2)

pub sound_as_before : SoundAsBefore
sound_as_before z u = by_window z (sound_kept z) (λ f s. absurd (u f s))

-- a write of such a window is out of range, whatever its other figures
pub shut_out : (range : ℕ) (f : WindowFigures) → f.end ≤ f.begin → in_range range (AhueWindow f) ≡ false
unfolding in_range
shut_out range f h = rw (le-ltb f.begin f.end h) (and_false (each_in_range range (AhueWindow f)))

pub mended_same : (z : Zone) → window_opens z ≡ true → mended z ≡ z
mended_same z e = rw e

mended_window : (z : Zone) (f : WindowFigures) → Shut z f → mended z ≡ with_watch z (Window (opened f))
mended_window z f s = rw (shut_breaks z f s) (ap (λ (x : Watch). with_watch z (opened_watch x)) s.has)

-- nothing but the end: the figures of AHUE are the same with that end, and the rest is kept
pub mended_sets : (z : Zone) (f : WindowFigures) → Shut z f → SetsFigures z (AhueWindow (opened f)) (mended z)
mended_sets z f s = rw (mended_window z f s) (sets_figures z (AhueWindow (opened f)))

pub mended_present : (z : Zone) → (mended z).present ≡ z.present
mended_present z = by_window z (λ e. ap (λ (x : Zone). x.present) (mended_same z e)) (λ f s. (mended_sets z f s).head.present)

pub mended_address : (z : Zone) → (mended z).address ≡ z.address
mended_address z = by_window z (λ e. ap (λ (x : Zone). x.address) (mended_same z e)) (λ f s. (mended_sets z f s).head.address)

pub mended_kilograms : (z : Zone) → (mended z).kilograms ≡ z.kilograms
mended_kilograms z = by_window z (λ e. ap (λ (x : Zone). x.kilograms) (mended_same z e)) (λ f s. (mended_sets z f s).kilograms)

pub mended_opens : (z : Zone) → window_opens (mended z) ≡ true
mended_opens z = by_window z (λ e. rw (mended_same z e) e) (λ f s. rw (mended_window z f s) (lt-ltb f.begin (f.begin + 1) (omega arith)))

window_otherwise : (z : Zone) (f : WindowFigures) → zone_otherwise_sound z ≡ true → z.watch ≡ Window f → zone_otherwise_sound (with_watch z (Window (opened f))) ≡ true
window_otherwise z f s w =
    let p = window_present z f s w in
    let k = otherwise_fits z p s in
    let each = window_each z f s w in
    otherwise_fitting (with_watch z (Window (opened f))) p
    (record { own = k.own; ahue = opened_in z.range f each (begin_in z.range f each); hzbg = k.hzbg; rrue = k.rrue; solw = k.solw })

pub mended_otherwise : (z : Zone) → zone_otherwise_sound z ≡ true → zone_otherwise_sound (mended z) ≡ true
mended_otherwise z s = by_window z (λ e. rw (mended_same z e) s) (λ f w. rw (mended_window z f w) (window_otherwise z f s w.has))

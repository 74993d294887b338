-- The setpoint in use: how the voltage at the input sets it, and that it is at most the temperature range. Assumes nothing.
use Prim.Native.Nat.{ℕ, ◌*◌, ◌≤◌, ◌<◌}
use mathlib.Core.Path.{◌≡◌, refl, ap}
use mathlib.Core.Bool.{Bool, true, false, ◌||◌}
use native.Mathlib.Omega.{arith}
use native.Mathlib.Nat.{zero-mul, mul-le-mul_right, zero-div, div-mul-le_self, lt-mul-div-succ, le-div_iff_mul-le, mul-div_cancel_left}
use lib.Dec.{leb, eqb}
use borrow.Author.Tests.{leb-true, eqb-true}
use Rattle.zone.specs.declared.sources.Source.{Source}
use Rattle.zone.specs.declared.sources.Source.TheVariants.{Interface, Voltage}
use Rattle.zone.specs.declared.figures.Figures.TheVariants.{SolwSetpoint}
use Rattle.zone.specs.declared.figures.SetpointFigures.{SetpointFigures}
use Rattle.zone.specs.declared.zones.Zone.{Zone}
use Rattle.zone.specs.Figures.{each_in_range, in_range}
use Rattle.zone.specs.Sources.{by_voltage, setpoint_by, setpoint_in_use}
use Rattle.zone.specs.Zones.{range_known, zone_sound}
use Rattle.zone.specs.Rules.{RoundedDown}
use Rattle.zone.proofs.Tests.{never, and_l, and_r}
use Rattle.zone.proofs.Sound.{Fit, fits, in_range_parts, absent_empty}

-- ---- what a voltage comes to

ten_thousand : 0 < 10000
ten_thousand = omega arith

pub rounded_down : RoundedDown
rounded_down m range = (div-mul-le_self (m * range) 10000, omega (arith, lt-mul-div-succ (m * range) {b = 10000} ten_thousand))

-- no voltage, and 10 V
pub voltage_none : (range : ℕ) → by_voltage 0 range ≡ 0
voltage_none range = rw (zero-mul range) (zero-div 10000)

pub voltage_full : (range : ℕ) → by_voltage 10000 range ≡ range
voltage_full range = mul-div_cancel_left range ten_thousand

-- more millivolts never come to less
pub voltage_rises : (m m' range : ℕ) → m ≤ m' → by_voltage m range ≤ by_voltage m' range
voltage_rises m m' range h = (le-div_iff_mul-le ten_thousand).1 (omega (arith, div-mul-le_self (m * range) 10000, mul-le-mul_right range h))

voltage_within : (m range : ℕ) → m ≤ 10000 → by_voltage m range ≤ range
voltage_within m range h = rw (voltage_full range) at (voltage_rises m 10000 range h)

-- ---- of a zone of a sound record

range_small : (range : ℕ) → range_known range ≡ true → range ≤ 500
range_small range e = by_tests (eqb range 300) (eqb range 500) refl refl e
  where
    by_tests : (t u : Bool) → eqb range 300 ≡ t → eqb range 500 ≡ u → (t || u) ≡ true → range ≤ 500
    by_tests true u p q e = omega (arith, eqb-true range 300 p)
    by_tests false true p q e = omega (arith, eqb-true range 500 q)
    by_tests false false p q e = never e

pub record Small (z : Zone) : Type 0 where
  pub input : z.origin.millivolts ≤ 10000
  pub range : z.range ≤ 500

-- its input times its range is no large number
pub small : (z : Zone) → zone_sound z ≡ true → Small z
small z s = by_presence z.present refl
  where
    by_presence : (p : Bool) → z.present ≡ p → Small z
    by_presence true p = let k = fits z p s in record { input = leb-true z.origin.millivolts 10000 k.own.input; range = range_small z.range k.own.range }
    by_presence false p =
        let e = absent_empty z p s in
        record { input = omega (arith, ap (λ (x : Zone). x.origin.millivolts) e); range = omega (arith, ap (λ (x : Zone). x.range) e) }

setpoint_within : (range : ℕ) (f : SetpointFigures) → in_range range (SolwSetpoint f) ≡ true → f.setpoint ≤ range
unfolding each_in_range
setpoint_within range f e =
    let h = (in_range_parts range (SolwSetpoint f) e).0 in
    let l : leb f.setpoint range ≡ true = search (and_l, and_r) in
    leb-true f.setpoint range l

pub in_use_within : (z : Zone) → z.present ≡ true → zone_sound z ≡ true → setpoint_in_use z ≤ z.range
in_use_within z p s = by_source z.origin.source
  where
    k : Fit z
    k = fits z p s

    by_source : (source : Source) → setpoint_by source z ≤ z.range
    by_source Interface = setpoint_within z.range z.settings.setpoint k.solw
    by_source Voltage = voltage_within z.origin.millivolts z.range (leb-true z.origin.millivolts 10000 k.own.input)

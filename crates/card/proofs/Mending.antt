-- The two loops of a repair: the old ends that are gathered, and the zones that are mended. Assumes nothing.
use Prim.Native.Nat.{ℕ, zero, suc, ◌+◌, ◌-◌, ◌≤◌, ◌<◌}
use mathlib.Core.Path.{◌≡◌, sym, ap, ◌∙◌}
use mathlib.Core.Bool.{true, false}
use mathlib.Core.List.{List, [], ◌∷◌, ◌++◌, map}
use native.Mathlib.Omega.{arith}
use native.Mathlib.Numerals.{add-one}
use native.Mathlib.Nat.{zero-add}
use lib.ListN.{length, get_or, set, take, drop, replicate, length-set, drop_of_length-le}
use lib.Seq.{drop-cons, sets, sets-eq}
use Rattle.std.proofs.lemmas.List.{drop-set-lt, take_more_set, append_assoc}
use Rattle.zone.specs.declared.zones.Zone.{Zone}
use Rattle.zone.specs.Lists.{every}
use Rattle.zone.specs.Zones.{zone_otherwise_sound, window_opens, mended, end_of}
use Rattle.zone.proofs.Tests.{both}
use Rattle.card.specs.declared.records.OldEnd.{OldEnd}
use Rattle.card.specs.Calls.{old_ends_from, told_as}

-- ---- the old ends

-- the sixteen entries before any is told
abbrev nothing : OldEnd
nothing = record { zone = 0; end = 0 }

abbrev pub no_ends : List OldEnd
no_ends = replicate 16 nothing

-- before the turn of zone i, `count` are stored; those that are left, stored behind them, make the whole
pub record Gathers (zs : List Zone) (ends : List OldEnd) (count i : ℕ) : Type 0 where
  pub below : i ≤ 16
  pub counted : count ≤ i
  pub room : length ends ≡ 16
  pub whole : sets no_ends 0 (old_ends_from 0 zs) ≡ sets ends count (old_ends_from i (drop i zs))
  pub total : count + length (old_ends_from i (drop i zs)) ≡ length (old_ends_from 0 zs)

-- what is left before the turn of zone i, by its window
module _ (zs : List Zone) (i : ℕ) (d : Zone) (h : i < length zs) where
  open_step : window_opens (get_or zs i d) ≡ true → old_ends_from i (drop i zs) ≡ old_ends_from (i + 1) (drop (i + 1) zs)
  unfolding old_ends_from
  open_step e = rw (add-one i, drop-cons zs i d h, e)

  shut_step : window_opens (get_or zs i d) ≡ false → old_ends_from i (drop i zs) ≡ record { zone = i; end = end_of (get_or zs i d).watch } ∷ old_ends_from (i + 1) (drop (i + 1) zs)
  unfolding old_ends_from
  shut_step e = rw (add-one i, drop-cons zs i d h, e)

module _ (zs : List Zone) (ends : List OldEnd) (count i : ℕ) (d : Zone) (h : i < length zs) (l : i < 16) (g : Gathers zs ends count i) where
  pub gathers_open : window_opens (get_or zs i d) ≡ true → Gathers zs ends count (i + 1)
  gathers_open e =
      let step = open_step zs i d h e in
      record {
        below = omega arith;
        counted = omega (arith, g.counted);
        room = g.room;
        whole = g.whole ∙ ap (sets ends count) step;
        total = ap (λ (x : List OldEnd). count + length x) (sym step) ∙ g.total;
      }

  pub gathers_shut : window_opens (get_or zs i d) ≡ false → Gathers zs (set ends count (record { zone = i; end = end_of (get_or zs i d).watch })) (count + 1) (i + 1)
  gathers_shut e =
      let step = shut_step zs i d h e in
      let one : OldEnd = record { zone = i; end = end_of (get_or zs i d).watch } in
      let left = old_ends_from (i + 1) (drop (i + 1) zs) in
      record {
        below = omega arith;
        counted = omega (arith, g.counted);
        room = length-set ends count one ∙ g.room;
        whole = g.whole ∙ ap (sets ends count) step ∙ ap (λ (n : ℕ). sets (set ends count one) n left) (sym (add-one count));
        total = omega (arith, g.total, ap length step);
      }

-- the entries behind those that are told
drop_replicate : (n m : ℕ) (x : OldEnd) → drop n (replicate m x) ≡ replicate (m - n) x
drop_replicate zero m x = ap (λ (k : ℕ). replicate k x) (let e : m ≡ m - 0 = omega arith in e)
drop_replicate (suc n) zero x = ap (λ (k : ℕ). replicate k x) (let e : 0 ≡ 0 - suc n = omega arith in e)
drop_replicate (suc n) (suc m) x = drop_replicate n m x ∙ ap (λ (k : ℕ). replicate k x) (let e : m - n ≡ suc m - suc n = omega arith in e)

none_left : (zs : List Zone) (i : ℕ) → length zs ≤ i → old_ends_from i (drop i zs) ≡ []
unfolding old_ends_from
none_left zs i h = rw (drop_of_length-le zs h)

pub gathers_end : (zs : List Zone) (ends : List OldEnd) (count i : ℕ) → length zs ≤ i → Gathers zs ends count i → record { count = count; ends = ends } ≡ told_as (old_ends_from 0 zs)
gathers_end zs ends count i h g =
    let none = none_left zs i h in
    let told = old_ends_from 0 zs in
    let n : count ≡ length told = omega (arith, g.total, ap length none) in
    let stored : ends ≡ sets no_ends 0 told = sym (g.whole ∙ ap (sets ends count) none) in
    let laid : sets no_ends 0 told ≡ told ++ drop (0 + length told) no_ends = sets-eq told no_ends 0 (omega (arith, g.counted, g.below)) in
    let zeros : drop (0 + length told) no_ends ≡ replicate (16 - length told) nothing = rw (zero-add (length told)) (drop_replicate (length told) 16 nothing) in
    rw (n, stored, laid, zeros)

-- ---- the zones

-- before the turn of zone i, those before it are mended; they and those that are left, mended, make the whole. Those that are left have no other fault
pub record MendsTo (zs after : List Zone) (i : ℕ) : Type 0 where
  pub room : length after ≡ 16
  pub left : every zone_otherwise_sound (drop i after) ≡ true
  pub whole : map mended zs ≡ take i after ++ map mended (drop i after)

module _ (zs after : List Zone) (i : ℕ) (d : Zone) (l : i < 16) (m : MendsTo zs after i) where
  h : i < length after
  h = omega (arith, m.room)

  first : (zone_otherwise_sound (get_or after i d) ≡ true) × (every zone_otherwise_sound (drop (suc i) after) ≡ true)
  first = both (zone_otherwise_sound (get_or after i d)) (every zone_otherwise_sound (drop (suc i) after)) (rw (drop-cons after i d h) at m.left)

  -- the zone whose turn it is
  pub mends_sound : zone_otherwise_sound (get_or after i d) ≡ true
  mends_sound = first.0

  pub mends_turn : MendsTo zs (set after i (mended (get_or after i d))) (i + 1)
  mends_turn =
      let z = mended (get_or after i d) in
      let same : drop (i + 1) (set after i z) ≡ drop (suc i) after = drop-set-lt (i + 1) after i z (omega arith) ∙ ap (λ (n : ℕ). drop n after) (add-one i) in
      record {
        room = length-set after i z ∙ m.room;
        left = rw same first.1;
        whole = m.whole ∙ ap (λ (zones : List Zone). take i after ++ map mended zones) (drop-cons after i d h) ∙ rw (same, take_more_set after i z h, append_assoc);
      }

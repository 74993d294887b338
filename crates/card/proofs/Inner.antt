-- How a call at a zone comes to the definition's result. Assumes nothing.
use Prim.Native.Nat.{ℕ, ◌<◌}
use mathlib.Core.Path.{◌≡◌, refl, sym, ap, ◌∙◌}
use mathlib.Core.Bool.{Bool, true, false, cond, not}
use mathlib.Core.List.{List, [], ◌∷◌}
use native.Mathlib.Omega.{arith}
use Rattle.std.specs.Prelude.{Ok, Err}
use lib.Seq.{set-get_or}
use lib.Dec.{leb}
use borrow.Author.Tests.{leb-false}
use Rattle.zone.specs.declared.figures.Figures.{Figures}
use Rattle.zone.specs.declared.zones.Zone.{Zone}
use Rattle.zone.specs.Lists.{is_zero}
use Rattle.zone.specs.Zones.{empty_zone}
use Rattle.zone.proofs.Tests.{never, neither}
use Rattle.card.specs.declared.answers.Refusal.{Refusal}
use Rattle.card.specs.declared.answers.Refusal.TheVariants.{NotSound, NoZone}
use Rattle.card.specs.declared.judgements.Verdict.{Verdict}
use Rattle.card.specs.declared.judgements.Verdict.TheVariants.{Refuses, Tells, Writes, Reports, Adds, Removes, Chooses, Rebooks}
use Rattle.card.specs.declared.records.Record.{Record}
use Rattle.card.specs.Answers.{Result, refusal_number}
use Rattle.card.specs.Refusals.{Row, first, settled, ◌gives◌}
use Rattle.card.specs.Records.{zone_at, with_zone, sound, no_zone}
use Rattle.card.specs.Calls.{Judgement, at_zone}
use Rattle.card.specs.Inner.{alters_by, after_by, Reached, reach_of, judged, stored, ask_at}

-- to store the zone that stands there already is to store nothing
pub same_zone : (r : Record) (n : ℕ) → with_zone r n (zone_at r n) ≡ r
same_zone r n = ap (λ (zs : List Zone). record { zones = zs }) (set-get_or r.zones n empty_zone)

-- a verdict that does not alter the zone leaves the record as it is
pub unaltered : (r : Record) (n : ℕ) (v : Verdict) → alters_by v ≡ false → with_zone r n (after_by v (zone_at r n)) ≡ r
unaltered r n (Refuses why) h = same_zone r n
unaltered r n (Tells figures) h = same_zone r n
unaltered r n (Writes figures) h = never (sym h)
unaltered r n (Reports status) h = never (sym h)
unaltered r n (Adds address range) h = never (sym h)
unaltered r n Removes h = never (sym h)
unaltered r n (Chooses origin) h = never (sym h)
unaltered r n (Rebooks kilograms) h = never (sym h)

-- what the zone decides, stored, is what the record decides by the same refusals
pub stored_settled : (r : Record) (n : ℕ) (rows : List Row) (values : List Figures) (z : Zone)
    → stored r n (settled (zone_at r n) rows values z) ≡ settled r rows values (with_zone r n z)
stored_settled r n rows values z = by_done (is_zero (first rows))
  where
    by_done : (done : Bool)
        → ◌≡◌ {A = Result Record}
        (record { number = first rows; values = cond done values []; after = with_zone r n (cond done z (zone_at r n)) })
        (record { number = first rows; values = cond done values []; after = cond done (with_zone r n z) r })
    by_done true = refl
    by_done false = ap (λ (x : Record). record { number = first rows; values = []; after = x }) (same_zone r n)

-- a zone that is asked what was refused already leaves everything as it is
pub refused_judged : (z : Zone) (why : Refusal) → record { number = refusal_number why; values = []; after = z } ≡ judged z (ask_at z (Err why))
refused_judged z why = by_done (is_zero (refusal_number why))
  where
    by_done : (done : Bool)
        → ◌≡◌ {A = Result Zone} (record { number = refusal_number why; values = []; after = z }) (record { number = refusal_number why; values = cond done [] []; after = cond done z z })
    by_done true = refl
    by_done false = refl

-- ---- a call at a zone, by what stands there

-- what stands at zone n of r, by the tests of soundness and of the zone
abbrev reach_by : Bool → Bool → Record → ℕ → Reached
reach_by s t r n = cond (not s) (Err NotSound) (cond t (Err NoZone) (Ok (zone_at r n)))

-- where nothing is reached, the call is refused for that reason, whatever it asks
pub stopped : (r : Record) (n : ℕ) (why : Refusal) (j : Judgement) → reach_of r n ≡ Err why
    → record { number = refusal_number why; values = []; after = r } ≡ at_zone r n j
unfolding reach_of
stopped r n why j e = by_tests (sound r) (no_zone r n) e
  where
    by_tests : (s t : Bool) → reach_by s t r n ≡ Err why
        → record { number = refusal_number why; values = []; after = r } ≡ settled r ((not s gives 2) ∷ (t gives 3) ∷ j.rows) j.values (with_zone r n j.after)
    by_tests false t e = let w : why ≡ NotSound = cc in rw w
    by_tests true true e = let w : why ≡ NoZone = cc in rw w
    by_tests true false e = absurd (let z : ◌≡◌ {A = ℕ} 0 1 = cc in omega arith)

-- what a reached zone is
pub record Reaches (r : Record) (n : ℕ) (z : Zone) : Type 0 where
  pub zone : z ≡ zone_at r n
  pub below : n < 16
  pub sound_record : sound r ≡ true
  pub there : no_zone r n ≡ false

-- a number that names a present zone is one of the sixteen
pub named_below : (r : Record) (n : ℕ) → no_zone r n ≡ false → n < 16
named_below r n e = leb-false 16 n (neither (leb 16 n) (not (zone_at r n).present) e).0

pub reaches : (r : Record) (n : ℕ) (z : Zone) → reach_of r n ≡ Ok z → Reaches r n z
unfolding reach_of
reaches r n z e = by_tests (sound r) (no_zone r n) refl refl e
  where
    by_tests : (s t : Bool) → sound r ≡ s → no_zone r n ≡ t → reach_by s t r n ≡ Ok z → Reaches r n z
    by_tests false t p q e = absurd (let z : ◌≡◌ {A = ℕ} 0 1 = cc in omega arith)
    by_tests true true p q e = absurd (let z : ◌≡◌ {A = ℕ} 0 1 = cc in omega arith)
    by_tests true false p q e = record { zone = cc; below = named_below r n q; sound_record = p; there = q }

-- where the zone is reached, the call comes to what the zone decides
pub at_zone_lem : (r : Record) (n : ℕ) (z : Zone) (seen : Zone → Result Zone) (j : Zone → Judgement) → reach_of r n ≡ Ok z → seen z ≡ judged z (j z)
    → stored r n (seen (zone_at r n)) ≡ at_zone r n (j (zone_at r n))
at_zone_lem r n z seen j e h =
    let k = reaches r n z e in
    ap (stored r n) (rw k.zone at h)
    ∙ rw (k.sound_record, k.there) (stored_settled r n (j (zone_at r n)).rows (j (zone_at r n)).values (j (zone_at r n)).after)

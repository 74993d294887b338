-- What a repair comes to: exactly when it is refused, what it sets, keeps and tells, and that it leaves a sound record. Assumes nothing.
use Prim.Native.Nat.{ℕ, zero, suc, ◌+◌}
use mathlib.Core.Path.{◌≡◌, refl, sym, ap, ◌∙◌}
use mathlib.Core.Logic.{◌↔◌, inl, inr}
use mathlib.Core.Bool.{Bool, true, false, cond}
use mathlib.Core.List.{List, [], ◌∷◌, map}
use native.Mathlib.Omega.{arith}
use lib.ListN.{get_or, get_or-map}
use lib.Seq.{take-append_seam}
use borrow.Author.Tests.{not-false}
use Rattle.zone.specs.declared.figures.Figures.{Figures}
use Rattle.zone.specs.declared.figures.Figures.TheVariants.{AhueWindow}
use Rattle.zone.specs.declared.figures.WindowFigures.{WindowFigures}
use Rattle.zone.specs.declared.zones.Zone.{Zone}
use Rattle.zone.specs.Lists.{every, is_zero}
use Rattle.zone.specs.Zones.{empty_zone, zone_otherwise_sound, window_opens, zone_sound, opened, mended, end_of}
use Rattle.zone.specs.Rules.{SetsFigures, Shut}
use Rattle.zone.proofs.Tests.{never, both, not_so}
use Rattle.zone.proofs.Sound.{empty_sound, sound_zone, sound_zone_parts}
use Rattle.zone.proofs.Mended.{window_present, by_window, shut_breaks, mended_same, mended_sets, mended_present, mended_address, mended_opens, mended_otherwise}
use Rattle.card.specs.declared.records.Record.{Record}
use Rattle.card.specs.declared.records.OldEnd.{OldEnd}
use Rattle.card.specs.Refusals.{first}
use Rattle.card.specs.Records.{zone_at, otherwise_sound, sound}
use Rattle.card.specs.Calls.{repair_rows, all_mended, old_ends_from, told_as, repair_of}
use Rattle.card.specs.Rules.{ExactlyWhen, numbers_in, repair_order, told_in, IsTold, Rising, leaves, RepairMends, RepairRefused, RepairOfSound, RepairAgain, SoundAsBefore}
use Rattle.card.proofs.Rows.{exactly}
use Rattle.card.proofs.Storing.{every_at, every_where, sound_whole, otherwise_parts, sound_both, both_sound}
use Rattle.card.proofs.Mapped.{mapped_parts}

-- ---- when it is refused

pub repair_order_lem : (r : Record) → numbers_in (repair_rows r) ≡ repair_order
repair_order_lem r = refl

-- 2 exactly where there is another fault
pub repair_exactly : (r : Record) → ExactlyWhen (repair_rows r) (repair_of r).result.number
unfolding repair_of
repair_exactly r = exactly (repair_rows r) refl

-- so a repair is done exactly where there is none
pub repair_done : (r : Record) → (repair_of r).result.number ≡ 0 → otherwise_sound r ≡ true
repair_done r e = not-false (otherwise_sound r) ((repair_exactly r).done.0 e 0)

pub repair_goes : (r : Record) → otherwise_sound r ≡ true → (repair_of r).result.number ≡ 0
unfolding repair_of
repair_goes r s = rw s

done_after : (r : Record) → otherwise_sound r ≡ true → (repair_of r).result.after ≡ all_mended r
unfolding repair_of
done_after r s = rw s

done_told : (r : Record) → otherwise_sound r ≡ true → (repair_of r).told ≡ told_as (old_ends_from 0 r.zones)
unfolding repair_of
done_told r s = rw s

pub repair_refused : RepairRefused
unfolding repair_of
repair_refused r e = rw e

-- a repair that is not done has met another fault
pub repair_not_done : (r : Record) → ((repair_of r).result.number ≡ 0 → ⊥) → repair_of r ≡ leaves r 2
repair_not_done r u = by_fault (otherwise_sound r) refl
  where
    by_fault : (t : Bool) → otherwise_sound r ≡ t → repair_of r ≡ leaves r 2
    by_fault true e = absurd (u (repair_goes r e))
    by_fault false e = repair_refused r e

-- what is not otherwise sound is not sound
pub not_otherwise : (r : Record) → otherwise_sound r ≡ false → sound r ≡ false
not_otherwise r e = not_so (sound r) (λ s. never (sym e ∙ (sound_both r s).0))

-- ---- zone by zone

after_at : (r : Record) (n : ℕ) → otherwise_sound r ≡ true → zone_at (repair_of r).result.after n ≡ mended (zone_at r n)
after_at r n e = ap (λ (x : Record). zone_at x n) (done_after r e) ∙ get_or-map mended r.zones n empty_zone

-- a zone that is mended is present
pub shut_present : (r : Record) (n : ℕ) (f : WindowFigures) → (repair_of r).result.number ≡ 0 → Shut (zone_at r n) f → (zone_at r n).present ≡ true
shut_present r n f e s =
    let empty = (sound_zone_parts empty_zone empty_sound).0 in
    window_present (zone_at r n) f (every_at zone_otherwise_sound r.zones n empty_zone empty (otherwise_parts r (repair_done r e)).zones) s.has

-- a record with such a window is not sound
pub shut_unsound : (r : Record) (n : ℕ) (f : WindowFigures) → Shut (zone_at r n) f → sound r ≡ false
shut_unsound r n f s = not_so (sound r) (λ e. never (sym (shut_breaks (zone_at r n) f s) ∙ every_at window_opens r.zones n empty_zone refl (sound_both r e).1))

-- ---- what is told

-- zone n, counted from k, has such a window, with that end
record Found (k : ℕ) (zs : List Zone) (n end : ℕ) : Type 0 where
  i : ℕ
  place : n ≡ k + i
  window : WindowFigures
  shut : Shut (get_or zs i empty_zone) window
  was : window.end ≡ end

end_of_lem : (z : Zone) (f : WindowFigures) → Shut z f → end_of z.watch ≡ f.end
end_of_lem z f s = ap end_of s.has

later : (k : ℕ) (z : Zone) (zs : List Zone) (n end : ℕ) → Found (suc k) zs n end → Found k (z ∷ zs) n end
later k z zs n end f = record { i = suc f.i; place = omega (arith, f.place); window = f.window; shut = f.shut; was = f.was }

told_found : (k : ℕ) (zs : List Zone) (n end : ℕ) → IsTold (old_ends_from k zs) n end → Found k zs n end
unfolding old_ends_from
told_found k [] n end t = absurd t
told_found k (z ∷ zs) n end t = by_test (window_opens z) refl t (told_found (suc k) zs n end)
  where
    here : window_opens z ≡ false → ◌≡◌ {A = OldEnd} (record { zone = k; end = end_of z.watch }) (record { zone = n; end = end }) → Found k (z ∷ zs) n end
    here e q =
        by_window z
        (λ w. never (sym e ∙ w))
        (λ f s.
        record { i = 0; place = omega (arith, ap (λ (x : OldEnd). x.zone) q); window = f; shut = s; was = sym (end_of_lem z f s) ∙ ap (λ (x : OldEnd). x.end) q })

    by_test : (t : Bool) → window_opens z ≡ t
        → IsTold (cond t (old_ends_from (suc k) zs) (record { zone = k; end = end_of z.watch } ∷ old_ends_from (suc k) zs)) n end
        → (IsTold (old_ends_from (suc k) zs) n end → Found (suc k) zs n end) → Found k (z ∷ zs) n end
    by_test true e t rest = later k z zs n end (rest t)
    by_test false e (inl q) rest = here e q
    by_test false e (inr t) rest = later k z zs n end (rest t)

found_told : (k : ℕ) (zs : List Zone) (n end i : ℕ) (f : WindowFigures) → n ≡ k + i → Shut (get_or zs i empty_zone) f → f.end ≡ end → IsTold (old_ends_from k zs) n end
unfolding old_ends_from
found_told k [] n end i f p s w = never (sym (shut_breaks empty_zone f s))
found_told k (z ∷ zs) n end zero f p s w =
    let here : k ≡ n = omega (arith, p) in
    let was = end_of_lem z f s ∙ w in
    rw (shut_breaks z f s) (inl (λ j. record { zone = here j; end = was j }))
found_told k (z ∷ zs) n end (suc i) f p s w = by_test (window_opens z) (found_told (suc k) zs n end i f (omega (arith, p)) s w)
  where
    by_test : (t : Bool) → IsTold (old_ends_from (suc k) zs) n end → IsTold (cond t (old_ends_from (suc k) zs) (record { zone = k; end = end_of z.watch } ∷ old_ends_from (suc k) zs)) n end
    by_test true t = t
    by_test false t = inr t

rises : (k : ℕ) (zs : List Zone) → Rising (old_ends_from k zs)
unfolding old_ends_from
rises k [] = tt
rises k (z ∷ zs) = by_test (window_opens z) (rises (suc k) zs)
  where
    by_test : (t : Bool) → Rising (old_ends_from (suc k) zs) → Rising (cond t (old_ends_from (suc k) zs) (record { zone = k; end = end_of z.watch } ∷ old_ends_from (suc k) zs))
    by_test true h = h
    by_test false h = (λ n end t. omega (arith, (told_found (suc k) zs n end t).place), h)

told_list : (l : List OldEnd) → told_in (told_as l) ≡ l
told_list l = take-append_seam l _

-- ---- what is handed back is sound

mended_sound : (r : Record) → otherwise_sound r ≡ true → sound (all_mended r) ≡ true
mended_sound r s =
    sound_whole (all_mended r)
    (mapped_parts mended mended_present mended_address zone_otherwise_sound zone_sound (λ z e. sound_zone (mended z) (mended_otherwise z e) (mended_opens z)) r (otherwise_parts r s))

-- ---- all of it

done_values : (r : Record) → (repair_of r).result.values ≡ []
unfolding repair_of
done_values r = by_done (is_zero (first (repair_rows r)))
  where
    by_done : (t : Bool) → ◌≡◌ {A = List Figures} (cond t [] []) []
    by_done true = refl
    by_done false = refl

pub repair_mends : RepairMends
repair_mends r e = record { done = (repair_goes r e, done_values r); ends = ends; others = others; told = told; rising = rw told_is (rises 0 r.zones); sound_after = rw (done_after r e) (mended_sound r e) }
  where
    told_is : told_in (repair_of r).told ≡ old_ends_from 0 r.zones
    told_is = ap told_in (done_told r e) ∙ told_list (old_ends_from 0 r.zones)

    ends : (n : ℕ) (f : WindowFigures) → Shut (zone_at r n) f → SetsFigures (zone_at r n) (AhueWindow (opened f)) (zone_at (repair_of r).result.after n)
    ends n f s = rw (after_at r n e) (mended_sets (zone_at r n) f s)

    others : (n : ℕ) → ((f : WindowFigures) → Shut (zone_at r n) f → ⊥) → zone_at (repair_of r).result.after n ≡ zone_at r n
    others n u = after_at r n e ∙ by_window (zone_at r n) (mended_same (zone_at r n)) (λ f s. absurd (u f s))

    found_there : (n end : ℕ) → Found 0 r.zones n end → (window : WindowFigures) × Shut (zone_at r n) window × (window.end ≡ end)
    found_there n end f =
        let p : n ≡ f.i = omega (arith, f.place) in
        (f.window, rw p f.shut, f.was)

    told : (n end : ℕ) → IsTold (told_in (repair_of r).told) n end ↔ ((window : WindowFigures) × Shut (zone_at r n) window × (window.end ≡ end))
    told n end = rw told_is ((λ t. found_there n end (told_found 0 r.zones n end t)), (λ k. found_told 0 r.zones n end n k.0 (omega arith) k.1 k.2))

-- ---- a sound record

mended_none : (zs : List Zone) → every window_opens zs ≡ true → map mended zs ≡ zs
mended_none [] w = refl
mended_none (z ∷ zs) w =
    let parts = both (window_opens z) (every window_opens zs) w in
    rw (mended_same z parts.0, mended_none zs parts.1)

told_none : (k : ℕ) (zs : List Zone) → every window_opens zs ≡ true → old_ends_from k zs ≡ []
unfolding old_ends_from
told_none k [] w = refl
told_none k (z ∷ zs) w =
    let parts = both (window_opens z) (every window_opens zs) w in
    rw parts.0 (told_none (suc k) zs parts.1)

pub repair_of_sound : RepairOfSound
unfolding repair_of
repair_of_sound r s =
    let parts = sound_both r s in
    rw (parts.0, mended_none r.zones parts.1, told_none 0 r.zones parts.1)

-- so a second repair alters and tells nothing
pub repair_again : RepairAgain
repair_again r e = repair_of_sound (repair_of r).result.after (repair_mends r e).sound_after

-- ---- what is no such window is judged as before

pub sound_as_before : SoundAsBefore
sound_as_before r u = by_test (otherwise_sound r) refl
  where
    opens_at : (n : ℕ) → window_opens (zone_at r n) ≡ true
    opens_at n = by_window (zone_at r n) (λ w. w) (λ f s. absurd (u n f s))

    by_test : (t : Bool) → otherwise_sound r ≡ t → sound r ≡ t
    by_test true e = both_sound r e (every_where window_opens r.zones opens_at)
    by_test false e = not_otherwise r e

-- What is found is the first zone that holds the address; where nothing is found, no zone holds it. Assumes nothing.
use Prim.Native.Nat.{ℕ, zero, suc, ◌≤◌, ◌<◌}
use mathlib.Core.Path.{◌≡◌, refl, sym, ap, ◌∙◌}
use mathlib.Core.Logic.{◌↔◌}
use mathlib.Core.Bool.{Bool, true, false}
use mathlib.Core.List.{List, [], ◌∷◌}
use native.Mathlib.Omega.{arith}
use lib.ListN.{get_or, get_or-eq_default}
use lib.Dec.{ltb, eqb}
use borrow.Author.Tests.{ltb-true, ltb-false, lt-leb, eqb-true, eq-eqb}
use Rattle.zone.specs.declared.zones.Zone.{Zone}
use Rattle.zone.specs.Zones.{empty_zone, holds}
use Rattle.zone.proofs.Tests.{never, both, or_true}
use Rattle.card.specs.declared.records.Record.{Record}
use Rattle.std.specs.Prelude.{Option, Some, None}
use Rattle.card.specs.Records.{zone_at, held_in, differ, sound, no_zone, find_of}
use Rattle.card.specs.Rules.{FirstToHold}
use Rattle.card.proofs.Storing.{differ_parts, sound_parts}
use Rattle.card.proofs.Searches.{found_from, nowhere_from}

is_first : (r : Record) (a n : ℕ) → find_of r a ≡ Some n → FirstToHold r a n
is_first r a n e =
    let f = found_from 0 r.zones a n e in
    let p : n ≡ f.i = omega (arith, f.place) in
    record { here = rw p f.here; earlier = λ m l. f.earlier m (omega arith) }

none_holds : (r : Record) (a : ℕ) → find_of r a ≡ None → (m : ℕ) → holds a (zone_at r m) ≡ false
none_holds r a e = nowhere_from 0 r.zones a e

-- of two first zones neither is before the other
one_first : (r : Record) (a n k : ℕ) → FirstToHold r a n → FirstToHold r a k → k ≡ n
one_first r a n k f g = by_order (ltb k n) (ltb n k) refl refl
  where
    by_order : (t u : Bool) → ltb k n ≡ t → ltb n k ≡ u → k ≡ n
    by_order true u e v = never (sym (f.earlier k (ltb-true k n e)) ∙ g.here)
    by_order false true e v = never (sym (g.earlier n (ltb-true n k v)) ∙ f.here)
    by_order false false e v = omega (arith, ltb-false k n e, ltb-false n k v)

pub found_first : (r : Record) (address n : ℕ) → (find_of r address ≡ Some n) ↔ FirstToHold r address n
found_first r address n = (is_first r address n, λ f. by_found (find_of r address) refl f)
  where
    by_found : (x : Option ℕ) → find_of r address ≡ x → FirstToHold r address n → find_of r address ≡ Some n
    by_found (Some k) e f = e ∙ ap Some (one_first r address n k f (is_first r address k e))
    by_found None e f = never (sym (none_holds r address e n) ∙ f.here)

pub found_nowhere : (r : Record) (address : ℕ) → (find_of r address ≡ None) ↔ ((m : ℕ) → holds address (zone_at r m) ≡ false)
found_nowhere r address = (none_holds r address, λ h. by_found (find_of r address) refl h)
  where
    by_found : (x : Option ℕ) → find_of r address ≡ x → ((m : ℕ) → holds address (zone_at r m) ≡ false) → find_of r address ≡ None
    by_found (Some k) e h = never (sym (h k) ∙ (is_first r address k e).here)
    by_found None e h = e

-- two records whose zones hold an address alike find it alike
pub find_alike : (r r' : Record) (address : ℕ) → ((m : ℕ) → holds address (zone_at r m) ≡ holds address (zone_at r' m)) → find_of r address ≡ find_of r' address
find_alike r r' address same = by_found (find_of r address) refl
  where
    by_found : (x : Option ℕ) → find_of r address ≡ x → x ≡ find_of r' address
    by_found (Some n) e = let f = is_first r address n e in sym ((found_first r' address n).1 (record { here = sym (same n) ∙ f.here; earlier = λ m l. sym (same m) ∙ f.earlier m l }))
    by_found None e = sym ((found_nowhere r' address).1 (λ m. sym (same m) ∙ none_holds r address e m))

-- above 15 a sound record has the empty zone
pub past_empty : (r : Record) (n : ℕ) → sound r ≡ true → 16 ≤ n → zone_at r n ≡ empty_zone
past_empty r n s h = get_or-eq_default r.zones empty_zone {n = n} (omega (arith, (sound_parts r s).sixteen, h))

-- a present zone of a sound record is one of the sixteen
pub present_below : (r : Record) (n : ℕ) → sound r ≡ true → (zone_at r n).present ≡ true → n < 16
present_below r n s p = by_place (ltb n 16) refl
  where
    by_place : (t : Bool) → ltb n 16 ≡ t → n < 16
    by_place true k = ltb-true n 16 k
    by_place false k = never (ap (λ (z : Zone). z.present) (sym (past_empty r n s (ltb-false n 16 k))) ∙ p)

-- in a sound record what is found is a present zone
pub found_there : (r : Record) (address n : ℕ) → sound r ≡ true → find_of r address ≡ Some n → no_zone r n ≡ false
found_there r address n s e =
    let here = (is_first r address n e).here in
    let present = (both (zone_at r n).present (eqb (zone_at r n).address address) here).0 in
    rw (lt-leb 16 n (present_below r n s present), present)

-- ---- in a sound record a zone is found by the address that it holds, its own

held_here : (zs : List Zone) (a n : ℕ) → holds a (get_or zs n empty_zone) ≡ true → held_in zs a ≡ true
held_here [] a n h = never h
held_here (z ∷ zs) a zero h = rw h
held_here (z ∷ zs) a (suc n) h = rw (held_here zs a n h) (or_true (holds a z))

one_holder : (zs : List Zone) (a m n : ℕ) → differ zs ≡ true → m < n → holds a (get_or zs m empty_zone) ≡ true → holds a (get_or zs n empty_zone) ≡ true → ⊥
one_holder [] a m n d l h k = never h
one_holder (z ∷ zs) a zero zero d l h k = omega arith
one_holder (z ∷ zs) a zero (suc n) d l h k =
    let here = both z.present (eqb z.address a) h in
    let held : held_in zs z.address ≡ true = rw (eqb-true z.address a here.1) (held_here zs a n k) in
    never (sym (differ_parts z zs d).0 ∙ rw (here.0, held))
one_holder (z ∷ zs) a (suc m) zero d l h k = omega arith
one_holder (z ∷ zs) a (suc m) (suc n) d l h k = one_holder zs a m n (differ_parts z zs d).1 (omega arith) h k

pub find_held : (r : Record) (a n : ℕ) → sound r ≡ true → holds a (zone_at r n) ≡ true → find_of r a ≡ Some n
find_held r a n s here = (found_first r a n).1 (record { here = here; earlier = λ m l. by_test m l (holds a (zone_at r m)) refl })
  where
    by_test : (m : ℕ) → m < n → (t : Bool) → holds a (zone_at r m) ≡ t → t ≡ false
    by_test m l true e = absurd (one_holder r.zones a m n (sound_parts r s).addresses l e here)
    by_test m l false e = refl

pub find_own : (r : Record) (n : ℕ) → sound r ≡ true → (zone_at r n).present ≡ true → find_of r (zone_at r n).address ≡ Some n
find_own r n s p = find_held r (zone_at r n).address n s (rw (p, eq-eqb (zone_at r n).address (zone_at r n).address refl))

-- A search from some zone on ends at the first zone of the list that holds the address, or finds none that does. Assumes nothing.
use Prim.Native.Nat.{ℕ, zero, suc, ◌+◌, ◌<◌}
use mathlib.Core.Path.{◌≡◌, refl}
use mathlib.Core.Bool.{Bool, true, false, cond}
use mathlib.Core.List.{List, [], ◌∷◌}
use native.Mathlib.Omega.{arith}
use lib.ListN.{get_or}
use Rattle.zone.specs.declared.zones.Zone.{Zone}
use Rattle.zone.specs.Zones.{empty_zone, holds}
use Rattle.std.specs.Prelude.{Some, None}
use Rattle.card.specs.Records.{find_from}

-- what is found from zone k on is zone k + i, where i is the first of the list to hold the address
pub record FoundFrom (k : ℕ) (zs : List Zone) (a n : ℕ) : Type 0 where
  pub i : ℕ
  pub place : n ≡ k + i
  pub here : holds a (get_or zs i empty_zone) ≡ true
  pub earlier : (m : ℕ) → m < i → holds a (get_or zs m empty_zone) ≡ false

one_more_lem : (z : Zone) (zs : List Zone) (a i : ℕ) → holds a z ≡ false → ((m : ℕ) → m < i → holds a (get_or zs m empty_zone) ≡ false) → (m : ℕ) → m < suc i → holds a (get_or (z ∷ zs) m empty_zone) ≡ false
one_more_lem z zs a i e h zero l = e
one_more_lem z zs a i e h (suc m) l = h m (omega arith)

pub found_from : (k : ℕ) (zs : List Zone) (a n : ℕ) → find_from k zs a ≡ Some n → FoundFrom k zs a n
unfolding find_from
found_from k [] a n e = absurd (let z : ◌≡◌ {A = ℕ} 0 1 = cc in omega arith)
found_from k (z ∷ zs) a n e = by_first (holds a z) refl e (found_from (suc k) zs a n)
  where
    by_first : (t : Bool) → holds a z ≡ t → cond t (Some k) (find_from (suc k) zs a) ≡ Some n → (find_from (suc k) zs a ≡ Some n → FoundFrom (suc k) zs a n) → FoundFrom k (z ∷ zs) a n
    by_first true h e rest = let p : k ≡ n = cc in record { i = 0; place = omega arith; here = h; earlier = λ m l. absurd (omega arith) }
    by_first false h e rest =
        let f = rest e in
        record { i = suc f.i; place = let p = f.place in omega arith; here = f.here; earlier = one_more_lem z zs a f.i h f.earlier }

pub nowhere_from : (k : ℕ) (zs : List Zone) (a : ℕ) → find_from k zs a ≡ None → (m : ℕ) → holds a (get_or zs m empty_zone) ≡ false
unfolding find_from
nowhere_from k [] a e m = refl
nowhere_from k (z ∷ zs) a e m = by_first (holds a z) refl e (nowhere_from (suc k) zs a) m
  where
    by_first : (t : Bool) → holds a z ≡ t → cond t (Some k) (find_from (suc k) zs a) ≡ None → (find_from (suc k) zs a ≡ None → (m : ℕ) → holds a (get_or zs m empty_zone) ≡ false) → (m : ℕ) → holds a (get_or (z ∷ zs) m empty_zone) ≡ false
    by_first true h e rest m = absurd (let z : ◌≡◌ {A = ℕ} 0 1 = cc in omega arith)
    by_first false h e rest zero = h
    by_first false h e rest (suc m) = rest e m

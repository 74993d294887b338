-- A sound record in which one zone was stored: when it is sound still. Assumes nothing.
use Prim.Native.Nat.{ℕ, zero, suc, ◌<◌}
use mathlib.Core.Path.{◌≡◌, refl, sym, ◌∙◌}
use mathlib.Core.Bool.{Bool, true, false, not, ◌&&◌, ◌||◌}
use mathlib.Core.List.{List, [], ◌∷◌}
use native.Mathlib.Omega.{arith}
use lib.ListN.{length, get_or, set, length-set}
use lib.Dec.{eqb}
use borrow.Author.Tests.{eqb-true, eq-eqb, not-true}
use Rattle.zone.specs.declared.zones.Zone.{Zone}
use Rattle.zone.specs.Lists.{every}
use Rattle.zone.specs.Zones.{empty_zone, zone_otherwise_sound, window_opens, zone_sound, holds}
use Rattle.zone.proofs.Tests.{never, and_l, and_r, both, neither, eqb_sym, or_true}
use Rattle.zone.proofs.Sound.{empty_sound, sound_zone, sound_zone_parts}
use Rattle.card.specs.declared.records.Record.{Record}
use Rattle.card.specs.Records.{zone_at, with_zone, held_in, differ, sound_by, otherwise_sound, sound}

-- ---- the scans after one zone is set

every_set : (test : Zone → Bool) (zs : List Zone) (n : ℕ) (z : Zone) → every test zs ≡ true → test z ≡ true → every test (set zs n z) ≡ true
every_set test [] n z s e = refl
every_set test (x ∷ xs) zero z s e = rw (e, (both (test x) (every test xs) s).1)
every_set test (x ∷ xs) (suc n) z s e = rw ((both (test x) (every test xs) s).0, every_set test xs n z (both (test x) (every test xs) s).1 e)

pub every_at : (test : Zone → Bool) (zs : List Zone) (n : ℕ) (d : Zone) → test d ≡ true → every test zs ≡ true → test (get_or zs n d) ≡ true
every_at test [] n d e s = e
every_at test (x ∷ xs) zero d e s = (both (test x) (every test xs) s).0
every_at test (x ∷ xs) (suc n) d e s = every_at test xs n d e (both (test x) (every test xs) s).1

pub every_where : (test : Zone → Bool) (zs : List Zone) → ((n : ℕ) → test (get_or zs n empty_zone) ≡ true) → every test zs ≡ true
every_where test [] h = refl
every_where test (x ∷ xs) h = rw (h 0, every_where test xs (λ n. h (suc n)))

-- of an element that is there no default is asked
pub every_in : (test : Zone → Bool) (zs : List Zone) (n : ℕ) (d : Zone) → n < length zs → every test zs ≡ true → test (get_or zs n d) ≡ true
every_in test [] n d h s = absurd (omega arith)
every_in test (x ∷ xs) zero d h s = (both (test x) (every test xs) s).0
every_in test (x ∷ xs) (suc n) d h s = every_in test xs n d (omega arith) (both (test x) (every test xs) s).1

held_set : (a : ℕ) (zs : List Zone) (n : ℕ) (z : Zone) → held_in zs a ≡ false → holds a z ≡ false → held_in (set zs n z) a ≡ false
held_set a [] n z h e = refl
held_set a (x ∷ xs) zero z h e = rw (e, (neither (holds a x) (held_in xs a) h).1)
held_set a (x ∷ xs) (suc n) z h e = rw ((neither (holds a x) (held_in xs a) h).0, held_set a xs n z (neither (holds a x) (held_in xs a) h).1 e)

-- of a list whose addresses differ: the first zone's is not held further on, and the others' differ
pub differ_parts : (x : Zone) (xs : List Zone) → differ (x ∷ xs) ≡ true → ((x.present && held_in xs x.address) ≡ false) × (differ xs ≡ true)
unfolding differ
differ_parts x xs s =
    let parts = both (not (x.present && held_in xs x.address)) (differ xs) s in
    (not-true (x.present && held_in xs x.address) parts.0, parts.1)

-- a zone clashes with none of a list: it is absent, or nobody there holds its address
clash_parts : (p k h : Bool) → (p && (k || h)) ≡ false → ((p && k) ≡ false) × ((p && h) ≡ false)
clash_parts true k h e = neither k h e
clash_parts false k h e = (refl, refl)

differ_set : (zs : List Zone) (n : ℕ) (z : Zone) → differ zs ≡ true → (z.present && held_in zs z.address) ≡ false → differ (set zs n z) ≡ true
unfolding differ
differ_set [] n z s e = refl
differ_set (x ∷ xs) zero z s e = rw ((clash_parts z.present (holds z.address x) (held_in xs z.address) e).1, (differ_parts x xs s).1)
differ_set (x ∷ xs) (suc n) z s e =
    let parts = differ_parts x xs s in
    let clash = clash_parts z.present (holds z.address x) (held_in xs z.address) e in
    rw (by_presence x.present parts.0 clash.0, differ_set xs n z parts.1 clash.1)
  where
    by_presence : (p : Bool) → (p && held_in xs x.address) ≡ false → (z.present && (p && eqb x.address z.address)) ≡ false → (p && held_in (set xs n z) x.address) ≡ false
    by_presence false h c = refl
    by_presence true h c = held_set x.address xs n z h (rw (eqb_sym z.address x.address) c)

-- a zone that takes the place of one with its address changes nothing in what is held
module _ (z : Zone) where
  same_held : (a : ℕ) (zs : List Zone) (n : ℕ) → z.present ≡ (get_or zs n empty_zone).present → z.address ≡ (get_or zs n empty_zone).address → held_in (set zs n z) a ≡ held_in zs a
  same_held a [] n p q = refl
  same_held a (x ∷ xs) zero p q = rw (p, q)
  same_held a (x ∷ xs) (suc n) p q = rw (same_held a xs n p q)

  same_differ : (zs : List Zone) (n : ℕ) → z.present ≡ (get_or zs n empty_zone).present → z.address ≡ (get_or zs n empty_zone).address → differ (set zs n z) ≡ differ zs
  unfolding differ
  same_differ [] n p q = refl
  same_differ (x ∷ xs) zero p q = rw (p, q)
  same_differ (x ∷ xs) (suc n) p q = rw (same_held x.address xs n p q, same_differ xs n p q)

-- ---- a zone that is emptied sets its address free

held_at : (zs : List Zone) (n : ℕ) → (get_or zs n empty_zone).present ≡ true → held_in zs (get_or zs n empty_zone).address ≡ true
held_at [] n p = never p
held_at (x ∷ xs) zero p = rw (p, eq-eqb x.address x.address refl)
held_at (x ∷ xs) (suc n) p = rw (held_at xs n p) (or_true (holds (get_or xs n empty_zone).address x))

pub freed : (zs : List Zone) (n : ℕ) → differ zs ≡ true → (get_or zs n empty_zone).present ≡ true → held_in (set zs n empty_zone) (get_or zs n empty_zone).address ≡ false
freed [] n s p = refl
freed (x ∷ xs) zero s p = rw p at (differ_parts x xs s).0
freed (x ∷ xs) (suc n) s p =
    let parts = differ_parts x xs s in
    rw (not_here x.present (eqb x.address (get_or xs n empty_zone).address) refl parts.0, freed xs n parts.1 p)
  where
    not_here : (q t : Bool) → eqb x.address (get_or xs n empty_zone).address ≡ t → (q && held_in xs x.address) ≡ false → (q && t) ≡ false
    not_here false t e h = refl
    not_here true false e h = refl
    not_here true true e h = never (sym h ∙ rw (eqb-true x.address (get_or xs n empty_zone).address e) (held_at xs n p))

-- ---- records

-- the parts of a record's soundness, by what is asked of each zone
pub record SoundBy (zone : Zone → Bool) (r : Record) : Type 0 where
  pub sixteen : length r.zones ≡ 16
  pub zones : every zone r.zones ≡ true
  pub addresses : differ r.zones ≡ true

parts : (zone : Zone → Bool) (r : Record) → sound_by zone r ≡ true → SoundBy zone r
parts zone r s =
    let l : eqb (length r.zones) 16 ≡ true = search and_l in
    record { sixteen = eqb-true (length r.zones) 16 l; zones = search (and_l, and_r); addresses = search (and_l, and_r) }

whole : (zone : Zone → Bool) (r : Record) → SoundBy zone r → sound_by zone r ≡ true
whole zone r k = rw (eq-eqb (length r.zones) 16 k.sixteen, k.zones, k.addresses)

pub sound_parts : (r : Record) → sound r ≡ true → SoundBy zone_sound r
unfolding sound
sound_parts r s = parts zone_sound r s

pub sound_whole : (r : Record) → SoundBy zone_sound r → sound r ≡ true
unfolding sound
sound_whole r k = whole zone_sound r k

-- without the rule for windows
pub otherwise_parts : (r : Record) → otherwise_sound r ≡ true → SoundBy zone_otherwise_sound r
unfolding otherwise_sound
otherwise_parts r s = parts zone_otherwise_sound r s

otherwise_whole : (r : Record) → SoundBy zone_otherwise_sound r → otherwise_sound r ≡ true
unfolding otherwise_sound
otherwise_whole r k = whole zone_otherwise_sound r k

-- sound is otherwise sound, and every zone's rule
every_sound : (zs : List Zone) → every zone_otherwise_sound zs ≡ true → every window_opens zs ≡ true → every zone_sound zs ≡ true
every_sound [] s w = refl
every_sound (z ∷ zs) s w =
    let p = both (zone_otherwise_sound z) (every zone_otherwise_sound zs) s in
    let q = both (window_opens z) (every window_opens zs) w in
    rw (sound_zone z p.0 q.0, every_sound zs p.1 q.1)

every_otherwise : (zs : List Zone) → every zone_sound zs ≡ true → (every zone_otherwise_sound zs ≡ true) × (every window_opens zs ≡ true)
every_otherwise [] s = (refl, refl)
every_otherwise (z ∷ zs) s =
    let p = both (zone_sound z) (every zone_sound zs) s in
    let here = sound_zone_parts z p.0 in
    let rest = every_otherwise zs p.1 in
    (rw (here.0, rest.0), rw (here.1, rest.1))

pub sound_both : (r : Record) → sound r ≡ true → (otherwise_sound r ≡ true) × (every window_opens r.zones ≡ true)
sound_both r s =
    let k = sound_parts r s in
    let p = every_otherwise r.zones k.zones in
    (otherwise_whole r (record { sixteen = k.sixteen; zones = p.0; addresses = k.addresses }), p.1)

pub both_sound : (r : Record) → otherwise_sound r ≡ true → every window_opens r.zones ≡ true → sound r ≡ true
both_sound r s w =
    let k = otherwise_parts r s in
    sound_whole r (record { sixteen = k.sixteen; zones = every_sound r.zones k.zones w; addresses = k.addresses })

pub zone_sound_lem : (r : Record) (n : ℕ) → sound r ≡ true → zone_sound (zone_at r n) ≡ true
zone_sound_lem r n s = every_at zone_sound r.zones n empty_zone empty_sound (sound_parts r s).zones

module _ (r : Record) (n : ℕ) (z : Zone) (s : sound r ≡ true) (e : zone_sound z ≡ true) where
  -- a sound zone that clashes with none may be stored anywhere
  pub stored_new : (z.present && held_in r.zones z.address) ≡ false → sound (with_zone r n z) ≡ true
  stored_new c =
      let k = sound_parts r s in
      sound_whole (with_zone r n z)
      (record { sixteen = length-set r.zones n z ∙ k.sixteen; zones = every_set zone_sound r.zones n z k.zones e; addresses = differ_set r.zones n z k.addresses c })

  -- a sound zone may take the place of one with its address
  pub stored_same : z.present ≡ (zone_at r n).present → z.address ≡ (zone_at r n).address → sound (with_zone r n z) ≡ true
  stored_same p q =
      let k = sound_parts r s in
      sound_whole (with_zone r n z)
      (record { sixteen = length-set r.zones n z ∙ k.sixteen; zones = every_set zone_sound r.zones n z k.zones e; addresses = same_differ z r.zones n p q ∙ k.addresses })

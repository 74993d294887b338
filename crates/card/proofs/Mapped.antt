-- A record in which every zone is altered by one function that keeps who is present and with which address: addresses are held as before, and soundness is a matter of each zone. Assumes nothing.
use Prim.Native.Nat.{ℕ, zero, suc}
use mathlib.Core.Path.{◌≡◌, refl, ap, ◌∙◌}
use mathlib.Core.Bool.{Bool, true}
use mathlib.Core.List.{List, [], ◌∷◌, map}
use lib.ListN.{set, length-map}
use Rattle.zone.specs.declared.zones.Zone.{Zone}
use Rattle.zone.specs.Lists.{every}
use Rattle.zone.proofs.Tests.{both}
use Rattle.card.specs.declared.records.Record.{Record}
use Rattle.card.specs.Records.{held_in, differ}
use Rattle.card.proofs.Storing.{SoundBy}

abbrev pub mapped : (Zone → Zone) → Record → Record
mapped f r = record { zones = map f r.zones }

pub mapped_set : (f : Zone → Zone) (zs : List Zone) (n : ℕ) (z : Zone) → map f (set zs n z) ≡ set (map f zs) n (f z)
mapped_set f [] n z = refl
mapped_set f (x ∷ xs) zero z = refl
mapped_set f (x ∷ xs) (suc n) z = ap (λ (l : List Zone). f x ∷ l) (mapped_set f xs n z)

every_mapped : (f : Zone → Zone) (zone zone' : Zone → Bool) → ((z : Zone) → zone z ≡ true → zone' (f z) ≡ true) → (zs : List Zone) → every zone zs ≡ true → every zone' (map f zs) ≡ true
every_mapped f zone zone' each [] s = refl
every_mapped f zone zone' each (z ∷ zs) s =
    let parts = both (zone z) (every zone zs) s in
    rw (each z parts.0, every_mapped f zone zone' each zs parts.1)

module _ (f : Zone → Zone) (present : (z : Zone) → (f z).present ≡ z.present) (address : (z : Zone) → (f z).address ≡ z.address) where
  pub held_mapped : (zs : List Zone) (a : ℕ) → held_in (map f zs) a ≡ held_in zs a
  held_mapped [] a = refl
  held_mapped (z ∷ zs) a = rw (present z, address z, held_mapped zs a)

  differ_mapped : (zs : List Zone) → differ (map f zs) ≡ differ zs
  unfolding differ
  differ_mapped [] = refl
  differ_mapped (z ∷ zs) = rw (present z, address z, held_mapped zs z.address, differ_mapped zs)

  -- sound by one test of a zone, and then by another
  pub mapped_parts : (zone zone' : Zone → Bool) → ((z : Zone) → zone z ≡ true → zone' (f z) ≡ true) → (r : Record) → SoundBy zone r → SoundBy zone' (mapped f r)
  mapped_parts zone zone' each r k = record {
    sixteen = length-map r.zones f ∙ k.sixteen;
    zones = every_mapped f zone zone' each r.zones k.zones;
    addresses = differ_mapped r.zones ∙ k.addresses;
  }

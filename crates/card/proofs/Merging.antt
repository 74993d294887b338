-- What a merging keeps, and what a done one sets: zone a's kilograms stand on b, which is otherwise as it was, and a is removed. Assumes nothing.
use Prim.Native.Nat.{ℕ, ◌<◌}
use mathlib.Core.Path.{◌≡◌, refl, ap, ◌∙◌, subst, sym}
use mathlib.Core.Logic.{◌⊎◌, inl, inr}
use mathlib.Core.Bool.{true, not}
use mathlib.Core.List.{[]}
use lib.Dec.{leb}
use lib.Seq.{get_or-set_other}
use borrow.Author.Tests.{leb-false, eqb-false, not-false}
use Rattle.zone.specs.declared.zones.Zone.{Zone}
use Rattle.zone.specs.Zones.{empty_zone, booking_in_range, with_kilograms}
use Rattle.zone.specs.Rules.{SetsKilograms}
use Rattle.zone.proofs.Tests.{neither}
use Rattle.zone.proofs.Sound.{empty_sound, kilograms_sound}
use Rattle.zone.proofs.Written.{sets_kilograms}
use Rattle.card.specs.declared.records.Record.{Record}
use Rattle.card.specs.Records.{zone_at, with_zone, sound, no_zone}
use Rattle.card.specs.Calls.{together, merge_rows, merged, merge_of}
use Rattle.card.specs.Rules.{KeepsButTwo, Frees, Folds}
use Rattle.card.proofs.Storing.{zone_sound_lem, stored_new, stored_same}
use Rattle.card.proofs.Kept.{keeps_besides, merge_exactly}
use Rattle.card.proofs.Sets.{stored_there, emptied_frees}

-- what holds where a merging is done
pub record AtZones (r : Record) (a b : ℕ) : Type 0 where
  pub sound_record : sound r ≡ true
  pub below_a : a < 16
  pub below_b : b < 16
  pub present_a : (zone_at r a).present ≡ true
  pub present_b : (zone_at r b).present ≡ true
  pub apart : a ≡ b → ⊥
  pub in_range_lem : booking_in_range (together r a b) ≡ true

pub merge_at_zones : (r : Record) (a b : ℕ) → (merge_of r a b).number ≡ 0 → AtZones r a b
merge_at_zones r a b e =
    let passed = (merge_exactly r a b).done.0 e in
    let missing = neither (no_zone r a) (no_zone r b) (passed 1) in
    let first = neither (leb 16 a) (not (zone_at r a).present) missing.0 in
    let second = neither (leb 16 b) (not (zone_at r b).present) missing.1 in
    record {
      sound_record = not-false (sound r) (passed 0);
      below_a = leb-false 16 a first.0;
      below_b = leb-false 16 b second.0;
      present_a = not-false (zone_at r a).present first.1;
      present_b = not-false (zone_at r b).present second.1;
      apart = eqb-false a b (passed 2);
      in_range_lem = not-false (booking_in_range (together r a b)) (passed 3);
    }

-- ---- two zones stored, first b and then a

two_others : (r : Record) (a b m : ℕ) (y z : Zone) → (m ≡ a → ⊥) → (m ≡ b → ⊥) → zone_at (with_zone (with_zone r b z) a y) m ≡ zone_at r m
two_others r a b m y z u v = get_or-set_other (with_zone r b z).zones a m y empty_zone u ∙ get_or-set_other r.zones b m z empty_zone v

second_stays : (r : Record) (a b : ℕ) (y z : Zone) → AtZones r a b → zone_at (with_zone (with_zone r b z) a y) b ≡ z
second_stays r a b y z k = get_or-set_other (with_zone r b z).zones a b y empty_zone (λ q. k.apart (sym q)) ∙ stored_there r b z k.sound_record k.below_b

-- zone a, emptied, is set free, whatever is stored at b
first_freed : (r : Record) (a b : ℕ) (z : Zone) → AtZones r a b → sound (with_zone r b z) ≡ true → Frees r a (with_zone (with_zone r b z) a empty_zone)
first_freed r a b z k s =
    let there = get_or-set_other r.zones b a z empty_zone k.apart in
    let f = emptied_frees (with_zone r b z) a s k.below_a (ap (λ (z : Zone). z.present) there ∙ k.present_a) in
    let address = ap (λ (z : Zone). z.address) there in
    record { zone = f.zone; unheld = rw address at f.unheld; number = f.number; address = rw address at f.address }

-- ---- the merging

-- zone b with the kilograms of both is sound
joined_sound : (r : Record) (a b : ℕ) → AtZones r a b → sound (with_zone r b (with_kilograms (zone_at r b) (together r a b))) ≡ true
joined_sound r a b k =
    stored_same r b (with_kilograms (zone_at r b) (together r a b)) k.sound_record
    (kilograms_sound (zone_at r b) (together r a b) k.present_b (zone_sound_lem r b k.sound_record) k.in_range_lem)
    refl
    refl

pub merge_keeps : (r : Record) (a b : ℕ) → KeepsButTwo r a b (merge_of r a b)
unfolding merge_of
merge_keeps r a b =
    keeps_besides r (λ m. (m ≡ a) ⊎ (m ≡ b)) (merge_rows r a b) [] (merged r a b)
    (λ m u. two_others r a b m _ _ (λ e. u (inl e)) (λ e. u (inr e)))
    (λ e s. stored_new (with_zone r b _) a _ (joined_sound r a b (merge_at_zones r a b e)) empty_sound refl)

pub merge_after : (r : Record) (a b : ℕ) → (merge_of r a b).number ≡ 0 → (merge_of r a b).after ≡ merged r a b
unfolding merge_of
merge_after r a b e = rw e

pub merge_folds : (r : Record) (a b : ℕ) → (merge_of r a b).number ≡ 0 → Folds r a b (merge_of r a b).after
merge_folds r a b e =
    let k = merge_at_zones r a b e in
    rw (merge_after r a b e)
    (record {
      removed = first_freed r a b _ k (joined_sound r a b k);
      moved = subst (SetsKilograms (zone_at r b) (together r a b)) (sym (second_stays r a b _ _ k)) (sets_kilograms (zone_at r b) (together r a b));
      others = λ m u v. two_others r a b m _ _ u v;
    })

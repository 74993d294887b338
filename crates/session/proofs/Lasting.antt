-- What each call keeps of a present zone, a session keeps. Assumes nothing.
use Prim.Native.Nat.{ℕ}
use mathlib.Core.Path.{◌≡◌, refl, ◌∙◌}
use mathlib.Core.Bool.{true}
use mathlib.Core.List.{List, [], ◌∷◌}
use Rattle.zone.specs.declared.zones.Zone.{Zone}
use Rattle.card.specs.declared.records.Record.{Record}
use Rattle.card.specs.Records.{zone_at}
use Rattle.session.specs.Sessions.{Call, after, run, Throughout}

-- what is kept of the zone from call to call: it is present, and some part of it is the same
pub record Kept {A : Type 0} (part : Zone → A) (before after : Zone) : Type 0 where
  pub present : after.present ≡ true
  pub same : part after ≡ part before

module _ {A : Type 0} (part : Zone → A) (n : ℕ) (Leaves : Record → Call → Type 0)
    (one : (r : Record) (call : Call) → (zone_at r n).present ≡ true → Leaves r call → Kept part (zone_at r n) (zone_at (after r call) n)) where
  pub kept_throughout : (r : Record) (calls : List Call) → (zone_at r n).present ≡ true → Throughout Leaves r calls → part (zone_at (run r calls) n) ≡ part (zone_at r n)
  kept_throughout r [] p u = refl
  kept_throughout r (call ∷ calls) p u =
      let k = one r call p u.0 in
      kept_throughout (after r call) calls k.present u.1 ∙ k.same

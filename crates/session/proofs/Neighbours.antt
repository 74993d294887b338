-- What a line or a frame does at a zone hangs on that zone and on soundness alone; so the traffic of its neighbours may be struck out (document 02, Req 12). Assumes nothing.
use Rattle.std.specs.Prelude.{Some}
use Prim.Native.Nat.{ℕ}
use mathlib.Core.Path.{◌≡◌, refl, sym, ap, ◌∙◌, subst}
use mathlib.Core.Bool.{Bool, true, false, not, ◌&&◌}
use mathlib.Core.List.{List}
use lib.Dec.{ltb}
use borrow.Author.Tests.{ltb-true, ltb-false, eqb-true, eq-eqb, not-true, not-false}
use Rattle.zone.specs.declared.figures.Figures.{Figures}
use Rattle.zone.specs.declared.zones.Zone.{Zone}
use Rattle.zone.specs.Zones.{figures_of, with_figures}
use Rattle.zone.specs.Rules.{SameHead}
use Rattle.zone.proofs.Tests.{never, and_r, and_false}
use Rattle.card.specs.declared.records.Record.{Record}
use Rattle.card.specs.Records.{empty_record, zone_at, sound}
use Rattle.card.proofs.Storing.{zone_sound_lem, stored_new}
use Rattle.card.proofs.Finding.{find_held, past_empty}
use Rattle.card.proofs.Sets.{stored_there}
use Rattle.card.proofs.Worked.{empty_record_sound}
use Rattle.frame.specs.Frame.{shaped, address_in}
use Rattle.roads.specs.Calls.{zone_found, holder}
use Rattle.roads.specs.Rules.{JudgesAlike}
use Rattle.roads.proofs.CallLaws.{right_sum}
use Rattle.roads.proofs.Local.{text_local, frame_local}
use Rattle.session.specs.Sessions.{run_by, heard_by, strike, SameWithout, NotMissed}
use Rattle.session.specs.Inputs.{Input, on_port, on_pair, next, heard}
use Rattle.session.specs.Order.{goes_to}
use Rattle.session.specs.Neighbours.{is_for, not_for, NeighboursDoNotDisturb, AtTheZone, HangsOnTheZone, AddressStays, EvenFromAnother, alone, Unplugged, Otherwise, HoweverRead, by_fifth_byte, ByFifthByteToo, LeavesOthers}
use Rattle.session.proofs.Done.{frame_is_done}
use Rattle.session.proofs.Demand1.{same_holder}
use Rattle.session.proofs.Order.{Stores, stores_there, stored_zone, touches, idle_kept, Effect, idle, stores, effect, same_head, head_stays, same_sound, idle_too, stores_too}
use Rattle.session.proofs.Struck.{may_be_struck, strike_again}

-- ---- what is for a zone, and where it goes

-- in a sound record who holds the address of a frame for zone n is zone n
held_there : (r : Record) (n : ℕ) (bytes room : List ℕ) → sound r ≡ true → is_for r n (on_pair bytes room) ≡ true → holder r bytes ≡ Some n
held_there r n bytes room s e = find_held r (address_in bytes) n s (and_r (shaped bytes) _ e)

-- so what is for zone n goes to it
goes_there : (r : Record) (n : ℕ) (x : Input) → sound r ≡ true → is_for r n x ≡ true → goes_to r x ≡ n
goes_there r n (on_port m line room) s e = eqb-true m n e
goes_there r n (on_pair bytes room) s e = ap zone_found (held_there r n bytes room s e)

-- and what is stored is for the zone that it goes to
stored_for : (r : Record) (x : Input) (f : Figures) → Stores r x f → is_for r (goes_to r x) x ≡ true
stored_for r (on_port m line room) f s = eq-eqb m m refl
stored_for r (on_pair bytes room) f s =
    let w = frame_is_done r bytes room s.done in
    let e : w.zone ≡ goes_to r (on_pair bytes room) = ap zone_found (sym w.found) in
    rw (← e) (rw ((right_sum bytes _ _ w.reads).0, w.present.present, eq-eqb _ _ w.address))

-- is_for asks for presence and address alone
asked_alike : (r r' : Record) (n : ℕ) → SameHead (zone_at r n) (zone_at r' n) → (x : Input) → is_for r' n x ≡ is_for r n x
asked_alike r r' n same (on_port m line room) = refl
asked_alike r r' n same (on_pair bytes room) = ap (λ (t : Bool). shaped bytes && t) (same_holder (address_in bytes) same)

-- ---- one input

-- what is not for the zone leaves it as it was
others_keep : (r : Record) (n : ℕ) (x : Input) → is_for r n x ≡ false → zone_at (next r x) n ≡ zone_at r n
others_keep r n x e = by_effect (effect r x)
  where
    by_effect : Effect r x → zone_at (next r x) n ≡ zone_at r n
    by_effect (idle u) = ap (λ (s : Record). zone_at s n) (idle_kept r x u)
    by_effect (stores f s) = touches r x n (λ q. never (sym e ∙ ap (λ (m : ℕ). is_for r m x) q ∙ stored_for r x f s))

-- and what is stored in it sets its figures
stored_at : (r : Record) (n : ℕ) (x : Input) (f : Figures) → Stores r x f → goes_to r x ≡ n → zone_at (next r x) n ≡ with_figures (zone_at r n) f
stored_at r n x f s q = subst (λ (m : ℕ). zone_at (next r x) m ≡ with_figures (zone_at r m) f) q (stored_zone r x f s)

-- the same zone judges alike
same_judge : {z z' : Zone} → z ≡ z' → JudgesAlike z z'
same_judge e = record { present = ap (λ (z : Zone). z.present) e; range = ap (λ (z : Zone). z.range) e; state = ap (λ (z : Zone). z.status.state) e }

module _ (r r' : Record) (n : ℕ) (s : sound r ≡ sound r') (e : zone_at r n ≡ zone_at r' n) where
  asked : (x : Input) → is_for r' n x ≡ is_for r n x
  asked = asked_alike r r' n (same_head (sym e))

  -- at the zone that it goes to the records are the same
  same_there : (x : Input) → sound r ≡ true → is_for r n x ≡ true → zone_at r (goes_to r x) ≡ zone_at r' (goes_to r x)
  same_there x p f = rw (goes_there r n x p f) e

  -- the same is heard of what is for the zone
  heard_alike : (x : Input) → is_for r n x ≡ true → heard r x ≡ heard r' x
  heard_alike (on_port m line room) f =
      let q : zone_at r m ≡ zone_at r' m = rw (eqb-true m n f) e in
      let alike = text_local r r' m line room s (same_judge q) (λ d g h. ap (λ (z : Zone). figures_of z g) q) in
      λ i. record { said = alike.0 i; place = alike.1 i }
  heard_alike (on_pair bytes room) f =
      let x = on_pair bytes room in
      let alike = frame_local r r' bytes room s
      (λ p h. (held_there r n bytes room p f ∙ sym (held_there r' n bytes room (sym s ∙ p) (asked x ∙ f)), same_judge (same_there x p f)))
      (λ d g h. ap (λ (z : Zone). figures_of z g) (same_there x (frame_is_done r bytes room d).present.sound_record f)) in
      λ i. record { said = alike i; place = 0 }

  zone_alike : (x : Input) → is_for r n x ≡ true → zone_at (next r x) n ≡ zone_at (next r' x) n
  zone_alike x f = by_effect (effect r x)
    where
      same : heard r' x ≡ heard r x
      same = sym (heard_alike x f)

      by_effect : Effect r x → zone_at (next r x) n ≡ zone_at (next r' x) n
      by_effect (idle u) = ap (λ (s : Record). zone_at s n) (idle_kept r x u) ∙ e ∙ ap (λ (s : Record). zone_at s n) (sym (idle_too r r' x same u))
      by_effect (stores g t) =
          let p = (stores_there r x g t).sound_record in
          stored_at r n x g t (goes_there r n x p f)
          ∙ ap (λ (z : Zone). with_figures z g) e
          ∙ sym (stored_at r' n x g (stores_too r r' x g same t) (goes_there r' n x (sym s ∙ p) (asked x ∙ f)))

pub at_the_zone : HangsOnTheZone
at_the_zone r r' n x s e = record { zone = by_test (is_for r n x) refl; not_for_it = others_keep r n x; for_it = heard_alike r r' n s e x }
  where
    by_test : (t : Bool) → is_for r n x ≡ t → zone_at (next r x) n ≡ zone_at (next r' x) n
    by_test true f = zone_alike r r' n s e x f
    by_test false f = others_keep r n x f ∙ e ∙ sym (others_keep r' n x (asked r r' n s e x ∙ f))

-- ---- bytes that are no frame

shapeless_for_nobody : (r : Record) (n : ℕ) (bytes room : List ℕ) → shaped bytes ≡ false → is_for r n (on_pair bytes room) ≡ false
shapeless_for_nobody r n bytes room q = rw q

-- what is heard of them hangs on soundness alone
shapeless_alike : (r r' : Record) (bytes room : List ℕ) → sound r ≡ sound r' → shaped bytes ≡ false → heard r (on_pair bytes room) ≡ heard r' (on_pair bytes room)
shapeless_alike r r' bytes room s q =
    let alike = frame_local r r' bytes room s (λ p h. never (sym q ∙ h)) (λ d g h. never (sym q ∙ (right_sum bytes _ _ (frame_is_done r bytes room d).reads).0)) in
    λ i. record { said = alike i; place = 0 }

-- ---- whole sessions

-- two records on the way: both sound or neither, with zone n in common, which is present or not, and has its address, as in the record at the start
record InCommon (start : Record) (n : ℕ) (r r' : Record) : Type 0 where
  both_sound : sound r ≡ sound r'
  zone : zone_at r n ≡ zone_at r' n
  head : SameHead (zone_at start n) (zone_at r n)

one_more_lem : (start r : Record) (n : ℕ) (x : Input) → SameHead (zone_at start n) (zone_at r n) → SameHead (zone_at start n) (zone_at (next r x) n)
one_more_lem start r n x h = let k = head_stays r x n in record { present = k.present ∙ h.present; address = k.address ∙ h.address; range = k.range ∙ h.range }

module _ (start : Record) (n : ℕ) (out : Input → Bool) (otherwise : Otherwise out start n) where
  -- what is struck out is not for the zone
  struck_not_for : (x : Input) → out x ≡ true → is_for start n x ≡ false
  struck_not_for (on_port m line room) e = not-true _ (sym (otherwise.text m line room) ∙ e)
  struck_not_for (on_pair bytes room) e = by_shape (shaped bytes) refl
    where
      by_shape : (t : Bool) → shaped bytes ≡ t → is_for start n (on_pair bytes room) ≡ false
      by_shape true q = not-true _ (sym (otherwise.frame bytes room q) ∙ e)
      by_shape false q = shapeless_for_nobody start n bytes room q

  module _ (r r' : Record) (x : Input) (c : InCommon start n r r') where
    -- the law, at two records on the way
    law : AtTheZone r r' n x
    law = at_the_zone r r' n x c.both_sound c.zone

    heard_for_it : is_for start n x ≡ true → heard r x ≡ heard r' x
    heard_for_it f = law.for_it (asked_alike start r n c.head x ∙ f)

  -- of what remains the same is heard: it is for the zone, or no frame
  remaining_heard : (r r' : Record) (x : Input) → InCommon start n r r' → out x ≡ false → heard r x ≡ heard r' x
  remaining_heard r r' (on_port m line room) c e = heard_for_it r r' (on_port m line room) c (not-false _ (sym (otherwise.text m line room) ∙ e))
  remaining_heard r r' (on_pair bytes room) c e = by_shape (shaped bytes) refl
    where
      by_shape : (t : Bool) → shaped bytes ≡ t → heard r (on_pair bytes room) ≡ heard r' (on_pair bytes room)
      by_shape true q = heard_for_it r r' (on_pair bytes room) c (not-false _ (sym (otherwise.frame bytes room q) ∙ e))
      by_shape false q = shapeless_alike r r' bytes room c.both_sound q

  not_missed : NotMissed out next heard (InCommon start n)
  not_missed = record { struck = struck; remains = remains }
    where
      struck : (r r' : Record) (x : Input) → InCommon start n r r' → out x ≡ true → InCommon start n (next r x) r'
      struck r r' x c e = record {
        both_sound = sym (same_sound r x) ∙ c.both_sound;
        zone = (law r r' x c).not_for_it (asked_alike start r n c.head x ∙ struck_not_for x e) ∙ c.zone;
        head = one_more_lem start r n x c.head;
      }

      remains : (r r' : Record) (x : Input) → InCommon start n r r' → out x ≡ false → (heard r x ≡ heard r' x) × InCommon start n (next r x) (next r' x)
      remains r r' x c e =
          let left : InCommon start n (next r x) (next r' x)
          = record { both_sound = sym (same_sound r x) ∙ c.both_sound ∙ same_sound r' x; zone = (law r r' x c).zone; head = one_more_lem start r n x c.head } in
          (remaining_heard r r' x c e, left)

  through : (r' : Record) (xs : List Input) → sound start ≡ sound r' → zone_at start n ≡ zone_at r' n → SameWithout out next heard (InCommon start n) start r' xs
  through r' xs s e = may_be_struck out next heard (InCommon start n) not_missed start r' xs (record { both_sound = s; zone = e; head = same_head refl })

pub however_read : HoweverRead
however_read r r' n out xs s e otherwise =
    let k = through r n out otherwise r' xs s e in
    record { answers = k.answers; left = k.left.zone }

-- what the request says, read as it stands
as_it_stands : (r : Record) (n : ℕ) → Otherwise (not_for r n) r n
as_it_stands r n = record { text = λ m line room. refl; frame = λ bytes room q. refl }

pub even_from_another : EvenFromAnother
even_from_another r r' n xs s e = however_read r r' n (not_for r n) xs s e (as_it_stands r n)

pub undisturbed : NeighboursDoNotDisturb
undisturbed r n xs = even_from_another r r n xs refl refl

pub address_stays : AddressStays
address_stays r n xs = (through r n (not_for r n) (as_it_stands r n) r xs refl refl).left.head

pub by_fifth_byte_too : ByFifthByteToo
by_fifth_byte_too r n xs = however_read r r n (by_fifth_byte r n) xs refl refl (record { text = λ m line room. refl; frame = λ bytes room q. rw q })

-- ---- without the others

alone_sound : (r : Record) (n : ℕ) → sound r ≡ true → sound (alone r n) ≡ true
alone_sound r n s = stored_new empty_record n (zone_at r n) empty_record_sound (zone_sound_lem r n s) (and_false (zone_at r n).present)

-- above 15 both are the empty zone
alone_there : (r : Record) (n : ℕ) → sound r ≡ true → zone_at r n ≡ zone_at (alone r n) n
alone_there r n s = by_place (ltb n 16) refl
  where
    by_place : (t : Bool) → ltb n 16 ≡ t → zone_at r n ≡ zone_at (alone r n) n
    by_place true e = sym (stored_there empty_record n (zone_at r n) empty_record_sound (ltb-true n 16 e))
    by_place false e = past_empty r n s (ltb-false n 16 e) ∙ sym (past_empty (alone r n) n (alone_sound r n s) (ltb-false n 16 e))

pub unplugged : Unplugged
unplugged r n xs s = even_from_another r (alone r n) n xs (s ∙ sym (alone_sound r n s)) (alone_there r n s)

-- ---- the other side

-- in a sound record nothing is for two zones
for_one : (r : Record) (n m : ℕ) (x : Input) → sound r ≡ true → (m ≡ n → ⊥) → is_for r n x ≡ true → not_for r m x ≡ true
for_one r n m x s apart e = by_test (is_for r m x) refl
  where
    by_test : (t : Bool) → is_for r m x ≡ t → not t ≡ true
    by_test true f = absurd (apart (sym (goes_there r m x s f) ∙ goes_there r n x s e))
    by_test false f = refl

pub leaves_others : LeavesOthers
leaves_others r n m xs s apart =
    let whole = undisturbed r m xs in
    let part = undisturbed r m (strike (is_for r n) xs) in
    let again = strike_again (is_for r n) (not_for r m) xs (λ x e. for_one r n m x s apart e) in
    record {
      zone = whole.left ∙ ap (λ (l : List Input). zone_at (run_by next r l) m) (sym again) ∙ sym part.left;
      replies = whole.answers ∙ ap (heard_by next heard r) (sym again) ∙ sym part.answers;
    }

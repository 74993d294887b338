-- Bookings over calls of every kind: what is answered, that no kilogram is lost or made, and that they follow the head. Assumes nothing.
use Prim.Native.Nat.{ℕ, ◌+◌, ◌-◌, ◌≤◌, ◌<◌}
use mathlib.Core.Path.{◌≡◌, refl, sym, ap, ◌∙◌}
use mathlib.Core.Logic.{◌⊎◌, inl, inr}
use mathlib.Core.Bool.{Bool, true, false, cond, not, ◌||◌}
use mathlib.Core.List.{List, [], ◌∷◌}
use native.Mathlib.Omega.{arith}
use lib.Dec.{ltb}
use lib.ListN.{length-set}
use lib.Seq.{get_or-set_other}
use borrow.Author.Tests.{leb-true, le-leb, lt-leb, ltb-true, ltb-false, lt-ltb, le-ltb, eq-eqb, ne_eqb, not-false}
use Rattle.zone.specs.declared.figures.Group.TheVariants.{Hzbg}
use Rattle.zone.specs.declared.figures.Figures.{Figures}
use Rattle.zone.specs.declared.zones.Zone.{Zone}
use Rattle.zone.specs.Lists.{is_zero}
use Rattle.zone.specs.Zones.{empty_zone, booking_in_range, with_kilograms, mended}
use Rattle.zone.proofs.Tests.{never, or_true}
use Rattle.zone.proofs.Sound.{absent_empty}
use Rattle.zone.proofs.Mended.{mended_kilograms}
use Rattle.card.specs.declared.records.Record.{Record}
use Rattle.card.specs.Refusals.{◌gives◌, first}
use Rattle.card.specs.Records.{empty_record, zone_at, with_zone, sound}
use Rattle.card.specs.Calls.{remove_of, book_of, ship_of, together, merge_of, all_mended, repair_rows, repair_of}
use Rattle.card.proofs.Storing.{sound_parts, zone_sound_lem}
use Rattle.card.proofs.Kept.{add_exactly, held_in_range}
use Rattle.card.proofs.Sets.{add_sets, book_at_zone, ship_at_zone, book_after, ship_after, ship_held, remove_held}
use Rattle.card.proofs.Merging.{merge_at_zones, merge_after, merge_folds}
use Rattle.roads.specs.Calls.{said}
use Rattle.session.specs.Sessions.{Quiet, add, remove, report, apply, choose_source, setpoint_in_use, book, ship, merge, repair, Call, in_room, quiet, answer_to, after, Done, run, answers_of, Throughout}
use Rattle.session.specs.Changes.{Merges, merged, Removes, removed, merged_away, Adds, added, Rebooks, booked, shipped, moved_in, Becomes, stays, written, was_reported, was_removed, was_added, was_chosen, was_rebooked, was_mended, was_loaded, NotAdded}
use Rattle.session.specs.Demands.{refused_silently, later, PointsAt, books, ships, OtherRoad, by_frame, by_text, Rerouted, over, as_before, other_road}
use Rattle.session.specs.Bookings.{kilograms_on, RefusedWhere, BookingsAreJudged, AbsentGivesThree, on_all_zones, Amounts, nothing, amounts, counted, done_of, SinceEmpty, Conserved, AlwaysInBounds, NotRebooked, LeftAlone, ByEitherRoad, FollowsTheHead}
use Rattle.session.proofs.Answering.{record_kept, by_done}
use Rattle.session.proofs.InTurn.{in_turn_kept}
use Rattle.session.proofs.Changes.{becomes}
use Rattle.session.proofs.Demand1.{stays_removed, stays_gone, removal_sound, call_three}
use Rattle.session.proofs.Demand3.{stays_sound, same_answer}
use Rattle.session.proofs.Unsound.{one_stays}
use Rattle.session.proofs.Totals.{total_set, total_same, total_map}

-- ---- what each call answers

untold : (t : Bool) → ◌≡◌ {A = List Figures} (cond t [] []) []
untold true = refl
untold false = refl

-- a test that is left to decide, where it holds exactly under P
decides : (P : Type 0) (number : ℕ) (r : Record) (call : Quiet) (t : Bool) → (answer_to r (quiet call)).said.values ≡ [] → (answer_to r (quiet call)).said.number ≡ first ((t gives number) ∷ []) → (P → t ≡ true) → ((P → ⊥) → t ≡ false) → RefusedWhere P number r call
decides P number r call t v e f g = ((λ p. answered (f p)), (λ u. answered (g u)))
  where
    answered : {b : Bool} → t ≡ b → (answer_to r (quiet call)).said ≡ said (cond b number 0) [] [] []
    answered q = let n = e ∙ ap (λ (x : Bool). cond x number 0) q in λ i. said (n i) (v i) [] []

-- "0 .. or": a test for 0 and another one
either_test : (kg : ℕ) (Q : Type 0) (t : Bool) → (Q → t ≡ true) → ((Q → ⊥) → t ≡ false) → ((kg ≡ 0) ⊎ Q → (is_zero kg || t) ≡ true) × ((((kg ≡ 0) ⊎ Q) → ⊥) → (is_zero kg || t) ≡ false)
either_test kg Q t f g = (holds_so, λ u. rw (ne_eqb kg 0 (λ e. u (inl e)), g (λ q. u (inr q))))
  where
    holds_so : (kg ≡ 0) ⊎ Q → (is_zero kg || t) ≡ true
    holds_so (inl e) = rw (eq-eqb kg 0 e)
    holds_so (inr q) = rw (f q) (or_true (is_zero kg))

not_less : (a b : ℕ) → (a < b → ⊥) → b ≤ a
not_less a b u = by_test (ltb a b) refl
  where
    by_test : (t : Bool) → ltb a b ≡ t → b ≤ a
    by_test true e = absurd (u (ltb-true a b e))
    by_test false e = ltb-false a b e

-- more than the limit, by the test that is made for it
over_limit : (kg : ℕ) → (1000000 < kg → not (booking_in_range kg) ≡ true) × ((1000000 < kg → ⊥) → not (booking_in_range kg) ≡ false)
over_limit kg = ((λ h. rw (lt-leb kg 1000000 h)), (λ u. rw (le-leb kg 1000000 (not_less 1000000 kg u))))

pub bookings_judged : BookingsAreJudged
unfolding remove_of book_of ship_of merge_of
bookings_judged r n p =
    let here = kilograms_on r n in
    record {
      removing = decides (1 ≤ here) 15 r (remove n) (not (is_zero here)) (untold (is_zero (remove_of r n).number)) (rw (p.sound_record, lt-leb 16 n p.below, p.present))
          (λ h. rw (ne_eqb here 0 (λ e. omega (arith, e, h)))) (λ u. rw (eq-eqb here 0 (omega (arith, not_less 0 here u))));
      booking = λ kg.
          let test = either_test kg (1000000 < here + kg) (not (booking_in_range (here + kg))) (over_limit (here + kg)).0 (over_limit (here + kg)).1 in
          decides ((kg ≡ 0) ⊎ (1000000 < here + kg)) 16 r (book n kg) (is_zero kg || not (booking_in_range (here + kg))) (untold (is_zero (book_of r n kg).number)) (rw (p.sound_record, lt-leb 16 n p.below, p.present)) test.0 test.1;
      shipping = λ kg.
          let test = either_test kg (here < kg) (ltb here kg) (lt-ltb here kg) (λ u. le-ltb here kg (not_less here kg u)) in
          decides ((kg ≡ 0) ⊎ (here < kg)) 16 r (ship n kg) (is_zero kg || ltb here kg) (untold (is_zero (ship_of r n kg).number)) (rw (p.sound_record, lt-leb 16 n p.below, p.present)) test.0 test.1;
      with_itself = rw (p.sound_record, lt-leb 16 n p.below, p.present, eq-eqb n n refl);
      merging = λ b q u.
          let sum = kilograms_on r b + here in
          decides (1000000 < sum) 16 r (merge n b) (not (booking_in_range sum)) (untold (is_zero (merge_of r n b).number)) (rw (p.sound_record, lt-leb 16 n p.below, p.present, lt-leb 16 b q.below, q.present, ne_eqb n b u)) (over_limit sum).0 (over_limit sum).1;
    }

pub absent_gives_three : AbsentGivesThree
absent_gives_three r n call s p w = call_three r n call s (absent_empty (zone_at r n) p (zone_sound_lem r n s)) w

-- ---- what leaves the kilograms alone

-- an absent zone of a sound record holds nothing
absent_holds : (r : Record) (n : ℕ) → sound r ≡ true → (zone_at r n).present ≡ false → kilograms_on r n ≡ 0
absent_holds r n s p = ap (λ (z : Zone). z.kilograms) (absent_empty (zone_at r n) p (zone_sound_lem r n s))

-- a zone that is removed, and not by merging, holds nothing; nor does one that is added
removed_held : (n : ℕ) (r : Record) (call : Call) → NotRebooked n r call → Removes n r call → kilograms_on r n ≡ 0
removed_held n r call u (removed d) = remove_held r n d
removed_held n r call u (merged_away b w) = absurd (u.not_merged b w)

added_held : (n address range : ℕ) (r : Record) (call : Call) → (zone_at r n).present ≡ false → Adds n address range r call → kilograms_on r n ≡ 0
added_held n address range r call p (added d) =
    absent_holds r n (not-false (sound r) ((add_exactly r n address range).done.0 d 0)) p

one_left : (n : ℕ) (r : Record) (call : Call) → NotRebooked n r call → kilograms_on (after r call) n ≡ kilograms_on r n
one_left n r call u = by_change (becomes r call n)
  where
    by_change : {z : Zone} → Becomes r n call z → z.kilograms ≡ kilograms_on r n
    by_change (stays s) = ap (λ (z : Zone). z.kilograms) s
    by_change (written f w q s) = s.kilograms
    by_change (was_reported state actual w q s) = s.kilograms
    by_change (was_removed w q s) = ap (λ (z : Zone). z.kilograms) s ∙ sym (removed_held n r call u w)
    by_change (was_added address range w q s) = ap (λ (z : Zone). z.kilograms) s ∙ sym (added_held n address range r call q w)
    by_change (was_chosen source millivolts w q s) = s.kilograms
    by_change (was_rebooked kg w q s) = absurd (u.not_rebooked kg w)
    by_change (was_mended window w q s) = s.kilograms
    by_change (was_loaded writes w q s) = in_turn_kept (λ z. z.kilograms) (λ z f l k. k.kilograms) writes (zone_at r n) _ s

pub left_alone : LeftAlone
left_alone r n [] u = refl
left_alone r n (call ∷ calls) u = left_alone (after r call) n calls u.1 ∙ one_left n r call u.0

-- and any zone of it holds no more than the limit
holds_at_most : (r : Record) (n : ℕ) → sound r ≡ true → kilograms_on r n ≤ 1000000
holds_at_most r n s = by_presence (zone_at r n).present refl
  where
    by_presence : (t : Bool) → (zone_at r n).present ≡ t → kilograms_on r n ≤ 1000000
    by_presence true p = leb-true (kilograms_on r n) 1000000 (held_in_range r n s p)
    by_presence false p = omega (arith, absent_holds r n s p)

pub in_bounds : AlwaysInBounds
in_bounds r calls n s =
    let t = stays_sound r calls s in
    record {
      limit = holds_at_most (run r calls) n t;
      absent = absent_holds (run r calls) n t;
      new = λ address range d. ap (λ (z : Zone). z.kilograms) (add_sets (run r calls) n address range d);
    }

-- ---- no kilogram is lost or made

-- the calls that may move kilograms
quiet_moves : Quiet → Bool
quiet_moves (add n a range) = false
quiet_moves (remove n) = false
quiet_moves (report n state actual) = false
quiet_moves (apply n c) = false
quiet_moves (choose_source n source millivolts) = false
quiet_moves (setpoint_in_use n) = false
quiet_moves (book n kg) = true
quiet_moves (ship n kg) = true
quiet_moves (merge a b) = true
quiet_moves repair = false

moves : Call → Bool
moves (in_room call room) = false
moves (quiet call) = quiet_moves call

merges_move : (a b : ℕ) (r : Record) (call : Call) → Merges a b r call → moves call ≡ true
unfolding moves quiet_moves
merges_move a b r call (merged d) = refl

rebooks_move : (n kg : ℕ) (r : Record) (call : Call) → Rebooks n kg r call → moves call ≡ true
unfolding moves quiet_moves
rebooks_move n kg r call (booked amount d e) = refl
rebooks_move n kg r call (shipped amount d e) = refl
rebooks_move n kg r call (moved_in a w e) = merges_move a n r call w

not_rebooked : (n : ℕ) (r : Record) (call : Call) → moves call ≡ false → NotRebooked n r call
not_rebooked n r call e = record { not_rebooked = λ kg w. never (sym e ∙ rebooks_move n kg r call w); not_merged = λ b w. never (sym e ∙ merges_move n b r call w) }

repair_level : (r : Record) → on_all_zones (after r (quiet repair)) ≡ on_all_zones r
unfolding repair_of
repair_level r = by_number (is_zero (first (repair_rows r)))
  where
    by_number : (done : Bool) → on_all_zones (cond done (all_mended r) r) ≡ on_all_zones r
    by_number true = total_map (λ (z : Zone). z.kilograms) mended mended_kilograms r.zones
    by_number false = refl

-- every other call leaves the sum, in a sound record zone by zone; one that is not sound is left as it is, but for a repair
level : (r : Record) (call : Call) → moves call ≡ false → on_all_zones (after r call) ≡ on_all_zones r
level r call e = by_soundness (sound r) refl
  where
    by_soundness : (t : Bool) → sound r ≡ t → on_all_zones (after r call) ≡ on_all_zones r
    by_soundness true s =
        total_same (λ (z : Zone). z.kilograms) empty_zone r.zones (after r call).zones
        ((sound_parts (after r call) (stays_sound r (call ∷ []) s)).sixteen ∙ sym (sound_parts r s).sixteen)
        (λ n. one_left n r call (not_rebooked n r call e))
    by_soundness false s = one_stays r call s (λ x. on_all_zones x ≡ on_all_zones r) refl (λ q. repair_level r)

abbrev Balanced : Record → Call → Type 0
Balanced r call = on_all_zones (after r call) + counted r call (amounts call).ships ≡ on_all_zones r + counted r call (amounts call).books

-- what is not done counts nothing, nor what asks for nothing
refused_balanced : (r : Record) (call : Call) → (Done r call → ⊥) → Balanced r call
refused_balanced r call u = rw (record_kept r call u, ne_eqb (answer_to r call).said.number 0 u)

level_balanced : (r : Record) (call : Call) → moves call ≡ false → amounts call ≡ nothing → Balanced r call
level_balanced r call e n = rw (n, level r call e)

-- a zone's kilograms set anew
set_level : (r : Record) (n kg : ℕ) → sound r ≡ true → n < 16 → on_all_zones (with_zone r n (with_kilograms (zone_at r n) kg)) + kilograms_on r n ≡ on_all_zones r + kg
set_level r n kg s l =
    let h = (sound_parts r s).sixteen in
    total_set (λ (z : Zone). z.kilograms) empty_zone r.zones n (with_kilograms (zone_at r n) kg) (omega arith)

book_balanced : (r : Record) (n kg : ℕ) → Balanced r (quiet (book n kg))
book_balanced r n kg =
    by_done r (quiet (book n kg))
    (λ d.
    let k = book_at_zone r n kg d in
    let e = set_level r n (kilograms_on r n + kg) k.sound_record k.below in
    rw (book_after r n kg d, d) (omega (arith, e)))
    (refused_balanced r (quiet (book n kg)))

ship_balanced : (r : Record) (n kg : ℕ) → Balanced r (quiet (ship n kg))
ship_balanced r n kg =
    by_done r (quiet (ship n kg))
    (λ d.
    let k = ship_at_zone r n kg d in
    let e = set_level r n (kilograms_on r n - kg) k.sound_record k.below in
    rw (ship_after r n kg d, d) (omega (arith, e, ship_held r n kg d)))
    (refused_balanced r (quiet (ship n kg)))

-- first zone b gets the sum, then zone a is emptied
merge_balanced : (r : Record) (a b : ℕ) → Balanced r (quiet (merge a b))
merge_balanced r a b =
    by_done r (quiet (merge a b))
    (λ d.
    let k = merge_at_zones r a b d in
    let moved = with_zone r b (with_kilograms (zone_at r b) (together r a b)) in
    let l = (sound_parts r k.sound_record).sixteen in
    let long = length-set r.zones b (with_kilograms (zone_at r b) (together r a b)) in
    let e = set_level r b (together r a b) k.sound_record k.below_b in
    let there = ap (λ (z : Zone). z.kilograms) (get_or-set_other r.zones b a (with_kilograms (zone_at r b) (together r a b)) empty_zone k.apart) in
    let f = total_set (λ (z : Zone). z.kilograms) empty_zone moved.zones a empty_zone (omega (arith, k.below_a)) in
    rw (merge_after r a b d, d) (omega (arith, e, f, there)))
    (refused_balanced r (quiet (merge a b)))

balanced : (r : Record) (call : Call) → Balanced r call
unfolding moves quiet_moves
balanced r (in_room call room) = level_balanced r (in_room call room) refl refl
balanced r (quiet (add n a range)) = level_balanced r (quiet (add n a range)) refl refl
balanced r (quiet (remove n)) = level_balanced r (quiet (remove n)) refl refl
balanced r (quiet (report n state actual)) = level_balanced r (quiet (report n state actual)) refl refl
balanced r (quiet (apply n c)) = level_balanced r (quiet (apply n c)) refl refl
balanced r (quiet (choose_source n source millivolts)) = level_balanced r (quiet (choose_source n source millivolts)) refl refl
balanced r (quiet (setpoint_in_use n)) = level_balanced r (quiet (setpoint_in_use n)) refl refl
balanced r (quiet (book n kg)) = book_balanced r n kg
balanced r (quiet (ship n kg)) = ship_balanced r n kg
balanced r (quiet (merge a b)) = merge_balanced r a b
balanced r (quiet repair) = level_balanced r (quiet repair) refl refl

pub conserved : Conserved
conserved r [] = refl
conserved r (call ∷ calls) = omega (arith, balanced r call, conserved (after r call) calls)

pub since_empty : SinceEmpty
since_empty calls =
    let e : on_all_zones empty_record ≡ 0 = refl in
    omega (arith, e, conserved empty_record calls)

-- ---- by either road

uncounted : (t : Bool) → ◌≡◌ {A = ℕ} (cond t 0 0) 0
uncounted true = refl
uncounted false = refl

none_counted : (part : Amounts → ℕ) → part nothing ≡ 0 → (r : Record) (call : Call) → amounts call ≡ nothing → counted r call (part (amounts call)) ≡ 0
none_counted part e r call n = rw (n, e) (uncounted (is_zero (answer_to r call).said.number))

-- neither way to send a command books or ships
road_counts : (part : Amounts → ℕ) → part nothing ≡ 0 → (r : Record) (x y : Call) → OtherRoad r x y → counted r x (part (amounts x)) ≡ counted r y (part (amounts y))
road_counts part e r x y (by_frame n c room room' p k h h') = none_counted part e r x refl ∙ sym (none_counted part e r y refl)
road_counts part e r x y (by_text n c room room' p k h h') = none_counted part e r x refl ∙ sym (none_counted part e r y refl)

same_done : (part : Amounts → ℕ) → part nothing ≡ 0 → {r : Record} {xs ys : List Call} → Rerouted after OtherRoad r xs ys → done_of part r xs ≡ done_of part r ys
same_done part e over = refl
same_done part e {r} (as_before x rest) = ap (λ (n : ℕ). counted r x (part (amounts x)) + n) (same_done part e rest)
same_done part e {r} (other_road {xs = xs} {ys = ys} x y o rest) =
    let tail = same_done part e rest ∙ ap (λ (s : Record). done_of part s ys) (same_answer r x y o).same_record in
    λ i. road_counts part e r x y o i + tail i

same_answers : {r : Record} {xs ys : List Call} → Rerouted after OtherRoad r xs ys → answers_of r xs ≡ answers_of r ys
same_answers over = refl
same_answers {r} (as_before x rest) = ap (λ (l : List (ℕ × List Figures)). ((answer_to r x).said.number, (answer_to r x).said.values) ∷ l) (same_answers rest)
same_answers {r} (other_road {xs = xs} {ys = ys} x y o rest) =
    let same = same_answer r x y o in
    let tail = same_answers rest ∙ ap (λ (s : Record). answers_of s ys) same.same_record in
    λ i. (same.same_number i, same.same_figures i) ∷ tail i

pub by_either_road : ByEitherRoad
by_either_road r xs ys w = record { answers = same_answers w; bookings = same_done (λ a. a.books) refl w; shipments = same_done (λ a. a.ships) refl w }

-- ---- the buyer's case

-- a call that points at a zone that was merged into another
merged_three : (r : Record) (a b : ℕ) (calls : List Call) (call : Quiet) → Done r (quiet (merge a b)) → PointsAt a call → Throughout (NotAdded a) (after r (quiet (merge a b))) calls
    → answer_to (later r (quiet (merge a b)) calls) (quiet call) ≡ refused_silently 3 (later r (quiet (merge a b)) calls) []
merged_three r a b calls call d p u =
    let w = merged_away b (merged d) in
    let s = stays_sound r (quiet (merge a b) ∷ calls) (removal_sound r a (quiet (merge a b)) w) in
    call_three (later r (quiet (merge a b)) calls) a call s (stays_removed r a (quiet (merge a b)) calls w u) p

pub follows_the_head : FollowsTheHead
follows_the_head r a b d =
    let folds = merge_folds r a b d in
    let w = merged_away b (merged d) in
    record {
      folded = folds;
      heating_limit = folds.moved.groups Hzbg;
      stand = λ calls u. left_alone (after r (quiet (merge a b))) b calls u ∙ folds.moved.held;
      empty = λ calls u. stays_removed r a (quiet (merge a b)) calls w u;
      gone = λ calls room h. stays_gone r a (quiet (merge a b)) calls room w h;
      no_booking = λ calls kg u. merged_three r a b calls (book a kg) d (books kg) u;
      no_shipment = λ calls kg u. merged_three r a b calls (ship a kg) d (ships kg) u;
    }

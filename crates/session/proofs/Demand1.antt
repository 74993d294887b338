-- Demand 1, of sessions: a removed zone stays empty until it is added again; an address that nobody holds meets silence, and the address of a removed zone goes on meeting it. Assumes nothing.
use Rattle.std.specs.Prelude.{None, Option, Some}
use Prim.Native.Nat.{ℕ, ◌≤◌}
use mathlib.Core.Path.{◌≡◌, refl, sym, ap, ◌∙◌, subst}
use mathlib.Core.Bool.{Bool, true, false, not, ◌&&◌}
use mathlib.Core.List.{List, [], ◌∷◌}
use lib.ListN.{length, take, drop}
use lib.Dec.{leb, eqb}
use borrow.Author.Tests.{eqb-true, ne_eqb, le-ltb}
use Rattle.zone.specs.declared.zones.Zone.{Zone}
use Rattle.zone.specs.Lists.{every, some}
use Rattle.zone.specs.Zones.{empty_zone, holds}
use Rattle.zone.specs.Rules.{SameHead}
use Rattle.zone.proofs.Tests.{never, or_true}
use Rattle.card.specs.declared.records.Record.{Record}
use Rattle.card.specs.Refusals.{Row, ◌gives◌}
use Rattle.card.specs.Records.{zone_at, sound, find_of, no_zone}
use Rattle.card.specs.Calls.{remove_of, report_of, apply_of, choose_source_of, setpoint_in_use_of, book_of, ship_of, merge_of}
use Rattle.card.specs.Rules.{Frees}
use Rattle.card.proofs.Sets.{remove_at_zone, remove_frees}
use Rattle.card.proofs.Merging.{merge_at_zones, merge_folds}
use Rattle.card.proofs.Scans.{found_somewhere}
use Rattle.card.proofs.Finding.{found_nowhere}
use Rattle.frame.specs.Frame.{address_in, body_in, shaped, checksum_right, body_read}
use Rattle.roads.specs.Acknowledgements.{text_reply, frame_reply}
use Rattle.roads.specs.Calls.{Answered, too_small, parsed_rows, answer_text, holder, result_at, in_frame_reply, answer_frame}
use Rattle.roads.proofs.Local.{text_touches}
use Rattle.texts.specs.Texts.{lines_of}
use Rattle.recipes.specs.Recipes.{Sending, sendings, in_turn, is_done, load_of}
use Rattle.recipes.proofs.Told.{done, load_refused}
use Rattle.session.specs.Sessions.{load, Quiet, Call, in_room, quiet, answer_to, after, Done, run, Throughout}
use Rattle.session.specs.Changes.{Becomes, stays, written, was_reported, was_removed, was_added, was_chosen, was_rebooked, was_mended, was_loaded, Removes, removed, merged_away, merged, Adds, NotAdded, NotGiven}
use Rattle.session.specs.Demands.{StaysEmpty, StaysRemoved, MeetsSilence, refused_silently, PointsAt, applies, reports, removes, chooses, asks, books, ships, merges, merges_into, RemovedStaysGone}
use Rattle.session.proofs.Done.{line_is_done, first_done}
use Rattle.session.proofs.InTurn.{in_turn_kept}
use Rattle.session.proofs.Changes.{becomes, sets}
use Rattle.session.proofs.Demand3.{stays_sound}

-- ---- a removed zone stays empty

-- the empty zone is not present
absent_here : {z : Zone} {P : Type 0} → z ≡ empty_zone → z.present ≡ true → P
absent_here e p = never (sym (ap (λ (z : Zone). z.present) e) ∙ p)

one_kept : (r : Record) (n : ℕ) (call : Call) → zone_at r n ≡ empty_zone → NotAdded n r call → zone_at (after r call) n ≡ empty_zone
one_kept r n call e u = by_change (becomes r call n)
  where
    by_change : {z : Zone} → Becomes r n call z → z ≡ empty_zone
    by_change (stays s) = s ∙ e
    by_change (written figures w p s) = absent_here e p
    by_change (was_reported state actual w p s) = absent_here e p
    by_change (was_removed w p s) = s
    by_change (was_added address range w p s) = absurd (u address range w)
    by_change (was_chosen source millivolts w p s) = absent_here e p
    by_change (was_rebooked kilograms w p s) = absent_here e p
    by_change (was_mended window w p s) = absent_here e p
    by_change (was_loaded writes w p s) = absent_here e p

pub stays_empty : StaysEmpty
stays_empty r n [] e u = e
stays_empty r n (call ∷ calls) e u = stays_empty (after r call) n calls (one_kept r n call e u.0) u.1

pub stays_removed : StaysRemoved
stays_removed r n removal calls w u = stays_empty (after r removal) n calls ((sets r removal n).emptied w) u

-- ---- an address that nobody holds

-- in every case the answer is a silent refusal
unheld_silent : (r : Record) (f room : List ℕ) → holder r f ≡ None → (number : ℕ) × (answer_frame r f room ≡ refused_silently number r room)
unfolding answer_frame frame_reply
unheld_silent r f room e = rw e (by_tests (too_small room) (sound r) (shaped f))
  where
    rest : List Row
    rest = (not (checksum_right f) gives 6) ∷ parsed_rows (zone_at r 16) (body_read (body_in f))

    by_tests : (q t s : Bool)
        → (number : ℕ) × (in_frame_reply (address_in f) (result_at r 16 ((q gives 1) ∷ (not t gives 2) ∷ (not s gives 4) ∷ (true gives 5) ∷ rest) (body_read (body_in f))) room ≡ refused_silently number r room)
    by_tests true t s = (1, refl)
    by_tests false false s = (2, refl)
    by_tests false true false = (4, refl)
    by_tests false true true = (5, refl)

unheld_five : (r : Record) (f room : List ℕ) → holder r f ≡ None → 32 ≤ length room → sound r ≡ true → shaped f ≡ true → answer_frame r f room ≡ refused_silently 5 r room
unfolding answer_frame frame_reply
unheld_five r f room e h s k = rw (le-ltb (length room) 32 h, s, k, e)

-- a zone that is not present with that address does not hold it
not_holding : (a : ℕ) (z : Zone) → (z.present ≡ true → z.address ≡ a → ⊥) → holds a z ≡ false
not_holding a z u = by_tests z.present (eqb z.address a) refl refl
  where
    by_tests : (p t : Bool) → z.present ≡ p → eqb z.address a ≡ t → (p && t) ≡ false
    by_tests true true p e = absurd (u p (eqb-true z.address a e))
    by_tests true false p e = refl
    by_tests false t p e = refl

pub meets_silence : MeetsSilence
meets_silence r f room u =
    let e = (found_nowhere r (address_in f)).1 (λ m. not_holding (address_in f) (zone_at r m) (u m)) in
    let silent = (unheld_silent r f room e).1 in
    record {
      record_kept = ap (λ (a : Answered). a.after) silent;
      room_kept = ap (λ (a : Answered). a.said.room) silent;
      no_reply = ap (λ (a : Answered). a.said.length) silent;
      tells_nothing = ap (λ (a : Answered). a.said.values) silent;
      five = λ h s k. ap (λ (a : Answered). a.said.number) (unheld_five r f room e h s k);
    }

-- ---- the address of a removed zone

abbrev Unheld : ℕ → Record → Type 0
Unheld a r = (m : ℕ) → holds a (zone_at r m) ≡ false

-- a zone that keeps its head holds an address as before
pub same_holder : (a : ℕ) {before after : Zone} → SameHead before after → holds a after ≡ holds a before
same_holder a s = λ i. s.present i && eqb (s.address i) a

one_unheld : (a : ℕ) (r : Record) (call : Call) → Unheld a r → NotGiven a r call → Unheld a (after r call)
one_unheld a r call h u m = by_change (becomes r call m)
  where
    by_change : {z : Zone} → Becomes r m call z → holds a z ≡ false
    by_change (stays s) = rw s (h m)
    by_change (written figures w p s) = same_holder a s.head ∙ h m
    by_change (was_reported state actual w p s) = same_holder a s.head ∙ h m
    by_change (was_removed w p s) = rw s
    by_change (was_chosen source millivolts w p s) = same_holder a s.head ∙ h m
    by_change (was_rebooked kilograms w p s) = same_holder a s.head ∙ h m
    by_change (was_mended window w p s) = same_holder a s.head ∙ h m
    by_change (was_loaded writes w p s) = in_turn_kept (holds a) (λ z f l k. same_holder a k.head) writes (zone_at r m) _ s ∙ h m
    by_change (was_added b range w p s) = rw s (by_address (eqb b a) refl)
      where
        by_address : (t : Bool) → eqb b a ≡ t → t ≡ false
        by_address true e = absurd (u m range (subst (λ (x : ℕ). Adds m x range r call) (eqb-true b a e) w))
        by_address false e = refl

stays_unheld : (a : ℕ) (r : Record) (calls : List Call) → Unheld a r → Throughout (NotGiven a) r calls → Unheld a (run r calls)
stays_unheld a r [] h u = h
stays_unheld a r (call ∷ calls) h u = stays_unheld a (after r call) calls (one_unheld a r call h u.0) u.1

-- a zone that is removed was one of a sound record, and is set free
pub removal_sound : (r : Record) (n : ℕ) (removal : Call) → Removes n r removal → sound r ≡ true
removal_sound r n removal (removed d) = (remove_at_zone r n d).sound_record
removal_sound r n removal (merged_away b (merged d)) = (merge_at_zones r n b d).sound_record

removal_frees : (r : Record) (n : ℕ) (removal : Call) → Removes n r removal → Frees r n (after r removal)
removal_frees r n removal (removed d) = remove_frees r n d
removal_frees r n removal (merged_away b (merged d)) = (merge_folds r n b d).removed

-- nobody holds its address once it is gone
removed_unheld : (r : Record) (n : ℕ) (removal : Call) → Removes n r removal → Unheld (zone_at r n).address (after r removal)
removed_unheld r n removal w = (found_nowhere gone a).0 (by_found (find_of gone a) refl)
  where
    gone : Record
    gone = after r removal

    a : ℕ
    a = (zone_at r n).address

    by_found : (f : Option ℕ) → find_of gone a ≡ f → find_of gone a ≡ None
    by_found (Some m) e = never (sym (removal_frees r n removal w).unheld ∙ sym (found_somewhere gone.zones a m e))
    by_found None e = e

-- ---- every call that still points at a removed zone is refused in silence

absent : (r : Record) (n : ℕ) → zone_at r n ≡ empty_zone → no_zone r n ≡ true
absent r n e = rw (ap (λ (z : Zone). z.present) e) (or_true (leb 16 n))

text_three : (r : Record) (n : ℕ) (line room : List ℕ) → sound r ≡ true → zone_at r n ≡ empty_zone → 32 ≤ length room → answer_text r n line room ≡ refused_silently 3 r room
unfolding answer_text text_reply
text_three r n line room s e h = rw (le-ltb (length room) 32 h, s, absent r n e)

pub call_three : (r : Record) (n : ℕ) (call : Quiet) → sound r ≡ true → zone_at r n ≡ empty_zone → PointsAt n call → answer_to r (quiet call) ≡ refused_silently 3 r []
unfolding apply_of report_of remove_of choose_source_of setpoint_in_use_of book_of ship_of merge_of
call_three r n call s e (applies command) = rw (s, absent r n e)
call_three r n call s e (reports state actual) = rw (s, absent r n e)
call_three r n call s e removes = rw (s, absent r n e)
call_three r n call s e (chooses source millivolts) = rw (s, absent r n e)
call_three r n call s e asks = rw (s, absent r n e)
call_three r n call s e (books kilograms) = rw (s, absent r n e)
call_three r n call s e (ships kilograms) = rw (s, absent r n e)
call_three r n call s e (merges b) = rw (s, absent r n e)
call_three r n call s e (merges_into a) = rw (s, absent r n e) (rw (or_true (no_zone r a)))

-- a line to an absent zone is not done, and so no recipe that has one
lines_refused : (r : Record) (lines : List Sending) (room : List ℕ) (n : ℕ) → zone_at r n ≡ empty_zone → some (λ line. eqb line.zone n) lines ≡ true → every is_done (in_turn r lines room) ≡ true → ⊥
unfolding in_turn
lines_refused r [] room n e h d = never h
lines_refused r (line ∷ lines) room n e h d =
    let one = answer_text r line.zone line.command (take 32 room) in
    let parts = first_done r line lines room d in
    let w = line_is_done r line.zone line.command (take 32 room) parts.0 in
    let apart : line.zone ≡ n → ⊥ = λ q. absent_here (ap (zone_at r) q ∙ e) w.present.present in
    lines_refused one.after lines (drop 32 room) n (text_touches r line.zone line.command (take 32 room) n (λ q. apart (sym q)) ∙ e) (rw (ne_eqb line.zone n apart) at h) parts.1

recipe_refused : (r : Record) (recipe room : List ℕ) (n : ℕ) → zone_at r n ≡ empty_zone → some (λ line. eqb line.zone n) (sendings (lines_of recipe)) ≡ true → Done r (in_room (load recipe) room) → ⊥
recipe_refused r recipe room n e h d = lines_refused r (sendings (lines_of recipe)) room n e h (done r recipe room d).each_done

pub stays_gone : RemovedStaysGone
stays_gone r n removal calls room w h =
    let gone = after r removal in
    let s = stays_sound r (removal ∷ calls) (removal_sound r n removal w) in
    record {
      by_line = λ u line. text_three (run gone calls) n line room s (stays_removed r n removal calls w u) h;
      by_frame = λ u bytes k a.
          let nobody = (found_nowhere (run gone calls) (address_in bytes)).1 (rw a (stays_unheld (zone_at r n).address gone calls (removed_unheld r n removal w) u)) in
          unheld_five (run gone calls) bytes room nobody h s k;
      by_recipe = λ u recipe slots h.
          let not_done = recipe_refused (run gone calls) recipe slots n (stays_removed r n removal calls w u) h in
          ((load_of (run gone calls) recipe slots).answered.said.number, not_done, load_refused (run gone calls) recipe slots not_done);
      by_call = λ u call p. call_three (run gone calls) n call s (stays_removed r n removal calls w u) p;
    }

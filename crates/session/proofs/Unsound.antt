-- A record that is not sound: every call that tests it gives 2, nothing but a repair alters it, and a repair helps where its only fault is a window. Assumes nothing.
use mathlib.Core.Path.{◌≡◌, refl, sym, ap, ◌∙◌}
use mathlib.Core.Bool.{true, false}
use mathlib.Core.List.{[], ◌∷◌}
use native.Mathlib.Omega.{arith}
use lib.ListN.{length}
use borrow.Author.Tests.{le-ltb, not-false}
use Rattle.zone.specs.declared.figures.Figures.TheVariants.{AhueWindow}
use Rattle.zone.proofs.Tests.{never}
use Rattle.zone.proofs.Mended.{shut_out}
use Rattle.card.specs.declared.records.Record.{Record}
use Rattle.card.specs.Records.{zone_at, otherwise_sound, sound}
use Rattle.card.specs.Calls.{add_of, remove_of, report_of, apply_of, choose_source_of, setpoint_in_use_of, book_of, ship_of, merge_of, Repair}
use Rattle.card.proofs.Kept.{add_exactly, remove_exactly, report_exactly, apply_exactly, choose_source_exactly, book_exactly, ship_exactly, merge_exactly}
use Rattle.card.proofs.Sets.{setpoint_in_use_alters_nothing}
use Rattle.card.proofs.Repairs.{repair_refused, not_otherwise, shut_unsound, repair_mends}
use Rattle.roads.specs.Acknowledgements.{text_reply, frame_reply}
use Rattle.roads.specs.Calls.{said, answer_text, answer_frame}
use Rattle.recipes.specs.Recipes.{Loading}
use Rattle.recipes.proofs.Cases.{not_sound}
use Rattle.recipes.proofs.Told.{fine, done}
use Rattle.session.specs.Sessions.{text, frame, compose_line, compose_frame, load, add, remove, report, apply, choose_source, setpoint_in_use, book, ship, merge, repair, Call, in_room, quiet, answer_to, after, Done}
use Rattle.session.specs.Demands.{lent, TestsSoundness, write_number, ShutGivesNine, ShutGivesTwo, RepairHelps, UnsoundStays, FaultyStays}
use Rattle.session.proofs.Answering.{record_kept, by_done}
use Rattle.session.proofs.Done.{line_is_done, frame_is_done}
use Rattle.session.proofs.Demand2.{judged}

unsound_two : (r : Record) (call : Call) → sound r ≡ false → TestsSoundness call → answer_to r call ≡ record { said = said 2 [] [] (lent call); after = r }
unfolding answer_text text_reply answer_frame frame_reply add_of remove_of report_of apply_of choose_source_of setpoint_in_use_of book_of ship_of merge_of
unsound_two r (in_room (text n line) room) s t = rw (le-ltb (length room) 32 t.served, s)
unsound_two r (in_room (frame bytes) room) s t = rw (le-ltb (length room) 32 t.served, s)
unsound_two r (in_room (compose_line c) room) s t = never t.two
unsound_two r (in_room (compose_frame a c) room) s t = never t.two
unsound_two r (in_room (load recipe) room) s t = ap (λ (o : Loading). o.answered) (not_sound r recipe room (omega (arith, t.served)) s)
unsound_two r (quiet (add n address range)) s t = rw s
unsound_two r (quiet (remove n)) s t = rw s
unsound_two r (quiet (report n state actual)) s t = rw s
unsound_two r (quiet (apply n command)) s t = rw s
unsound_two r (quiet (choose_source n source millivolts)) s t = rw s
unsound_two r (quiet (setpoint_in_use n)) s t = rw s
unsound_two r (quiet (book n kg)) s t = rw s
unsound_two r (quiet (ship n kg)) s t = rw s
unsound_two r (quiet (merge a b)) s t = rw s
unsound_two r (quiet repair) s t = absurd (t.other refl)

pub shut_gives_two : ShutGivesTwo
shut_gives_two r n window call s t = unsound_two r call (shut_unsound r n window s) t

-- ---- a write of such a window

pub shut_gives_nine : ShutGivesNine
shut_gives_nine r n f room h p k =
    let w = judged r n (AhueWindow f) room p k in
    let nine : write_number (zone_at r n) (AhueWindow f) ≡ 9 = rw (shut_out (zone_at r n).range f h) in
    record { applied = w.applied ∙ nine; by_line = λ c. w.by_line c ∙ nine; by_frame = λ c. w.by_frame c ∙ nine }

-- ---- the repair

pub repair_helps : RepairHelps
repair_helps r s = let m = repair_mends r s in (m.done.0, m.sound_after)

-- ---- nothing else alters it

-- a call that is done only where the record is sound leaves one that is not
kept_if : (r : Record) (call : Call) → sound r ≡ false → (P : Record → Type 0) → P r → (Done r call → sound r ≡ true) → P (after r call)
kept_if r call s P h d = by_done r call (λ e. never (sym s ∙ d e)) (λ u. rw (record_kept r call u) h)

-- what holds of it holds after every call, if it does after the repair where that is the call
pub one_stays : (r : Record) (call : Call) → sound r ≡ false → (P : Record → Type 0) → P r → (call ≡ quiet repair → P (after r (quiet repair))) → P (after r call)
one_stays r (in_room (text n line) room) s P h u = kept_if r (in_room (text n line) room) s P h (λ d. (line_is_done r n line room d).present.sound_record)
one_stays r (in_room (frame bytes) room) s P h u = kept_if r (in_room (frame bytes) room) s P h (λ d. (frame_is_done r bytes room d).present.sound_record)
one_stays r (in_room (compose_line c) room) s P h u = h
one_stays r (in_room (compose_frame a c) room) s P h u = h
one_stays r (in_room (load recipe) room) s P h u = kept_if r (in_room (load recipe) room) s P h (λ d. (fine r recipe room (done r recipe room d).form_right).is_sound)
one_stays r (quiet (add n a range)) s P h u = kept_if r (quiet (add n a range)) s P h (λ d. not-false (sound r) ((add_exactly r n a range).done.0 d 0))
one_stays r (quiet (remove n)) s P h u = kept_if r (quiet (remove n)) s P h (λ d. not-false (sound r) ((remove_exactly r n).done.0 d 0))
one_stays r (quiet (report n state actual)) s P h u = kept_if r (quiet (report n state actual)) s P h (λ d. not-false (sound r) ((report_exactly r n state actual).done.0 d 0))
one_stays r (quiet (apply n c)) s P h u = kept_if r (quiet (apply n c)) s P h (λ d. not-false (sound r) ((apply_exactly r n c).done.0 d 0))
one_stays r (quiet (choose_source n source millivolts)) s P h u = kept_if r (quiet (choose_source n source millivolts)) s P h (λ d. not-false (sound r) ((choose_source_exactly r n source millivolts).done.0 d 0))
one_stays r (quiet (setpoint_in_use n)) s P h u = rw (setpoint_in_use_alters_nothing r n) h
one_stays r (quiet (book n kg)) s P h u = kept_if r (quiet (book n kg)) s P h (λ d. not-false (sound r) ((book_exactly r n kg).done.0 d 0))
one_stays r (quiet (ship n kg)) s P h u = kept_if r (quiet (ship n kg)) s P h (λ d. not-false (sound r) ((ship_exactly r n kg).done.0 d 0))
one_stays r (quiet (merge a b)) s P h u = kept_if r (quiet (merge a b)) s P h (λ d. not-false (sound r) ((merge_exactly r a b).done.0 d 0))
one_stays r (quiet repair) s P h u = u refl

pub unsound_stays : UnsoundStays
unsound_stays r [] s u = refl
unsound_stays r (call ∷ calls) s u =
    let e = one_stays r call s (λ x. x ≡ r) refl (λ q. absurd (u.0 q)) in
    unsound_stays (after r call) calls (ap sound e ∙ s) u.1 ∙ e

pub faulty_stays : FaultyStays
faulty_stays r [] e = refl
faulty_stays r (call ∷ calls) e =
    let same = one_stays r call (not_otherwise r e) (λ x. x ≡ r) refl (λ q. ap (λ (o : Repair). o.result.after) (repair_refused r e)) in
    faulty_stays (after r call) calls (ap otherwise_sound same ∙ e) ∙ same

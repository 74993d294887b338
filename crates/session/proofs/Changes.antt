-- What a call does to a zone: nothing, or what a done write, report, removal, addition, choice of a source, booking, shipment, merging, repair or recipe sets. Assumes nothing.
use Rattle.std.specs.Prelude.{Ok, Some}
use Prim.Native.Nat.{ℕ, ◌+◌, ◌-◌}
use mathlib.Core.Path.{◌≡◌, refl, sym, ap, ◌∙◌, subst}
use mathlib.Core.Bool.{Bool, true, false, cond}
use mathlib.Core.List.{List, [], ◌∷◌}
use native.Mathlib.Omega.{arith}
use lib.ListN.{take, drop}
use lib.Dec.{eqb}
use borrow.Author.Tests.{eqb-true, eqb-false, eq-eqb, ne_eqb}
use Rattle.zone.specs.declared.figures.Figures.{Figures}
use Rattle.zone.specs.declared.figures.Figures.TheVariants.{AhueWindow}
use Rattle.zone.specs.declared.figures.WindowFigures.{WindowFigures}
use Rattle.zone.specs.declared.figures.Command.{Command}
use Rattle.zone.specs.declared.figures.Command.TheVariants.{Read, Write}
use Rattle.zone.specs.declared.sources.Source.{Source}
use Rattle.zone.specs.declared.zones.Zone.{Zone}
use Rattle.zone.specs.Lists.{every}
use Rattle.zone.specs.Zones.{new_zone, empty_zone, state_numbered, opened}
use Rattle.zone.specs.Rules.{SetsFigures, SetsStatus, SetsOrigin, SetsKilograms}
use Rattle.zone.proofs.Tests.{never}
use Rattle.zone.proofs.Mended.{by_window, not_shut}
use Rattle.card.specs.declared.records.Record.{Record}
use Rattle.card.specs.Answers.{Result}
use Rattle.card.specs.Records.{zone_at, find_of}
use Rattle.card.specs.Calls.{add_of, apply_of}
use Rattle.card.proofs.Kept.{add_exactly, add_keeps, remove_keeps, report_keeps, apply_keeps, choose_source_keeps, book_keeps, ship_keeps}
use Rattle.card.proofs.Finding.{find_own}
use Rattle.card.proofs.Repairs.{repair_done, shut_present, repair_mends}
use Rattle.card.proofs.Sets.{remove_at_zone, report_at_zone, write_at_zone, choose_source_at_zone, book_at_zone, ship_at_zone, add_sets, remove_sets, report_sets, write_sets, choose_source_sets, book_sets, ship_sets, ship_held, read_alters_nothing, setpoint_in_use_alters_nothing}
use Rattle.card.proofs.Merging.{merge_at_zones, merge_folds}
use Rattle.wire.specs.Road.{Parsed}
use Rattle.line.specs.Line.{line_read}
use Rattle.frame.specs.declared.reading.Framed.TheVariants.{Request}
use Rattle.frame.specs.Frame.{address_in, frame_read}
use Rattle.roads.specs.Calls.{text_result, answer_text, zone_found, frame_result, answer_frame}
use Rattle.roads.proofs.Local.{text_touches, frame_touches}
use Rattle.texts.specs.Texts.{lines_of}
use Rattle.recipes.specs.Recipes.{Sending, sendings, in_turn, is_done, left_by, Loading}
use Rattle.recipes.proofs.Told.{done}
use Rattle.session.specs.Sessions.{text, frame, compose_line, compose_frame, load, add, remove, report, apply, choose_source, setpoint_in_use, book, ship, merge, repair, Call, in_room, quiet, after, Done}
use Rattle.session.specs.Changes.{Writes, by_apply, by_line, by_frame, Reports, reported, merged, Removes, removed, merged_away, Adds, added, Chooses, chosen, Rebooks, booked, shipped, moved_in, Repairs, repaired, write_in, writes_to, Loads, loaded, SetsInTurn, WhatIsDoneIsSet, Becomes, stays, written, was_reported, was_removed, was_added, was_chosen, was_rebooked, was_mended, was_loaded, EveryZoneBecomes}
use Rattle.session.proofs.Answering.{record_kept, by_done}
use Rattle.session.proofs.Done.{Applied, LineDone, line_is_done, frame_is_done, first_done}
use Rattle.session.proofs.InTurn.{in_turn_append}

pub by_zone : (n m : ℕ) {P : Type 0} → (n ≡ m → P) → ((n ≡ m → ⊥) → P) → P
by_zone n m {P} f g = by_test (eqb n m) refl
  where
    by_test : (t : Bool) → eqb n m ≡ t → P
    by_test true e = f (eqb-true n m e)
    by_test false e = g (eqb-false n m e)

-- a call at zone m, by what it keeps of the others: it is left to say what becomes of zone m where the call is done
at_zone_lem : (r : Record) (call : Call) (m n : ℕ) → ((k : ℕ) → (k ≡ m → ⊥) → zone_at (after r call) k ≡ zone_at r k)
    → (Done r call → Becomes r m call (zone_at (after r call) m)) → Becomes r n call (zone_at (after r call) n)
at_zone_lem r call m n others here =
    by_zone n m
    (λ e. subst (λ (k : ℕ). Becomes r k call (zone_at (after r call) k)) (sym e) (by_done r call here (λ u. stays (ap (λ (s : Record). zone_at s m) (record_kept r call u)))))
    (λ u. stays (others n u))

-- a command that was applied, whichever way it came
by_command : (r after : Record) (call : Call) (m : ℕ) (c : Command) → after ≡ (apply_of r m c).after → (apply_of r m c).number ≡ 0
    → ((figures : Figures) → c ≡ Write figures → Writes m figures r call) → Becomes r m call (zone_at after m)
by_command r after call m (Read group) e d w = stays (ap (λ (s : Record). zone_at s m) (e ∙ read_alters_nothing r m group))
by_command r after call m (Write figures) e d w =
    written figures (w figures refl) (write_at_zone r m figures d).present (rw e (write_sets r m figures d))

-- ---- each call

pub frame_after : (r : Record) (bytes room : List ℕ) → (answer_frame r bytes room).after ≡ (frame_result r bytes room).after
unfolding answer_frame
frame_after r bytes room = refl

pub text_after : (r : Record) (n : ℕ) (line room : List ℕ) → (answer_text r n line room).after ≡ (text_result r n line room).after
unfolding answer_text
text_after r n line room = refl

pub after_of : {o p : Result Record} → o ≡ p → o.after ≡ p.after
after_of e = ap (λ (x : Result Record). x.after) e

text_becomes : (r : Record) (m : ℕ) (line room : List ℕ) (n : ℕ) → Becomes r n (in_room (text m line) room) (zone_at (answer_text r m line room).after n)
text_becomes r m line room n =
    at_zone_lem r (in_room (text m line) room) m n (text_touches r m line room) (λ d.
    let w = line_is_done r m line room d in
    by_command r (answer_text r m line room).after (in_room (text m line) room) m w.command (text_after r m line room ∙ after_of w.came.same) w.came.done (λ f e. by_line line room (w.reads ∙ ap Ok e) d))

frame_becomes : (r : Record) (bytes room : List ℕ) (n : ℕ) → Becomes r n (in_room (frame bytes) room) (zone_at (answer_frame r bytes room).after n)
frame_becomes r bytes room n =
    by_done r (in_room (frame bytes) room)
    (λ d.
    let w = frame_is_done r bytes room d in
    let same = frame_after r bytes room ∙ after_of w.came.same in
    at_zone_lem r (in_room (frame bytes) room) w.zone n
    (λ k u. frame_touches r bytes room k (λ q. u (q ∙ ap zone_found w.found)))
    (λ d. by_command r (answer_frame r bytes room).after (in_room (frame bytes) room) w.zone w.command same w.came.done
    (λ f e. by_frame bytes room w.present.present (w.reads ∙ (λ i. Request (sym w.address i) (Ok (e i)))) d)))
    (λ u. stays (ap (λ (s : Record). zone_at s n) (record_kept r (in_room (frame bytes) room) u)))

-- a done addition found the zone absent
add_absent : (r : Record) (m a range : ℕ) → (add_of r m a range).number ≡ 0 → (zone_at r m).present ≡ false
add_absent r m a range d = (add_exactly r m a range).done.0 d 2

-- a done repair mends the zone or leaves it
repair_becomes : (r : Record) (n : ℕ) → Done r (quiet repair) → Becomes r n (quiet repair) (zone_at (after r (quiet repair)) n)
repair_becomes r n d =
    by_window (zone_at r n)
    (λ w. stays ((repair_mends r (repair_done r d)).others n (λ f s. not_shut (zone_at r n) f w s)))
    (λ f s. was_mended f (repaired d s) (shut_present r n f d s) ((repair_mends r (repair_done r d)).ends n f s))

-- a done merging empties zone a, moves its kilograms to b, and leaves the others
merge_becomes : (r : Record) (a b n : ℕ) → Done r (quiet (merge a b)) → Becomes r n (quiet (merge a b)) (zone_at (after r (quiet (merge a b))) n)
merge_becomes r a b n d =
    let f = merge_folds r a b d in
    let k = merge_at_zones r a b d in
    let at : ℕ → Type 0 = λ m. Becomes r m (quiet (merge a b)) (zone_at (after r (quiet (merge a b))) m) in
    by_zone n a
    (λ e. subst at (sym e) (was_removed (merged_away b (merged d)) k.present_a f.removed.zone))
    (λ u. by_zone n b
    (λ e. subst at (sym e) (was_rebooked ((zone_at r b).kilograms + (zone_at r a).kilograms) (moved_in a (merged d) refl) k.present_b f.moved))
    (λ v. stays (f.others n u v)))

-- ---- what a line or a frame sets

-- the command that came by a road is the one that was read
pub command_is : {c d : Command} → ◌≡◌ {A = Parsed} (Ok c) (Ok d) → c ≡ d
command_is e = cc

applied_sets : {o : Result Record} (r : Record) (n : ℕ) (c : Command) (f : Figures) → Applied o r n c → c ≡ Write f → SetsFigures (zone_at r n) f (zone_at o.after n)
applied_sets {o} r n c f w e =
    let came : o ≡ apply_of r n (Write f) = w.same ∙ ap (apply_of r n) e in
    let done : (apply_of r n (Write f)).number ≡ 0 = ap (λ (x : Command). (apply_of r n x).number) (sym e) ∙ w.done in
    rw came (write_sets r n f done)

line_sets : (r : Record) (n : ℕ) (f : Figures) (line room : List ℕ) → line_read line ≡ Ok (Write f) → (answer_text r n line room).said.number ≡ 0 → SetsFigures (zone_at r n) f (zone_at (answer_text r n line room).after n)
unfolding answer_text
line_sets r n f line room e d = let w = line_is_done r n line room d in applied_sets r n w.command f w.came (command_is (sym w.reads ∙ e))

-- the zone that a frame reached is the one that has its address
frame_sets : (r : Record) (n : ℕ) (f : Figures) (bytes room : List ℕ) → (zone_at r n).present ≡ true → frame_read bytes ≡ Request (zone_at r n).address (Ok (Write f)) → (answer_frame r bytes room).said.number ≡ 0
    → SetsFigures (zone_at r n) f (zone_at (answer_frame r bytes room).after n)
unfolding answer_frame
frame_sets r n f bytes room p e d =
    let w = frame_is_done r bytes room d in
    let read : Request (address_in bytes) (Ok w.command) ≡ Request (zone_at r n).address (Ok (Write f)) = sym w.reads ∙ e in
    let address : address_in bytes ≡ (zone_at r n).address = cc in
    let found : Some w.zone ≡ Some n = sym w.found ∙ ap (find_of r) address ∙ find_own r n w.present.sound_record p in
    let zone : w.zone ≡ n = cc in
    let command : w.command ≡ Write f = cc in
    applied_sets r n w.command f (subst (λ (m : ℕ). Applied (frame_result r bytes room) r m w.command) zone w.came) command

-- ---- a recipe

-- what a done line does to zone n
line_sets_one : (r : Record) (line : Sending) (room : List ℕ) (n : ℕ) → (answer_text r line.zone line.command room).said.number ≡ 0
    → SetsInTurn (zone_at r n) (cond (eqb line.zone n) (write_in (line_read line.command)) []) (zone_at (answer_text r line.zone line.command room).after n)
line_sets_one r line room n d =
    by_zone line.zone n
    (λ e. rw (eq-eqb line.zone n e) (subst (λ (m : ℕ). SetsInTurn (zone_at r m) (write_in (line_read line.command)) (zone_at (answer_text r line.zone line.command room).after m)) e (here w.command w.reads)))
    (λ u. rw (ne_eqb line.zone n u) (text_touches r line.zone line.command room n (λ e. u (sym e))))
  where
    w : LineDone r line.zone line.command room
    w = line_is_done r line.zone line.command room d

    here : (c : Command) → line_read line.command ≡ Ok c → SetsInTurn (zone_at r line.zone) (write_in (line_read line.command)) (zone_at (answer_text r line.zone line.command room).after line.zone)
    here (Read group) e = rw e (ap (λ (s : Record). zone_at s line.zone) (text_after r line.zone line.command room ∙ after_of w.came.same ∙ ap (λ (c : Command). (apply_of r line.zone c).after) (command_is (sym w.reads ∙ e)) ∙ read_alters_nothing r line.zone group))
    here (Write f) e = rw e (zone_at (answer_text r line.zone line.command room).after line.zone, line_sets r line.zone f line.command room e d, refl)

-- and what done lines do to it, in turn
lines_set_all : (r : Record) (lines : List Sending) (room : List ℕ) (n : ℕ) → every is_done (in_turn r lines room) ≡ true → SetsInTurn (zone_at r n) (writes_to n lines) (zone_at (left_by r (in_turn r lines room)) n)
unfolding in_turn
lines_set_all r [] room n d = refl
lines_set_all r (line ∷ lines) room n d =
    let one = answer_text r line.zone line.command (take 32 room) in
    let parts = first_done r line lines room d in
    in_turn_append (cond (eqb line.zone n) (write_in (line_read line.command)) []) (writes_to n lines) (zone_at r n) (zone_at one.after n) _
    (line_sets_one r line (take 32 room) n parts.0)
    (lines_set_all one.after lines (drop 32 room) n parts.1)

load_sets : (r : Record) (recipe room : List ℕ) (n : ℕ) → Done r (in_room (load recipe) room) → SetsInTurn (zone_at r n) (writes_to n (sendings (lines_of recipe))) (zone_at (after r (in_room (load recipe) room)) n)
load_sets r recipe room n d =
    let k = done r recipe room d in
    rw (ap (λ (o : Loading). o.answered.after) k.comes_to) (lines_set_all r (sendings (lines_of recipe)) room n k.each_done)

-- a zone that is not there has no done line
lines_leave : (r : Record) (lines : List Sending) (room : List ℕ) (n : ℕ) → every is_done (in_turn r lines room) ≡ true → (zone_at r n).present ≡ false → zone_at (left_by r (in_turn r lines room)) n ≡ zone_at r n
unfolding in_turn
lines_leave r [] room n d a = refl
lines_leave r (line ∷ lines) room n d a =
    let one = answer_text r line.zone line.command (take 32 room) in
    let parts = first_done r line lines room d in
    let w = line_is_done r line.zone line.command (take 32 room) parts.0 in
    let same : zone_at one.after n ≡ zone_at r n = text_touches r line.zone line.command (take 32 room) n (λ e. never (sym a ∙ ap (λ (m : ℕ). (zone_at r m).present) e ∙ w.present.present)) in
    lines_leave one.after lines (drop 32 room) n parts.1 (ap (λ (z : Zone). z.present) same ∙ a) ∙ same

load_becomes : (r : Record) (recipe room : List ℕ) (n : ℕ) → Done r (in_room (load recipe) room) → Becomes r n (in_room (load recipe) room) (zone_at (after r (in_room (load recipe) room)) n)
load_becomes r recipe room n d = by_presence (zone_at r n).present refl
  where
    by_presence : (t : Bool) → (zone_at r n).present ≡ t → Becomes r n (in_room (load recipe) room) (zone_at (after r (in_room (load recipe) room)) n)
    by_presence true p = was_loaded (writes_to n (sendings (lines_of recipe))) (loaded recipe room d refl) p (load_sets r recipe room n d)
    by_presence false p =
        let k = done r recipe room d in
        stays (ap (λ (o : Loading). zone_at o.answered.after n) k.comes_to ∙ lines_leave r (sendings (lines_of recipe)) room n k.each_done p)

-- ---- what becomes of a zone

pub becomes : EveryZoneBecomes
becomes r (in_room (text m line) room) n = text_becomes r m line room n
becomes r (in_room (frame bytes) room) n = frame_becomes r bytes room n
becomes r (in_room (compose_line c) room) n = stays refl
becomes r (in_room (compose_frame a c) room) n = stays refl
becomes r (in_room (load recipe) room) n = by_done r (in_room (load recipe) room) (load_becomes r recipe room n) (λ u. stays (ap (λ (s : Record). zone_at s n) (record_kept r (in_room (load recipe) room) u)))
becomes r (quiet (add m a range)) n =
    at_zone_lem r (quiet (add m a range)) m n (add_keeps r m a range).others (λ d. was_added a range (added d) (add_absent r m a range d) (add_sets r m a range d))
becomes r (quiet (remove m)) n = at_zone_lem r (quiet (remove m)) m n (remove_keeps r m).others (λ d. was_removed (removed d) (remove_at_zone r m d).present (remove_sets r m d))
becomes r (quiet (report m state actual)) n =
    at_zone_lem r (quiet (report m state actual)) m n (report_keeps r m state actual).others (λ d. was_reported state actual (reported d) (report_at_zone r m state actual d).present (report_sets r m state actual d))
becomes r (quiet (apply m c)) n =
    at_zone_lem r (quiet (apply m c)) m n (apply_keeps r m c).others (λ d. by_command r (apply_of r m c).after (quiet (apply m c)) m c refl d (λ f e. subst (λ (x : Command). Writes m f r (quiet (apply m x))) (sym e) (by_apply (subst (λ (x : Command). Done r (quiet (apply m x))) e d))))
becomes r (quiet (choose_source m source millivolts)) n =
    at_zone_lem r (quiet (choose_source m source millivolts)) m n (choose_source_keeps r m source millivolts).others
    (λ d. was_chosen source millivolts (chosen d) (choose_source_at_zone r m source millivolts d).present (choose_source_sets r m source millivolts d))
becomes r (quiet (setpoint_in_use m)) n = stays (ap (λ (s : Record). zone_at s n) (setpoint_in_use_alters_nothing r m))
becomes r (quiet (book m kg)) n =
    at_zone_lem r (quiet (book m kg)) m n (book_keeps r m kg).others (λ d. was_rebooked ((zone_at r m).kilograms + kg) (booked kg d refl) (book_at_zone r m kg d).present (book_sets r m kg d))
becomes r (quiet (ship m kg)) n =
    at_zone_lem r (quiet (ship m kg)) m n (ship_keeps r m kg).others (λ d. was_rebooked ((zone_at r m).kilograms - kg) (shipped kg d (omega (arith, ship_held r m kg d))) (ship_at_zone r m kg d).present (ship_sets r m kg d))
becomes r (quiet (merge a b)) n = by_done r (quiet (merge a b)) (merge_becomes r a b n) (λ u. stays (ap (λ (s : Record). zone_at s n) (record_kept r (quiet (merge a b)) u)))
becomes r (quiet repair) n = by_done r (quiet repair) (repair_becomes r n) (λ u. stays (ap (λ (s : Record). zone_at s n) (record_kept r (quiet repair) u)))

-- ---- what is done is set

figures_set : (r : Record) (call : Call) (n : ℕ) (f : Figures) → Writes n f r call → SetsFigures (zone_at r n) f (zone_at (after r call) n)
figures_set r call n f (by_apply d) = write_sets r n f d
figures_set r call n f (by_line line room e d) = line_sets r n f line room e d
figures_set r call n f (by_frame bytes room p e d) = frame_sets r n f bytes room p e d

status_set : (r : Record) (call : Call) (n state actual : ℕ) → Reports n state actual r call → SetsStatus (zone_at r n) (record { state = state_numbered state; actual = actual }) (zone_at (after r call) n)
status_set r call n state actual (reported d) = report_sets r n state actual d

emptied : (r : Record) (call : Call) (n : ℕ) → Removes n r call → zone_at (after r call) n ≡ empty_zone
emptied r call n (removed d) = remove_sets r n d
emptied r call n (merged_away b (merged d)) = (merge_folds r n b d).removed.zone

made_new : (r : Record) (call : Call) (n address range : ℕ) → Adds n address range r call → zone_at (after r call) n ≡ new_zone address range
made_new r call n address range (added d) = add_sets r n address range d

origin_set : (r : Record) (call : Call) (n : ℕ) (source : Source) (millivolts : ℕ) → Chooses n source millivolts r call
    → SetsOrigin (zone_at r n) (record { source = source; millivolts = millivolts }) (zone_at (after r call) n)
origin_set r call n source millivolts (chosen d) = choose_source_sets r n source millivolts d

kilograms_set : (r : Record) (call : Call) (n kg : ℕ) → Rebooks n kg r call → SetsKilograms (zone_at r n) kg (zone_at (after r call) n)
kilograms_set r call n kg (booked amount d e) = rw e (book_sets r n amount d)
kilograms_set r call n kg (shipped amount d e) = let left : kg ≡ (zone_at r n).kilograms - amount = omega (arith, e) in rw left (ship_sets r n amount d)
kilograms_set r call n kg (moved_in a (merged d) e) = rw e (merge_folds r a n d).moved

end_set : (r : Record) (call : Call) (n : ℕ) (f : WindowFigures) → Repairs n f r call → SetsFigures (zone_at r n) (AhueWindow (opened f)) (zone_at (after r call) n)
end_set r call n f (repaired d s) = (repair_mends r (repair_done r d)).ends n f s

lines_set : (r : Record) (call : Call) (n : ℕ) (writes : List Figures) → Loads n writes r call → SetsInTurn (zone_at r n) writes (zone_at (after r call) n)
lines_set r call n writes (loaded recipe room d e) = rw (← e) (load_sets r recipe room n d)

pub sets : WhatIsDoneIsSet
sets r call n = record { figures_set = figures_set r call n; status_set = status_set r call n; emptied = emptied r call n; made_new = made_new r call n; origin_set = origin_set r call n; kilograms_set = kilograms_set r call n; end_set = end_set r call n; lines_set = lines_set r call n }

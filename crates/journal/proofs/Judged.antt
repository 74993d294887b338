-- What is judged at the one zone that is looked at is what the call comes to on the record. Assumes nothing.
use Rattle.std.specs.Prelude.{Err, None, Option, Some}
use Prim.Native.Nat.{ℕ, ◌<◌}
use mathlib.Core.Path.{◌≡◌, refl, sym, ap, ◌∙◌}
use mathlib.Core.Bool.{Bool, true, false, not}
use mathlib.Core.List.{List, [], ◌∷◌}
use native.Mathlib.Omega.{arith}
use lib.ListN.{length, drop}
use lib.Seq.{take-append_seam}
use lib.Dec.{leb}
use borrow.Author.Tests.{leb-false, lt-ltb}
use Rattle.zone.specs.Zones.{new_zone}
use Rattle.zone.proofs.Tests.{neither}
use Rattle.card.specs.declared.answers.Refusal.TheVariants as refusal
use Rattle.card.specs.declared.judgements.Verdict.{Verdict}
use Rattle.card.specs.declared.records.Record.{Record}
use Rattle.card.specs.Answers.{Result, number_of, values_of}
use Rattle.card.specs.Refusals.{◌gives◌, settled}
use Rattle.card.specs.Records.{zone_at, with_zone, held_in, sound, find_of, no_zone}
use Rattle.card.specs.Calls.{add_at, add_of, remove_at, remove_of, report_at, report_of}
use Rattle.card.specs.Inner.{answer_by, after_by, verdict_seen, judged, stored, ask_at, ask_of, Asked}
use Rattle.card.proofs.Scans.{found_somewhere, found_nowhere}
use Rattle.card.proofs.Finding.{found_there}
use Rattle.card.proofs.Inner.{stored_settled}
use Rattle.line.specs.Line.{line_read}
use Rattle.frame.specs.declared.reading.Framed.{Framed}
use Rattle.frame.specs.declared.reading.Framed.TheVariants.{NoFrame, BadSum, Request}
use Rattle.frame.specs.Frame.{shaped, body_in, address_in, body_read, frame_read}
use Rattle.roads.specs.Acknowledgements.{text_reply, frame_reply}
use Rattle.roads.specs.Calls.{is_nowhere, zone_found, holder, result_at, text_result, frame_result, answer_text, answer_frame}
use Rattle.roads.specs.Inner.{one_of_sixteen, unless, asked_by}
use Rattle.roads.proofs.CallLaws.{asked_text, no_shape, bad_sum, right_sum, held_sum, held_right}
use Rattle.roads.proofs.Judged.{at, by_number, above, zone_at_lem, text_at}
use Rattle.session.specs.Sessions.{text, frame, add, remove, report, in_room, quiet}
use Rattle.session.proofs.Demand3.{stays_sound}
use Rattle.journal.specs.declared.asking.Entry.{Entry}
use Rattle.journal.specs.declared.asking.Entry.TheVariants.{Add, Remove, Report, Text, Frame, Unreadable}
use Rattle.texts.specs.Numbers.{in_hex}
use Rattle.journal.specs.Lines.{F, Asks, adds, removes, reports, says, frames, unreadable, asks_of}
use Rattle.journal.specs.Journal.{lent, output_line, Yield, yield_of, line_yields}
use Rattle.journal.specs.Inner.{entry_of, frame_sought, sought_of, look_up, place_of, asked_of_holder, asked_framed, entry_judged, frame_replied, output_of}

-- ---- the zone that is looked at

-- an addition: its address is held where it was found
held_found : (r : Record) (address : ℕ) → held_in r.zones address ≡ not (is_nowhere (find_of r address))
held_found r address = by_found (find_of r address) refl
  where
    by_found : (f : Option ℕ) → find_of r address ≡ f → held_in r.zones address ≡ not (is_nowhere f)
    by_found (Some n) e = sym (found_somewhere r.zones address n e)
    by_found None e = sym (found_nowhere r.zones address e)

add_at_lem : (r : Record) (n address range : ℕ) → add_of r n address range ≡ at r (one_of_sixteen n) (entry_judged (sound r) (Add n address range) (find_of r address) (zone_at r (one_of_sixteen n)))
unfolding add_of
add_at_lem r n address range =
    rw (held_found r address)
    (by_number n _ (λ h e q. rw (e, q))
    (λ e q.
    let held = not (is_nowhere (find_of r address)) in
    let new = new_zone address range in
    rw (e, q) (above r (sound r) (add_at (zone_at r n) address range held).rows (add_at (zone_at r 15) address range held).rows [] [] (with_zone r n new) (with_zone r 15 new))))

-- ---- a frame

-- a zone that was found is asked what the frame brings
held_at : (r : Record) (address n : ℕ) (what : Asked) → find_of r address ≡ Some n
    → ask_of r n what ≡ at r (one_of_sixteen n) (unless ((not (sound r) gives 2) ∷ []) (ask_at (zone_at r (one_of_sixteen n)) what))
unfolding ask_of
held_at r address n what e = by_sound (sound r) refl
  where
    by_sound : (s : Bool) → sound r ≡ s
        → settled r ((not s gives 2) ∷ (no_zone r n gives 3) ∷ (ask_at (zone_at r n) what).rows) (ask_at (zone_at r n) what).values (with_zone r n (ask_at (zone_at r n) what).after)
        ≡ at r (one_of_sixteen n) (unless ((not s gives 2) ∷ []) (ask_at (zone_at r (one_of_sixteen n)) what))
    by_sound false k = refl
    by_sound true k =
        let there : no_zone r n ≡ false = found_there r address n k e in
        let below : n < 16 = leb-false 16 n (neither (leb 16 n) (not (zone_at r n).present) there).0 in
        let here : one_of_sixteen n ≡ n = rw (lt-ltb n 16 below) in
        let there_at : settled r ((not true gives 2) ∷ (no_zone r n gives 3) ∷ (ask_at (zone_at r n) what).rows) (ask_at (zone_at r n) what).values (with_zone r n (ask_at (zone_at r n) what).after) ≡ at r n (unless ((not true gives 2) ∷ []) (ask_at (zone_at r n) what)) = rw there in
        there_at ∙ ap (λ (p : ℕ). at r p (unless ((not true gives 2) ∷ []) (ask_at (zone_at r p) what))) (sym here)

-- nobody holds the address: 5, whatever the frame brings
nobody_at : (r : Record) (bytes : List ℕ) → shaped bytes ≡ true → find_of r (address_in bytes) ≡ None
    → frame_result r bytes lent ≡ at r 15 (unless ((not (sound r) gives 2) ∷ []) (ask_at (zone_at r 15) (Err refusal.NobodyHolds)))
nobody_at r bytes h e = rw (h, e) (by_sound (sound r))
  where
    by_sound : (s : Bool)
        → result_at r 16 ((not s gives 2) ∷ (true gives 5) ∷ []) (body_read (body_in bytes)) ≡ at r 15 (unless ((not s gives 2) ∷ []) (ask_at (zone_at r 15) (Err refusal.NobodyHolds)))
    by_sound true = refl
    by_sound false = refl

abbrev found_by : Record → Framed → Option ℕ
found_by r framed = look_up r (frame_sought framed)

abbrev framed_at : Record → Framed → Option ℕ → Result Record
framed_at r framed found = at r (one_of_sixteen (zone_found found)) (unless ((not (sound r) gives 2) ∷ []) (ask_at (zone_at r (one_of_sixteen (zone_found found))) (asked_framed framed found)))

frame_at : (r : Record) (bytes : List ℕ)
    → frame_result r bytes lent
    ≡ at r (one_of_sixteen (zone_found (found_by r (frame_read bytes)))) (entry_judged (sound r) (Frame (frame_read bytes)) (found_by r (frame_read bytes)) (zone_at r (one_of_sixteen (zone_found (found_by r (frame_read bytes))))))
frame_at r bytes = by_framed (frame_read bytes) refl
  where
    shapeless : (s : Bool) → result_at r (zone_found (holder r bytes)) ((not s gives 2) ∷ (true gives 4) ∷ []) (body_read (body_in bytes)) ≡ at r 15 (unless ((not s gives 2) ∷ []) (ask_at (zone_at r 15) (Err refusal.NoFrame)))
    shapeless true = refl
    shapeless false = refl

    by_holder_lem : (framed : Framed) (what : Asked) → shaped bytes ≡ true → ((f : Option ℕ) → asked_framed framed f ≡ asked_of_holder f what)
        → ((n : ℕ) → find_of r (address_in bytes) ≡ Some n → ask_of r n what ≡ frame_result r bytes lent)
        → (f : Option ℕ) → find_of r (address_in bytes) ≡ f → frame_result r bytes lent ≡ framed_at r framed f
    by_holder_lem framed what h w asked (Some n) e = rw (w (Some n)) (sym (asked n e) ∙ held_at r (address_in bytes) n what e)
    by_holder_lem framed what h w asked None e = rw (w None) (nobody_at r bytes h e)

    by_framed : (framed : Framed) → frame_read bytes ≡ framed → frame_result r bytes lent ≡ framed_at r framed (found_by r framed)
    by_framed NoFrame e = rw (no_shape bytes e) (shapeless (sound r))
    by_framed (BadSum a) e =
        let k = bad_sum bytes a e in
        by_holder_lem (BadSum a) (Err refusal.Checksum) k.0 (λ f. refl) (λ n q. held_sum r bytes lent (omega arith) k.0 n q k.1) (find_of r a) (ap (find_of r) (sym k.2))
    by_framed (Request a p) e =
        let k = right_sum bytes a p e in
        by_holder_lem (Request a p) (asked_by p) k.0 (λ f. refl) (λ n q. rw k.3 (held_right r bytes lent (omega arith) k.0 n q k.1)) (find_of r a) (ap (find_of r) (sym k.2))

-- ---- what a line yields, by what its call comes to

abbrev yield_by : Entry → Result Record → Yield
yield_by entry o = record { output = output_of entry o.number o.values; after = o.after }

text_shown : (r : Record) (n : ℕ) (line : List ℕ) → yield_of r (says n line) ≡ yield_by (Text n (line_read line)) (text_result r n line lent)
unfolding answer_text output_of
text_shown r n line =
    let o = text_result r n line lent in
    let reply = text_reply o.number o.values in
    rw (take-append_seam reply (drop (length reply) lent))

frame_shown : (r : Record) (bytes : List ℕ) → yield_of r (frames bytes) ≡ yield_by (Frame (frame_read bytes)) (frame_result r bytes lent)
unfolding answer_frame frame_reply in_hex output_of
frame_shown r bytes =
    let o = frame_result r bytes lent in
    let reply = frame_reply (address_in bytes) o.number o.values in
    rw (take-append_seam reply (drop (length reply) lent)) (ap (λ (x : List ℕ). record { output = output_line F o.number x; after = o.after }) (by_framed (frame_read bytes) refl))
  where
    silence : (s : Bool) (result : Result Record) → result ≡ result_at r (zone_found (holder r bytes)) ((not s gives 2) ∷ (true gives 4) ∷ []) (body_read (body_in bytes)) → in_hex (frame_reply (address_in bytes) result.number result.values) ≡ []
    silence true result e = rw e
    silence false result e = rw e

    by_framed : (framed : Framed) → frame_read bytes ≡ framed
        → in_hex (frame_reply (address_in bytes) (frame_result r bytes lent).number (frame_result r bytes lent).values) ≡ frame_replied framed (frame_result r bytes lent).number (frame_result r bytes lent).values
    by_framed NoFrame e = silence (sound r) (frame_result r bytes lent) (rw (no_shape bytes e))
    by_framed (BadSum a) e = rw (bad_sum bytes a e).2
    by_framed (Request a p) e = rw (right_sum bytes a p e).2

-- where an entry looks, and what it comes to there
abbrev looks_for : Record → Entry → Option ℕ
looks_for r entry = look_up r (sought_of entry)

abbrev looks_at : Record → Entry → ℕ
looks_at r entry = place_of entry (looks_for r entry)

abbrev comes : Record → Entry → Result Record
comes r entry = at r (looks_at r entry) (entry_judged (sound r) entry (looks_for r entry) (zone_at r (looks_at r entry)))

remove_at_lem : (r : Record) (n : ℕ) → remove_of r n ≡ comes r (Remove n)
unfolding remove_of
remove_at_lem r n = zone_at_lem r n remove_at

report_at_lem : (r : Record) (n state actual : ℕ) → report_of r n state actual ≡ comes r (Report n state actual)
unfolding report_of
report_at_lem r n state actual = zone_at_lem r n (λ z. report_at z state actual)

came : (r : Record) (asks : Asks) → yield_of r asks ≡ yield_by (entry_of asks) (comes r (entry_of asks))
unfolding output_of
came r (adds n address range) = ap (λ (o : Result Record). yield_by (Add n address range) o) (add_at_lem r n address range)
came r (removes n) = ap (λ (o : Result Record). yield_by (Remove n) o) (remove_at_lem r n)
came r (reports n state actual) = ap (λ (o : Result Record). yield_by (Report n state actual) o) (report_at_lem r n state actual)
came r (says n line) = text_shown r n line ∙ ap (λ (o : Result Record). yield_by (Text n (line_read line)) o) (sym (asked_text r n line lent (omega arith)) ∙ text_at r n (line_read line))
came r (frames bytes) = frame_shown r bytes ∙ ap (λ (o : Result Record). yield_by (Frame (frame_read bytes)) o) (frame_at r bytes)
came r unreadable = refl

-- ---- one turn of the loop that holds the record

-- what the turn writes and leaves is what the line yields
line_turn : (r : Record) (line : List ℕ) (fit : Bool) (v : Verdict) → fit ≡ sound r
    → verdict_seen (zone_at r (looks_at r (entry_of (asks_of line)))) v ≡ judged (zone_at r (looks_at r (entry_of (asks_of line)))) (entry_judged fit (entry_of (asks_of line)) (looks_for r (entry_of (asks_of line))) (zone_at r (looks_at r (entry_of (asks_of line)))))
    → line_yields r line
    ≡ record {
      output = output_of (entry_of (asks_of line)) (number_of (answer_by v)) (values_of (answer_by v));
      after = with_zone r (looks_at r (entry_of (asks_of line))) (after_by v (zone_at r (looks_at r (entry_of (asks_of line)))));
    }
unfolding line_yields
line_turn r line fit v f e =
    let entry = entry_of (asks_of line) in
    let p = looks_at r entry in
    let j = entry_judged (sound r) entry (looks_for r entry) (zone_at r p) in
    let e' : verdict_seen (zone_at r p) v ≡ judged (zone_at r p) j = rw f at e in
    came r (asks_of line) ∙ ap (λ (o : Result Record). yield_by entry o) (sym (stored_settled r p j.rows j.values j.after) ∙ ap (stored r p) (sym e'))

-- a line leaves a sound record sound, and an unsound one as it is
unsound_kept : (r : Record) (entry : Entry) → sound r ≡ false → (comes r entry).after ≡ r
unsound_kept r (Add n address range) h = rw h
unsound_kept r (Remove n) h = rw h
unsound_kept r (Report n state actual) h = rw h
unsound_kept r (Text n parsed) h = rw h
unsound_kept r (Frame framed) h = rw h
unsound_kept r Unreadable h = refl

call_kept : (r : Record) (asks : Asks) → sound r ≡ true → sound (yield_of r asks).after ≡ true
call_kept r (adds zone address range) h = stays_sound r (quiet (add zone address range) ∷ []) h
call_kept r (removes zone) h = stays_sound r (quiet (remove zone) ∷ []) h
call_kept r (reports zone state actual) h = stays_sound r (quiet (report zone state actual) ∷ []) h
call_kept r (says zone line) h = stays_sound r (in_room (text zone line) lent ∷ []) h
call_kept r (frames bytes) h = stays_sound r (in_room (frame bytes) lent ∷ []) h
call_kept r unreadable h = h

pub sound_kept : (r : Record) (line : List ℕ) → sound (line_yields r line).after ≡ sound r
unfolding line_yields
sound_kept r line = by_sound (sound r) refl
  where
    by_sound : (s : Bool) → sound r ≡ s → sound (yield_of r (asks_of line)).after ≡ s
    by_sound true h = call_kept r (asks_of line) h
    by_sound false h = ap (λ (y : Yield). sound y.after) (came r (asks_of line)) ∙ ap sound (unsound_kept r (entry_of (asks_of line)) h) ∙ h

-- the same, of the values as the loop has them
pub turn_yields : (r r' : Record) (line : List ℕ) (fit : Bool) (entry : Entry) (found : Option ℕ) (n : ℕ) (v : Verdict)
    → entry ≡ entry_of (asks_of line) → found ≡ look_up r (sought_of entry) → n ≡ place_of entry found → fit ≡ sound r
    → verdict_seen (zone_at r n) v ≡ judged (zone_at r n) (entry_judged fit entry found (zone_at r n))
    → r' ≡ with_zone r n (after_by v (zone_at r n))
    → line_yields r line ≡ record { output = output_of entry (number_of (answer_by v)) (values_of (answer_by v)); after = r' }
turn_yields r r' line fit entry found n v e f p s j w = rw (w, p, f, e) (line_turn r line fit v s (rw (p, f, e) at j))

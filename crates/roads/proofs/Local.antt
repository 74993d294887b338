-- What an answer of a road hangs on: soundness, and what decides at the zone that it goes to; and that no other zone is touched. Assumes nothing.
use Rattle.std.specs.Prelude.{Err, Ok}
use Prim.Native.Nat.{ℕ}
use mathlib.Core.Path.{◌≡◌, refl, sym, ap, ◌∙◌}
use mathlib.Core.Bool.{Bool, true, false, cond, not, ◌||◌}
use mathlib.Core.List.{List, [], ◌∷◌}
use native.Mathlib.Omega.{arith}
use lib.Dec.{leb}
use lib.Seq.{get_or-set_other}
use borrow.Author.Tests.{eqb-true, ne_eqb}
use Rattle.zone.specs.declared.figures.Group.{Group}
use Rattle.zone.specs.declared.figures.Figures.{Figures}
use Rattle.zone.specs.declared.figures.Command.TheVariants.{Read, Write}
use Rattle.zone.specs.declared.zones.Zone.{Zone}
use Rattle.zone.specs.Lists.{is_zero}
use Rattle.zone.specs.Figures.{group_of, in_range}
use Rattle.zone.specs.Zones.{empty_zone, figures_of, locks}
use Rattle.card.specs.declared.records.Record.{Record}
use Rattle.card.specs.Answers.{Result}
use Rattle.card.specs.Refusals.{Row, ◌gives◌, first}
use Rattle.card.specs.Records.{zone_at, with_zone, sound}
use Rattle.line.specs.Line.{line_read}
use Rattle.frame.specs.Frame.{shaped, body_in, address_in, checksum_right, body_read}
use Rattle.roads.specs.Acknowledgements.{text_reply, frame_reply}
use Rattle.roads.specs.Calls.{said, too_small, is_unknown, is_syntax, parsed_at, text_rows, text_result, in_text_reply, answer_text, place_by, text_place, is_nowhere, zone_found, holder, frame_rows, frame_result, in_frame_reply, answer_frame}
use Rattle.roads.specs.Rules.{JudgesAlike, LineHangsOnItsZone, FrameHangsOnItsZone, LineTouchesItsZone, FrameTouchesItsZone}
use Rattle.wire.specs.declared.Misread.TheVariants.{Syntax, Unknown}
use Rattle.wire.specs.Road.{Parsed}

-- ---- what two zones decide

decided_rows : (z z' : Zone) (p : Parsed) → JudgesAlike z z' → (parsed_at z p).rows ≡ (parsed_at z' p).rows
decided_rows z z' (Ok (Read g)) j = refl
decided_rows z z' (Ok (Write f)) j = λ i. (not (in_range (j.range i) f) gives 9) ∷ (locks (j.state i) (group_of f) gives 10) ∷ []
decided_rows z z' (Err Unknown) j = refl
decided_rows z z' (Err Syntax) j = refl

decided_values : (z z' : Zone) (p : Parsed) → ((g : Group) → p ≡ Ok (Read g) → figures_of z g ≡ figures_of z' g) → (parsed_at z p).values ≡ (parsed_at z' p).values
decided_values z z' (Ok (Read g)) e = ap (λ (f : Figures). f ∷ []) (e g refl)
decided_values z z' (Ok (Write f)) e = refl
decided_values z z' (Err Unknown) e = refl
decided_values z z' (Err Syntax) e = refl

-- ---- by the same refusals

pub text_rows_lem : (r r' : Record) (n : ℕ) (line room : List ℕ) → sound r ≡ sound r' → JudgesAlike (zone_at r n) (zone_at r' n) → text_rows r n line room ≡ text_rows r' n line room
text_rows_lem r r' n line room s j = λ i.
    (too_small room gives 1)
    ∷ (not (s i) gives 2)
    ∷ ((leb 16 n || not (j.present i)) gives 3)
    ∷ (is_unknown (line_read line) gives 7)
    ∷ (is_syntax (line_read line) gives 8)
    ∷ decided_rows (zone_at r n) (zone_at r' n) (line_read line) j i

pub frame_rows_lem : (r r' : Record) (bytes room : List ℕ) → sound r ≡ sound r' → holder r bytes ≡ holder r' bytes
    → JudgesAlike (zone_at r (zone_found (holder r bytes))) (zone_at r' (zone_found (holder r bytes))) → frame_rows r bytes room ≡ frame_rows r' bytes room
frame_rows_lem r r' bytes room s e j =
    rw (← e)
    (λ i.
    (too_small room gives 1)
    ∷ (not (s i) gives 2)
    ∷ (not (shaped bytes) gives 4)
    ∷ (is_nowhere (holder r bytes) gives 5)
    ∷ (not (checksum_right bytes) gives 6)
    ∷ (is_unknown (body_read (body_in bytes)) gives 7)
    ∷ (is_syntax (body_read (body_in bytes)) gives 8)
    ∷ decided_rows (zone_at r (zone_found (holder r bytes))) (zone_at r' (zone_found (holder r bytes))) (body_read (body_in bytes)) j i)

-- ---- what is said

-- the same number and values, the same reply
text_said : (room : List ℕ) (o o' : Result Record) → o.number ≡ o'.number → o.values ≡ o'.values → (in_text_reply o room).said ≡ (in_text_reply o' room).said
text_said room o o' n v = λ i. said (n i) (v i) (text_reply (n i) (v i)) room

frame_said : (address : ℕ) (room : List ℕ) (o o' : Result Record) → o.number ≡ o'.number → o.values ≡ o'.values → (in_frame_reply address o room).said ≡ (in_frame_reply address o' room).said
frame_said address room o o' n v = λ i. said (n i) (v i) (frame_reply address (n i) (v i)) room

-- by the same refusals the same number, and where that is 0 of the same values the same
told_alike : (rows rows' : List Row) (values values' : List Figures) → rows ≡ rows' → (first rows ≡ 0 → values ≡ values') → cond (is_zero (first rows)) values [] ≡ cond (is_zero (first rows')) values' []
told_alike rows rows' values values' e v = by_done (is_zero (first rows)) refl ∙ ap (λ (l : List Row). cond (is_zero (first l)) values' []) e
  where
    by_done : (t : Bool) → is_zero (first rows) ≡ t → cond (is_zero (first rows)) values [] ≡ cond (is_zero (first rows)) values' []
    by_done true q = rw q (v (eqb-true (first rows) 0 q))
    by_done false q = rw q

pub text_local : LineHangsOnItsZone
unfolding answer_text text_place
text_local r r' n line room s j v =
    let rows = text_rows_lem r r' n line room s j in
    let alike = text_said room (text_result r n line room) (text_result r' n line room) (ap first rows)
    (told_alike _ _ _ _ rows (λ z. decided_values (zone_at r n) (zone_at r' n) (line_read line) (v z))) in
    (alike, λ i. place_by (first (rows i)) (j.range i) line)

pub frame_local : FrameHangsOnItsZone
unfolding answer_frame
frame_local r r' bytes room s j v = by_tests (sound r) (shaped bytes) refl refl
  where
    -- a record that is not sound, or no frame: the number hangs on room and soundness alone, and nothing is told
    silent : (number : ℕ) (t : Bool) (values : List Figures) → (number ≡ 0 → ⊥) → cond (is_zero (cond t 1 number)) values [] ≡ []
    silent number true values u = refl
    silent number false values u = rw (ne_eqb number 0 u)

    refused : (number : ℕ) → (number ≡ 0 → ⊥) → first (frame_rows r bytes room) ≡ cond (too_small room) 1 number → first (frame_rows r' bytes room) ≡ cond (too_small room) 1 number
        → (answer_frame r bytes room).said ≡ (answer_frame r' bytes room).said
    refused number u e e' =
        frame_said (address_in bytes) room (frame_result r bytes room) (frame_result r' bytes room) (e ∙ sym e')
        (rw (e, e') (silent number (too_small room) _ u ∙ sym (silent number (too_small room) _ u)))

    by_tests : (t u : Bool) → sound r ≡ t → shaped bytes ≡ u → (answer_frame r bytes room).said ≡ (answer_frame r' bytes room).said
    by_tests false u p q = refused 2 (λ e. omega arith) (rw p) (rw (sym s ∙ p))
    by_tests true false p q = refused 4 (λ e. omega arith) (rw (p, q)) (rw (sym s ∙ p, q))
    by_tests true true p q =
        let n = zone_found (holder r bytes) in
        let e = (j p q).0 in
        let rows = frame_rows_lem r r' bytes room s e (j p q).1 in
        frame_said (address_in bytes) room (frame_result r bytes room) (frame_result r' bytes room) (ap first rows)
        (told_alike _ _ _ _ rows (λ z. rw (← e) (decided_values (zone_at r n) (zone_at r' n) (body_read (body_in bytes)) (v z))))

-- ---- what is left of the other zones

-- what would be stored in zone n leaves zone m
other_kept : (r : Record) (n m : ℕ) (z : Zone) (done : Bool) → (m ≡ n → ⊥) → zone_at (cond done (with_zone r n z) r) m ≡ zone_at r m
other_kept r n m z true u = get_or-set_other r.zones n m z empty_zone u
other_kept r n m z false u = refl

pub text_touches : LineTouchesItsZone
unfolding answer_text
text_touches r n line room m u = other_kept r n m _ (is_zero (text_result r n line room).number) u

pub frame_touches : FrameTouchesItsZone
unfolding answer_frame
frame_touches r bytes room m u = other_kept r (zone_found (holder r bytes)) m _ (is_zero (frame_result r bytes room).number) u

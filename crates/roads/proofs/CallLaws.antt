-- How the functions of a call come to what the definition says. Assumes nothing.
use Rattle.std.specs.Prelude.{Err, Ok, None, Option, Some}
use Prim.Native.Nat.{ℕ, ◌≤◌, ◌<◌}
use mathlib.Core.Path.{◌≡◌, refl, sym, ap, ◌∙◌}
use mathlib.Core.Bool.{Bool, true, false, cond, not, ◌||◌}
use mathlib.Core.List.{List, [], ◌∷◌}
use native.Mathlib.Omega.{arith}
use lib.ListN.{length}
use lib.Dec.{leb, eqb}
use borrow.Author.Tests.{le-ltb, lt-leb, leb-false, eqb-true}
use Rattle.card.specs.declared.answers.Refusal.{Refusal}
use Rattle.card.specs.declared.answers.Refusal.TheVariants as refusal
use Rattle.card.specs.declared.answers.Answer.{Answer}
use Rattle.card.specs.declared.records.Record.{Record}
use Rattle.card.specs.declared.records.Outcome.{Outcome}
use Rattle.card.specs.Answers.{Result, number_of, values_of, outcome_seen}
use Rattle.card.specs.Refusals.{◌gives◌, first, settled}
use Rattle.card.specs.Records.{zone_at, with_zone, sound, find_of, no_zone}
use Rattle.card.specs.Inner.{range_at, ask_of, Asked}
use Rattle.card.proofs.Finding.{found_there}
use Rattle.wire.specs.Room.{Filled}
use Rattle.wire.proofs.Choices.{by_cond}
use Rattle.line.specs.Line.{line_read}
use Rattle.line.specs.Places.{told, wrong_in, out_in}
use Rattle.frame.specs.declared.reading.Framed.TheVariants.{NoFrame, BadSum, Request}
use Rattle.frame.specs.Frame.{shaped, body_in, address_in, checksum_right, body_read, frame_read}
use Rattle.roads.specs.declared.calls.Replied.{Replied}
use Rattle.roads.specs.Acknowledgements.{text_reply, frame_reply}
use Rattle.roads.specs.Calls.{replied_seen, too_small, parsed_rows, text_result, in_text_reply, answer_text, place_by, text_place, is_nowhere, zone_found, holder, result_at, frame_result, in_frame_reply, answer_frame}
use Rattle.roads.specs.Inner.{asked_by, place_found, silent_of, frame_at}
use Rattle.roads.proofs.Seen.{said_of}
use Rattle.wire.specs.declared.Misread.TheVariants.{Syntax, Unknown}
use Rattle.wire.specs.Road.{Parsed}

-- ---- what a line or a body brings to a zone is judged by the rows 7, 8, 9, 10

pub parsed_asked : (r : Record) (n : ℕ) (p : Parsed) → ask_of r n (asked_by p) ≡ result_at r n ((not (sound r) gives 2) ∷ (no_zone r n gives 3) ∷ parsed_rows (zone_at r n) p) p
unfolding ask_of
parsed_asked r n (Ok c) = refl
parsed_asked r n (Err Unknown) = refl
parsed_asked r n (Err Syntax) = refl

-- ---- a line

pub asked_text : (r : Record) (n : ℕ) (line room : List ℕ) → 32 ≤ length room → ask_of r n (asked_by (line_read line)) ≡ text_result r n line room
asked_text r n line room h = rw (le-ltb (length room) 32 h) (parsed_asked r n (line_read line))

pub text_answer : (r : Record) (n : ℕ) (line room room' : List ℕ) (k place : ℕ) (o : Outcome) → 32 ≤ length room
    → outcome_seen o ≡ ask_of r n (asked_by (line_read line))
    → Filled (text_reply (number_of o.answer) (values_of o.answer)) room room' k
    → replied_seen (record { answer = o.answer; length = k; place = place; after = o.after }) room' ≡ answer_text r n line room
unfolding answer_text
text_answer r n line room room' k place o h e f =
    (λ i. record { said = said_of (number_of o.answer) (values_of o.answer) (text_reply (number_of o.answer) (values_of o.answer)) room room' k f i; after = o.after })
    ∙ ap (λ (x : Result Record). in_text_reply x room) (e ∙ asked_text r n line room h)

-- 9 is given only where there is a zone of that number
nine_below : (r : Record) (n : ℕ) (line room : List ℕ) → (text_result r n line room).number ≡ 9 → n < 16
nine_below r n line room e = by_zone (leb 16 n) refl
  where
    never : (t u v : Bool) → cond t 1 (cond u 2 (cond (true || v) 3 (first (parsed_rows (zone_at r n) (line_read line))))) ≡ 9 → n < 16
    never true u v z = absurd (omega (arith, z))
    never false true v z = absurd (omega (arith, z))
    never false false v z = absurd (omega (arith, z))

    by_zone : (t : Bool) → leb 16 n ≡ t → n < 16
    by_zone true q = never (too_small room) (not (sound r)) (not (zone_at r n).present) (rw q at e)
    by_zone false q = leb-false 16 n q

-- so the place is that of the reading, in the range that the record has for the zone
pub text_placed : (r : Record) (n : ℕ) (line room : List ℕ) (number : ℕ) → number ≡ (answer_text r n line room).said.number
    → place_found number (record { parsed = line_read line; place = told (wrong_in line) }) (range_at r n) ≡ text_place r n line room
unfolding text_place answer_text
text_placed r n line room number e = rw e (by_number (eqb (text_result r n line room).number 9) refl)
  where
    by_number : (t : Bool) → eqb (text_result r n line room).number 9 ≡ t
        → cond (eqb (text_result r n line room).number 8) (told (wrong_in line)) (cond (eqb (text_result r n line room).number 9) (told (out_in (range_at r n) (line_read line))) 0)
        ≡ place_by (text_result r n line room).number (zone_at r n).range line
    by_number true q = rw (lt-leb 16 n (nine_below r n line room (eqb-true _ _ q)))
    by_number false q = rw q

-- ---- a frame

-- no answer of this road carries a place
pub silent_place : (r : Record) (why : Refusal) → (silent_of r why).place ≡ 0
silent_place r why = by_sound (sound r)
  where
    by_sound : (t : Bool) → (cond {A = Replied} t (record { answer = Answer.Refused why; length = 0; place = 0; after = r }) (record { answer = Answer.Refused refusal.NotSound; length = 0; place = 0; after = r })).place ≡ 0
    by_sound true = refl
    by_sound false = refl

-- what the frame must be where it was read as something
pub no_shape : (f : List ℕ) → frame_read f ≡ NoFrame → shaped f ≡ false
unfolding frame_read
no_shape f h =
    by_cond (shaped f) h
    (λ s k. by_cond (checksum_right f) k (λ c e. absurd (let z : ◌≡◌ {A = ℕ} 0 1 = cc in omega arith)) (λ c e. absurd (let z : ◌≡◌ {A = ℕ} 0 1 = cc in omega arith)))
    (λ s k. s)

pub bad_sum : (f : List ℕ) (a : ℕ) → frame_read f ≡ BadSum a → (shaped f ≡ true) × (checksum_right f ≡ false) × (a ≡ address_in f)
unfolding frame_read
bad_sum f a h =
    by_cond (shaped f) h
    (λ s k. by_cond (checksum_right f) k (λ c e. absurd (let z : ◌≡◌ {A = ℕ} 0 1 = cc in omega arith)) (λ c e. (s, c, let z : a ≡ address_in f = cc in z)))
    (λ s k. absurd (let z : ◌≡◌ {A = ℕ} 0 1 = cc in omega arith))

pub right_sum : (f : List ℕ) (a : ℕ) (p : Parsed) → frame_read f ≡ Request a p → (shaped f ≡ true) × (checksum_right f ≡ true) × (a ≡ address_in f) × (p ≡ body_read (body_in f))
unfolding frame_read
right_sum f a p h =
    by_cond (shaped f) h
    (λ s k. by_cond (checksum_right f) k (λ c e. (s, c, (let z : a ≡ address_in f = cc in z), (let z : p ≡ body_read (body_in f) = cc in z))) (λ c e. absurd (let z : ◌≡◌ {A = ℕ} 0 1 = cc in omega arith)))
    (λ s k. absurd (let z : ◌≡◌ {A = ℕ} 0 1 = cc in omega arith))

-- no frame: 4, in silence
pub shapeless : (r : Record) (f room : List ℕ) → 32 ≤ length room → shaped f ≡ false → replied_seen (silent_of r refusal.NoFrame) room ≡ answer_frame r f room
unfolding answer_frame frame_reply
shapeless r f room h s = rw (le-ltb (length room) 32 h, s) (by_sound (sound r))
  where
    by_sound : (t : Bool) → replied_seen (cond t (record { answer = Answer.Refused refusal.NoFrame; length = 0; place = 0; after = r }) (record { answer = Answer.Refused refusal.NotSound; length = 0; place = 0; after = r })) room
        ≡ in_frame_reply (address_in f) (result_at r (zone_found (holder r f)) ((not t gives 2) ∷ (true gives 4) ∷ []) (body_read (body_in f))) room
    by_sound true = refl
    by_sound false = refl

module _ (r : Record) (f room : List ℕ) (h : 32 ≤ length room) (s : shaped f ≡ true) where
  -- an address that nobody holds: 5, in silence, whatever the checksum
  unheld : find_of r (address_in f) ≡ None → replied_seen (silent_of r refusal.NobodyHolds) room ≡ answer_frame r f room
  unfolding answer_frame frame_reply
  unheld e = rw (le-ltb (length room) 32 h, s, e) (by_sound (sound r))
    where
      by_sound : (t : Bool) → replied_seen (cond t (record { answer = Answer.Refused refusal.NobodyHolds; length = 0; place = 0; after = r }) (record { answer = Answer.Refused refusal.NotSound; length = 0; place = 0; after = r })) room
          ≡ in_frame_reply (address_in f) (result_at r 16 ((not t gives 2) ∷ (true gives 5) ∷ []) (body_read (body_in f))) room
      by_sound true = refl
      by_sound false = refl

  -- a held address: what the frame brings is asked of the zone that was found
  pub held_sum : (n : ℕ) → find_of r (address_in f) ≡ Some n → checksum_right f ≡ false → ask_of r n (Err refusal.Checksum) ≡ frame_result r f room
  unfolding ask_of
  held_sum n e c = rw (le-ltb (length room) 32 h, s, e, c) (by_sound (sound r) refl)
    where
      by_sound : (t : Bool) → sound r ≡ t
          → settled r ((not t gives 2) ∷ (no_zone r n gives 3) ∷ (true gives 6) ∷ []) [] (with_zone r n (zone_at r n))
          ≡ result_at r n ((not t gives 2) ∷ (true gives 6) ∷ []) (body_read (body_in f))
      by_sound true k = rw (found_there r (address_in f) n k e)
      by_sound false k = refl

  pub held_right : (n : ℕ) → find_of r (address_in f) ≡ Some n → checksum_right f ≡ true → ask_of r n (asked_by (body_read (body_in f))) ≡ frame_result r f room
  held_right n e c = parsed_asked r n (body_read (body_in f)) ∙ by_sound (sound r) refl ∙ sym passed
    where
      -- past the tests that the frame passes: 1, 4, 5 and 6
      passed : frame_result r f room ≡ result_at r n ((not (sound r) gives 2) ∷ parsed_rows (zone_at r n) (body_read (body_in f))) (body_read (body_in f))
      passed = λ i.
          result_at r (zone_found (e i))
          ((le-ltb (length room) 32 h i gives 1)
          ∷ (not (sound r) gives 2)
          ∷ (not (s i) gives 4)
          ∷ (is_nowhere (e i) gives 5)
          ∷ (not (c i) gives 6)
          ∷ parsed_rows (zone_at r (zone_found (e i))) (body_read (body_in f)))
          (body_read (body_in f))

      by_sound : (t : Bool) → sound r ≡ t
          → result_at r n ((not t gives 2) ∷ (no_zone r n gives 3) ∷ parsed_rows (zone_at r n) (body_read (body_in f))) (body_read (body_in f))
          ≡ result_at r n ((not t gives 2) ∷ parsed_rows (zone_at r n) (body_read (body_in f))) (body_read (body_in f))
      by_sound true k = rw (found_there r (address_in f) n k e)
      by_sound false k = refl

  -- so it is the call's answer
  pub holder_answer : (what : Asked) → ((n : ℕ) → find_of r (address_in f) ≡ Some n → ask_of r n what ≡ frame_result r f room) → frame_at r (address_in f) what room ≡ answer_frame r f room
  unfolding frame_at answer_frame
  holder_answer what asked = by_found (find_of r (address_in f)) refl
    where
      by_found : (x : Option ℕ) → find_of r (address_in f) ≡ x
          → Rattle.roads.specs.Inner.by_holder r (address_in f) what room x ≡ in_frame_reply (address_in f) (frame_result r f room) room
      by_found None e = unheld e
      by_found (Some n) e = ap (λ (o : Result Record). in_frame_reply (address_in f) o room) (asked n e)

-- what was asked of a holder and replied, in the room, is the answer under that address
pub frame_answer : (r : Record) (n a : ℕ) (what : Asked) (room room' : List ℕ) (k : ℕ) (o : Outcome)
    → outcome_seen o ≡ ask_of r n what
    → Filled (frame_reply a (number_of o.answer) (values_of o.answer)) room room' k
    → replied_seen (record { answer = o.answer; length = k; place = 0; after = o.after }) room' ≡ in_frame_reply a (ask_of r n what) room
frame_answer r n a what room room' k o e f =
    (λ i. record { said = said_of (number_of o.answer) (values_of o.answer) (frame_reply a (number_of o.answer) (values_of o.answer)) room room' k f i; after = o.after })
    ∙ ap (λ (x : Result Record). in_frame_reply a x room) e

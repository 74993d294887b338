-- A recipe of no line, of one line, and one recipe behind another. Assumes nothing.
use Prim.Native.Nat.{ℕ, suc, ◌+◌, ◌-◌, ◌*◌, ◌≤◌, ◌<◌}
use mathlib.Core.Path.{◌≡◌, refl, sym, ap, ◌∙◌}
use mathlib.Core.Logic.{inl, inr}
use mathlib.Core.Bool.{Bool, true, false}
use mathlib.Core.List.{List, [], ◌∷◌, ◌++◌, map, map-append, append_assoc}
use native.Mathlib.Omega.{arith}
use lib.ListN.{length, take, drop, get_or, replicate, length-append, length-drop, length-map, take-append-drop, replicate-append-replicate, length-replicate}
use lib.Dec.{ltb}
use lib.Seq.{drop-drop, take_at, take-append-add, drop-append-le, length-take-le}
use borrow.Author.Tests.{ltb-true, ltb-false, lt-ltb, le-ltb, eqb-true, eqb-false}
use Rattle.zone.specs.Lists.{is_zero, every, some}
use Rattle.zone.proofs.Tests.{both, neither}
use Rattle.card.specs.declared.records.Record.{Record}
use Rattle.card.specs.Answers.{Result}
use Rattle.card.specs.Records.{zone_at, sound}
use Rattle.wire.specs.Room.{filled}
use Rattle.roads.specs.Acknowledgements.{text_reply}
use Rattle.roads.specs.Calls.{Answered, port_rows, text_result, in_text_reply, answer_text, place_by, text_place}
use Rattle.roads.proofs.Lengths.{text_fits, room_kept}
use Rattle.texts.specs.Texts.{ended_behind, begun_behind, begun, lines_of, to, zoned}
use Rattle.texts.proofs.Parts.{by_test, feed_begun, none_begun, lines_append}
use Rattle.recipes.specs.Recipes.{lacks, Sending, sending_in, sendings, Sent, sent, in_turn, is_done, left_by, room_by, lengths_by, Loading, refused_with, loaded_with, tried_with, load_of}
use Rattle.recipes.specs.Rules.{sent_singly, ZeroLinesAreDone, IsText, OneLineIsText, EndsItsLine, Behind, OneBehindAnother}
use Rattle.recipes.specs.Inner.{port_result, port_place}
use Rattle.recipes.proofs.Sent.{port_answer, port_place_lem, sent_as, in_turn_next}
use Rattle.recipes.proofs.Cases.{as_many, no_room, not_sound}
use Rattle.recipes.proofs.Told.{well, Fine, fine, well_formed, Done, done, loaded}

-- ---- no line

pub zero_lines : ZeroLinesAreDone
unfolding load_of in_turn ended_behind begun_behind
zero_lines r room = let h = le-ltb (length room) 0 (omega arith) in record { done = λ s. rw (h, s); unsound = λ s. rw (h, s) }

-- ---- one line

-- a reply in the first 32 bytes, and what stands behind these
front_filled : (reply room : List ℕ) → length reply ≤ 32 → 32 ≤ length room → filled reply (take 32 room) ++ drop 32 room ≡ filled reply room
front_filled reply room small h =
    let wide : length reply ≤ length (take 32 room) = omega (arith, length-take-le 32 room h) in
    append_assoc reply (drop (length reply) (take 32 room)) (drop 32 room)
    ∙ ap (λ (l : List ℕ). reply ++ l) (sym (drop-append-le (length reply) (take 32 room) (drop 32 room) wide) ∙ rw (take-append-drop 32 room))

module _ (r : Record) (recipe line : List ℕ) (zone : ℕ) (command room : List ℕ) (e : lines_of recipe ≡ line ∷ []) (z : zoned line ≡ to zone command) where
  -- both are refused with the same
  both_refused : (number at place : ℕ) → (number ≡ 0 → ⊥) → load_of r recipe room ≡ refused_with r room number at place → (answer_text r zone command room).said.number ≡ number
      → (answer_text r zone command room).after ≡ r → text_place r zone command room ≡ place → IsText r recipe zone command room
  both_refused number at place u l n a p =
      let number_told : (load_of r recipe room).answered.said.number ≡ number = ap (λ (x : Loading). x.answered.said.number) l in
      record {
        number = number_told ∙ sym n;
        record_left = ap (λ (x : Loading). x.answered.after) l ∙ sym a;
        place = ap (λ (x : Loading). x.place) l ∙ sym p;
        room_left = λ d. absurd (u (sym number_told ∙ d));
        length = λ d. absurd (u (sym number_told ∙ d));
      }

  -- 1
  text_small : length room < 32 → text_result r zone command room ≡ record { number = 1; values = []; after = r }
  text_small h = rw (lt-ltb (length room) 32 h)

  small : length room < 32 → IsText r recipe zone command room
  unfolding answer_text text_place
  small h =
      let l = no_room r recipe room (omega (arith, ap length e)) in
      both_refused 1 0 0 (λ q. omega arith) l (ap (λ (o : Result Record). o.number) (text_small h)) (ap (λ (o : Result Record). o.after) (text_small h)) (rw (lt-ltb (length room) 32 h))

  module _ (h : 32 ≤ length room) where
    -- 2
    text_unsound : sound r ≡ false → text_result r zone command room ≡ record { number = 2; values = []; after = r }
    text_unsound s = rw (le-ltb (length room) 32 h, s)

    unsound : sound r ≡ false → IsText r recipe zone command room
    unfolding answer_text text_place
    unsound s =
        let l = not_sound r recipe room (omega (arith, ap length e)) s in
        both_refused 2 0 0 (λ q. omega arith) l (ap (λ (o : Result Record). o.number) (text_unsound s)) (ap (λ (o : Result Record). o.after) (text_unsound s)) (rw (le-ltb (length room) 32 h, s))

    module _ (s : sound r ≡ true) where
      abbrev its : Sending
      its = record { zone = zone; command = command }

      abbrev o : Result Record
      o = port_result r its

      abbrev one : Sent
      one = sent_as o (port_place r its) (port_rows r zone command) room

      sent_one : sent_singly r recipe room ≡ one ∷ []
      unfolding in_turn
      sent_one = ap (λ (lines : List (List ℕ)). in_turn r (sendings lines) room) e ∙ rw z (in_turn_next r its [] room s h)

      comes_to : load_of r recipe room ≡ tried_with r room (one ∷ [])
      comes_to =
          let w = well_formed r recipe room (record { enough = rw e h; is_sound = s; few = rw e (omega arith); formed = rw (e, z) }) in
          well r recipe room w ∙ ap (λ (all : List Sent). tried_with r room all) sent_one

      text_answer : answer_text r zone command room ≡ in_text_reply o room
      text_answer = port_answer r its room s h

      text_place_lem : text_place r zone command room ≡ port_place r its
      text_place_lem = port_place_lem r its room s h

      tried : IsText r recipe zone command room
      tried = by_test (is_zero o.number) is_done_lem not_done
        where
          is_done_lem : is_zero o.number ≡ true → IsText r recipe zone command room
          is_done_lem d =
              let l : load_of r recipe room ≡ loaded_with r room (one ∷ []) = comes_to ∙ rw d in
              let zero : o.number ≡ 0 = eqb-true o.number 0 d in
              record {
                number = ap (λ (x : Loading). x.answered.said.number) l ∙ sym zero ∙ sym (ap (λ (a : Answered). a.said.number) text_answer);
                record_left = ap (λ (x : Loading). x.answered.after) l ∙ sym (ap (λ (a : Answered). a.after) text_answer);
                place = ap (λ (x : Loading). x.place) l ∙ sym (text_place_lem ∙ ap (λ (n : ℕ). place_by n (zone_at r zone).range command) zero);
                room_left = λ q. ap (λ (x : Loading). x.answered.said.room) l ∙ front_filled (text_reply o.number o.values) room (text_fits o.number o.values) h ∙ sym (ap (λ (a : Answered). a.said.room) text_answer);
                length = λ q. ap (λ (x : Loading). get_or x.lengths 0 0) l ∙ sym (ap (λ (a : Answered). a.said.length) text_answer);
              }

          not_done : is_zero o.number ≡ false → IsText r recipe zone command room
          not_done d =
              let l : load_of r recipe room ≡ refused_with r room o.number 1 (port_place r its) = comes_to ∙ rw d in
              both_refused o.number 1 (port_place r its) (eqb-false o.number 0 d) l (ap (λ (a : Answered). a.said.number) text_answer) (ap (λ (a : Answered). a.after) text_answer ∙ rw d) text_place_lem

pub one_line : OneLineIsText
one_line r recipe line zone command room e z =
    by_test (ltb (length room) 32)
    (λ t. small r recipe line zone command room e z (ltb-true (length room) 32 t))
    (λ t.
    let h = ltb-false (length room) 32 t in
    by_test (sound r) (tried r recipe line zone command room e z h) (unsound r recipe line zone command room e z h))

-- ---- one recipe behind another

pub every_both : {A : Type 0} (test : A → Bool) (xs ys : List A) → every test xs ≡ true → every test ys ≡ true → every test (xs ++ ys) ≡ true
every_both test [] ys h k = k
every_both test (x ∷ xs) ys h k = let b = both (test x) (every test xs) h in rw b.0 (every_both test xs ys b.1 k)

some_neither : {A : Type 0} (test : A → Bool) (xs ys : List A) → some test xs ≡ false → some test ys ≡ false → some test (xs ++ ys) ≡ false
some_neither test [] ys h k = k
some_neither test (x ∷ xs) ys h k = let b = neither (test x) (some test xs) h in rw b.0 (some_neither test xs ys b.1 k)

pub sendings_append : (xs ys : List (List ℕ)) → sendings (xs ++ ys) ≡ sendings xs ++ sendings ys
sendings_append [] ys = refl
sendings_append (x ∷ xs) ys = rw (sendings_append xs ys) (sym (append_assoc (sending_in (zoned x)) (sendings xs) (sendings ys)))

-- the room behind one line more
pub drop_more : (k : ℕ) (room : List ℕ) → drop (32 * k) (drop 32 room) ≡ drop (32 * suc k) room
drop_more k room =
    let n : 32 + 32 * k ≡ 32 * suc k = omega arith in
    drop-drop (32 * k) 32 room ∙ ap (λ (m : ℕ). drop m room) n

pub in_turn_append : (r : Record) (xs ys : List Sending) (room : List ℕ) → in_turn r (xs ++ ys) room ≡ in_turn r xs room ++ in_turn (left_by r (in_turn r xs room)) ys (drop (32 * length xs) room)
unfolding in_turn
in_turn_append r [] ys room = refl
in_turn_append r (x ∷ xs) ys room =
    let one = sent r x (take 32 room) in
    let left = left_by one.answered.after (in_turn one.answered.after xs (drop 32 room)) in
    ap (λ (l : List Sent). one ∷ l) (in_turn_append one.answered.after xs ys (drop 32 room) ∙ ap (λ (l : List ℕ). in_turn one.answered.after xs (drop 32 room) ++ in_turn left ys l) (drop_more (length xs) room))

pub in_turn_length : (r : Record) (xs : List Sending) (room : List ℕ) → length (in_turn r xs room) ≡ length xs
unfolding in_turn
in_turn_length r [] room = refl
in_turn_length r (x ∷ xs) room = ap suc (in_turn_length (sent r x (take 32 room)).answered.after xs (drop 32 room))

left_append : (r : Record) (a b : List Sent) → left_by r (a ++ b) ≡ left_by (left_by r a) b
left_append r [] b = refl
left_append r (one ∷ a) b = left_append one.answered.after a b

-- each line leaves its 32 bytes as many
pub sent_wide : (r : Record) (line : Sending) (lent : List ℕ) → 32 ≤ length lent → length (sent r line lent).answered.said.room ≡ length lent
unfolding answer_text
sent_wide r line lent h =
    let o = text_result r line.zone line.command lent in
    room_kept (text_reply o.number o.values) lent (omega (arith, text_fits o.number o.values))

room_append : (r : Record) (xs : List Sending) (room : List ℕ) (b : List Sent) → 32 * length xs ≤ length room
    → room_by (in_turn r xs room ++ b) room ≡ take (32 * length xs) (room_by (in_turn r xs room) room) ++ room_by b (drop (32 * length xs) room)
unfolding in_turn
room_append r [] room b h = refl
room_append r (x ∷ xs) room b h =
    let one = sent r x (take 32 room) in
    let rest = in_turn one.answered.after xs (drop 32 room) in
    let its = one.answered.said.room in
    let first : length (take 32 room) ≡ 32 = length-take-le 32 room (omega arith) in
    let wide : length its ≡ 32 = sent_wide r x (take 32 room) (omega arith) ∙ first in
    let n : 32 * suc (length xs) ≡ length its + 32 * length xs = omega arith in
    let more = room_append one.answered.after xs (drop 32 room) b (omega (arith, length-drop 32 room)) in
    ap (λ (l : List ℕ). its ++ l) (more ∙ ap (λ (l : List ℕ). take (32 * length xs) (room_by rest (drop 32 room)) ++ room_by b l) (drop_more (length xs) room))
    ∙ sym (append_assoc its (take (32 * length xs) (room_by rest (drop 32 room))) (room_by b (drop (32 * suc (length xs)) room)))
    ∙ ap (λ (l : List ℕ). l ++ room_by b (drop (32 * suc (length xs)) room)) (sym (ap (λ (m : ℕ). take m (its ++ room_by rest (drop 32 room))) n ∙ take-append-add its (room_by rest (drop 32 room)) (32 * length xs)))

-- numbers, and zeros up to 64 behind them
take_same : (k m z : ℕ) → take k (replicate (k + m) z) ≡ replicate k z
take_same k m z = ap (λ (l : List ℕ). take k l) (sym (replicate-append-replicate k m z)) ∙ take_at (replicate k z) (replicate m z) k (length-replicate k z)

padded_append : (xs ys : List ℕ) (m n : ℕ) → length xs ≡ m → length ys ≡ n → m + n ≤ 64
    → xs ++ ys ++ replicate (64 - (m + n)) 0 ≡ take m (xs ++ replicate (64 - m) 0) ++ take (64 - m) (ys ++ replicate (64 - n) 0)
padded_append xs ys m n p q h =
    let k = 64 - (m + n) in
    let front : 64 - m ≡ length ys + k = omega arith in
    let zeros : 64 - n ≡ k + m = omega arith in
    rw (take_at xs (replicate (64 - m) 0) m p, front, take-append-add ys (replicate (64 - n) 0) k, zeros, take_same k m 0) (append_assoc xs ys (replicate k 0))

lengths_append : (a b : List Sent) → length a + length b ≤ 64 → lengths_by (a ++ b) ≡ take (length a) (lengths_by a) ++ take (64 - length a) (lengths_by b)
lengths_append a b h =
    let f : Sent → ℕ = λ one. one.answered.said.length in
    rw (map-append f a b, length-append a b) (padded_append (map f a) (map f b) (length a) (length b) (length-map a f) (length-map b f) h)

pub ends_line : (recipe : List ℕ) → EndsItsLine recipe → begun recipe ≡ []
ends_line recipe (inl e) = rw e none_begun
ends_line recipe (inr (front, e)) = rw e (feed_begun front)

module _ (r : Record) (recipe second room : List ℕ) (ends : begun recipe ≡ []) (few : length (lines_of recipe) + length (lines_of second) ≤ 64)
    (first_done : (load_of r recipe room).answered.said.number ≡ 0)
    (second_done : (load_of (load_of r recipe room).answered.after second (drop (32 * length (lines_of recipe)) room)).answered.said.number ≡ 0) where
  abbrev n : ℕ
  n = length (lines_of recipe)

  abbrev between : Record
  between = (load_of r recipe room).answered.after

  abbrev a : List Sent
  a = sent_singly r recipe room

  abbrev b : List Sent
  b = sent_singly between second (drop (32 * n) room)

  one_done : Done r recipe room
  one_done = done r recipe room first_done

  two_done : Done between second (drop (32 * n) room)
  two_done = done between second (drop (32 * n) room) second_done

  one_fine : Fine r recipe room
  one_fine = fine r recipe room one_done.form_right

  two_fine : Fine between second (drop (32 * n) room)
  two_fine = fine between second (drop (32 * n) room) two_done.form_right

  lines_both : lines_of (recipe ++ second) ≡ lines_of recipe ++ lines_of second
  lines_both = lines_append recipe second ends

  as_many_first : length (sendings (lines_of recipe)) ≡ n
  as_many_first = as_many (lines_of recipe) one_fine.formed

  left_between : between ≡ left_by r a
  left_between = ap (λ (x : Loading). x.answered.after) one_done.comes_to

  sent_both : sent_singly r (recipe ++ second) room ≡ a ++ b
  sent_both =
      ap (λ (lines : List (List ℕ)). in_turn r (sendings lines) room) lines_both
      ∙ ap (λ (l : List Sending). in_turn r l room) (sendings_append (lines_of recipe) (lines_of second))
      ∙ in_turn_append r (sendings (lines_of recipe)) (sendings (lines_of second)) room
      ∙ rw (as_many_first, left_between)

  comes_to_both : load_of r (recipe ++ second) room ≡ loaded_with r room (a ++ b)
  comes_to_both =
      let w = well_formed r (recipe ++ second) room (record {
        enough = rw lines_both (omega (arith, length-append (lines_of recipe) (lines_of second), one_fine.enough, two_fine.enough, length-drop (32 * n) room));
        is_sound = one_fine.is_sound;
        few = rw lines_both (omega (arith, length-append (lines_of recipe) (lines_of second)));
        formed = rw lines_both (some_neither lacks (lines_of recipe) (lines_of second) one_fine.formed two_fine.formed);
      }) in
      loaded r (recipe ++ second) room w (rw sent_both (every_both is_done a b one_done.each_done two_done.each_done)) ∙ ap (λ (all : List Sent). loaded_with r room all) sent_both

  length_first : length a ≡ n
  length_first = in_turn_length r (sendings (lines_of recipe)) room ∙ as_many_first

  length_second : length b ≡ length (lines_of second)
  length_second = in_turn_length between (sendings (lines_of second)) (drop (32 * n) room) ∙ as_many (lines_of second) two_fine.formed

  room_both : room_by (a ++ b) room ≡ take (32 * n) (room_by a room) ++ room_by b (drop (32 * n) room)
  room_both = rw as_many_first at (room_append r (sendings (lines_of recipe)) room b (rw as_many_first one_fine.enough))

  lengths_both : lengths_by (a ++ b) ≡ take n (lengths_by a) ++ take (64 - n) (lengths_by b)
  lengths_both = lengths_append a b (omega (arith, length_first, length_second)) ∙ ap (λ (m : ℕ). take m (lengths_by a) ++ take (64 - m) (lengths_by b)) length_first

  one_behind : Behind recipe (load_of r recipe room) (load_of between second (drop (32 * n) room)) (load_of r (recipe ++ second) room)
  one_behind =
      let one = one_done.comes_to in
      let two = two_done.comes_to in
      record {
        done = ap (λ (x : Loading). x.answered.said.number) comes_to_both;
        record_left = ap (λ (x : Loading). x.answered.after) comes_to_both ∙ left_append r a b ∙ ap (λ (x : Record). left_by x b) (sym left_between) ∙ sym (ap (λ (x : Loading). x.answered.after) two);
        room_left = ap (λ (x : Loading). x.answered.said.room) comes_to_both ∙ room_both
            ∙ (λ i. take (32 * n) (sym one i).answered.said.room ++ (sym two i).answered.said.room);
        lengths_told = ap (λ (x : Loading). x.lengths) comes_to_both ∙ lengths_both ∙ (λ i. take n (sym one i).lengths ++ take (64 - n) (sym two i).lengths);
      }

pub one_behind_another : OneBehindAnother
one_behind_another r recipe second room e few one two = one_behind r recipe second room (ends_line recipe e) few one two

-- Where the reply to each line stands. Assumes nothing.
use Prim.Native.Nat.{ℕ, zero, suc, ◌+◌, ◌-◌, ◌*◌, ◌≤◌, ◌<◌}
use mathlib.Core.Path.{◌≡◌, refl, sym, ap, ◌∙◌}
use mathlib.Core.List.{List, [], ◌∷◌, ◌++◌, map}
use native.Mathlib.Omega.{arith}
use lib.ListN.{length, take, drop, get_or, replicate, length-drop}
use lib.Seq.{take_at, drop_at, drop-append-add, length-take-le}
use Rattle.card.specs.declared.records.Record.{Record}
use Rattle.roads.specs.Acknowledgements.{text_reply}
use Rattle.roads.specs.Calls.{text_result, answer_text}
use Rattle.texts.specs.Texts.{lines_of}
use Rattle.recipes.specs.Recipes.{Sending, sendings, Sent, sent, in_turn, room_by, Loading, load_of}
use Rattle.recipes.specs.Rules.{sent_singly, EachIsSent, RepliesStand}
use Rattle.recipes.proofs.Cases.{as_many}
use Rattle.recipes.proofs.Told.{fine, done}
use Rattle.recipes.proofs.Few.{drop_more, in_turn_length, sent_wide}

module _ (r : Record) (x : Sending) (xs : List Sending) (room : List ℕ) (h : 32 * length (x ∷ xs) ≤ length room) where
  abbrev one : Sent
  one = sent r x (take 32 room)

  wide : length one.answered.said.room ≡ 32
  wide =
      let first : length (take 32 room) ≡ 32 = length-take-le 32 room (omega arith) in
      sent_wide r x (take 32 room) (omega arith) ∙ first

  -- past the first line's 32 bytes
  past : (k : ℕ) (rest : List ℕ) → drop (32 * suc k) (one.answered.said.room ++ rest) ≡ drop (32 * k) rest
  past k rest =
      let n : 32 * suc k ≡ length one.answered.said.room + 32 * k = omega (arith, wide) in
      ap (λ (m : ℕ). drop m (one.answered.said.room ++ rest)) n ∙ drop-append-add one.answered.said.room rest (32 * k)

  enough_left : 32 * length xs ≤ length (drop 32 room)
  enough_left = omega (arith, length-drop 32 room)

room_at : (r : Record) (xs : List Sending) (room : List ℕ) → 32 * length xs ≤ length room → (k : ℕ) (d : Sent) → k < length xs
    → take 32 (drop (32 * k) (room_by (in_turn r xs room) room)) ≡ (get_or (in_turn r xs room) k d).answered.said.room
unfolding in_turn
room_at r [] room h k d l = absurd (omega arith)
room_at r (x ∷ xs) room h zero d l = take_at (sent r x (take 32 room)).answered.said.room (room_by (in_turn (sent r x (take 32 room)).answered.after xs (drop 32 room)) (drop 32 room)) 32 (wide r x xs room h)
room_at r (x ∷ xs) room h (suc k) d l =
    ap (λ (l : List ℕ). take 32 l) (past r x xs room h k (room_by (in_turn (sent r x (take 32 room)).answered.after xs (drop 32 room)) (drop 32 room)))
    ∙ room_at (sent r x (take 32 room)).answered.after xs (drop 32 room) (enough_left r x xs room h) k d (omega arith)

room_beyond : (r : Record) (xs : List Sending) (room : List ℕ) → 32 * length xs ≤ length room → drop (32 * length xs) (room_by (in_turn r xs room) room) ≡ drop (32 * length xs) room
unfolding in_turn
room_beyond r [] room h = refl
room_beyond r (x ∷ xs) room h =
    past r x xs room h (length xs) (room_by (in_turn (sent r x (take 32 room)).answered.after xs (drop 32 room)) (drop 32 room))
    ∙ room_beyond (sent r x (take 32 room)).answered.after xs (drop 32 room) (enough_left r x xs room h)
    ∙ drop_more (length xs) room

length_at : (all : List Sent) (zeros : List ℕ) (k : ℕ) (d : Sent) → k < length all → get_or (map (λ one. one.answered.said.length) all ++ zeros) k 0 ≡ (get_or all k d).answered.said.length
length_at [] zeros k d l = absurd (omega arith)
length_at (x ∷ all) zeros zero d l = refl
length_at (x ∷ all) zeros (suc k) d l = length_at all zeros k d (omega arith)

-- behind a reply the bytes that were lent are as they were
sent_kept : (r : Record) (x : Sending) (lent : List ℕ) → drop (sent r x lent).answered.said.length (sent r x lent).answered.said.room ≡ drop (sent r x lent).answered.said.length lent
unfolding answer_text
sent_kept r x lent =
    let o = text_result r x.zone x.command lent in
    let reply = text_reply o.number o.values in
    drop_at reply (drop (length reply) lent) (length reply) refl

slot_kept : (r : Record) (xs : List Sending) (room : List ℕ) (k : ℕ) (d : Sent) → k < length xs
    → drop (get_or (in_turn r xs room) k d).answered.said.length (get_or (in_turn r xs room) k d).answered.said.room ≡ drop (get_or (in_turn r xs room) k d).answered.said.length (take 32 (drop (32 * k) room))
unfolding in_turn
slot_kept r [] room k d l = absurd (omega arith)
slot_kept r (x ∷ xs) room zero d l = sent_kept r x (take 32 room)
slot_kept r (x ∷ xs) room (suc k) d l =
    slot_kept (sent r x (take 32 room)).answered.after xs (drop 32 room) k d (omega arith)
    ∙ ap (λ (l : List ℕ). drop (get_or (in_turn (sent r x (take 32 room)).answered.after xs (drop 32 room)) k d).answered.said.length (take 32 l)) (drop_more k room)

pub each_sent : EachIsSent
each_sent r recipe room w = in_turn_length r (sendings (lines_of recipe)) room ∙ as_many (lines_of recipe) (fine r recipe room w).formed

pub replies_stand : RepliesStand
replies_stand r recipe room z =
    let t = done r recipe room z in
    let f = fine r recipe room t.form_right in
    let xs = sendings (lines_of recipe) in
    let many = as_many (lines_of recipe) f.formed in
    let enough : 32 * length xs ≤ length room = rw many f.enough in
    let count = each_sent r recipe room t.form_right in
    let some_line = sent r (record { zone = 0; command = [] }) [] in
    let slot : (k : ℕ) (d : Sent) → k < length (lines_of recipe) → take 32 (drop (32 * k) (load_of r recipe room).answered.said.room) ≡ (get_or (sent_singly r recipe room) k d).answered.said.room
    = λ k d l. ap (λ (x : Loading). take 32 (drop (32 * k) x.answered.said.room)) t.comes_to ∙ room_at r xs room enough k d (omega (arith, many)) in
    let wide : (k : ℕ) (d : Sent) → k < length (lines_of recipe) → get_or (load_of r recipe room).lengths k 0 ≡ (get_or (sent_singly r recipe room) k d).answered.said.length
    = λ k d l. ap (λ (x : Loading). get_or x.lengths k 0) t.comes_to ∙ length_at (sent_singly r recipe room) (replicate (64 - length (sent_singly r recipe room)) 0) k d (omega (arith, count)) in
    record {
      here = slot;
      length_here = wide;
      kept = λ k l. (λ i. drop (wide k some_line l i) (slot k some_line l i)) ∙ slot_kept r xs room k some_line (omega (arith, many)) ∙ ap (λ (n : ℕ). drop n (take 32 (drop (32 * k) room))) (sym (wide k some_line l));
      beyond = ap (λ (x : Loading). drop (32 * length (lines_of recipe)) x.answered.said.room) t.comes_to ∙ (rw many at (room_beyond r xs room enough));
    }

-- One turn, and the end, of the loop that puts the replies: those that stand, and those that are left, make the whole. Assumes nothing.
use Prim.Native.Nat.{ℕ, zero, suc, ◌+◌, ◌-◌, ◌*◌, ◌≤◌, ◌<◌}
use mathlib.Core.Path.{◌≡◌, refl, sym, ap, ◌∙◌}
use mathlib.Core.List.{List, [], ◌∷◌, ◌++◌, map, append_assoc}
use native.Mathlib.Omega.{arith}
use native.Mathlib.Numerals.{add-one}
use lib.ListN.{length, take, drop, set, get_or, replicate, length-append, length-map, take-append-drop, drop_of_length-le, get_or-map}
use lib.Seq.{take_all, drop-drop, drop-cons, set_at, append_snoc, length-take-le, take-append-add, drop-append-add}
use borrow.Rule.Slice.PartMut.{put_mid}
use Rattle.zone.specs.declared.figures.Figures.{Figures}
use Rattle.wire.specs.Room.{filled, placed, Filled}
use Rattle.wire.proofs.Room.{lent_part}
use Rattle.roads.proofs.Lengths.{text_fits}
use Rattle.card.specs.declared.answers.Answer.{Answer}
use Rattle.recipes.specs.Inner.{told, reply_of, replies_in, lengths_of}
use Rattle.recipes.proofs.Parts.{part_behind}

-- ---- a reply put from `at` on, where `width` bytes are its own

module _ (room reply : List ℕ) (at width : ℕ) (fits : at + width ≤ length room) (small : length reply ≤ width) where
  -- the room up to the reply's end
  head : List ℕ
  head = take at room ++ reply

  head_length : length head ≡ at + length reply
  unfolding head
  head_length = rw (length-append, length-take-le at room (omega arith))

  whole : at + width ≡ length head + (width - length reply)
  whole = omega (arith, head_length)

  put_front : take (at + width) (placed room at reply) ≡ take at room ++ filled reply (take width (drop at room))
  unfolding placed head
  put_front =
      rw (whole, take-append-add head (drop (at + length reply) room) (width - length reply), part_behind room at width (length reply) fits small)
      (append_assoc (take at room) reply (take (width - length reply) (drop (at + length reply) room)))

  put_rest : drop (at + width) (placed room at reply) ≡ drop width (drop at room)
  unfolding placed head
  put_rest =
      let n : at + length reply + (width - length reply) ≡ at + width = omega arith in
      rw (whole, drop-append-add head (drop (at + length reply) room) (width - length reply), drop-drop (width - length reply) (at + length reply) room, n, drop-drop width at room)

-- as the code puts it: all of the room from `at` on is lent, and comes back
put_part : (room reply part : List ℕ) (at n : ℕ) → at + length reply ≤ length room → Filled reply (take (length room - at) (drop at room)) part n
    → put_mid at (length room - at) room part ≡ placed room at reply
put_part room reply part at n fits f = lent_part room reply part at fits f.contents

-- ---- the replies and their lengths, before and after a turn

-- k replies stand in the room, and their lengths are told; the others are still to come
pub record Ahead (all : List (ℕ × List Figures)) (room₀ room lengths : List ℕ) (k : ℕ) : Type 0 where
  pub replies : replies_in all room₀ ≡ take (32 * k) room ++ replies_in (drop k all) (drop (32 * k) room)
  pub measures : lengths ≡ map (λ one. length (reply_of one)) (take k all) ++ replicate (64 - k) 0

pub ahead_all : (all : List (ℕ × List Figures)) (room : List ℕ) → Ahead all room room (replicate 64 0) 0
ahead_all all room = record { replies = refl; measures = refl }

-- a number for each of the first k + 1, by those of the first k
measured : {A : Type 0} (f : A → ℕ) (l : List A) (k : ℕ) (d : A) → k < length l → map f (take (suc k) l) ≡ map f (take k l) ++ (f (get_or l k d) ∷ [])
measured f [] k d h = absurd (omega arith)
measured f (x ∷ l) zero d h = refl
measured f (x ∷ l) (suc k) d h = ap (λ (r : List ℕ). f x ∷ r) (measured f l k d (omega arith))

module _ (all : List (ℕ × List Figures)) (room₀ room lengths : List ℕ) (k : ℕ) (a : Ahead all room₀ room lengths k) where
  pub ahead_none : k ≡ length all → (room ≡ replies_in all room₀) × (lengths ≡ lengths_of all)
  ahead_none e =
      let over : length all ≤ k = omega arith in
      let gone : drop k all ≡ [] = drop_of_length-le all over in
      (sym (a.replies ∙ rw gone (take-append-drop (32 * k) room)), a.measures ∙ rw (take_all k all over, e))

  module _ (d : ℕ × List Figures) (more : k < length all) (few : length all ≤ 64) where
    abbrev reply : List ℕ
    reply = reply_of (get_or all k d)

    reply_fits : length reply ≤ 32
    reply_fits = text_fits (get_or all k d).0 (get_or all k d).1

    replies_on : 32 * k + 32 ≤ length room
        → replies_in all room₀ ≡ take (32 * (k + 1)) (placed room (32 * k) reply) ++ replies_in (drop (k + 1) all) (drop (32 * (k + 1)) (placed room (32 * k) reply))
    replies_on fits =
        let n : 32 * (k + 1) ≡ 32 * k + 32 = omega arith in
        let its = filled reply (take 32 (drop (32 * k) room)) in
        let rest = replies_in (drop (k + 1) all) (drop 32 (drop (32 * k) room)) in
        rw (n, put_front room reply (32 * k) 32 fits reply_fits, put_rest room reply (32 * k) 32 fits reply_fits, append_assoc (take (32 * k) room) its rest, add-one k)
        (rw (drop-cons all k d more) at a.replies)

    lengths_on : set lengths k (length reply) ≡ map (λ one. length (reply_of one)) (take (k + 1) all) ++ replicate (64 - (k + 1)) 0
    lengths_on =
        let n : 64 - k ≡ suc (64 - (k + 1)) = omega arith in
        let known = map (λ one. length (reply_of one)) (take k all) in
        let front : length known ≡ k = length-map (take k all) (λ one. length (reply_of one)) ∙ length-take-le k all (omega arith) in
        rw (a.measures, n, set_at known 0 (replicate (64 - (k + 1)) 0) (length reply) k front, add-one k, measured (λ one. length (reply_of one)) all k d more)
        (sym (append_snoc known (length reply) (replicate (64 - suc k) 0)))

    ahead_more : (part : List ℕ) (n : ℕ) → 32 * k + 32 ≤ length room → Filled reply (take (length room - 32 * k) (drop (32 * k) room)) part n
        → Ahead all room₀ (put_mid (32 * k) (length room - 32 * k) room part) (set lengths k n) (k + 1)
    ahead_more part n fits f =
        let room_after = put_part room reply part (32 * k) n (omega (arith, reply_fits)) f in
        rw (room_after, f.count) (record { replies = replies_on fits; measures = lengths_on })

-- ---- the same of the answers

module _ (answers : List Answer) (few : length answers ≤ 64) where
  pub ahead_turn : (room₀ room lengths part : List ℕ) (k n : ℕ) (d : Answer) → k < length answers → 32 * length answers ≤ length room
      → Ahead (map told answers) room₀ room lengths k
      → Filled (reply_of (told (get_or answers k d))) (take (length room - 32 * k) (drop (32 * k) room)) part n
      → Ahead (map told answers) room₀ (put_mid (32 * k) (length room - 32 * k) room part) (set lengths k n) (k + 1)
  ahead_turn room₀ room lengths part k n d h fits a f =
      let long : length (map told answers) ≡ length answers = length-map answers told in
      ahead_more (map told answers) room₀ room lengths k a (told d) (omega (arith, long)) (omega (arith, long)) part n (omega arith) (rw (get_or-map told answers k d) f)

  pub ahead_over : (room₀ room lengths : List ℕ) → Ahead (map told answers) room₀ room lengths (length answers) → (room ≡ replies_in (map told answers) room₀) × (lengths ≡ lengths_of (map told answers))
  ahead_over room₀ room lengths a = ahead_none (map told answers) room₀ room lengths (length answers) a (sym (length-map answers told))

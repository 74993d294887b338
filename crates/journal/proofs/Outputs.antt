-- The parts of an output line: how long each is, and how they stand one behind the other in the room. Assumes nothing.
use Prim.Native.Nat.{ℕ, ◌+◌, ◌-◌, ◌≤◌, ◌<◌}
use mathlib.Core.Path.{◌≡◌, ◌∙◌}
use mathlib.Core.List.{List, [], ◌∷◌, ◌++◌, append_assoc}
use native.Mathlib.Omega.{arith}
use native.Mathlib.Numerals.{add-one}
use lib.ListN.{length, take, drop, set, length-append}
use lib.Seq.{take-append_seam, drop-cons, set-append_seam, append_snoc}
use lib.Dec.{ltb}
use borrow.Rule.Slice.PartMut.{put_mid}
use Rattle.zone.specs.declared.figures.Figures.{Figures}
use Rattle.card.specs.declared.answers.Refusal.{Refusal}
use Rattle.card.specs.declared.answers.Refusal.TheVariants as refusal
use Rattle.card.specs.declared.answers.Answer.{Answer}
use Rattle.card.specs.declared.answers.Answer.TheVariants.{Done, Told, Refused}
use Rattle.card.specs.Answers.{refusal_number, number_of}
use Rattle.wire.specs.Room.{filled, Filled}
use Rattle.wire.proofs.Room.{placed_next, lent_part}
use Rattle.line.specs.Line.{digits_for}
use Rattle.frame.specs.declared.reading.Framed.{Framed}
use Rattle.frame.specs.declared.reading.Framed.TheVariants.{NoFrame, BadSum, Request}
use Rattle.roads.specs.Acknowledgements.{frame_reply}
use Rattle.roads.proofs.Lengths.{either, text_fits, frame_fits}
use Rattle.journal.specs.declared.asking.Entry.{Entry}
use Rattle.journal.specs.declared.asking.Entry.TheVariants.{Add, Remove, Report, Text, Frame, Unreadable}
use Rattle.journal.specs.Journal.{number_digits, output_line}
use Rattle.texts.specs.Texts.{tab, line_feed, or_dash}
use Rattle.texts.proofs.Hex.{hex_length}
use Rattle.journal.specs.Inner.{frame_replied, reply_of}

-- ---- how long the parts are

refusal_below : (why : Refusal) → refusal_number why < 100
refusal_below refusal.NoRoom = omega arith
refusal_below refusal.NotSound = omega arith
refusal_below refusal.NoZone = omega arith
refusal_below refusal.NoFrame = omega arith
refusal_below refusal.NobodyHolds = omega arith
refusal_below refusal.Checksum = omega arith
refusal_below refusal.Unknown = omega arith
refusal_below refusal.Syntax = omega arith
refusal_below refusal.OutOfRange = omega arith
refusal_below refusal.Locked = omega arith
refusal_below refusal.AddressHeld = omega arith
refusal_below refusal.AlreadyPresent = omega arith
refusal_below refusal.Unreadable = omega arith
refusal_below refusal.NoRecipe = omega arith
refusal_below refusal.StillBooked = omega arith
refusal_below refusal.BadAmount = omega arith
refusal_below refusal.SameZone = omega arith

pub number_below : (answer : Answer) → number_of answer < 100
number_below Done = omega arith
number_below (Told figures) = omega arith
number_below (Refused why) = refusal_below why

pub framed_fits : (framed : Framed) (number : ℕ) (values : List Figures) → length (frame_replied framed number values) ≤ 32
framed_fits NoFrame number values = omega arith
framed_fits (BadSum address) number values = omega (arith, hex_length (frame_reply address number values), frame_fits address number values)
framed_fits (Request address parsed) number values = omega (arith, hex_length (frame_reply address number values), frame_fits address number values)

-- a reply to an entry, or the dash
reply_fits : (entry : Entry) (number : ℕ) (values : List Figures) → length (reply_of entry number values) ≤ 32
reply_fits (Add zone address range) number values = omega arith
reply_fits (Remove zone) number values = omega arith
reply_fits (Report zone state actual) number values = omega arith
reply_fits (Text zone parsed) number values = text_fits number values
reply_fits (Frame framed) number values = framed_fits framed number values
reply_fits Unreadable number values = omega arith

dash_fits : (reply : List ℕ) → length reply ≤ 32 → length (or_dash reply) ≤ 32
dash_fits [] h = omega arith
dash_fits (x ∷ reply) h = h

pub reply_count : (entry : Entry) (number : ℕ) (values : List Figures) (room after : List ℕ) (n : ℕ) → Filled (or_dash (reply_of entry number values)) room after n → n ≤ 32
reply_count entry number values room after n f = omega (arith, f.count, dash_fits (reply_of entry number values) (reply_fits entry number values))

-- what was put is at the front of the room
pub taken_back : (reply room after : List ℕ) (n : ℕ) → Filled reply room after n → take n after ≡ reply
taken_back reply room after n f = rw (f.contents, f.count) (take-append_seam reply (drop (length reply) room))

-- ---- the number's digits

pub decimal_fits : (n : ℕ) → length (number_digits n) ≤ 2
decimal_fits n = either (ltb n 10) (digits_for 1 n) (digits_for 2 n) 2 (omega arith) (omega arith)

-- ---- head, reply and line feed

-- a byte set behind those at the front
set_behind : (xs room : List ℕ) (i v : ℕ) → i ≡ length xs → i < length room → set (filled xs room) i v ≡ filled (xs ++ (v ∷ [])) room
set_behind xs room i v e h =
    let j : length xs < length room = omega arith in
    rw (e, drop-cons room (length xs) 0 j, set-append_seam, length-append, add-one, append_snoc)

-- the part behind a head, lent and filled with a reply, and a byte set behind both
module _ (head reply room between part : List ℕ) (k n v : ℕ) (fits : k + n < length room) (same : length between ≡ length room)
    (f : Filled head room between k) (g : Filled reply (take (length between - k) (drop k between)) part n) where
  together : put_mid k (length between - k) between part ≡ filled (head ++ reply) room
  together =
      let h : k + length reply ≤ length between = omega (arith, g.count) in
      lent_part between reply part k h g.contents ∙ rw (f.contents, f.count) (placed_next head reply room)

  counted : k + n ≡ length (head ++ reply)
  counted = rw length-append (omega (arith, f.count, g.count))

  all_put : Filled ((head ++ reply) ++ (v ∷ [])) room (set (put_mid k (length between - k) between part) (k + n) v) (k + n + 1)
  all_put = record { count = rw length-append (omega (arith, counted)); contents = rw together (set_behind (head ++ reply) room (k + n) v counted fits) }

-- the letter and the number, each with its tab
abbrev head_of : ℕ → ℕ → List ℕ
head_of letter number = letter ∷ tab ∷ (number_digits number ++ (tab ∷ []))

pub head_count : (letter number : ℕ) (room after : List ℕ) (k : ℕ) → Filled (head_of letter number) room after k → k ≤ 5
head_count letter number room after k f = omega (arith, f.count, decimal_fits number, length-append (number_digits number) (tab ∷ []))

in_line : (letter number : ℕ) (reply : List ℕ) → (head_of letter number ++ or_dash reply) ++ (line_feed ∷ []) ≡ output_line letter number reply
in_line letter number reply = simp append_assoc

pub output_put : (letter number : ℕ) (reply room between part : List ℕ) (k n : ℕ) → k + n < length room → length between ≡ length room
    → Filled (head_of letter number) room between k → Filled (or_dash reply) (take (length between - k) (drop k between)) part n
    → Filled (output_line letter number reply) room (set (put_mid k (length between - k) between part) (k + n) line_feed) (k + n + 1)
output_put letter number reply room between part k n fits same f g = rw (in_line letter number reply) at (all_put (head_of letter number) (or_dash reply) room between part k n line_feed fits same f g)

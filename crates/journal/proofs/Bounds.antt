-- How much a line can yield: at most eight bytes for each of its own, its line feed counted. A line that is short is unreadable or adds, removes or reports, and
-- has no reply; one that says something has four bytes at least, and a frame that is replied to has nine bytes, in two digits each. Assumes nothing.
use Rattle.std.specs.Prelude.{None, Option, Some}
use Prim.Native.Nat.{ℕ, ◌+◌, ◌-◌, ◌*◌, ◌≤◌}
use mathlib.Core.Path.{◌≡◌, refl, sym, ◌∙◌}
use mathlib.Core.Bool.{Bool, true, false, cond}
use mathlib.Core.List.{List, [], ◌∷◌}
use native.Mathlib.Omega.{arith}
use lib.ListN.{length, length-append, take-append-drop}
use lib.Dec.{leb, ltb, eqb}
use borrow.Author.Tests.{leb-true}
use Rattle.texts.specs.Texts.{index_of}
use Rattle.zone.specs.declared.figures.Figures.{Figures}
use Rattle.zone.proofs.Tests.{and_l}
use Rattle.wire.specs.Road.{Numbers, are, none, join}
use Rattle.wire.specs.Room.{Filled}
use Rattle.frame.specs.declared.reading.Framed.{Framed}
use Rattle.frame.specs.declared.reading.Framed.TheVariants.{NoFrame, BadSum, Request}
use Rattle.frame.specs.Frame.{shaped, frame_read}
use Rattle.roads.proofs.CallLaws.{bad_sum, right_sum}
use Rattle.roads.proofs.Lengths.{text_fits}
use Rattle.journal.specs.declared.asking.Entry.{Entry}
use Rattle.texts.specs.Numbers.{decimal_of, digit_read, byte_read, bytes_read}
use Rattle.texts.specs.Texts.{tab, field, onward, zoned_by, zoned, or_dash}
use Rattle.journal.specs.Lines.{Asks, adds, removes, reports, says, frames, unreadable, N, X, M, T, F, decimals, add_asks, remove_asks, report_asks, zoned_asks, text_asks, bytes_ask, frame_asks, too_long, short_asks, asks_of}
use Rattle.journal.specs.Journal.{output_line}
use Rattle.journal.specs.Inner.{entry_of, letter_of, frame_replied, reply_of, output_of}
use Rattle.journal.proofs.Outputs.{decimal_fits, framed_fits}

-- ---- how long a line is, by what it asks

-- the fewest bytes of a line that asks for something with a reply
abbrev least : Asks → ℕ
least (adds zone address range) = 0
least (removes zone) = 0
least (reports zone state actual) = 0
least (says zone line) = 4
least (frames bytes) = 2 + 2 * length bytes
least unreadable = 0

either : (t : Bool) (x y : Asks) (n : ℕ) → least x ≤ n → least y ≤ n → least (cond t x y) ≤ n
either true x y n h k = h
either false x y n h k = k

-- adding, removing and reporting
adds_least : (ns : Numbers) → least (add_asks ns) ≡ 0
adds_least none = refl
adds_least (are ns) = refl

removes_least : (ns : Numbers) → least (remove_asks ns) ≡ 0
removes_least none = refl
removes_least (are ns) = refl

reports_least : (ns : Numbers) → least (report_asks ns) ≡ 0
reports_least none = refl
reports_least (are ns) = refl

-- a decimal has a digit, and a tab stands behind it
text_to : (digits rest : List ℕ) → least (zoned_asks (zoned_by (decimal_of digits) rest)) ≤ 2 + (length digits + length rest)
unfolding decimal_of
text_to [] rest = omega arith
text_to (d ∷ digits) rest = by_zone (decimal_of (d ∷ digits)) rest
  where
    by_zone : (zone : Option ℕ) (rest : List ℕ) → least (zoned_asks (zoned_by zone rest)) ≤ 2 + (length (d ∷ digits) + length rest)
    by_zone None rest = omega arith
    by_zone (Some n) [] = omega arith
    by_zone (Some n) (x ∷ line) = omega arith

in_two : (l : List ℕ) → length (field l) + length (onward l) ≡ length l
in_two l = sym (length-append (field l) (onward l)) ∙ rw (take-append-drop (index_of tab l) l)

text_least : (l : List ℕ) → least (text_asks l) ≤ 1 + length l
unfolding text_asks zoned
text_least [] = omega arith
text_least (x ∷ l) = either (eqb x tab) (zoned_asks (zoned l)) unreadable (1 + length (x ∷ l)) (omega (arith, text_to (field l) (onward l), in_two l)) (omega arith)

-- two digits a byte
digits_least : (digits : List ℕ) → least (bytes_ask (bytes_read digits)) ≤ 2 + length digits
unfolding bytes_read
digits_least [] = omega arith
digits_least (d ∷ []) = omega arith
digits_least (high ∷ low ∷ digits) = by_pair (byte_read (digit_read high) (digit_read low)) (bytes_read digits) (digits_least digits)
  where
    by_pair : (byte : Option ℕ) (more : Numbers) → least (bytes_ask more) ≤ 2 + length digits → least (bytes_ask (join byte more)) ≤ 2 + length (high ∷ low ∷ digits)
    by_pair None none h = omega arith
    by_pair None (are bytes) h = omega arith
    by_pair (Some b) none h = omega arith
    by_pair (Some b) (are bytes) h = omega arith

frame_least : (l : List ℕ) → least (frame_asks l) ≤ 1 + length l
unfolding frame_asks
frame_least [] = omega arith
frame_least (x ∷ digits) =
    either (eqb x tab) (cond (ltb 522 (length digits)) unreadable (bytes_ask (bytes_read digits))) unreadable (1 + length (x ∷ digits))
    (either (ltb 522 (length digits)) unreadable (bytes_ask (bytes_read digits)) (1 + length (x ∷ digits)) (omega arith) (omega (arith, digits_least digits)))
    (omega arith)

short_least : (line : List ℕ) → least (short_asks line) ≤ length line
short_least [] = omega arith
short_least (letter ∷ l) =
    either (eqb letter N) (add_asks (decimals 3 l)) _ (length (letter ∷ l)) (omega (arith, adds_least (decimals 3 l)))
    (either (eqb letter X) (remove_asks (decimals 1 l)) _ (length (letter ∷ l)) (omega (arith, removes_least (decimals 1 l)))
    (either (eqb letter M) (report_asks (decimals 3 l)) _ (length (letter ∷ l)) (omega (arith, reports_least (decimals 3 l)))
    (either (eqb letter T) (text_asks l) _ (length (letter ∷ l)) (omega (arith, text_least l))
    (either (eqb letter F) (frame_asks l) unreadable (length (letter ∷ l)) (omega (arith, frame_least l))
    (omega arith)))))

asks_least : (line : List ℕ) → least (asks_of line) ≤ length line
unfolding asks_of
asks_least line = either (too_long line) unreadable (short_asks line) (length line) (omega arith) (short_least line)

-- ---- how long an output line is

dash_fits : (reply : List ℕ) → length (or_dash reply) ≤ 1 + length reply
dash_fits [] = omega arith
dash_fits (x ∷ reply) = omega arith

output_fits : (letter number : ℕ) (reply : List ℕ) → length (output_line letter number reply) ≤ 7 + length reply
output_fits letter number reply = simp length-append (omega (arith, decimal_fits number, dash_fits reply))

-- a frame that is replied to has the shape, so nine bytes
framed_least : (bytes : List ℕ) (number : ℕ) (values : List Figures) → length (frame_replied (frame_read bytes) number values) ≤ 4 * length bytes
framed_least bytes number values = by_framed (frame_read bytes) refl
  where
    nine : shaped bytes ≡ true → 9 ≤ length bytes
    nine h = leb-true 9 (length bytes) (and_l (leb 9 (length bytes)) _ h)

    by_framed : (framed : Framed) → frame_read bytes ≡ framed → length (frame_replied framed number values) ≤ 4 * length bytes
    by_framed NoFrame e = omega arith
    by_framed (BadSum a) e = omega (arith, nine (bad_sum bytes a e).0, framed_fits (BadSum a) number values)
    by_framed (Request a p) e = omega (arith, nine (right_sum bytes a p e).0, framed_fits (Request a p) number values)

asked_fits : (asks : Asks) (number : ℕ) (values : List Figures) (n : ℕ) → least asks ≤ n → 7 + length (reply_of (entry_of asks) number values) ≤ 8 * (n + 1)
asked_fits (adds zone address range) number values n h = omega arith
asked_fits (removes zone) number values n h = omega arith
asked_fits (reports zone state actual) number values n h = omega arith
asked_fits (says zone line) number values n h = omega (arith, text_fits number values)
asked_fits (frames bytes) number values n h = omega (arith, framed_least bytes number values)
asked_fits unreadable number values n h = omega arith

pub eight_a_byte : (line : List ℕ) (number : ℕ) (values : List Figures) → length (output_of (entry_of (asks_of line)) number values) ≤ 8 * (length line + 1)
unfolding output_of
eight_a_byte line number values =
    let entry = entry_of (asks_of line) in
    omega (arith, output_fits (letter_of entry) number (reply_of entry number values), asked_fits (asks_of line) number values (length line) (asks_least line))

-- the output so far, and that of the line from `at` to `end`
pub eight_so_far : (entry : Entry) (number : ℕ) (values : List Figures) (line room after : List ℕ) (at end filled k : ℕ) → entry ≡ entry_of (asks_of line) → length line ≡ end - at → at ≤ end
    → Filled (output_of entry number values) room after k → filled ≤ 8 * at → filled + k ≤ 8 * (end + 1)
eight_so_far entry number values line room after at end filled k e w h f b =
    let short : length (output_of entry number values) ≤ 8 * (length line + 1) = rw e (eight_a_byte line number values) in
    omega (arith, f.count)

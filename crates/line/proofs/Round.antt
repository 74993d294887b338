-- A composed line, given back, is that command; and what is read as a command is exactly its line. Assumes nothing.
use Rattle.std.specs.Prelude.{None, Ok, Option, Some}
use Prim.Native.Nat.{ℕ, ◌+◌, ◌^◌, ◌≤◌, ◌<◌}
use mathlib.Core.Path.{◌≡◌, refl, sym, ap, ◌∙◌}
use mathlib.Core.Bool.{Bool, true, false}
use mathlib.Core.List.{List, [], ◌∷◌, ◌++◌, append-nil}
use native.Mathlib.Omega.{arith}
use native.Mathlib.Numerals.{add-one}
use lib.ListN.{length, take, drop, get_or, take-append-drop, drop_of_length-le}
use lib.Seq.{drop-append-add, get_or-append_seam, drop-cons, drop-drop}
use lib.Dec.{ltb, eqb}
use borrow.Author.Tests.{le-ltb, ltb-false, eqb-true}
use Rattle.zone.specs.declared.figures.Group.{Group}
use Rattle.zone.specs.declared.figures.Group.TheVariants.{Ahue, Hzbg, Rrue, Solw}
use Rattle.zone.specs.declared.figures.Command.{Command}
use Rattle.zone.specs.declared.figures.Command.TheVariants.{Read, Write}
use Rattle.zone.specs.Table.{Kind, digits, name, every_group}
use Rattle.zone.specs.Figures.{group_of}
use Rattle.wire.specs.Road.{carries_command, figure_bytes, command_read}
use Rattle.wire.proofs.Choices.{by_cond, unknown_never, nothing_never}
use Rattle.wire.proofs.Layouts.{Lawful, Stands, write_reads, read_reads, command_only}
use Rattle.line.specs.Field.{up_to_space, digits_of, figure_of}
use Rattle.line.specs.Line.{digits_for, L, S, text_road, line_of, same, first_named, group_named, named_read, line_read}
use Rattle.line.specs.Rules.{LineLengths, LineReads, ItsLine, OnlyItsLine}
use Rattle.line.proofs.DigitRule.{digits_length, field_reads, digit_field}

-- "So a write is 19 bytes for AHUE deadline, 23 for AHUE window, 9 for HZBG, 15 for RRUE, 9 for SOLW"
pub line_lengths : LineLengths
line_lengths = refl

-- ---- a single figure, there and back

there : (k : Kind) (n : ℕ) (pre rest : List ℕ) → n < 10 ^ digits k → up_to_space rest ≡ [] → figure_of (pre ++ (32 ∷ (digits_for (digits k) n ++ rest))) (length pre) (digits k) ≡ Some n
unfolding figure_of
there k n pre rest small h =
    let w = digits k in
    let e : drop (length pre + 1) (pre ++ (32 ∷ (digits_for w n ++ rest))) ≡ digits_for w n ++ rest = drop-append-add pre (32 ∷ (digits_for w n ++ rest)) 1 in
    rw (get_or-append_seam pre 32 (digits_for w n ++ rest) 0, e) (field_reads w n rest small h)

field_front : (l : List ℕ) → l ≡ up_to_space l ++ drop (length (up_to_space l)) l
unfolding up_to_space
field_front [] = refl
field_front (x ∷ xs) = by_space (eqb x 32) (field_front xs)
  where
    by_space : (t : Bool) → xs ≡ up_to_space xs ++ drop (length (up_to_space xs)) xs
        → x ∷ xs ≡ mathlib.Core.Bool.cond t [] (x ∷ up_to_space xs) ++ drop (length (mathlib.Core.Bool.cond t [] (x ∷ up_to_space xs))) (x ∷ xs)
    by_space true e = refl
    by_space false e = ap (λ (r : List ℕ). x ∷ r) e

back : (k : Kind) (n : ℕ) (l : List ℕ) (at : ℕ) → Unit {0} → at + (1 + digits k) ≤ length l → figure_of l at (digits k) ≡ Some n
    → (drop at l ≡ 32 ∷ (digits_for (digits k) n ++ drop (at + (1 + digits k)) l)) × (n < 10 ^ digits k)
unfolding figure_of
back k n l at g h e = by_cond (eqb (get_or l at 0) 32) e space (λ t b. absurd (let z : ◌≡◌ {A = ℕ} 0 1 = cc in omega arith))
  where
    w : ℕ
    w = digits k

    rest : List ℕ
    rest = drop (at + 1) l

    space : eqb (get_or l at 0) 32 ≡ true → digits_of w (up_to_space rest) ≡ Some n → (drop at l ≡ 32 ∷ (digits_for w n ++ drop (at + (1 + w)) l)) × (n < 10 ^ w)
    space s d =
        let r = (digit_field w (up_to_space rest) n).0 d in
        let tail : rest ≡ digits_for w n ++ drop w rest = field_front rest ∙ rw (r.0, digits_length w n) in
        let next : at + 1 + w ≡ at + (1 + w) = omega arith in
        let more : drop w rest ≡ drop (at + (1 + w)) l = drop-drop w (at + 1) l ∙ ap (λ (i : ℕ). drop i l) next in
        let first : drop at l ≡ 32 ∷ rest = drop-cons l at 0 (omega arith) ∙ rw (eqb-true (get_or l at 0) 32 s, add-one at) in
        (first ∙ ap (λ (t : List ℕ). 32 ∷ t) (tail ∙ ap (λ (t : List ℕ). digits_for w n ++ t) more), r.1)

starts : (k : Kind) (n : ℕ) (rest : List ℕ) → up_to_space (32 ∷ (digits_for (digits k) n ++ rest)) ≡ []
unfolding up_to_space
starts k n rest = refl

nothing : up_to_space [] ≡ []
unfolding up_to_space
nothing = refl

pub lawful : Lawful text_road
lawful = record {
  Ends = λ rest. up_to_space rest ≡ [];
  Good = λ l. Unit {0};
  at_end = nothing;
  at_next = starts;
  size = λ k n. rw (digits_length (digits k) n) (omega arith);
  there = there;
  back = back;
  marks = refl;
  forms = refl;
}

-- ---- there

named_reads : (x : ℕ) (g : Group) (t : List ℕ) → line_read (x ∷ (name g ++ t)) ≡ command_read text_road x g (x ∷ (name g ++ t))
unfolding line_read group_named same
named_reads x Ahue t = rw (le-ltb (length (x ∷ (name Ahue ++ t))) 5 (omega arith))
named_reads x Hzbg t = rw (le-ltb (length (x ∷ (name Hzbg ++ t))) 5 (omega arith))
named_reads x Rrue t = rw (le-ltb (length (x ∷ (name Rrue ++ t))) 5 (omega arith))
named_reads x Solw t = rw (le-ltb (length (x ∷ (name Solw ++ t))) 5 (omega arith))

head_length : (x : ℕ) (g : Group) → length (x ∷ name g) ≡ 5
head_length x Ahue = refl
head_length x Hzbg = refl
head_length x Rrue = refl
head_length x Solw = refl

read_line : (g : Group) → line_read (L ∷ name g) ≡ Ok (Read g)
read_line g =
    let bare : L ∷ (name g ++ []) ≡ L ∷ name g = ap (λ (t : List ℕ). L ∷ t) (append-nil (name g)) in
    ap line_read (sym bare) ∙ named_reads L g [] ∙ read_reads text_road lawful g (L ∷ (name g ++ [])) (ap length bare ∙ head_length L g)

-- "Given back, the bytes are that command with those figures, whatever ranges then say"
pub line_reads : LineReads
unfolding line_of carries_command
line_reads (Read g) h = read_line g
line_reads (Write f) h = named_reads S (group_of f) (figure_bytes text_road f) ∙ write_reads text_road lawful f (S ∷ name (group_of f)) (head_length S (group_of f)) h

-- ---- and back

same_true : (x y : List ℕ) → same x y ≡ true → x ≡ y
unfolding same
same_true [] [] h = refl
same_true [] (y ∷ ys) h = absurd (let z : ◌≡◌ {A = ℕ} 0 1 = cc in omega arith)
same_true (x ∷ xs) [] h = absurd (let z : ◌≡◌ {A = ℕ} 0 1 = cc in omega arith)
same_true (x ∷ xs) (y ∷ ys) h =
    by_cond (eqb x y) h
    (λ e k. rw (eqb-true x y e, same_true xs ys k))
    (λ e k. absurd (let z : ◌≡◌ {A = ℕ} 0 1 = cc in omega arith))

named_only : (gs : List Group) (l : List ℕ) (g : Group) → first_named gs l ≡ Some g → l ≡ name g
named_only [] l g h = nothing_never h
named_only (x ∷ gs) l g h =
    by_cond (same l (name x)) h
    (λ e k. let z : x ≡ g = cc in rw (← z) (same_true l (name x) e))
    (λ e k. named_only gs l g k)

-- a line of five bytes or more is its letter, its name and what comes behind
front : (l : List ℕ) (g : Group) → 5 ≤ length l → take 4 (drop 1 l) ≡ name g → l ≡ get_or l 0 0 ∷ (name g ++ drop 5 l)
front [] g h n = absurd (omega arith)
front (y ∷ ys) g h n = ap (λ (t : List ℕ). y ∷ t) (sym (take-append-drop 4 ys) ∙ ap (λ (t : List ℕ). t ++ drop 4 ys) n)

stands_line : (l : List ℕ) (g : Group) (c : Command) → l ≡ get_or l 0 0 ∷ (name g ++ drop 5 l) → Stands text_road lawful (get_or l 0 0) g l c → ItsLine l c
unfolding line_of carries_command
stands_line l g (Read h) f s =
    let bare : drop 5 l ≡ [] = drop_of_length-le l {i = 5} (omega (arith, s.2)) in
    record { line_is = f ∙ rw (s.0, s.1, bare, append-nil); carried = refl }
stands_line l g (Write h) f s = record { line_is = f ∙ rw (s.0, s.2, ← s.1); carried = s.3 }

named_line : (n : Option Group) (l : List ℕ) (c : Command) → 5 ≤ length l → group_named (take 4 (drop 1 l)) ≡ n → named_read n l ≡ Ok c → ItsLine l c
unfolding group_named lawful
named_line None l c long e h = unknown_never h
named_line (Some g) l c long e h =
    stands_line l g c (front l g long (named_only every_group (take 4 (drop 1 l)) g e)) (command_only text_road lawful (get_or l 0 0) g l c tt h)

-- what is read as a command is exactly the line of that command, and the road carries its figures
pub line_only : OnlyItsLine
unfolding line_read
line_only l c h =
    by_cond (ltb (length l) 5) h
    (λ short k. unknown_never k)
    (λ long k. named_line (group_named (take 4 (drop 1 l))) l c (ltb-false _ _ long) refl k)

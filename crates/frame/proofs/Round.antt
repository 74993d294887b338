-- A composed frame, given back, is that command to that address; and what is read as a command is exactly its frame. Assumes nothing.
use Rattle.std.specs.Prelude.{None, Ok, Option, Some}
use Prim.Native.Nat.{ℕ, suc, ◌+◌, ◌^◌, ◌≤◌, ◌<◌}
use mathlib.Core.Path.{◌≡◌, refl, sym, ap, ◌∙◌}
use mathlib.Core.Bool.{Bool, true, false, ◌&&◌}
use mathlib.Core.List.{List, [], ◌∷◌, ◌++◌}
use native.Mathlib.Omega.{arith}
use native.Mathlib.Nat.{min-le_left}
use lib.ListN.{length, take, drop, get_or, length-append, length-take, take-append-drop, drop_of_length-le, get_or-append, get_or-eq_default}
use lib.Seq.{take-append_seam, get_or-append-add, length-take-le, drop-cons, get_or-take, get_or-drop}
use lib.Dec.{ltb, leb, eqb}
use borrow.Author.Tests.{ltb-true, ltb-false, eqb-true, leb-true}
use Rattle.zone.specs.declared.figures.Group.{Group}
use Rattle.zone.specs.declared.figures.Command.{Command}
use Rattle.zone.specs.declared.figures.Command.TheVariants.{Read, Write}
use Rattle.zone.specs.Table.{Kind, bytes, index, every_group}
use Rattle.zone.specs.Figures.{group_of}
use Rattle.zone.proofs.Tests.{both}
use Rattle.wire.specs.Road.{carries_command}
use Rattle.wire.proofs.Choices.{by_cond, unknown_never, nothing_never}
use Rattle.wire.proofs.Layouts.{Lawful, Stands, write_reads, command_only}
use Rattle.frame.specs.declared.reading.Framed.TheVariants.{Request}
use Rattle.frame.specs.Sum.{checksum_of}
use Rattle.frame.specs.Frame.{bytes_of, number_at, frame_road, body_of, framed, frame_of, shaped, body_in, address_in, checksum_right, first_indexed, group_indexed, indexed_read, body_read, frame_read}
use Rattle.frame.specs.Rules.{FrameLengths, FrameReads, Bytes, OnlyItsFrame}
use Rattle.frame.proofs.Requests.{index_again}
use Rattle.frame.proofs.Shape.{whole}
use Rattle.frame.proofs.ByteRule.{bytes_length, number_reads, number_only}

-- "L of a write is 8 for AHUE deadline, 10 for AHUE window, 5 for HZBG, 6 for RRUE, 5 for SOLW"
pub frame_lengths : FrameLengths
frame_lengths = refl

-- ---- a single figure, there and back

back : (k : Kind) (n : ℕ) (l : List ℕ) (at : ℕ) → Bytes l → at + bytes k ≤ length l → Some (number_at (bytes k) l at) ≡ Some n
    → (drop at l ≡ bytes_of (bytes k) n ++ drop (at + bytes k) l) × (n < 256 ^ bytes k)
back k n l at good h e = let z : number_at (bytes k) l at ≡ n = cc in rw (← z) (number_only (bytes k) at l good h)

pub lawful : Lawful frame_road
lawful = record {
  Ends = λ rest. Unit {0};
  Good = Bytes;
  at_end = tt;
  at_next = λ k n rest. tt;
  size = λ k n. bytes_length (bytes k) n;
  there = λ k n pre rest h e. ap Some (number_reads (bytes k) n pre rest h);
  back = back;
  marks = refl;
  forms = refl;
}

-- ---- there

body_reads : (x : ℕ) (c : Command) → carries_command frame_road c ≡ true → body_read (body_of x c) ≡ Ok c
unfolding body_read carries_command
body_reads x (Read g) h = rw (index_again g)
body_reads x (Write f) h = rw (index_again (group_of f)) (write_reads frame_road lawful f (x ∷ 0x69 ∷ index (group_of f) ∷ []) refl h)

-- any L bytes, at least three, in a frame
framed_reads : (b : List ℕ) → 3 ≤ length b → frame_read (framed b) ≡ Request (get_or b 0 0) (body_read b)
framed_reads b h =
    sym
    (ap (λ (x : ℕ). Request x (body_read b)) (sym first)
    ∙ ap (λ (l : List ℕ). Request (get_or (framed b) 4 0) (body_read l)) (sym part)
    ∙ whole (framed b) (length b) refl (omega (arith, size)) refl refl refl size last sum)
  where
    tail : List ℕ
    tail = checksum_of b ∷ 0x16 ∷ []

    size : length (framed b) ≡ length b + 6
    size = rw length-append (omega arith)

    first : get_or (b ++ tail) 0 0 ≡ get_or b 0 0
    first = get_or-append b tail 0 0 (omega arith)

    part : take (length b) (b ++ tail) ≡ b
    part = take-append_seam b tail

    five : length b + 5 ≡ suc (suc (suc (suc (length b + 1))))
    five = omega arith

    four : length b + 4 ≡ suc (suc (suc (suc (length b + 0))))
    four = omega arith

    last : get_or (framed b) (length b + 5) 0 ≡ 0x16
    last = rw five (get_or-append-add b tail 1 0)

    sum : checksum_of (take (length b) (b ++ tail)) ≡ get_or (framed b) (length b + 4) 0
    sum = rw (part, four) (sym (get_or-append-add b tail 0 0))

three : (x : ℕ) (c : Command) → 3 ≤ length (body_of x c)
three x (Read g) = omega arith
three x (Write f) = omega arith

address_is : (x : ℕ) (c : Command) → get_or (body_of x c) 0 0 ≡ x
address_is x (Read g) = refl
address_is x (Write f) = refl

-- "Given back, the bytes are that command with those figures, whatever ranges then say", to that address
pub frame_reads : FrameReads
unfolding frame_of
frame_reads x c h = framed_reads (body_of x c) (three x c) ∙ rw (address_is x c, body_reads x c h)

-- ---- and back

indexed_only : (gs : List Group) (x : ℕ) (g : Group) → first_indexed gs x ≡ Some g → x ≡ index g
indexed_only [] x g h = nothing_never h
indexed_only (y ∷ gs) x g h =
    by_cond (eqb x (index y)) h
    (λ e k. let z : y ≡ g = cc in rw (← z) (eqb-true x (index y) e))
    (λ e k. indexed_only gs x g k)

-- a body of three bytes or more is its address, its function, its index and what comes behind
front : (b : List ℕ) → 3 ≤ length b → b ≡ get_or b 0 0 ∷ get_or b 1 0 ∷ get_or b 2 0 ∷ drop 3 b
front [] h = absurd (omega arith)
front (x ∷ []) h = absurd (omega arith)
front (x ∷ y ∷ []) h = absurd (omega arith)
front (x ∷ y ∷ z ∷ r) h = refl

-- what a body that was read as a command must be
record Body (b : List ℕ) (c : Command) : Type 0 where
  body_is : b ≡ body_of (get_or b 0 0) c
  carried : carries_command frame_road c ≡ true

stands_body : (b : List ℕ) (g : Group) (c : Command) → 3 ≤ length b → get_or b 2 0 ≡ index g → Stands frame_road lawful (get_or b 1 0) g b c → Body b c
unfolding carries_command
stands_body b g (Read h) long i s =
    let bare : drop 3 b ≡ [] = drop_of_length-le b {i = 3} (omega (arith, s.2)) in
    record { body_is = front b long ∙ rw (s.0, i, s.1, bare); carried = refl }
stands_body b g (Write f) long i s = record { body_is = front b long ∙ rw (s.0, i, s.2, ← s.1); carried = s.3 }

indexed_body : (n : Option Group) (b : List ℕ) (c : Command) → Bytes b → 3 ≤ length b → group_indexed (get_or b 2 0) ≡ n → indexed_read n b ≡ Ok c → Body b c
unfolding group_indexed lawful
indexed_body None b c good long e h = unknown_never h
indexed_body (Some g) b c good long e h =
    stands_body b g c long (indexed_only every_group (get_or b 2 0) g e) (command_only frame_road lawful (get_or b 1 0) g b c good h)

body_only : (b : List ℕ) (c : Command) → Bytes b → 3 ≤ length b → body_read b ≡ Ok c → Body b c
unfolding body_read
body_only b c good long h = indexed_body (group_indexed (get_or b 2 0)) b c good long refl h

-- a shaped frame whose checksum is right is the frame of its body
framed_only : (f : List ℕ) → shaped f ≡ true → checksum_right f ≡ true → (f ≡ framed (body_in f)) × (length (body_in f) ≡ get_or f 1 0) × (3 ≤ length (body_in f))
framed_only [] s k = absurd (let z : ◌≡◌ {A = ℕ} 0 1 = cc in omega arith)
framed_only (x ∷ []) s k = absurd (let z : ◌≡◌ {A = ℕ} 0 1 = cc in omega arith)
framed_only (x ∷ l ∷ []) s k = absurd (let z : ◌≡◌ {A = ℕ} 0 1 = cc in omega arith)
framed_only (x ∷ l ∷ m ∷ []) s k = absurd (let z : ◌≡◌ {A = ℕ} 0 1 = cc in omega arith)
framed_only (x ∷ l ∷ m ∷ y ∷ r) s k =
    let f : List ℕ = x ∷ l ∷ m ∷ y ∷ r in
    let s₁ = both (leb 9 (length f)) (eqb x 0x68 && (eqb y 0x68 && (eqb l m && (eqb (length f) (l + 6) && eqb (get_or f (l + 5) 0) 0x16)))) s in
    let s₂ = both (eqb x 0x68) (eqb y 0x68 && (eqb l m && (eqb (length f) (l + 6) && eqb (get_or f (l + 5) 0) 0x16))) s₁.1 in
    let s₃ = both (eqb y 0x68) (eqb l m && (eqb (length f) (l + 6) && eqb (get_or f (l + 5) 0) 0x16)) s₂.1 in
    let s₄ = both (eqb l m) (eqb (length f) (l + 6) && eqb (get_or f (l + 5) 0) 0x16) s₃.1 in
    let s₅ = both (eqb (length f) (l + 6)) (eqb (get_or f (l + 5) 0) 0x16) s₄.1 in
    let long = leb-true 9 (length f) s₁.0 in
    let size = eqb-true (length f) (l + 6) s₅.0 in
    let fits : length (take l r) ≡ l = length-take-le l r (omega arith) in
    let four : l + 4 ≡ suc (suc (suc (suc l))) = omega arith in
    let five : l + 5 ≡ suc (suc (suc (suc (suc l)))) = omega arith in
    let sum : checksum_of (take l r) ≡ get_or r l 0 = eqb-true _ _ k ∙ ap (λ (i : ℕ). get_or f i 0) four in
    let end : get_or r (suc l) 0 ≡ 0x16 = ap (λ (i : ℕ). get_or f i 0) (sym five) ∙ eqb-true (get_or f (l + 5) 0) 0x16 s₅.1 in
    let tail : r ≡ take l r ++ (checksum_of (take l r) ∷ 0x16 ∷ []) =
    sym (take-append-drop l r)
    ∙ ap (λ (t : List ℕ). take l r ++ t)
    (drop-cons r l 0 (omega arith)
    ∙ ap (λ (t : List ℕ). get_or r l 0 ∷ t) (drop-cons r (suc l) 0 (omega arith) ∙ ap (λ (t : List ℕ). get_or r (suc l) 0 ∷ t) (drop_of_length-le r {i = suc (suc l)} (omega arith)))
    ∙ ap (λ (i : ℕ). i ∷ get_or r (suc l) 0 ∷ []) (sym sum)
    ∙ ap (λ (i : ℕ). checksum_of (take l r) ∷ i ∷ []) end) in (
      ap (λ (i : ℕ). i ∷ l ∷ m ∷ y ∷ r) (eqb-true x 0x68 s₂.0)
          ∙ ap (λ (i : ℕ). 0x68 ∷ l ∷ i ∷ y ∷ r) (sym (eqb-true l m s₄.0))
          ∙ ap (λ (i : ℕ). 0x68 ∷ l ∷ l ∷ i ∷ r) (eqb-true y 0x68 s₃.0)
          ∙ ap (λ (i : ℕ). 0x68 ∷ i ∷ i ∷ 0x68 ∷ r) (sym fits)
          ∙ ap (λ (t : List ℕ). 0x68 ∷ length (take l r) ∷ length (take l r) ∷ 0x68 ∷ t) tail,
      fits,
      omega arith,
    )

body_bytes : (f : List ℕ) → Bytes f → Bytes (body_in f)
body_bytes f good i = by_place (ltb i (get_or f 1 0)) refl
  where
    by_place : (t : Bool) → ltb i (get_or f 1 0) ≡ t → get_or (body_in f) i 0 < 256
    by_place true e = rw (get_or-take (get_or f 1 0) (drop 4 f) i 0 (ltb-true _ _ e), get_or-drop 4 f i 0) (good (4 + i))
    by_place false e =
        let h = ltb-false i (get_or f 1 0) e in
        let short : length (body_in f) ≤ i = rw (length-take) (omega (arith, min-le_left (get_or f 1 0) (length (drop 4 f)))) in
        rw (get_or-eq_default (body_in f) 0 {n = i} short) (omega arith)

body_first : (f : List ℕ) → 3 ≤ length (body_in f) → length (body_in f) ≡ get_or f 1 0 → get_or (body_in f) 0 0 ≡ address_in f
body_first f h e = get_or-take (get_or f 1 0) (drop 4 f) 0 0 (omega arith) ∙ get_or-drop 4 f 0 0

-- what is read as a command to an address is exactly its frame, and the road carries its figures
pub frame_only : OnlyItsFrame
unfolding frame_read frame_of
frame_only f x c good h =
    by_cond (shaped f) h
    (λ s r.
    by_cond (checksum_right f) r
    (λ k q.
    let whole_is = framed_only f s k in
    let known : body_read (body_in f) ≡ Ok c = cc in
    let address : address_in f ≡ x = cc in
    let body = body_only (body_in f) c (body_bytes f good) whole_is.2 known in
    record {
      frame_is = whole_is.0 ∙ ap framed (body.body_is ∙ ap (λ (i : ℕ). body_of i c) (body_first f whole_is.2 whole_is.1 ∙ address));
      carried = body.carried;
    })
    (λ k q. absurd (let z : ◌≡◌ {A = ℕ} 0 1 = cc in omega arith)))
    (λ s r. absurd (let z : ◌≡◌ {A = ℕ} 0 1 = cc in omega arith))

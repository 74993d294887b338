-- The lines of a recipe one at a time, and a line's zone and command. Assumes nothing.
use Rattle.std.specs.Prelude.{None, Option, Some}
use Prim.Native.Nat.{ℕ, zero, suc, ◌+◌, ◌-◌, ◌*◌, ◌≤◌, ◌<◌}
use mathlib.Core.Path.{◌≡◌, ap}
use mathlib.Core.Bool.{true, false}
use mathlib.Core.List.{List, [], ◌∷◌, ◌++◌}
use native.Mathlib.Omega.{arith}
use lib.ListN.{length, take, drop, get_or, length-append, length-take, length-drop, get_or-eq_default, drop_of_length-le}
use Rattle.std.proofs.lemmas.List.{drop_more}
use lib.Seq.{take_all}
use lib.Dec.{leb, eqb}
use borrow.Author.Tests.{leb-true}
use Rattle.texts.specs.Texts.{index_of, ended_behind, begun_behind, unended}
use Rattle.zone.specs.Zones.{empty_zone}
use Rattle.card.specs.declared.records.Record.{Record}
use Rattle.card.specs.Records.{zone_at}
use Rattle.card.specs.Inner.{range_at}
use Rattle.texts.specs.Numbers.{decimal_of}
use Rattle.texts.specs.Texts.{line_feed, tab, lines_of, field, onward, to, zoned_by, zoned}
use Rattle.texts.specs.Inner.{zoned_seen, start_of}
use Rattle.texts.proofs.Parts.{by_test}
use Rattle.saying.specs.Loading.{reply_at, numbered, replies_from, marked, pointed_in}

-- ---- the lines

-- no line is longer than the text
first_or_later : (line : List ℕ) (lines : List (List ℕ)) (n most : ℕ) → length line ≤ most → ((k : ℕ) → length (get_or lines k []) ≤ most) → length (get_or (line ∷ lines) n []) ≤ most
first_or_later line lines zero most h k = h
first_or_later line lines (suc n) most h k = k n

short_behind : (so_far t : List ℕ) (n : ℕ) → length (get_or (ended_behind so_far t ++ unended (begun_behind so_far t)) n []) ≤ length so_far + length t
unfolding ended_behind begun_behind
short_behind [] [] n = omega arith
short_behind (x ∷ so_far) [] n = first_or_later (x ∷ so_far) [] n (length (x ∷ so_far) + 0) (omega arith) (λ k. omega arith)
short_behind so_far (x ∷ t) n =
    by_test (eqb x line_feed)
    (λ e. rw e (first_or_later so_far _ n (length so_far + suc (length t)) (omega arith) (λ k. omega (arith, short_behind [] t k))))
    (λ e. rw e (omega (arith, short_behind (so_far ++ (x ∷ [])) t n, length-append so_far (x ∷ []))))

pub line_short : (t : List ℕ) (n : ℕ) → length (get_or (lines_of t) n []) ≤ length t
line_short t n = omega (arith, short_behind [] t n)

-- ---- the replies

module _ (lengths room : List ℕ) (lines : List (List ℕ)) where
  -- what is left to say is one line, and what is left behind it
  pub reply_then : (k : ℕ) → k < length lines → replies_from lengths room k (drop k lines) ≡ numbered (k + 1) (reply_at lengths room k) ++ replies_from lengths room (k + 1) (drop (k + 1) lines)
  unfolding replies_from
  reply_then k h = rw (drop_more lines k [] h)

  pub no_reply : (k : ℕ) → length lines ≤ k → replies_from lengths room k (drop k lines) ≡ []
  unfolding replies_from
  no_reply k h = rw (drop_of_length-le lines h)

-- the part of the room in which the reply stands
pub reply_part : (lengths room : List ℕ) (k : ℕ) → take (32 * k + get_or lengths k 0 - 32 * k) (drop (32 * k) room) ≡ reply_at lengths room k
reply_part lengths room k =
    let n : 32 * k + get_or lengths k 0 - 32 * k ≡ get_or lengths k 0 = omega arith in
    rw n

-- ---- zone and command

zone_there : (f : Option ℕ) (l : List ℕ) (zone : ℕ) (command : List ℕ) → to zone command ≡ zoned_by f l → length l ≡ suc (length command)
zone_there None l zone command e = absurd (let z : ◌≡◌ {A = ℕ} 0 1 = cc in omega arith)
zone_there (Some v) [] zone command e = absurd (let z : ◌≡◌ {A = ℕ} 0 1 = cc in omega arith)
zone_there (Some v) (x ∷ l) zone command e =
    let same : l ≡ command = cc in
    ap (λ (d : List ℕ). suc (length d)) same

module _ (line : List ℕ) (zone start : ℕ) (e : to zone (drop start line) ≡ zoned (drop 0 line)) (h : start ≤ length line) where
  parts : length line ≡ length (field line) + suc (length (drop start line))
  unfolding zoned
  parts = omega (arith, zone_there (decimal_of (field line)) (onward line) zone (drop start line) e, length-take (index_of tab line) line, length-drop (index_of tab line) line)

  pub behind_tab : start ≡ length (field line) + 1
  behind_tab = omega (arith, parts, length-drop start line)

  front : start - 1 ≡ index_of tab line
  front = omega (arith, behind_tab, length-take (index_of tab line) line)

  command_part : take (length line - start) (drop start line) ≡ drop start line
  command_part = take_all (length line - start) (drop start line) (omega (arith, length-drop start line))

-- a zone above the sixteen has the range of the empty zone
pub range_is : (r : Record) (zone : ℕ) → length r.zones ≡ 16 → range_at r zone ≡ (zone_at r zone).range
range_is r zone e = by_test (leb 16 zone) above below
  where
    above : leb 16 zone ≡ true → range_at r zone ≡ (zone_at r zone).range
    above t = rw (t, get_or-eq_default r.zones empty_zone {n = zone} (omega (arith, leb-true 16 zone t)))

    below : leb 16 zone ≡ false → range_at r zone ≡ (zone_at r zone).range
    below t = rw t

-- the same, as the search for the zone told it
module _ (line : List ℕ) (a : Option (ℕ × ℕ)) (e : zoned_seen line a ≡ zoned (drop 0 line)) (h : start_of a ≤ length line) where
  pub within : {zone start : ℕ} → a ≡ Some (zone, start) → start ≤ length line
  within q = rw q at h

  pub tab_before : {zone start : ℕ} → a ≡ Some (zone, start) → 1 ≤ start
  tab_before {zone} {start} q = omega (arith, behind_tab line zone start (rw q at e) (within q))

  -- what is said of zone and command is said of the line
  pub said_of_line : {zone start : ℕ} → a ≡ Some (zone, start) → (r : Record) (number place range : ℕ) → length r.zones ≡ 16 → range ≡ range_at r zone
      → marked (take (start - 1) line) (take (length line - start) (drop start line)) number range place ≡ pointed_in r number place line
  said_of_line {zone} {start} q r number place range z g =
      let t : to zone (drop start line) ≡ zoned line = rw q at e in
      rw (← t, front line zone start t (within q), command_part line zone start t (within q), g, range_is r zone z)

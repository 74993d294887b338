-- What the functions on the way come to: steps for a reader in a loop, each tied by a law of proofs/ to what Numbers and Texts say. No promise of the log cites them.
use Rattle.std.specs.Prelude.{ℕ, zero, suc, ◌+◌, Bool, false, cond, ◌||◌, Option, Some, None, List, [], ◌∷◌, get_or, take, drop, eqb}
use Rattle.wire.specs.Road.{Numbers, are, none}
use Rattle.texts.specs.Numbers.{decimal_of, digit_read}
use Rattle.texts.specs.Texts.{index_of, tab, line_feed, field, Zoned, to, lacking}

-- ---- decimals

-- a decimal that ends before index `end`
abbrev pub numeral_of : Option ℕ → ℕ → Option (ℕ × ℕ)
numeral_of None end = None
numeral_of (Some n) end = Some (n, end)

-- the decimal from index `start` up to the next tab or the end
abbrev pub numeral_from : List ℕ → ℕ → Option (ℕ × ℕ)
numeral_from l start = numeral_of (decimal_of (field (drop start l))) (start + index_of tab (drop start l))

-- the decimal behind a tab at index `at`
unfoldable pub numeral_at : List ℕ → ℕ → Option (ℕ × ℕ)
numeral_at l at = cond (eqb (get_or l at 0) tab) (numeral_from l (at + 1)) None

-- a zone, and the index from which on the rest of the line is for it
abbrev pub zoned_seen : List ℕ → Option (ℕ × ℕ) → Zoned
zoned_seen l None = lacking
zoned_seen l (Some (zone, start)) = to zone (drop start l)

abbrev pub start_of : Option (ℕ × ℕ) → ℕ
start_of None = 0
start_of (Some (zone, start)) = start

-- ---- hexadecimal digits

-- what each byte is as a digit: its value, or 16 where it is none
abbrev pub or_sixteen : Option ℕ → ℕ
or_sixteen (Some n) = n
or_sixteen None = 16

abbrev pub digit_value : ℕ → ℕ
digit_value d = or_sixteen (digit_read d)

abbrev pub values_from : ℕ → ℕ → List ℕ
values_from d zero = []
values_from d (suc k) = digit_value d ∷ values_from (suc d) k

-- the same for each of the 256 bytes, as a table
unfoldable pub digit_values : List ℕ
digit_values = values_from 0 256

-- the bytes that pairs of digits made, at the front of a room
abbrev pub counted : Option ℕ → List ℕ → Numbers
counted None room = none
counted (Some n) room = are (take n room)

abbrev pub count_of : Option ℕ → ℕ
count_of None = 0
count_of (Some n) = n

-- ---- lines

-- whether a line feed is among the bytes
unfoldable pub has_feed : List ℕ → Bool
has_feed [] = false
has_feed (x ∷ l) = eqb x line_feed || has_feed l

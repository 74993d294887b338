-- What a line of the log asks, for every sequence of bytes.
use Rattle.std.specs.Prelude.{ℕ, zero, suc, Bool, cond, List, [], ◌∷◌, length, get_or, ltb, eqb}
use Rattle.wire.specs.Road.{Numbers, are, none, join}
use Rattle.texts.specs.Numbers.{decimal_of, bytes_read}
use Rattle.texts.specs.Texts.{tab, field, onward, Zoned, to, lacking, zoned}

pub data Asks : Type 0 where
  -- "N zone address range adds"
  adds : ℕ → ℕ → ℕ → Asks
  -- "X zone removes"
  removes : ℕ → Asks
  -- "M zone state actual reports"
  reports : ℕ → ℕ → ℕ → Asks
  -- "T zone line"
  says : ℕ → List ℕ → Asks
  -- "F frame in capital hex"
  frames : List ℕ → Asks
  -- "Any other line, an empty or longer one included, is unreadable"
  unreadable : Asks

-- the letters, and E for an unreadable line
abbrev pub N : ℕ
N = 78

abbrev pub X : ℕ
X = 88

abbrev pub M : ℕ
M = 77

abbrev pub T : ℕ
T = 84

abbrev pub F : ℕ
F = 70

abbrev pub E : ℕ
E = 69

-- so many decimals, each behind a tab, and nothing more
unfoldable pub decimals : ℕ → List ℕ → Numbers
decimals zero [] = are []
decimals zero (x ∷ l) = none
decimals (suc k) [] = none
decimals (suc k) (x ∷ l) = cond (eqb x tab) (join (decimal_of (field l)) (decimals k (onward l))) none

abbrev pub add_asks : Numbers → Asks
add_asks none = unreadable
add_asks (are ns) = adds (get_or ns 0 0) (get_or ns 1 0) (get_or ns 2 0)

abbrev pub remove_asks : Numbers → Asks
remove_asks none = unreadable
remove_asks (are ns) = removes (get_or ns 0 0)

abbrev pub report_asks : Numbers → Asks
report_asks none = unreadable
report_asks (are ns) = reports (get_or ns 0 0) (get_or ns 1 0) (get_or ns 2 0)

-- "A T command is all that follows the second tab, perhaps nothing"; without that tab the line is unreadable
abbrev pub zoned_asks : Zoned → Asks
zoned_asks lacking = unreadable
zoned_asks (to zone line) = says zone line

-- "T zone line", each behind its tab
unfoldable pub text_asks : List ℕ → Asks
text_asks [] = unreadable
text_asks (x ∷ l) = cond (eqb x tab) (zoned_asks (zoned l)) unreadable

abbrev pub bytes_ask : Numbers → Asks
bytes_ask none = unreadable
bytes_ask (are bytes) = frames bytes

-- "F frame in capital hex, at most 522 digits", behind a tab
unfoldable pub frame_asks : List ℕ → Asks
frame_asks [] = unreadable
frame_asks (x ∷ digits) = cond (eqb x tab) (cond (ltb 522 (length digits)) unreadable (bytes_ask (bytes_read digits))) unreadable

-- by the letter, and what stands behind it
abbrev pub letter_asks : ℕ → List ℕ → Asks
letter_asks letter l =
    cond (eqb letter N) (add_asks (decimals 3 l))
    (cond (eqb letter X) (remove_asks (decimals 1 l))
    (cond (eqb letter M) (report_asks (decimals 3 l))
    (cond (eqb letter T) (text_asks l)
    (cond (eqb letter F) (frame_asks l)
    unreadable))))

-- "at most 600 bytes without [its line feed]"
abbrev pub longest : ℕ
longest = 600

abbrev pub too_long : List ℕ → Bool
too_long line = ltb longest (length line)

abbrev pub short_asks : List ℕ → Asks
short_asks [] = unreadable
short_asks (letter ∷ l) = letter_asks letter l

unfoldable pub asks_of : List ℕ → Asks
asks_of line = cond (too_long line) unreadable (short_asks line)

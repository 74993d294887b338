-- What a function on the way comes to. No rule of document 01 or 02 stands here, and no contract of a public function cites it, but that of `digits`, with which a log's decimals are read too.
use Rattle.std.specs.Prelude.{ℕ, zero, suc, ◌+◌, ◌-◌, ◌*◌, cond, Option, Some, None, Result, Ok, Err, List, [], ◌∷◌, length, get_or, ltb, leb, eqb}
use Rattle.zone.specs.declared.figures.Figures.{Figures}
use Rattle.zone.specs.declared.figures.Command.TheVariants.{Write}
use Rattle.zone.specs.Table.{Column, digits, Form, layout}
use Rattle.zone.specs.Figures.{made}
use Rattle.line.specs.declared.reading.Reading.{Reading}
use Rattle.line.specs.Field.{field_of, digits_of}
use Rattle.line.specs.declared.expecting.Expects.{Expects}
use Rattle.line.specs.declared.expecting.Expects.TheVariants.{Space, Digit, Nothing}
use Rattle.line.specs.Places.{Place, told, Expected, space, digit, wrong_from, digits_expected}
use Rattle.wire.specs.declared.Misread.TheVariants.{Syntax}

-- the figure, or the place where it is wrong
abbrev pub judged_by : Option ℕ → Place → Result ℕ ℕ
judged_by (Some n) place = Ok n
judged_by None place = Err (told place)

-- a field of `width` digits, or which of them is wrong
unfoldable pub digits_read : ℕ → List ℕ → Result ℕ ℕ
digits_read width l = judged_by (digits_of width l) (wrong_from 0 (digits_expected width) l)

-- the same, digit by digit: `width` of them behind a number v that was read so far, from index i on (digits_walked_lem, in proofs/DigitLaws.antt)
unfoldable pub digits_walked : ℕ → ℕ → ℕ → List ℕ → Result ℕ ℕ
digits_walked v i zero [] = Ok v
digits_walked v i zero (x ∷ l) = Err i
digits_walked v i (suc width) [] = Err i
digits_walked v i (suc width) (x ∷ l) = cond (ltb x 48) (Err i) (cond (ltb 57 x) (Err i) (digits_walked (v * 10 + (x - 48)) (i + 1) width l))

-- an index in a part that starts at `start` is an offset of the line
abbrev pub moved : ℕ → Result ℕ ℕ → Result ℕ ℕ
moved start (Ok n) = Ok n
moved start (Err i) = Err (start + i)

-- the figure of `width` digits behind the space at `at`, or the offset of what is wrong
unfoldable pub figure_read : List ℕ → ℕ → ℕ → Result ℕ ℕ
figure_read l at width = cond (eqb (get_or l at 0) 32) (moved (at + 1) (digits_read width (field_of l at))) (Err at)

-- flag, lower and upper limit, if all three are figures
abbrev pub watched_by : Result ℕ ℕ → Result ℕ ℕ → Result ℕ ℕ → Result (ℕ × ℕ × ℕ) ℕ
watched_by (Ok flag) (Ok lower) (Ok upper) = Ok (flag, lower, upper)
watched_by (Ok flag) (Ok lower) (Err i) = Err i
watched_by (Ok flag) (Err i) upper = Err i
watched_by (Err i) lower upper = Err i

unfoldable pub watched_of : List ℕ → Result (ℕ × ℕ × ℕ) ℕ
watched_of l = watched_by (figure_read l 5 1) (figure_read l 7 3) (figure_read l 11 3)

-- one figure before those behind it, or the offset of the first that is wrong
abbrev pub onward : Result ℕ ℕ → Result (List ℕ) ℕ → Result (List ℕ) ℕ
onward (Err i) walked = Err i
onward (Ok n) (Err i) = Err i
onward (Ok n) (Ok ns) = Ok (n ∷ ns)

-- the numbers of a row with which the line ends, figure by figure from index `at` on, or the offset of what is wrong; behind the last figure the line ends
abbrev pub walk : List Column → List ℕ → ℕ → Result (List ℕ) ℕ
walk [] l at = cond (eqb (length l) at) (Ok []) (Err at)
walk (k ∷ ks) l at = onward (figure_read l at (digits k.kind)) (walk ks l (at + (1 + digits k.kind)))

-- the figures that the numbers of a row make
abbrev pub made_by : Form → Result (List ℕ) ℕ → Result Figures ℕ
made_by form (Err i) = Err i
made_by form (Ok ns) = Ok (made form ns)

-- the figures of a write in that form
unfoldable pub form_walked : Form → List ℕ → Result Figures ℕ
form_walked form l = made_by form (walk (layout form).columns l 5)

-- all figures of a row of n bytes are read: the line ends behind them, or has surplus bytes there
abbrev pub whole_of : List ℕ → ℕ → Figures → Result Figures ℕ
whole_of l n figures = cond (eqb (length l) n) (Ok figures) (Err n)

-- a syntax error at that offset
abbrev pub misread : ℕ → Reading
misread place = record { parsed = Err Syntax; place = place }

-- what a write is read as, by what its figures are
abbrev pub write_walked : Result Figures ℕ → Reading
write_walked (Err i) = misread i
write_walked (Ok figures) = record { parsed = Ok (Write figures); place = 0 }

-- ---- what is expected, as a pattern of bytes: a blank for a space, 0 for a digit

abbrev pub pattern_byte : Expected → ℕ
pattern_byte space = 32
pattern_byte digit = 48

-- what a pattern has at an index
unfoldable pub pattern_at : List ℕ → ℕ → Expects
pattern_at pattern i = cond (leb (length pattern) i) Nothing (cond (eqb (get_or pattern i 0) 32) Space Digit)

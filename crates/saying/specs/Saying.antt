-- What `./card say` writes for a line that is sent to zone 0: its answer, and for a refusal what is wrong, in words.
use Rattle.std.specs.Prelude.{ℕ, ◌+◌, ◌-◌, Bool, cond, ◌||◌, List, [], ◌∷◌, ◌++◌, map, length, get_or, replicate, ltb, eqb}
use Rattle.zone.specs.declared.figures.Figures.{Figures}
use Rattle.zone.specs.declared.figures.Figures.TheVariants.{AhueDeadline, AhueWindow, HzbgLimit, RrueReference, SolwSetpoint}
use Rattle.zone.specs.Lists.{within, is_zero, ascii}
use Rattle.zone.specs.Table.{Column, setpoint, window, layout}
use Rattle.zone.specs.Figures.{Entry, entries_of, fits, each_in_range}
use Rattle.card.specs.declared.records.Record.{Record}
use Rattle.card.specs.Records.{zone_at}
use Rattle.line.specs.declared.expecting.Expects.{Expects}
use Rattle.line.specs.declared.expecting.Expects.TheVariants.{Space, Digit, Nothing}
use Rattle.line.specs.Line.{digits_for, line_read}
use Rattle.line.specs.Places.{of_figures, expected_at, expected_in}
use Rattle.roads.specs.Calls.{Answered, reply_in, answer_text, text_place}
use Rattle.texts.specs.Texts.{line_feed, tab, or_dash}

-- a number below 1000, without leading zeros
abbrev pub decimal_for : ℕ → List ℕ
decimal_for n = cond (ltb n 10) (digits_for 1 n) (cond (ltb n 100) (digits_for 2 n) (digits_for 3 n))

-- number, reply (or -) and place, parted by tabs
abbrev pub answer_line : ℕ → List ℕ → ℕ → List ℕ
answer_line number reply place = decimal_for number ++ (tab ∷ (or_dash reply ++ (tab ∷ (decimal_for place ++ (line_feed ∷ [])))))

-- a line that begins with two blanks
abbrev pub behind_blanks : List ℕ → List ℕ
behind_blanks words = 32 ∷ 32 ∷ (words ++ (line_feed ∷ []))

-- what a number means, in words: the numbers of the text road, 14, which a recipe gets, and 13, which stands last; no other is given to a line or a recipe
abbrev pub meaning : ℕ → List ℕ
meaning number =
    cond (eqb number 1) (ascii "the room for the reply is below 32 bytes")
    (cond (eqb number 2) (ascii "the record is not sound")
    (cond (eqb number 3) (ascii "there is no such zone")
    (cond (eqb number 7) (ascii "unknown command: L or S comes first, then AHUE, HZBG, RRUE or SOLW")
    (cond (eqb number 8) (ascii "syntax error: wrong length, spaces or digits")
    (cond (eqb number 9) (ascii "a figure is outside its range")
    (cond (eqb number 10) (ascii "the write is not permitted in this state")
    (cond (eqb number 14) (ascii "not a recipe: more than 64 lines, or a line without its zone and tab")
    (ascii "unreadable: the line has more than 600 bytes"))))))))

-- a byte that does not print is a dot
abbrev pub printed : ℕ → ℕ
printed x = cond (within 32 126 x) x 46

abbrev pub words : Expects → List ℕ
words Space = ascii "a space"
words Digit = ascii "a digit"
words Nothing = ascii "nothing more"

-- as "5 to 99"
abbrev pub between : ℕ → ℕ → List ℕ
between low high = decimal_for low ++ (ascii " to " ++ decimal_for high)

-- the range of the first figure that is out of it
unfoldable pub range_missed : ℕ → List Entry → List ℕ
range_missed range [] = []
range_missed range (e ∷ es) = cond (fits range e) (range_missed range es) (between e.column.lowest (e.column.highest range))

-- a window's end, the fifth of its row (the default is never reached)
abbrev pub end_column : Column
end_column = get_or (layout window).columns 4 setpoint

-- what a window's end may be: above the begin (document 02, Req 06)
abbrev pub end_missed : ℕ → Figures → List ℕ
end_missed range (AhueDeadline f) = []
end_missed range (AhueWindow f) = between (f.begin + 1) (end_column.highest range)
end_missed range (HzbgLimit f) = []
end_missed range (RrueReference f) = []
end_missed range (SolwSetpoint f) = []

-- as the place of a 9: the end, if each figure is in its own range, else the first that is not
abbrev pub missed : ℕ → Figures → List ℕ
missed range figures = cond (each_in_range range figures) (end_missed range figures) (range_missed range (entries_of figures))

-- what is expected at the place; the figures stand behind the five letters
abbrev pub expectation : ℕ → ℕ → List ℕ → ℕ → List ℕ
expectation number range line place = cond (eqb number 8) (words (expected_at (expected_in line) (place - 5))) (of_figures (missed range) [] (line_read line))

-- a caret in a column, counted from 0, and what stands behind it
abbrev pub caret : ℕ → List ℕ → List ℕ
caret column words = replicate column 32 ++ (94 ∷ words)

-- the line that was sent, and under it a caret at the place with what is expected there
abbrev pub caret_at : ℕ → List ℕ → List ℕ
caret_at column expected = caret column (32 ∷ expected)

abbrev pub pointed : List ℕ → ℕ → List ℕ → List ℕ
pointed line place expected = behind_blanks (map printed line) ++ behind_blanks (caret_at place expected)

-- "Answers 8 and 9 on the text road carry that place" (document 02, Req 04)
abbrev pub carries_place : ℕ → Bool
carries_place number = eqb number 8 || eqb number 9

-- behind the answer: nothing if the call is done; for every refusal the meaning of its number; for 8 and 9 the line and what was expected
abbrev pub explained : ℕ → ℕ → List ℕ → ℕ → List ℕ
explained number range line place =
    cond (is_zero number) []
    (behind_blanks (meaning number) ++ cond (carries_place number) (pointed line place (expectation number range line place)) [])

pub record Said : Type 0 where
  pub output : List ℕ
  pub after : Record

-- a line has at most 600 bytes, as a line of the log
abbrev pub longest : ℕ
longest = 600

-- the room that is lent
abbrev pub lent : List ℕ
lent = replicate 32 0

abbrev pub said_by : Record → List ℕ → Answered → ℕ → Said
said_by r line a place = record {
  output = answer_line a.said.number (reply_in a.said) place ++ explained a.said.number (zone_at r 0).range line place;
  after = a.after;
}

-- a longer one is answered as the log answers one, with 13, and changes nothing
abbrev pub too_long : Record → Said
too_long r = record { output = answer_line 13 [] 0 ++ explained 13 0 [] 0; after = r }

-- a line to zone 0
unfoldable pub say_of : Record → List ℕ → Said
say_of r line = cond (ltb longest (length line)) (too_long r) (said_by r line (answer_text r 0 line lent) (text_place r 0 line lent))

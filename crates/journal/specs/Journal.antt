-- What a line of the log yields, and what it leaves: a line and a record give the output line and the record afterwards.
use Rattle.std.specs.Prelude.{ℕ, cond, List, [], ◌∷◌, ◌++◌, replicate, ltb}
use Rattle.card.specs.declared.records.Record.{Record}
use Rattle.line.specs.Line.{digits_for}
use Rattle.roads.specs.Calls.{Answered, reply_in}
use Rattle.session.specs.Sessions.{text, frame, add, remove, report, Call, in_room, quiet, answer_to}
use Rattle.texts.specs.Numbers.{in_hex}
use Rattle.texts.specs.Texts.{line_feed, tab, or_dash}
use Rattle.journal.specs.Lines.{Asks, adds, removes, reports, says, frames, unreadable, N, X, M, T, F, E, asks_of}

-- "Room is always 32"; what the room held before is not shown
abbrev pub lent : List ℕ
lent = replicate 32 0

-- the digits of an answer number, all of which are below 100
abbrev pub number_digits : ℕ → List ℕ
number_digits n = cond (ltb n 10) (digits_for 1 n) (digits_for 2 n)

-- "its letter, the number, and the reply .. parted by tabs", and a line feed, also where the last line of the log lacks it
abbrev pub output_line : ℕ → ℕ → List ℕ → List ℕ
output_line letter number reply = letter ∷ tab ∷ (number_digits number ++ (tab ∷ (or_dash reply ++ (line_feed ∷ []))))

pub record Yield : Type 0 where
  pub output : List ℕ
  pub after : Record

-- what the card answered, under its letter, with the reply as it is written
abbrev pub shown : ℕ → (List ℕ → List ℕ) → Answered → Yield
shown letter written a = record { output = output_line letter a.said.number (written (reply_in a.said)); after = a.after }

abbrev pub as_it_is : List ℕ → List ℕ
as_it_is reply = reply

-- each letter is a call of the card, and "an F reply [is] in capital hex"; "an unreadable line yields E, 13, "-"", and is "skipped whole"
abbrev pub yield_of : Record → Asks → Yield
yield_of r (adds zone address range) = shown N as_it_is (answer_to r (quiet (add zone address range)))
yield_of r (removes zone) = shown X as_it_is (answer_to r (quiet (remove zone)))
yield_of r (reports zone state actual) = shown M as_it_is (answer_to r (quiet (report zone state actual)))
yield_of r (says zone line) = shown T as_it_is (answer_to r (in_room (text zone line) lent))
yield_of r (frames bytes) = shown F in_hex (answer_to r (in_room (frame bytes) lent))
yield_of r unreadable = record { output = output_line E 13 []; after = r }

-- what a line does
unfoldable pub line_yields : Record → List ℕ → Yield
line_yields r line = yield_of r (asks_of line)

-- what lines do, one after the other
unfoldable pub lines_yield : Record → List (List ℕ) → Yield
lines_yield r [] = record { output = []; after = r }
lines_yield r (line ∷ lines) = record {
  output = (line_yields r line).output ++ (lines_yield (line_yields r line).after lines).output;
  after = (lines_yield (line_yields r line).after lines).after;
}

-- the calls that lines make of the card: one each, and none where a line is unreadable.
-- So a log is a session (is_session, in proofs/Cuts.antt), and what is proved of every session holds of every log
abbrev pub call_of : Asks → List Call
call_of (adds zone address range) = quiet (add zone address range) ∷ []
call_of (removes zone) = quiet (remove zone) ∷ []
call_of (reports zone state actual) = quiet (report zone state actual) ∷ []
call_of (says zone line) = in_room (text zone line) lent ∷ []
call_of (frames bytes) = in_room (frame bytes) lent ∷ []
call_of unreadable = []

abbrev pub calls_in : List (List ℕ) → List Call
calls_in [] = []
calls_in (line ∷ lines) = call_of (asks_of line) ++ calls_in lines

-- "Recipes load whole or not at all" (document 02, Req 01): what loading a recipe comes to, for every record, all bytes and every room.
-- "cond t x y" is x where t holds, and else y; "x ∷ xs" is x and behind it the list xs, "++" puts one list behind another.
use Rattle.std.specs.Prelude.{ℕ, zero, suc, ◌-◌, ◌*◌, Bool, true, false, cond, not, ◌||◌, List, [], ◌∷◌, ◌++◌, map, length, take, drop, replicate, ltb}
use Rattle.zone.specs.Lists.{is_zero, every, some}
use Rattle.card.specs.declared.records.Record.{Record}
use Rattle.card.specs.Answers.{number_of, values_of}
use Rattle.card.specs.Refusals.{Row, ◌gives◌, first}
use Rattle.card.specs.Records.{sound}
use Rattle.roads.specs.Calls.{said, Answered, port_rows, answer_text, text_place}
use Rattle.texts.specs.Texts.{lines_of, Zoned, to, lacking, zoned}
use Rattle.recipes.specs.declared.loading.Loaded.{Loaded}

-- ---- "one call for up to 64 lines of zone, tab, text command"

-- the lines are those of a text (lines_of: "Lines end in a line feed, the last one perhaps not"), and of each its zone, tab and command as in the log (zoned: "zones are decimals as in the log").
-- "a line without its zone and tab"
abbrev pub is_lacking : Zoned → Bool
is_lacking (to zone command) = false
is_lacking lacking = true

abbrev pub lacks : List ℕ → Bool
lacks line = is_lacking (zoned line)

-- what a line has to say, and to which zone; without its zone and tab, nothing
pub record Sending : Type 0 where
  pub zone : ℕ
  pub command : List ℕ

abbrev pub sending_in : Zoned → List Sending
sending_in (to zone command) = record { zone = zone; command = command } ∷ []
sending_in lacking = []

abbrev pub sendings : List (List ℕ) → List Sending
sendings [] = []
sendings (line ∷ lines) = sending_in (zoned line) ++ sendings lines

-- ---- the lines sent singly, in turn

-- what a line sent singly is answered, the place that it carries (Req 04), and its refusals, 3, 7, 8, 9, 10
pub record Sent : Type 0 where
  pub answered : Answered
  pub place : ℕ
  pub refusals : List Row

-- as text to its zone, lent these bytes
abbrev pub sent : Record → Sending → List ℕ → Sent
sent r line lent = record {
  answered = answer_text r line.zone line.command lent;
  place = text_place r line.zone line.command lent;
  refusals = port_rows r line.zone line.command;
}

-- each from the record that the one before it left and, since "Reply k stands at the start of the k-th 32 bytes of the room", lent its own 32 bytes
unfoldable pub in_turn : Record → List Sending → List ℕ → List Sent
in_turn r [] room = []
in_turn r (line ∷ lines) room =
    let one = sent r line (take 32 room) in
    one ∷ in_turn one.answered.after lines (drop 32 room)

-- "answered 0"
abbrev pub is_done : Sent → Bool
is_done one = is_zero one.answered.said.number

-- the record that they leave
abbrev pub left_by : Record → List Sent → Record
left_by r [] = r
left_by r (one ∷ more) = left_by one.answered.after more

-- the room: each 32 bytes as its line left them, and behind them what was there
abbrev pub room_by : List Sent → List ℕ → List ℕ
room_by [] room = room
room_by (one ∷ more) room = one.answered.said.room ++ room_by more (drop 32 room)

-- the lengths of the replies, 64 numbers, 0 where there is no line
abbrev pub lengths_by : List Sent → List ℕ
lengths_by all = map (λ one. one.answered.said.length) all ++ replicate (64 - length all) 0

-- "the first refused line": something of it, and else what is given for none
abbrev pub of_refused : {A : Type 0} → (Sent → A) → A → List Sent → A
of_refused part none [] = none
of_refused part none (one ∷ more) = cond (is_done one) (of_refused part none more) (part one)

-- its "number, from 1"; 0 where no line is refused. With one line before it a number is one more, but 0 stays 0
abbrev pub one_more : ℕ → ℕ
one_more zero = zero
one_more (suc k) = suc (suc k)

abbrev pub refused_line : List Sent → ℕ
refused_line [] = 0
refused_line (one ∷ more) = cond (is_done one) (one_more (refused_line more)) 1

-- ---- the call

-- what is answered, as by every call with a room (its replies are many: their lengths stand in `lengths`, and the one length of an answer is 0); the number of the refused line, the place within its command, and the lengths of the replies
pub record Loading : Type 0 where
  pub answered : Answered
  pub line : ℕ
  pub place : ℕ
  pub lengths : List ℕ

-- what is seen of what the code hands back, with the room as it then is; the answer's one length is not handed back, and is 0 here
abbrev pub loaded_seen : Loaded → List ℕ → Loading
loaded_seen o room = record {
  answered = record { said = record { number = number_of o.answer; values = values_of o.answer; length = 0; room = room }; after = o.after };
  line = o.line;
  place = o.place;
  lengths = o.lengths;
}

-- "the card keeps the sixteen zones as they were before the first line and reports the first refused line's number, from 1, and answer"; "a refused recipe writes nothing there"
abbrev pub refused_with : Record → List ℕ → ℕ → ℕ → ℕ → Loading
refused_with r room number line place = record { answered = record { said = said number [] [] room; after = r }; line = line; place = place; lengths = replicate 64 0 }

-- "record and replies are those of sending them singly"; "a done recipe has line number 0"
abbrev pub loaded_with : Record → List ℕ → List Sent → Loading
loaded_with r room all = record {
  answered = record { said = record { number = 0; values = []; length = 0; room = room_by all room }; after = left_by r all };
  line = 0;
  place = 0;
  lengths = lengths_by all;
}

-- "If each, sent in turn, would be answered 0 .. If not"
abbrev pub tried_with : Record → List ℕ → List Sent → Loading
tried_with r room all =
    cond (every is_done all) (loaded_with r room all)
    (refused_with r room (of_refused (λ one. one.answered.said.number) 0 all) (refused_line all) (of_refused (λ one. one.place) 0 all))

-- "order 1 (room below 32 bytes for each line), 2, 14, all with line number 0"; "14 for more than 64 lines or a line without its zone and tab, before any line is tried"
abbrev pub form_rows : Record → List (List ℕ) → List ℕ → List Row
form_rows r lines room =
    (ltb (length room) (32 * length lines) gives 1)
    ∷ (not (sound r) gives 2)
    ∷ ((ltb 64 (length lines) || some lacks lines) gives 14)
    ∷ []

unfoldable pub load_of : Record → List ℕ → List ℕ → Loading
load_of r recipe room =
    let lines = lines_of recipe in
    let form = first (form_rows r lines room) in
    cond (is_zero form) (tried_with r room (in_turn r (sendings lines) room)) (refused_with r room form 0 0)

-- ---- its refusals, as those of every call: in their order, past 14 those of the first refused line (where 1, 2 or 14 applies, what stands behind them does not matter)

abbrev pub load_order : List ℕ
load_order = 1 ∷ 2 ∷ 14 ∷ 3 ∷ 7 ∷ 8 ∷ 9 ∷ 10 ∷ []

abbrev pub load_rows : Record → List ℕ → List ℕ → List Row
load_rows r recipe room = form_rows r (lines_of recipe) room ++ of_refused (λ one. one.refusals) [] (in_turn r (sendings (lines_of recipe)) room)

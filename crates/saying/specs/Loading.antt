-- What `./card load` writes of a recipe: that it was loaded, with the reply to each line, or that it was refused, and what is wrong, in words.
use Rattle.std.specs.Prelude.{ℕ, ◌+◌, ◌-◌, ◌*◌, cond, List, [], ◌∷◌, ◌++◌, map, length, take, drop, get_or}
use Rattle.zone.specs.Lists.{is_zero, ascii}
use Rattle.card.specs.declared.records.Record.{Record}
use Rattle.card.specs.Records.{zone_at}
use Rattle.texts.specs.Texts.{line_feed, tab, lines_of, field, Zoned, to, lacking, zoned}
use Rattle.recipes.specs.Recipes.{Loading, load_of}
use Rattle.saying.specs.Saying.{decimal_for, behind_blanks, meaning, printed, expectation, caret, carries_place}

-- ---- a recipe that was loaded

-- the reply to a line, k others before it: "at the start of the k-th 32 bytes of the room" (document 02, Req 01), as long as the call told
abbrev pub reply_at : List ℕ → List ℕ → ℕ → List ℕ
reply_at lengths room k = take (get_or lengths k 0) (drop (32 * k) room)

-- a line's number, a tab and its reply
abbrev pub numbered : ℕ → List ℕ → List ℕ
numbered number reply = decimal_for number ++ (tab ∷ (reply ++ (line_feed ∷ [])))

-- the same for each line, counted from 1; k lines stand before these
unfoldable pub replies_from : List ℕ → List ℕ → ℕ → List (List ℕ) → List ℕ
replies_from lengths room k [] = []
replies_from lengths room k (line ∷ lines) = numbered (k + 1) (reply_at lengths room k) ++ replies_from lengths room (k + 1) lines

abbrev pub loaded_text : List ℕ → List ℕ → List ℕ → List ℕ
loaded_text recipe lengths room = ascii "loaded" ++ (line_feed ∷ replies_from lengths room 0 (lines_of recipe))

-- ---- a recipe that was refused

-- the number of the line that was refused, that of the answer, and the place, parted by tabs
abbrev pub refusal : ℕ → ℕ → ℕ → List ℕ
refusal line number place = ascii "refused" ++ (tab ∷ (decimal_for line ++ (tab ∷ (decimal_for number ++ (tab ∷ (decimal_for place ++ (line_feed ∷ [])))))))

-- a line of a recipe as it prints, its tab as a blank
abbrev pub shown_line : List ℕ → List ℕ → List ℕ
shown_line zone command = map printed zone ++ (32 ∷ map printed command)

-- behind the caret of an 8 or a 9 what is expected there, behind any other nothing
abbrev pub wanted : ℕ → ℕ → List ℕ → ℕ → List ℕ
wanted number range command place = cond (carries_place number) (32 ∷ expectation number range command place) []

-- zone and command, and under them a caret at the place, which is counted from where the command begins
abbrev pub marked : List ℕ → List ℕ → ℕ → ℕ → ℕ → List ℕ
marked zone command number range place = behind_blanks (shown_line zone command) ++ behind_blanks (caret (length zone + 1 + place) (wanted number range command place))

-- what is expected hangs on the temperature range of the zone; a line without its zone and tab is none that a recipe is refused for
abbrev pub pointed_by : Record → ℕ → ℕ → List ℕ → Zoned → List ℕ
pointed_by r number place line (to zone command) = marked (field line) command number (zone_at r zone).range place
pointed_by r number place line lacking = []

abbrev pub pointed_in : Record → ℕ → ℕ → List ℕ → List ℕ
pointed_in r number place line = pointed_by r number place line (zoned line)

-- the line of that number, counted from 1
abbrev pub line_numbered : List ℕ → ℕ → List ℕ
line_numbered recipe line = get_or (lines_of recipe) (line - 1) []

-- where no line was refused, but the recipe, there is none to show
abbrev pub refused_text : Record → List ℕ → ℕ → ℕ → ℕ → List ℕ
refused_text r recipe number line place =
    refusal line number place
    ++ (behind_blanks (meaning number)
    ++ cond (is_zero line) [] (pointed_in r number place (line_numbered recipe line)))

-- ---- what came of loading a recipe, in words

unfoldable pub loading_said : List ℕ → Loading → List ℕ
loading_said recipe o =
    cond (is_zero o.answered.said.number) (loaded_text recipe o.lengths o.answered.said.room)
    (refused_text o.answered.after recipe o.answered.said.number o.line o.place)

-- a recipe for a record, with that room lent
abbrev pub load_said : Record → List ℕ → List ℕ → List ℕ
load_said r recipe room = loading_said recipe (load_of r recipe room)

-- "Recipes load whole or not at all" (document 02, Req 01), among calls of every kind. What one call does stands in recipes/specs; above each statement stands where it is proved.
-- "P × Q" says that both hold.
use Rattle.std.specs.Prelude.{ℕ, ◌≡◌, cond, List, [], ◌∷◌, ◌++◌, take, drop}
use Rattle.zone.specs.Lists.{is_zero}
use Rattle.card.specs.declared.records.Record.{Record}
use Rattle.roads.specs.Calls.{Said}
use Rattle.texts.specs.Texts.{lines_of}
use Rattle.recipes.specs.Recipes.{Sending, sendings, Sent, load_of}
use Rattle.recipes.specs.Rules.{sent_singly}
use Rattle.session.specs.Sessions.{text, frame, compose_line, compose_frame, load, Call, in_room, quiet, after, said_to, Done, run, answers_by, Throughout}
use Rattle.session.specs.Demands.{OtherRoad, Rerouted}

-- ---- "record and replies are those of sending them singly"

-- the lines of a recipe as calls of the text road, the k-th lent the k-th 32 bytes of the room
abbrev pub singly : List Sending → List ℕ → List Call
singly [] room = []
singly (line ∷ lines) room = in_room (text line.zone line.command) (take 32 room) ∷ singly lines (drop 32 room)

abbrev pub lines_as_calls : List ℕ → List ℕ → List Call
lines_as_calls recipe room = singly (sendings (lines_of recipe)) room

-- what is answered to each of them
abbrev pub said_each : List Sent → List Said
said_each [] = []
said_each (one ∷ more) = one.answered.said ∷ said_each more

-- a done recipe: its lines, sent as calls, leave its record, and each is done
pub record IsItsLines (r : Record) (recipe room : List ℕ) : Type 0 where
  pub record_left : after r (in_room (load recipe) room) ≡ run r (lines_as_calls recipe room)
  pub each_done : Throughout Done r (lines_as_calls recipe room)
  -- what is said to each, in its own 32 bytes, is what stands in the definition of the recipe; that the recipe leaves the same there: Whole and Stands, in recipes/specs/Rules.antt
  pub each_said : answers_by after said_to r (lines_as_calls recipe room) ≡ said_each (sent_singly r recipe room)
  -- "Demand 3": each may go by the other road
  pub other_roads : Throughout (λ s call. (other : Call) × OtherRoad s call other) r (lines_as_calls recipe room)

-- `is_its_lines`, in proofs/Recipes.antt
abbrev pub LoadedIsItsLines : Type 0
LoadedIsItsLines = (r : Record) (recipe room : List ℕ) → Done r (in_room (load recipe) room) → IsItsLines r recipe room

-- ---- "Demand 3 counts a loaded recipe as its lines, a refused one as none"

-- what a call counts as: every other one as itself
abbrev pub counts_as : Record → Call → List Call
counts_as r (in_room (load recipe) room) = cond (is_zero (load_of r recipe room).answered.said.number) (lines_as_calls recipe room) []
counts_as r (in_room (text zone line) room) = in_room (text zone line) room ∷ []
counts_as r (in_room (frame bytes) room) = in_room (frame bytes) room ∷ []
counts_as r (in_room (compose_line command) room) = in_room (compose_line command) room ∷ []
counts_as r (in_room (compose_frame address command) room) = in_room (compose_frame address command) room ∷ []
counts_as r (quiet call) = quiet call ∷ []

-- a session with its recipes spelled out
abbrev pub spelled_out : Record → List Call → List Call
spelled_out r [] = []
spelled_out r (call ∷ calls) = counts_as r call ++ spelled_out (after r call) calls

-- the same record at the end; and so where any of the lines, or any other command, goes by the other road.
-- `same_spelled` and `same_by_other_road`, in proofs/Recipes.antt
abbrev pub SameSpelledOut : Type 0
SameSpelledOut = (r : Record) (calls : List Call) → run r calls ≡ run r (spelled_out r calls)

abbrev pub SameByOtherRoad : Type 0
SameByOtherRoad = (r : Record) (calls others : List Call) → Rerouted after OtherRoad r (spelled_out r calls) others → run r calls ≡ run r others

-- What is proved of loading a recipe, for every record, all bytes and every room. Above each statement stands where. What it does among other calls stands in session/specs/Recipes.antt.
-- "P → ⊥" says that P does not hold, "P ⊎ Q" that one of the two does, "P × Q" that both do, "P ↔ Q" that each holds where the other does.
use Rattle.std.specs.Prelude.{ℕ, suc, ◌+◌, ◌-◌, ◌*◌, ◌≤◌, ◌<◌, ◌≡◌, ◌⊎◌, ◌↔◌, true, false, List, [], ◌∷◌, ◌++◌, length, take, drop, get_or, replicate}
use Rattle.zone.specs.Lists.{every}
use Rattle.card.specs.declared.records.Record.{Record}
use Rattle.card.specs.Refusals.{first}
use Rattle.card.specs.Records.{sound}
use Rattle.card.specs.Rules.{ExactlyWhen, InOrder}
use Rattle.roads.specs.Calls.{said, answer_text, text_place}
use Rattle.texts.specs.Texts.{line_feed, lines_of, to, zoned}
use Rattle.recipes.specs.Recipes.{Sent, sendings, in_turn, is_done, left_by, room_by, lengths_by, Loading, refused_with, form_rows, load_of, load_order, load_rows}

-- the lines of a recipe sent singly, in turn
abbrev pub sent_singly : Record → List ℕ → List ℕ → List Sent
sent_singly r recipe room = in_turn r (sendings (lines_of recipe)) room

-- ---- when each number is given

-- each number exactly where its test holds and no earlier one does, 0 exactly where none holds, and in load_order's order: `load_exactly` and `load_order_lem`, in proofs/Told.antt
abbrev pub LoadExactly : Type 0
LoadExactly = (r : Record) (recipe room : List ℕ) → ExactlyWhen (load_rows r recipe room) (load_of r recipe room).answered.said.number

abbrev pub LoadInOrder : Type 0
LoadInOrder = (r : Record) (recipe room : List ℕ) → InOrder (load_rows r recipe room) load_order

-- the first line that, sent in turn, is not answered 0: k lines stand before it
pub record FirstRefused (all : List Sent) (k : ℕ) (one : Sent) : Type 0 where
  pub before : List Sent
  pub behind : List Sent
  pub split : all ≡ before ++ one ∷ behind
  pub count : length before ≡ k
  pub done : every is_done before ≡ true
  pub refused : is_done one ≡ false

-- 1, 2 and 14 do not apply: room, record and form are right, and the lines may be tried
abbrev pub WellFormed : Record → List ℕ → List ℕ → Type 0
WellFormed r recipe room = first (form_rows r (lines_of recipe) room) ≡ 0

-- then there are as many lines sent as the recipe has, so that the k-th is the k-th. `each_sent`, in proofs/Stands.antt
abbrev pub EachIsSent : Type 0
EachIsSent = (r : Record) (recipe room : List ℕ) → WellFormed r recipe room → length (sent_singly r recipe room) ≡ length (lines_of recipe)

-- the line number, from 1, exactly where that line is the first refused, and 1, 2 and 14 do not apply; in all other cases it is 0. `line_exactly`, in proofs/Told.antt
abbrev pub LineExactly : Type 0
LineExactly = (r : Record) (recipe room : List ℕ) (k : ℕ)
    → ((load_of r recipe room).line ≡ suc k) ↔ (WellFormed r recipe room × ((one : Sent) × FirstRefused (sent_singly r recipe room) k one))

-- ---- "whole": "record and replies are those of sending them singly"

pub record Whole (r : Record) (recipe room : List ℕ) : Type 0 where
  -- each, sent in turn, is answered 0
  pub each_done : every is_done (sent_singly r recipe room) ≡ true
  pub record_left : (load_of r recipe room).answered.after ≡ left_by r (sent_singly r recipe room)
  -- in each 32 bytes the reply, of sending them singly
  pub room_left : (load_of r recipe room).answered.said.room ≡ room_by (sent_singly r recipe room) room
  pub lengths_told : (load_of r recipe room).lengths ≡ lengths_by (sent_singly r recipe room)
  pub no_line : ((load_of r recipe room).line ≡ 0) × ((load_of r recipe room).place ≡ 0)
  pub tells_nothing : (load_of r recipe room).answered.said.values ≡ []

-- `whole`, in proofs/Told.antt: of a done recipe
abbrev pub LoadsWhole : Type 0
LoadsWhole = (r : Record) (recipe room : List ℕ) → (load_of r recipe room).answered.said.number ≡ 0 → Whole r recipe room

-- "Reply k stands at the start of the k-th 32 bytes of the room": line k, from 0, leaves the k-th 32 bytes as it does sent singly, and its length is the k-th of those told; behind its reply these bytes keep their contents, and so does what lies behind the last
pub record Stands (r : Record) (recipe room : List ℕ) : Type 0 where
  pub here : (k : ℕ) (d : Sent) → k < length (lines_of recipe) → take 32 (drop (32 * k) (load_of r recipe room).answered.said.room) ≡ (get_or (sent_singly r recipe room) k d).answered.said.room
  pub length_here : (k : ℕ) (d : Sent) → k < length (lines_of recipe) → get_or (load_of r recipe room).lengths k 0 ≡ (get_or (sent_singly r recipe room) k d).answered.said.length
  pub kept : (k : ℕ) → k < length (lines_of recipe)
      → drop (get_or (load_of r recipe room).lengths k 0) (take 32 (drop (32 * k) (load_of r recipe room).answered.said.room)) ≡ drop (get_or (load_of r recipe room).lengths k 0) (take 32 (drop (32 * k) room))
  pub beyond : drop (32 * length (lines_of recipe)) (load_of r recipe room).answered.said.room ≡ drop (32 * length (lines_of recipe)) room

-- `replies_stand`, in proofs/Stands.antt: of a done recipe
abbrev pub RepliesStand : Type 0
RepliesStand = (r : Record) (recipe room : List ℕ) → (load_of r recipe room).answered.said.number ≡ 0 → Stands r recipe room

-- and it is done where it may be: 1, 2 and 14 do not apply, and each line, sent in turn, is answered 0; so a card that loads nothing is ruled out. `loads`, in proofs/Told.antt
abbrev pub LoadsIfEachIsDone : Type 0
LoadsIfEachIsDone = (r : Record) (recipe room : List ℕ) → WellFormed r recipe room → every is_done (sent_singly r recipe room) ≡ true → (load_of r recipe room).answered.said.number ≡ 0

-- ---- "or not at all"

-- what it reports: the answer's number, the number of the line, and the place
abbrev pub Reports : Record → List ℕ → List ℕ → ℕ → ℕ → ℕ → Type 0
Reports r recipe room number line place = ((load_of r recipe room).answered.said.number ≡ number) × ((load_of r recipe room).line ≡ line) × ((load_of r recipe room).place ≡ place)

-- why: 1, 2 or 14, before any line is tried, with line number 0; or "the first refused line's number, from 1, and answer", and its place
pub data Because (r : Record) (recipe room : List ℕ) : Type 0 where
  of_its_form : (WellFormed r recipe room → ⊥) → Reports r recipe room (first (form_rows r (lines_of recipe) room)) 0 0 → Because r recipe room
  of_a_line : (k : ℕ) (one : Sent) → WellFormed r recipe room → FirstRefused (sent_singly r recipe room) k one → Reports r recipe room one.answered.said.number (suc k) one.place → Because r recipe room

pub record NotAtAll (r : Record) (recipe room : List ℕ) : Type 0 where
  -- "the card keeps the sixteen zones as they were before the first line"
  pub record_kept : (load_of r recipe room).answered.after ≡ r
  -- "a refused recipe writes nothing there", and tells nothing
  pub room_kept : (load_of r recipe room).answered.said.room ≡ room
  pub tells_nothing : ((load_of r recipe room).answered.said.values ≡ []) × ((load_of r recipe room).lengths ≡ replicate 64 0)
  pub because : Because r recipe room

-- `or_not_at_all`, in proofs/Told.antt: of every recipe that is not done
abbrev pub OrNotAtAll : Type 0
OrNotAtAll = (r : Record) (recipe room : List ℕ) → ((load_of r recipe room).answered.said.number ≡ 0 → ⊥) → NotAtAll r recipe room

-- ---- few lines

-- "Zero lines are done and change nothing", in any room, also an empty one; but 2 comes before. `zero_lines`, in proofs/Few.antt
pub record ZeroLines (r : Record) (room : List ℕ) : Type 0 where
  pub done : sound r ≡ true → load_of r [] room ≡ record { answered = record { said = said 0 [] [] room; after = r }; line = 0; place = 0; lengths = replicate 64 0 }
  pub unsound : sound r ≡ false → load_of r [] room ≡ refused_with r room 2 0 0

abbrev pub ZeroLinesAreDone : Type 0
ZeroLinesAreDone = (r : Record) (room : List ℕ) → ZeroLines r room

-- a recipe of one line, with its zone and tab, is the text call: its number, its record and its place and, where it is done, its room and length. (Where it is refused, the text call writes its acknowledgement, and the recipe nothing.) `one_line`, in proofs/Few.antt
pub record IsText (r : Record) (recipe : List ℕ) (zone : ℕ) (command room : List ℕ) : Type 0 where
  pub number : (load_of r recipe room).answered.said.number ≡ (answer_text r zone command room).said.number
  pub record_left : (load_of r recipe room).answered.after ≡ (answer_text r zone command room).after
  pub place : (load_of r recipe room).place ≡ text_place r zone command room
  pub room_left : (load_of r recipe room).answered.said.number ≡ 0 → (load_of r recipe room).answered.said.room ≡ (answer_text r zone command room).said.room
  pub length : (load_of r recipe room).answered.said.number ≡ 0 → get_or (load_of r recipe room).lengths 0 0 ≡ (answer_text r zone command room).said.length

abbrev pub OneLineIsText : Type 0
OneLineIsText = (r : Record) (recipe line : List ℕ) (zone : ℕ) (command room : List ℕ) → lines_of recipe ≡ line ∷ [] → zoned line ≡ to zone command → IsText r recipe zone command room

-- ---- one recipe behind another

-- a recipe that is empty or ends in a line feed, so that what stands behind it begins a line
abbrev pub EndsItsLine : List ℕ → Type 0
EndsItsLine recipe = (recipe ≡ []) ⊎ ((front : List ℕ) × (recipe ≡ front ++ (line_feed ∷ [])))

-- what comes of both together, by what comes of the first and of the second
pub record Behind (recipe : List ℕ) (one two both : Loading) : Type 0 where
  pub done : both.answered.said.number ≡ 0
  pub record_left : both.answered.after ≡ two.answered.after
  -- the first's replies, and the second's behind them
  pub room_left : both.answered.said.room ≡ take (32 * length (lines_of recipe)) one.answered.said.room ++ two.answered.said.room
  -- the first's lengths, and the second's behind them
  pub lengths_told : both.lengths ≡ take (length (lines_of recipe)) one.lengths ++ take (64 - length (lines_of recipe)) two.lengths

-- the first from r, the second from the record that the first left, with the room behind the first's replies; both done. `one_behind_another`, in proofs/Few.antt
abbrev pub OneBehindAnother : Type 0
OneBehindAnother = (r : Record) (recipe second room : List ℕ) → EndsItsLine recipe → length (lines_of recipe) + length (lines_of second) ≤ 64
    → (load_of r recipe room).answered.said.number ≡ 0
    → (load_of (load_of r recipe room).answered.after second (drop (32 * length (lines_of recipe)) room)).answered.said.number ≡ 0
    → Behind recipe (load_of r recipe room) (load_of (load_of r recipe room).answered.after second (drop (32 * length (lines_of recipe)) room)) (load_of r (recipe ++ second) room)

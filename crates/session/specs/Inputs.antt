-- What comes by the two roads, lines and frames with their rooms, and what is heard of it.
use Rattle.std.specs.Prelude.{ℕ, ◌≡◌, List, map, replicate}
use Prim.Native.String.{String}
use Rattle.zone.specs.Lists.{ascii}
use Rattle.card.specs.declared.records.Record.{Record}
use Rattle.roads.specs.Calls.{Said, text_place}
use Rattle.session.specs.Sessions.{text, frame, Call, in_room, after, said_to, run_by, run, answers_by}

-- a line on a zone's text port, or a frame on the pair, with the room that is lent for its reply and what stands in it
pub data Input : Type 0 where
  on_port : ℕ → List ℕ → List ℕ → Input
  on_pair : List ℕ → List ℕ → Input

-- the call that it is
abbrev pub sent : Input → Call
sent (on_port zone line room) = in_room (text zone line) room
sent (on_pair bytes room) = in_room (frame bytes) room

-- the record that it leaves
abbrev pub next : Record → Input → Record
next r x = after r (sent x)

-- the place that an answer to a line carries (document 02, Req 04); an answer to a frame carries none
abbrev pub place_of : Record → Input → ℕ
place_of r (on_port zone line room) = text_place r zone line room
place_of r (on_pair bytes room) = 0

-- what is heard of it: number, figures, length of the reply and the whole room afterwards, and the place
pub record Heard : Type 0 where
  pub said : Said
  pub place : ℕ

abbrev pub heard : Record → Input → Heard
heard r x = record { said = said_to r (sent x); place = place_of r x }

-- Inputs are sent as calls, by themselves or with a number (call says which call is sent): a session of them ends in the record of the session of these calls, and the same is said to each. The place stands beside. `sent_as_calls`, in proofs/Inputs.antt
pub record IsSession {C : Type 0} (call : C → Call) (r : Record) (xs : List C) : Type 0 where
  pub same_end : run_by (λ s x. after s (call x)) r xs ≡ run r (map call xs)
  pub same_answers : answers_by (λ s x. after s (call x)) (λ s x. said_to s (call x)) r xs ≡ answers_by after said_to r (map call xs)

abbrev pub SentAsCalls : {C : Type 0} → (C → Call) → Type 0
SentAsCalls {C} call = (r : Record) (xs : List C) → IsSession call r xs

-- a line to a zone, with room of 32 bytes, for worked cases
abbrev pub line_on : ℕ → String → Input
line_on zone command = on_port zone (ascii command) (replicate 32 0)

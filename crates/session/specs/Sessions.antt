-- A session: calls of every kind, each starting from the record that the one before handed back.
use Rattle.std.specs.Prelude.{ℕ, ◌≡◌, Bool, true, false, cond, List, [], ◌∷◌, map}
use Rattle.zone.specs.declared.figures.Figures.{Figures}
use Rattle.zone.specs.declared.figures.Command.{Command}
use Rattle.zone.specs.declared.sources.Source.{Source}
use Rattle.card.specs.declared.records.Record.{Record}
use Rattle.card.specs.Answers.{Result}
use Rattle.card.specs.Calls.{add_of, remove_of, report_of, apply_of, choose_source_of, setpoint_in_use_of, book_of, ship_of, merge_of, repair_of}
use Rattle.roads.specs.Calls.{Said, Answered, said, answer_text, answer_frame, composed_line, composed_frame}
use Rattle.recipes.specs.Recipes.{load_of}

-- a call that is lent a room, and may reply in it. What a recipe tells besides (the refused line, its place and the lengths of the replies) stands in load_of, and not in a session's answers
pub data Speaking : Type 0 where
  text : ℕ → List ℕ → Speaking
  frame : List ℕ → Speaking
  compose_line : Command → Speaking
  compose_frame : ℕ → Command → Speaking
  load : List ℕ → Speaking

-- a call without a room, which replies nothing; what it tells is handed back. The old ends that a repair tells stand in repair_of, and not in a session's answers
pub data Quiet : Type 0 where
  add : ℕ → ℕ → ℕ → Quiet
  remove : ℕ → Quiet
  report : ℕ → ℕ → ℕ → Quiet
  apply : ℕ → Command → Quiet
  choose_source : ℕ → Source → ℕ → Quiet
  setpoint_in_use : ℕ → Quiet
  book : ℕ → ℕ → Quiet
  ship : ℕ → ℕ → Quiet
  merge : ℕ → ℕ → Quiet
  repair : Quiet

-- a call that document 01 or a request of document 02 names, with its arguments and, where it has one, the room that is lent
pub data Call : Type 0 where
  in_room : Speaking → List ℕ → Call
  quiet : Quiet → Call

-- what the card answers: the definitions that the contracts of its functions promise, so what is said of them holds of the code
abbrev pub answer_in : Record → Speaking → List ℕ → Answered
answer_in r (text zone line) room = answer_text r zone line room
answer_in r (frame bytes) room = answer_frame r bytes room
answer_in r (compose_line command) room = record { said = composed_line command room; after = r }
answer_in r (compose_frame address command) room = record { said = composed_frame address command room; after = r }
answer_in r (load recipe) room = (load_of r recipe room).answered

abbrev pub result_of : Record → Quiet → Result Record
result_of r (add zone address range) = add_of r zone address range
result_of r (remove zone) = remove_of r zone
result_of r (report zone state actual) = report_of r zone state actual
result_of r (apply zone command) = apply_of r zone command
result_of r (choose_source zone source millivolts) = choose_source_of r zone source millivolts
result_of r (setpoint_in_use zone) = setpoint_in_use_of r zone
result_of r (book zone kilograms) = book_of r zone kilograms
result_of r (ship zone kilograms) = ship_of r zone kilograms
result_of r (merge a b) = merge_of r a b
result_of r repair = (repair_of r).result

abbrev pub answer_to : Record → Call → Answered
answer_to r (in_room call room) = answer_in r call room
answer_to r (quiet call) = record { said = said (result_of r call).number (result_of r call).values [] []; after = (result_of r call).after }

abbrev pub after : Record → Call → Record
after r call = (answer_to r call).after

abbrev pub said_to : Record → Call → Said
said_to r call = (answer_to r call).said

-- the call is answered as done
abbrev pub Done : Record → Call → Type 0
Done r call = (answer_to r call).said.number ≡ 0

-- "every step starts from the record just handed back": for any kinds of calls, and for the card's
abbrev pub run_by : {C : Type 0} → (Record → C → Record) → Record → List C → Record
run_by step r [] = r
run_by step r (call ∷ calls) = run_by step (step r call) calls

abbrev pub run : Record → List Call → Record
run r calls = run_by after r calls

-- the calls of a session, each with its answer at the record of its step: for any kinds of calls, where step is what a call does to the record and answer what is answered; and the answers alone
abbrev pub heard_by : {C A : Type 0} → (Record → C → Record) → (Record → C → A) → Record → List C → List (C × A)
heard_by step answer r [] = []
heard_by step answer r (call ∷ calls) = (call, answer r call) ∷ heard_by step answer (step r call) calls

abbrev pub answers_by : {C A : Type 0} → (Record → C → Record) → (Record → C → A) → Record → List C → List A
answers_by step answer r calls = map (λ p. p.1) (heard_by step answer r calls)

-- the numbers and the figures that a session's calls are answered, one after the other
abbrev pub answers_of : Record → List Call → List (ℕ × List Figures)
answers_of r calls = answers_by after (λ s call. ((answer_to s call).said.number, (answer_to s call).said.values)) r calls

-- what holds of each call of a session, at the record of its step
abbrev pub Throughout : (Record → Call → Type 0) → Record → List Call → Type 0
Throughout P r [] = Unit {0}
Throughout P r (call ∷ calls) = P r call × Throughout P (after r call) calls

-- ---- a session of which a part is struck out, for any kinds of calls (the signs are explained at the head of Order.antt)

-- strike out what the test names; the rest remains, in its order ("cond t a b" is a where t is true, and else b)
abbrev pub strike : {C : Type 0} → (C → Bool) → List C → List C
strike out [] = []
strike out (x ∷ xs) = cond (out x) (strike out xs) (x ∷ strike out xs)

-- of a whole session the calls that would remain, each with its answer
abbrev pub heard_besides : {C A : Type 0} → (C → Bool) → (Record → C → Record) → (Record → C → A) → Record → List C → List (C × A)
heard_besides out step answer r calls = strike (λ p. out p.0) (heard_by step answer r calls)

-- the whole session is sent from r, and what remains of it from r'; Like says what two records have in common
pub record SameWithout {C A : Type 0} (out : C → Bool) (step : Record → C → Record) (answer : Record → C → A) (Like : Record → Record → Type 0) (r r' : Record) (calls : List C) : Type 0 where
  -- what remains is answered as in the whole session, call for call
  pub answers : heard_besides out step answer r calls ≡ heard_by step answer r' (strike out calls)
  -- and the two end in records that are alike
  pub left : Like (run_by step r calls) (run_by step r' (strike out calls))

-- Of two records that are alike the first is met in the whole session, the second in what remains of it. A call that is struck out is sent to the first alone, and they are alike still; any other is sent to both, is answered the same, and leaves two that are alike
pub record NotMissed {C A : Type 0} (out : C → Bool) (step : Record → C → Record) (answer : Record → C → A) (Like : Record → Record → Type 0) : Type 0 where
  pub struck : (r r' : Record) (x : C) → Like r r' → out x ≡ true → Like (step r x) r'
  pub remains : (r r' : Record) (x : C) → Like r r' → out x ≡ false → (answer r x ≡ answer r' x) × Like (step r x) (step r' x)

-- then, from records that are alike, every session is the same without what is struck out. `may_be_struck`, in proofs/Struck.antt
abbrev pub MayBeStruck : {C A : Type 0} → (C → Bool) → (Record → C → Record) → (Record → C → A) → (Record → Record → Type 0) → Type 0
MayBeStruck {C} out step answer Like = NotMissed out step answer Like → (r r' : Record) (calls : List C) → Like r r' → SameWithout out step answer Like r r' calls

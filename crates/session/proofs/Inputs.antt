-- A session of inputs is the session of the calls that they are sent as. Assumes nothing.
use mathlib.Core.Path.{refl, ap}
use mathlib.Core.List.{List, [], ◌∷◌}
use Rattle.roads.specs.Calls.{Said}
use Rattle.session.specs.Sessions.{Call, answer_to, after}
use Rattle.session.specs.Inputs.{SentAsCalls}

pub sent_as_calls : {C : Type 0} (call : C → Call) → SentAsCalls call
sent_as_calls call r [] = record { same_end = refl; same_answers = refl }
sent_as_calls call r (x ∷ xs) =
    let rest = sent_as_calls call (after r (call x)) xs in
    record { same_end = rest.same_end; same_answers = ap (λ (l : List Said). (answer_to r (call x)).said ∷ l) rest.same_answers }

-- The state is what turns have left, from the first one.
use Rattle.std.proofs.Common.{ℕ, ◌≡◌, true}
use Rattle.output.specs.Output.{Turns}
use Rattle.output.proofs.turns.Given as goal

abbrev pub invariant-loop : goal.invariant-loop
invariant-loop g l =
    goal.F-IsAlwaysCallable g l.turn × ((n : ℕ) × (n ≡ l.counter) × Turns (λ s. goal.G-post g l.goes_on s true) (λ p s t q. goal.F-step g p s t q) n l.fn.turn l.fn.start l.turn l.state)

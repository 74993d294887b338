-- How a list of refusals decides a call.
use Rattle.std.specs.Prelude.{ℕ, Bool, cond, List, [], ◌∷◌}
use Rattle.zone.specs.declared.figures.Figures.{Figures}
use Rattle.zone.specs.Lists.{is_zero}
use Rattle.card.specs.Answers.{Result}

-- a test, and the number that is given where it holds
pub record Row : Type 0 where
  pub test : Bool
  pub number : ℕ

infix 10 ◌gives◌
abbrev pub ◌gives◌ : Bool → ℕ → Row
test gives number = record { test = test; number = number }

-- "Where several apply, the first in the call's order is given"; 0, done, where none applies
abbrev pub first : List Row → ℕ
first [] = 0
first (row ∷ rows) = cond row.test row.number (first rows)

-- done: these values, and this afterwards. "Every refusal hands back the record it was given", and tells nothing
abbrev pub settled : {A : Type 0} → A → List Row → List Figures → A → Result A
settled given rows values after = record {
  number = first rows;
  values = cond (is_zero (first rows)) values [];
  after = cond (is_zero (first rows)) after given;
}

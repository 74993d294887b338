-- How a text grows at the front of a lent room, and other steps on the way.
use Rattle.std.specs.Prelude.{ℕ, ◌+◌, ◌*◌, ◌≤◌, ◌≡◌, List, ◌++◌, length, take, get_or}
use Rattle.zone.specs.declared.figures.Ranged.{Ranged}
use Rattle.texts.specs.Texts.{lines_of}
use Rattle.recipes.specs.Recipes.{Loading}
use Rattle.saying.specs.declared.saying.Shown.{Shown}
use Rattle.saying.specs.declared.writing.Writer.{Writer}
use Rattle.saying.specs.Saying.{Said, between}

-- what a writer has written, at the front of its room
abbrev pub written : Writer → List ℕ
written w = take w.filled w.room.now

-- so many bytes more fit into its room
abbrev pub HasRoom : Writer → ℕ → Type 0
HasRoom w n = w.filled + n ≤ length w.room.now

-- a text was written behind what stood there, in the same room
pub record Wrote (text : List ℕ) (old new : Writer) : Type 0 where
  pub same_room : new.room.ghost_name ≡ old.room.ghost_name
  pub size : length new.room.now ≡ length old.room.now
  pub filled : new.filled ≡ old.filled + length text
  pub contents : written new ≡ written old ++ text

-- and it has so many bytes at most
pub record WroteAtMost (most : ℕ) (text : List ℕ) (old new : Writer) : Type 0 where
  pub wrote : Wrote text old new
  pub short : new.filled ≤ old.filled + most

-- a range in words
abbrev pub range_in : Ranged → List ℕ
range_in g = between g.lowest g.highest

-- what is seen of a line that was answered: the output at the front of the room
abbrev pub shown_seen : Shown → List ℕ → Said
shown_seen o out = record { output = take o.filled out; after = o.after }

-- what came of loading a recipe has this in bounds, whatever was loaded (loads_in_bounds, in proofs/Loads.antt)
pub record InBounds (recipe : List ℕ) (o : Loading) : Type 0 where
  pub few : o.answered.said.number ≡ 0 → length (lines_of recipe) ≤ 64
  pub roomy : o.answered.said.number ≡ 0 → 32 * length (lines_of recipe) ≤ length o.answered.said.room
  pub short : (k : ℕ) → get_or o.lengths k 0 ≤ 32
  pub line : o.line ≤ 64
  pub place : o.place ≤ 23

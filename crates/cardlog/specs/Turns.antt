-- A turn of the program: a block is worked on behind what was held, from the record that the turn before handed back, and the output for it is handed to write. Which bytes were read, and what write does with those that it is handed, no contract can say.
use Rattle.std.specs.Prelude.{ℕ, ◌≤◌, ◌≡◌, false, List, ◌++◌, take}
use Rattle.card.specs.declared.records.Record.{Record}
use Rattle.journal.specs.Blocks.{fed, closed}
use Rattle.output.specs.Output.{going}
use Rattle.cardlog.specs.declared.between.Between.{Between}

-- what a text leaves: the record, what is held of the line under way at the front of the buffer, and at the front of `out` the output, just as many bytes as were handed to write
pub record Leaves (r : Record) (text buffer out : List ℕ) (b : Between) : Type 0 where
  pub after : b.after ≡ (fed r text).after
  pub held : take b.held buffer ≡ (fed r text).held
  pub few : b.held ≤ 601
  pub output : take b.handed out ≡ (fed r text).output

-- what a turn leaves
pub data Turned (r : Record) (held buffer out : List ℕ) (b : Between) : Type 0 where
  -- some block was read: it stands behind what was held. Whether the program then goes on is not said here
  went_on : (block : List ℕ) → Leaves r (held ++ block) buffer out b → Turned r held buffer out b
  -- the input has ended: the line under way, if there is one, gets its line feed
  ended : Leaves r (closed held) buffer out b → going b.next ≡ false → Turned r held buffer out b
  -- the read failed: nothing is answered
  failed : b.after ≡ r → b.handed ≡ 0 → going b.next ≡ false → Turned r held buffer out b

-- A block of the log is worked on behind what was held, from the record that the turn before handed back. Which bytes were read no contract can say.
use Rattle.std.specs.Prelude.{ℕ, ◌≤◌, ◌≡◌, List, ◌++◌, take}
use Rattle.card.specs.declared.records.Record.{Record}
use Rattle.journal.specs.Blocks.{fed, closed}
use Rattle.cardload.specs.declared.between.Between.{Between}
use Rattle.cardload.specs.declared.between.Log.TheVariants.{More, Ended, Failed}

-- what a text leaves: the record, and what is held of the line under way at the front of the buffer
pub record Leaves (r : Record) (text buffer : List ℕ) (b : Between) : Type 0 where
  pub after : b.after ≡ (fed r text).after
  pub held : take b.held buffer ≡ (fed r text).held
  pub few : b.held ≤ 601

-- what a turn leaves
pub data Turned (r : Record) (held buffer : List ℕ) (b : Between) : Type 0 where
  -- some block was read: it stands behind what was held
  went_on : (block : List ℕ) → Leaves r (held ++ block) buffer b → b.log ≡ More → Turned r held buffer b
  -- the log has ended: the line under way, if there is one, gets its line feed
  ended : Leaves r (closed held) buffer b → b.log ≡ Ended → Turned r held buffer b
  -- the read failed
  failed : b.after ≡ r → b.log ≡ Failed → Turned r held buffer b

-- A byte of the input: a line feed ends the line under way, which is answered from the record just handed back; any other byte is held behind it. Whether the program then goes on is not said here: it does unless the output could not be written.
use Rattle.std.specs.Prelude.{ℕ, ◌≡◌, List, [], ◌∷◌, ◌++◌, take}
use Rattle.card.specs.declared.records.Record.{Record}
use Rattle.texts.specs.Texts.{line_feed}
use Rattle.saying.specs.Saying.{say_of}
use Rattle.cardsay.specs.declared.between.Between.{Between}

-- a line was answered: what is said of it stands at the front of `out`, just as many bytes as were handed to write, and nothing is held
pub record Said (r : Record) (line out : List ℕ) (b : Between) : Type 0 where
  pub after : b.after ≡ (say_of r line).after
  pub output : take b.handed out ≡ (say_of r line).output
  pub held : b.held ≡ 0

-- what a byte leaves
pub data Hears (r : Record) (held : List ℕ) (x : ℕ) (line out : List ℕ) (b : Between) : Type 0 where
  ended : x ≡ line_feed → Said r held out b → Hears r held x line out b
  -- no more than 601 bytes are held: what is said of a longer line is what is said of its first 601 bytes (cut_long, in saying's proofs/Long.antt)
  grew : (x ≡ line_feed → ⊥) → b.after ≡ r → b.handed ≡ 0 → take b.held line ≡ take 601 (held ++ (x ∷ [])) → Hears r held x line out b

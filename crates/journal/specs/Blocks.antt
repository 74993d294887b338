-- A whole log, and a log that comes in blocks.
use Rattle.std.specs.Prelude.{ℕ, suc, List, [], ◌∷◌, ◌++◌, take}
use Rattle.card.specs.declared.records.Record.{Record}
use Rattle.card.specs.Records.{empty_record}
use Rattle.texts.specs.Texts.{line_feed, ended, begun, lines_of}
use Rattle.journal.specs.declared.blocks.Kept.{Kept}
use Rattle.journal.specs.Lines.{longest}
use Rattle.journal.specs.Journal.{lines_yield}

-- what the program writes, for the whole of its input: "It reads standard input from an empty record"
unfoldable pub log_of : List ℕ → List ℕ
log_of text = (lines_yield empty_record (lines_of text)).output

-- ---- the same, in blocks

-- what is written for a text, and what is kept until more comes: the record, and the line under way.
-- Of a line that is already too long, so many bytes are kept that it stays too long
pub record Fed : Type 0 where
  pub output : List ℕ
  pub after : Record
  pub held : List ℕ

unfoldable pub fed : Record → List ℕ → Fed
fed r text = record {
  output = (lines_yield r (ended text)).output;
  after = (lines_yield r (ended text)).after;
  held = take (suc longest) (begun text);
}

-- at the end of the input the line under way gets the line feed that it lacks; where nothing is under way there is no further line, as with `unended`
abbrev pub closed : List ℕ → List ℕ
closed [] = []
closed (x ∷ held) = (x ∷ held) ++ (line_feed ∷ [])

-- the input in blocks, each behind what was held. However it is cut, what is written is log_of the whole (cut_anywhere, in proofs/Cuts.antt)
unfoldable pub blocks_yield : Record → List ℕ → List (List ℕ) → List ℕ
blocks_yield r held [] = (fed r (closed held)).output
blocks_yield r held (block ∷ blocks) = (fed r (held ++ block)).output ++ blocks_yield (fed r (held ++ block)).after (fed r (held ++ block)).held blocks

abbrev pub joined : List (List ℕ) → List ℕ
joined [] = []
joined (block ∷ blocks) = block ++ joined blocks

-- what is seen of a block that was worked on: the output at the front of one buffer, what is held at the front of the other
abbrev pub kept_seen : Kept → List ℕ → List ℕ → Fed
kept_seen o out buffer = record { output = take o.filled out; after = o.after; held = take o.held buffer }

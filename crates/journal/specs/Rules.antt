-- Rules of the log that are proved of its definitions. Above each stands where.
use Rattle.std.specs.Prelude.{ℕ, ◌≡◌, List, []}
use Rattle.card.specs.declared.records.Record.{Record}
use Rattle.card.specs.Records.{empty_record}
use Rattle.session.specs.Sessions.{run}
use Rattle.session.specs.Sources.{Alike}
use Rattle.journal.specs.Journal.{lines_yield, calls_in}
use Rattle.journal.specs.Blocks.{log_of, blocks_yield, joined}

-- However the input is cut into blocks, what is written is what the whole log yields. (Of a line that is too long not all is kept between two blocks, but it is unreadable either way.) `cut_anywhere`, in proofs/Cuts.antt
abbrev pub CutAnywhere : Type 0
CutAnywhere = (blocks : List (List ℕ)) → blocks_yield empty_record [] blocks ≡ log_of (joined blocks)

-- A log is a session: its readable lines, as the calls that they make. So what is proved of every session holds of every log. `is_session`, in proofs/Cuts.antt
abbrev pub LogIsSession : Type 0
LogIsSession = (r : Record) (lines : List (List ℕ)) → (lines_yield r lines).after ≡ run r (calls_in lines)

-- "LSOLW and SOLW keep to the commanded figure" (document 02, Req 08): what a log yields does not hang on the sources and inputs of the sound record that it starts from. `log_unseen`, in proofs/Unseen.antt
abbrev pub LogUnseen : Type 0
LogUnseen = (r r' : Record) (lines : List (List ℕ)) → Alike r r' → (lines_yield r lines).output ≡ (lines_yield r' lines).output

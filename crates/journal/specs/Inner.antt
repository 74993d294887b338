-- What the functions on the way come to. Everything here restates Lines, Journal or Blocks for such a function, and is proved equal to it; no promise of `feed` cites it.
use Rattle.std.specs.Prelude.{ℕ, ◌*◌, ◌≤◌, ◌≡◌, Bool, false, not, Option, Some, None, Err, List, [], ◌∷◌, length, get_or, take, drop, leb, eqb}
use Rattle.zone.specs.declared.figures.Figures.{Figures}
use Rattle.zone.specs.declared.zones.Zone.{Zone}
use Rattle.card.specs.declared.answers.Refusal.{Refusal}
use Rattle.card.specs.declared.answers.Refusal.TheVariants as refusal
use Rattle.card.specs.declared.records.Record.{Record}
use Rattle.card.specs.Refusals.{◌gives◌}
use Rattle.card.specs.Records.{find_of}
use Rattle.card.specs.Calls.{Judgement, add_at, remove_at, report_at}
use Rattle.card.specs.Inner.{ask_at, Asked}
use Rattle.wire.specs.Road.{Numbers, are, none}
use Rattle.line.specs.Line.{line_read}
use Rattle.frame.specs.declared.reading.Framed.{Framed}
use Rattle.frame.specs.declared.reading.Framed.TheVariants.{NoFrame, BadSum, Request}
use Rattle.frame.specs.Frame.{frame_read}
use Rattle.roads.specs.Acknowledgements.{text_reply, frame_reply}
use Rattle.roads.specs.Calls.{is_nowhere, zone_found}
use Rattle.roads.specs.Inner.{asked_by, one_of_sixteen, unless, missing, asked_of}
use Rattle.journal.specs.declared.asking.Entry.{Entry}
use Rattle.journal.specs.declared.asking.Entry.TheVariants.{Add, Remove, Report, Text, Frame, Unreadable}
use Rattle.journal.specs.declared.blocks.Done.{Done}
use Rattle.texts.specs.Numbers.{in_hex}
use Rattle.texts.specs.Texts.{tab, ended, begun}
use Rattle.journal.specs.Lines.{Asks, adds, removes, reports, says, frames, unreadable, N, X, M, T, F, E}
use Rattle.journal.specs.Journal.{output_line, lines_yield}

-- ---- reading

-- three decimals, if all three are there
abbrev pub triple_of : Numbers → Option (ℕ × ℕ × ℕ)
triple_of none = None
triple_of (are ns) = Some (get_or ns 0 0, get_or ns 1 0, get_or ns 2 0)

-- a tab stands in front
abbrev pub tabbed : List ℕ → Bool
tabbed [] = false
tabbed (x ∷ l) = eqb x tab

-- what is asked, a line or a frame being read already, if anything can be read
abbrev pub entry_in : Asks → Option Entry
entry_in (adds zone address range) = Some (Add zone address range)
entry_in (removes zone) = Some (Remove zone)
entry_in (reports zone state actual) = Some (Report zone state actual)
entry_in (says zone line) = Some (Text zone (line_read line))
entry_in (frames bytes) = Some (Frame (frame_read bytes))
entry_in unreadable = None

-- the same, with an entry for what cannot
abbrev pub entry_of : Asks → Entry
entry_of (adds zone address range) = Add zone address range
entry_of (removes zone) = Remove zone
entry_of (reports zone state actual) = Report zone state actual
entry_of (says zone line) = Text zone (line_read line)
entry_of (frames bytes) = Frame (frame_read bytes)
entry_of unreadable = Unreadable

-- ---- judging

-- the address that is to be looked up, if one is
abbrev pub frame_sought : Framed → Option ℕ
frame_sought NoFrame = None
frame_sought (BadSum address) = Some address
frame_sought (Request address parsed) = Some address

abbrev pub sought_of : Entry → Option ℕ
sought_of (Add zone address range) = Some address
sought_of (Remove zone) = None
sought_of (Report zone state actual) = None
sought_of (Text zone parsed) = None
sought_of (Frame framed) = frame_sought framed
sought_of Unreadable = None

-- who holds the address, where one is to be looked up
abbrev pub look_up : Record → Option ℕ → Option ℕ
look_up r None = None
look_up r (Some address) = find_of r address

-- the zone that is looked at
abbrev pub place_of : Entry → Option ℕ → ℕ
place_of (Add zone address range) found = one_of_sixteen zone
place_of (Remove zone) found = one_of_sixteen zone
place_of (Report zone state actual) found = one_of_sixteen zone
place_of (Text zone parsed) found = one_of_sixteen zone
place_of (Frame framed) found = one_of_sixteen (zone_found found)
place_of Unreadable found = 15

-- what a frame brings to the zone that holds its address
abbrev pub asked_of_holder : Option ℕ → Asked → Asked
asked_of_holder (Some n) asked = asked
asked_of_holder None asked = Err refusal.NobodyHolds

abbrev pub asked_framed : Framed → Option ℕ → Asked
asked_framed NoFrame found = Err refusal.NoFrame
asked_framed (BadSum address) found = asked_of_holder found (Err refusal.Checksum)
asked_framed (Request address parsed) found = asked_of_holder found (asked_by parsed)

-- what an entry comes to at the zone that is looked at; `fit` says that the record is sound
abbrev pub entry_judged : Bool → Entry → Option ℕ → Zone → Judgement
entry_judged fit (Add n address range) found z = unless ((not fit gives 2) ∷ (leb 16 n gives 3) ∷ []) (add_at z address range (not (is_nowhere found)))
entry_judged fit (Remove n) found z = unless ((not fit gives 2) ∷ (missing z n gives 3) ∷ []) (remove_at z)
entry_judged fit (Report n state actual) found z = unless ((not fit gives 2) ∷ (missing z n gives 3) ∷ []) (report_at z state actual)
entry_judged fit (Text n parsed) found z = unless ((not fit gives 2) ∷ []) (ask_at z (asked_of z n parsed))
entry_judged fit (Frame framed) found z = unless ((not fit gives 2) ∷ []) (ask_at z (asked_framed framed found))
entry_judged fit Unreadable found z = ask_at z (Err refusal.Unreadable)

-- how an entry is refused where the record is not sound
abbrev pub unfit_of : Entry → Refusal
unfit_of (Add zone address range) = refusal.NotSound
unfit_of (Remove zone) = refusal.NotSound
unfit_of (Report zone state actual) = refusal.NotSound
unfit_of (Text zone parsed) = refusal.NotSound
unfit_of (Frame framed) = refusal.NotSound
unfit_of Unreadable = refusal.Unreadable

-- ---- writing

abbrev pub letter_of : Entry → ℕ
letter_of (Add zone address range) = N
letter_of (Remove zone) = X
letter_of (Report zone state actual) = M
letter_of (Text zone parsed) = T
letter_of (Frame framed) = F
letter_of Unreadable = E

abbrev pub frame_replied : Framed → ℕ → List Figures → List ℕ
frame_replied NoFrame number values = []
frame_replied (BadSum address) number values = in_hex (frame_reply address number values)
frame_replied (Request address parsed) number values = in_hex (frame_reply address number values)

abbrev pub reply_of : Entry → ℕ → List Figures → List ℕ
reply_of (Add zone address range) number values = []
reply_of (Remove zone) number values = []
reply_of (Report zone state actual) number values = []
reply_of (Text zone parsed) number values = text_reply number values
reply_of (Frame framed) number values = frame_replied framed number values
reply_of Unreadable number values = []

unfoldable pub output_of : Entry → ℕ → List Figures → List ℕ
output_of entry number values = output_line (letter_of entry) number (reply_of entry number values)

-- ---- blocks

-- the ended lines of a block were answered: the output, the record, and where the line under way begins
pub record Worked (given : Record) (block out : List ℕ) (o : Done) : Type 0 where
  pub output : take o.filled out ≡ (lines_yield given (ended block)).output
  pub after : o.after ≡ (lines_yield given (ended block)).after
  pub rest : drop o.taken block ≡ begun block
  pub taken_fits : o.taken ≤ length block
  pub filled_fits : o.filled ≤ 8 * length block

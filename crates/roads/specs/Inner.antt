-- What the functions below the calls come to. No rule of document 01 stands here: the promises of the calls do not cite it.
use Rattle.std.specs.Prelude.{ℕ, Bool, cond, not, ◌||◌, Option, Some, None, Ok, Err, List, [], ◌∷◌, leb, ltb, eqb}
use Rattle.zone.specs.declared.zones.Zone.{Zone}
use Rattle.card.specs.declared.answers.Refusal.{Refusal}
use Rattle.card.specs.declared.answers.Refusal.TheVariants as refusal
use Rattle.card.specs.declared.answers.Answer.TheVariants as answer
use Rattle.card.specs.declared.records.Record.{Record}
use Rattle.card.specs.Refusals.{Row}
use Rattle.card.specs.Records.{sound, find_of}
use Rattle.card.specs.Calls.{Judgement}
use Rattle.card.specs.Inner.{ask_of, Asked}
use Rattle.line.specs.declared.reading.Reading.{Reading}
use Rattle.line.specs.Places.{told, out_in}
use Rattle.roads.specs.declared.calls.Replied.{Replied}
use Rattle.roads.specs.Calls.{Answered, replied_seen, in_frame_reply}
use Rattle.wire.specs.declared.Misread.TheVariants.{Syntax, Unknown}
use Rattle.wire.specs.Road.{Parsed}

-- what a line or a body brings to a zone: the command, or 7 or 8
abbrev pub asked_by : Parsed → Asked
asked_by (Ok command) = Ok command
asked_by (Err Unknown) = Err refusal.Unknown
asked_by (Err Syntax) = Err refusal.Syntax

-- ---- a line judged at its zone alone, where soundness has been tested for many

-- the zone that is looked at: zone n or, where n is none, the last, which then stays as it is
abbrev pub one_of_sixteen : ℕ → ℕ
one_of_sixteen n = cond (ltb n 16) n 15

-- a judgement behind further refusals
abbrev pub unless : List Row → Judgement → Judgement
unless [] j = j
unless (row ∷ rows) j = record { rows = row ∷ (unless rows j).rows; values = (unless rows j).values; after = (unless rows j).after }

abbrev pub missing : Zone → ℕ → Bool
missing z n = leb 16 n || not z.present

-- what a line to zone n brings to the zone that is looked at
abbrev pub asked_of : Zone → ℕ → Parsed → Asked
asked_of z n parsed = cond (missing z n) (Err refusal.NoZone) (asked_by parsed)

-- ---- on the way of the calls

-- the place of a line that was read
abbrev pub place_found : ℕ → Reading → ℕ → ℕ
place_found number reading range = cond (eqb number 8) reading.place (cond (eqb number 9) (told (out_in range reading.parsed)) 0)

-- a refusal without a reply: 2 where the record is not sound, else the one given
abbrev pub silent_of : Record → Refusal → Replied
silent_of r why = cond (sound r)
    (record { answer = answer.Refused why; length = 0; place = 0; after = r })
    (record { answer = answer.Refused refusal.NotSound; length = 0; place = 0; after = r })

-- what a frame brings, by who was found to hold its address
abbrev pub by_holder : Record → ℕ → Asked → List ℕ → Option ℕ → Answered
by_holder r address what room None = replied_seen (silent_of r refusal.NobodyHolds) room
by_holder r address what room (Some n) = in_frame_reply address (ask_of r n what) room

unfoldable pub frame_at : Record → ℕ → Asked → List ℕ → Answered
frame_at r address what room = by_holder r address what room (find_of r address)

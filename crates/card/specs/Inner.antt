-- What the functions below the calls come to. No rule of document 01 or 02 stands here, and no promise of a call that they name cites it; `ask`, which the roads call, is promised by ask_of below.
-- So is `range_at`, by range_at.
use Rattle.std.specs.Prelude.{ℕ, Bool, true, false, cond, not, [], ◌∷◌, leb, Ok, Err}
use Rattle.std.specs.Prelude as std
use Rattle.zone.specs.declared.zones.Zone.{Zone}
use Rattle.zone.specs.Zones.{new_zone, empty_zone, with_status, with_figures, with_origin, with_kilograms}
use Rattle.zone.specs.declared.figures.Command.{Command}
use Rattle.card.specs.declared.answers.Refusal.{Refusal}
use Rattle.card.specs.declared.answers.Refusal.TheVariants.{NotSound, NoZone}
use Rattle.card.specs.declared.answers.Answer.{Answer}
use Rattle.card.specs.declared.answers.Answer.TheVariants as answer
use Rattle.card.specs.declared.judgements.Verdict.{Verdict}
use Rattle.card.specs.declared.judgements.Verdict.TheVariants.{Refuses, Tells, Writes, Reports, Adds, Removes, Chooses, Rebooks}
use Rattle.card.specs.declared.records.Record.{Record}
use Rattle.card.specs.Answers.{Result, refusal_number, number_of, values_of}
use Rattle.card.specs.Refusals.{◌gives◌, settled}
use Rattle.card.specs.Records.{zone_at, with_zone, sound, no_zone}
use Rattle.card.specs.Calls.{Judgement, at_zone, command_at}

-- the temperature range of zone n; 0 above 15
abbrev pub range_at : Record → ℕ → ℕ
range_at r n = cond (leb 16 n) 0 (zone_at r n).range

-- the zone that a call is to work on, or the refusal that the call ends with
abbrev pub Reached : Type 0
Reached = std.Result Zone Refusal

unfoldable pub reach_of : Record → ℕ → Reached
reach_of r n = cond (not (sound r)) (Err NotSound) (cond (no_zone r n) (Err NoZone) (Ok (zone_at r n)))

-- ---- what a zone decides

abbrev pub answer_by : Verdict → Answer
answer_by (Refuses why) = answer.Refused why
answer_by (Tells figures) = answer.Told figures
answer_by (Writes figures) = answer.Done
answer_by (Reports status) = answer.Done
answer_by (Adds address range) = answer.Done
answer_by Removes = answer.Done
answer_by (Chooses origin) = answer.Done
answer_by (Rebooks kilograms) = answer.Done

abbrev pub alters_by : Verdict → Bool
alters_by (Refuses why) = false
alters_by (Tells figures) = false
alters_by (Writes figures) = true
alters_by (Reports status) = true
alters_by (Adds address range) = true
alters_by Removes = true
alters_by (Chooses origin) = true
alters_by (Rebooks kilograms) = true

abbrev pub after_by : Verdict → Zone → Zone
after_by (Refuses why) z = z
after_by (Tells figures) z = z
after_by (Writes figures) z = with_figures z figures
after_by (Reports status) z = with_status z status
after_by (Adds address range) z = new_zone address range
after_by Removes z = empty_zone
after_by (Chooses origin) z = with_origin z origin
after_by (Rebooks kilograms) z = with_kilograms z kilograms

-- what is seen of it: number, values, and the zone afterwards
abbrev pub verdict_seen : Zone → Verdict → Result Zone
verdict_seen z v = record { number = number_of (answer_by v); values = values_of (answer_by v); after = after_by v z }

-- a zone's decision
abbrev pub judged : Zone → Judgement → Result Zone
judged z j = settled z j.rows j.values j.after

-- the decision, with the zone stored in the record
abbrev pub stored : Record → ℕ → Result Zone → Result Record
stored r n decided = record { number = decided.number; values = decided.values; after = with_zone r n decided.after }

-- a command that came by a road, or the refusal that its bytes met with before it reached the zone
abbrev pub Asked : Type 0
Asked = std.Result Command Refusal

abbrev pub ask_at : Zone → Asked → Judgement
ask_at z (Ok command) = command_at z command
ask_at z (Err why) = record { rows = (true gives refusal_number why) ∷ []; values = []; after = z }

unfoldable pub ask_of : Record → ℕ → Asked → Result Record
ask_of r n asked = at_zone r n (ask_at (zone_at r n) asked)

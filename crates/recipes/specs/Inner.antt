-- What the functions on the way come to: lines as they are cut and tried, without a room, and the replies as they are put at the end. It is proved that this comes to what Recipes says; no promise of `load` cites it.
use Rattle.std.specs.Prelude.{ℕ, suc, ◌-◌, ◌≡◌, Bool, false, cond, ◌||◌, List, [], ◌∷◌, ◌++◌, map, length, take, drop, replicate, ltb}
use Rattle.zone.specs.declared.figures.Figures.{Figures}
use Rattle.zone.specs.Lists.{is_zero, some}
use Rattle.card.specs.declared.answers.Answer.{Answer}
use Rattle.card.specs.declared.answers.Refusal.{Refusal}
use Rattle.card.specs.declared.records.Record.{Record}
use Rattle.card.specs.Answers.{Result, refusal_number, number_of, values_of}
use Rattle.card.specs.Records.{zone_at}
use Rattle.wire.specs.Room.{filled}
use Rattle.line.specs.declared.reading.Reading.{Reading}
use Rattle.line.specs.Line.{line_read}
use Rattle.line.specs.Places as places
use Rattle.roads.specs.Acknowledgements.{text_reply}
use Rattle.roads.specs.Calls.{said, result_at, port_rows, place_by}
use Rattle.recipes.specs.declared.lines.Cut.{Cut}
use Rattle.recipes.specs.declared.loading.Stopped.{Stopped}
use Rattle.recipes.specs.Recipes.{lacks, Sending, sendings, Loading, refused_with}

-- ---- one line

-- a line as it was cut out of the recipe
abbrev pub cut_seen : Cut → Sending
cut_seen cut = record { zone = cut.zone; command = cut.command.now }

-- what a command is read as
abbrev pub reading_of : List ℕ → Reading
reading_of command = record { parsed = line_read command; place = places.told (places.wrong_in command) }

-- what it comes to at its zone, where room and record are right
abbrev pub port_result : Record → Sending → Result Record
port_result r line = result_at r line.zone (port_rows r line.zone line.command) (line_read line.command)

abbrev pub port_place : Record → Sending → ℕ
port_place r line = place_by (port_result r line).number (zone_at r line.zone).range line.command

-- ---- the lines of a recipe

-- too many, or one without its zone and tab
abbrev pub ill_formed : List (List ℕ) → Bool
ill_formed lines = ltb 64 (length lines) || some lacks lines

-- each stands among the 64, in turn
pub record CutOut (lines : List (List ℕ)) (cuts : List Cut) : Type 0 where
  pub formed : ill_formed lines ≡ false
  pub places : length cuts ≡ 64
  pub cut : map cut_seen (take (length lines) cuts) ≡ sendings lines

-- ---- the lines in turn

-- number and values of the lines that were done, and what came of the first that was not
pub record Trying : Type 0 where
  pub number : ℕ
  pub line : ℕ
  pub place : ℕ
  pub done : List (ℕ × List Figures)
  pub after : Record

-- with what was told before
abbrev pub behind : List (ℕ × List Figures) → Trying → Trying
behind before t = record { number = t.number; line = t.line; place = t.place; done = before ++ t.done; after = t.after }

-- k lines were done before
unfoldable pub try_from : ℕ → Record → List Sending → Trying
try_from k r [] = record { number = 0; line = 0; place = 0; done = []; after = r }
try_from k r (line ∷ lines) =
    let o = port_result r line in
    cond (is_zero o.number) (behind ((o.number, o.values) ∷ []) (try_from (suc k) o.after lines))
    (record { number = o.number; line = suc k; place = port_place r line; done = []; after = r })

abbrev pub told : Answer → ℕ × List Figures
told answer = (number_of answer, values_of answer)

-- all lines were done
abbrev pub all_done : List (ℕ × List Figures) → Record → Trying
all_done done r = record { number = 0; line = 0; place = 0; done = done; after = r }

-- one was refused, behind those that were done, which left that record
pub record StopsAs (t : Trying) (s : Stopped) (before : List (ℕ × List Figures)) (r : Record) : Type 0 where
  pub number : t.number ≡ refusal_number s.why
  pub line : t.line ≡ s.line
  pub place : t.place ≡ s.place
  pub done : t.done ≡ before
  pub after : t.after ≡ r

-- a refusal before any line is tried
abbrev pub at_once : Refusal → Stopped
at_once why = record { why = why; line = 0; place = 0 }

-- ---- what the call comes to

-- with these lengths, and with the record and the room as they then are
abbrev pub stored_as : List ℕ → Record → List ℕ → Loading
stored_as lengths r room = record { answered = record { said = said 0 [] [] room; after = r }; line = 0; place = 0; lengths = lengths }

-- with the record and the room as they were
abbrev pub refused_as : Stopped → Record → List ℕ → Loading
refused_as s r room = refused_with r room (refusal_number s.why) s.line s.place

-- ---- the replies

abbrev pub reply_of : ℕ × List Figures → List ℕ
reply_of one = text_reply one.0 one.1

abbrev pub replies_in : List (ℕ × List Figures) → List ℕ → List ℕ
replies_in [] room = room
replies_in (one ∷ more) room = filled (reply_of one) (take 32 room) ++ replies_in more (drop 32 room)

abbrev pub lengths_of : List (ℕ × List Figures) → List ℕ
lengths_of all = map (λ one. length (reply_of one)) all ++ replicate (64 - length all) 0

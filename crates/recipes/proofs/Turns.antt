-- One turn of the loop that tries the lines: what a line comes to at its zone, and what is still to come of the others. Assumes nothing.
use Prim.Native.Nat.{ℕ, suc, ◌+◌, ◌<◌, ◌≤◌}
use mathlib.Core.Path.{◌≡◌, refl, sym, ap, ◌∙◌}
use mathlib.Core.Bool.{true}
use mathlib.Core.List.{List, [], ◌∷◌, ◌++◌, map, map-append, append-nil, append_assoc}
use native.Mathlib.Omega.{arith}
use native.Mathlib.Numerals.{add-one}
use lib.ListN.{length, take, drop, set, get_or, replicate, length-map, drop_of_length-le, get_or-map}
use lib.Seq.{take-suc-set, drop-cons}
use lib.Dec.{leb}
use borrow.Author.Tests.{ne_eqb}
use Rattle.zone.specs.declared.figures.Figures.{Figures}
use Rattle.card.specs.declared.answers.Answer.{Answer}
use Rattle.card.specs.declared.answers.Refusal.{Refusal}
use Rattle.card.specs.declared.answers.Refusal.TheVariants.{NoRoom, NotSound, NoZone, NoFrame, NobodyHolds, Checksum, Unknown, Syntax, OutOfRange, Locked, AddressHeld, AlreadyPresent, Unreadable, NoRecipe, StillBooked, BadAmount, SameZone}
use Rattle.card.specs.declared.judgements.Verdict.{Verdict}
use Rattle.card.specs.declared.judgements.Verdict.TheVariants.{Refuses, Tells, Writes, Reports, Adds, Removes, Chooses, Rebooks}
use Rattle.card.specs.declared.records.Record.{Record}
use Rattle.card.specs.Answers.{Result, refusal_number, number_of, values_of}
use Rattle.card.specs.Records.{zone_at, with_zone, sound}
use Rattle.card.specs.Inner.{answer_by, after_by, verdict_seen, judged, ask_at, Asked}
use Rattle.line.specs.declared.reading.Reading.{Reading}
use Rattle.roads.specs.Inner.{one_of_sixteen, asked_of, place_found}
use Rattle.roads.proofs.Judged.{by_number, line_judged}
use Rattle.recipes.specs.declared.lines.Cut.{Cut}
use Rattle.recipes.specs.Recipes.{Sending}
use Rattle.recipes.specs.Inner.{cut_seen, reading_of, port_result, port_place, behind, try_from, told}
use Rattle.recipes.proofs.Sent.{port_text, port_stays, tried, try_next}

-- ---- one line

-- what was judged at the zone that is looked at is what the line comes to
pub came : (r : Record) (line : Sending) (reading : Reading) (n : ℕ) (asked : Asked) (v : Verdict) → sound r ≡ true
    → reading ≡ reading_of line.command → n ≡ one_of_sixteen line.zone → asked ≡ asked_of (zone_at r n) line.zone reading.parsed
    → verdict_seen (zone_at r n) v ≡ judged (zone_at r n) (ask_at (zone_at r n) asked)
    → port_result r line ≡ record { number = number_of (answer_by v); values = values_of (answer_by v); after = with_zone r n (after_by v (zone_at r n)) }
came r line reading n asked v s e p q j =
    let lent : List ℕ = replicate 32 0 in
    rw p (sym (port_text r line lent s (omega arith)) ∙ line_judged r line.zone line.command lent v s (omega arith) (rw (q, e, p) at j))

-- a number that names no zone is refused with 3
port_none : (r : Record) (line : Sending) → leb 16 line.zone ≡ true → (port_result r line).number ≡ 3
port_none r line h = rw h

-- the place that was told is that of the line
pub placed : (r : Record) (line : Sending) (reading : Reading) (n number place : ℕ) → reading ≡ reading_of line.command → n ≡ one_of_sixteen line.zone → (port_result r line).number ≡ number
    → place ≡ place_found number reading (zone_at r n).range → place ≡ port_place r line
placed r line reading n number place e p k q =
    by_number line.zone (place ≡ port_place r line)
    (λ b l same. q ∙ rw (e, p, same, ← k))
    (λ l last.
    let three : number ≡ 3 = sym k ∙ port_none r line l in
    q ∙ rw (three, port_none r line l))

-- a refusal is not 0
pub refused_above : (why : Refusal) → 0 < refusal_number why
refused_above why =
    elim why as (λ w. 0 < refusal_number w) [
      | NoRoom ↦ omega arith
      | NotSound ↦ omega arith
      | NoZone ↦ omega arith
      | NoFrame ↦ omega arith
      | NobodyHolds ↦ omega arith
      | Checksum ↦ omega arith
      | Unknown ↦ omega arith
      | Syntax ↦ omega arith
      | OutOfRange ↦ omega arith
      | Locked ↦ omega arith
      | AddressHeld ↦ omega arith
      | AlreadyPresent ↦ omega arith
      | Unreadable ↦ omega arith
      | NoRecipe ↦ omega arith
      | StillBooked ↦ omega arith
      | BadAmount ↦ omega arith
      | SameZone ↦ omega arith
    ]

-- a verdict that does not refuse is answered 0
pub answers_zero : (v : Verdict) → ((why : Refusal) → v ≡ Refuses why → ⊥) → number_of (answer_by v) ≡ 0
answers_zero (Refuses why) u = absurd (u why refl)
answers_zero (Tells figures) u = refl
answers_zero (Writes figures) u = refl
answers_zero (Reports status) u = refl
answers_zero (Adds address range) u = refl
answers_zero Removes u = refl
answers_zero (Chooses origin) u = refl
answers_zero (Rebooks kilograms) u = refl

-- ---- the lines before and after a turn

-- what is still to come of all the lines, from a record on, where the first `count` of them were done
pub record Ahead (given : Record) (all : List Sending) (r : Record) (done : List (ℕ × List Figures)) (count : ℕ) : Type 0 where
  pub sound_still : sound r ≡ true
  pub ahead : try_from 0 given all ≡ behind done (try_from count r (drop count all))

pub ahead_all : (given : Record) (all : List Sending) → sound given ≡ true → Ahead given all given [] 0
ahead_all given all s = record { sound_still = s; ahead = refl }

module _ (given : Record) (all : List Sending) (r : Record) (done : List (ℕ × List Figures)) (count : ℕ) (line : Sending) (a : Ahead given all r done count) (e : drop count all ≡ line ∷ drop (suc count) all) where
  next_tried : (o : Result Record) → port_result r line ≡ o → try_from 0 given all ≡ behind done (tried count r o (port_place r line) (try_from (suc count) o.after (drop (suc count) all)))
  next_tried o p = a.ahead ∙ ap (λ (l : List Sending). behind done (try_from count r l)) e ∙ ap (behind done) (try_next count r line (drop (suc count) all) o p)

  -- it is done
  pub ahead_next : (o : Result Record) (done' : List (ℕ × List Figures)) → port_result r line ≡ o → o.number ≡ 0 → done' ≡ done ++ ((o.number, o.values) ∷ []) → Ahead given all o.after done' (count + 1)
  ahead_next o done' p z d =
      let rest = try_from (suc count) o.after (drop (suc count) all) in
      record {
        sound_still = ap (λ (x : Result Record). sound x.after) (sym p) ∙ port_stays r line a.sound_still;
        ahead = next_tried o p ∙ rw (d, z, add-one count) (ap (λ (l : List (ℕ × List Figures)). record { number = rest.number; line = rest.line; place = rest.place; done = l; after = rest.after }) (sym (append_assoc done ((0, o.values) ∷ []) rest.done)));
      }

  -- it is refused
  pub ahead_stop : (o : Result Record) (place : ℕ) → port_result r line ≡ o → (o.number ≡ 0 → ⊥) → place ≡ port_place r line
      → try_from 0 given all ≡ record { number = o.number; line = count + 1; place = place; done = done; after = r }
  ahead_stop o place p u q = next_tried o p ∙ rw (ne_eqb o.number 0 u, add-one count, append-nil done, q)

-- no line is left
pub ahead_over : (given : Record) (all : List Sending) (r : Record) (done : List (ℕ × List Figures)) (count : ℕ) → Ahead given all r done count → length all ≤ count
    → try_from 0 given all ≡ record { number = 0; line = 0; place = 0; done = done; after = r }
unfolding try_from
ahead_over given all r done count a h = a.ahead ∙ rw (drop_of_length-le all h, append-nil done)

-- a line among those that were cut
pub cut_next : (cuts : List Cut) (k : ℕ) (d : Cut) → k < length cuts → drop k (map cut_seen cuts) ≡ cut_seen (get_or cuts k d) ∷ drop (suc k) (map cut_seen cuts)
cut_next cuts k d h =
    drop-cons (map cut_seen cuts) k (cut_seen d) (omega (arith, length-map cuts cut_seen)) ∙ ap (λ (x : Sending). x ∷ drop (suc k) (map cut_seen cuts)) (get_or-map cut_seen cuts k d)

-- one answer more is kept
pub told_more : (answers : List Answer) (k : ℕ) (a : Answer) → k < length answers → map told (take (k + 1) (set answers k a)) ≡ map told (take k answers) ++ (told a ∷ [])
told_more answers k a h = rw (add-one k, take-suc-set answers k a h, map-append told (take k answers) (a ∷ []))

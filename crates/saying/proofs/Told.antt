-- What the text call told is what is written. Assumes nothing.
use Prim.Native.Nat.{ℕ, ◌≤◌}
use mathlib.Core.Path.{◌≡◌, ap, ◌∙◌}
use mathlib.Core.List.{List, ◌++◌}
use native.Mathlib.Omega.{arith}
use lib.ListN.{length, take}
use borrow.Author.Tests.{le-ltb}
use Rattle.card.specs.declared.records.Record.{Record}
use Rattle.card.specs.Answers.{number_of}
use Rattle.card.specs.Records.{zone_at}
use Rattle.roads.specs.declared.calls.Replied.{Replied}
use Rattle.roads.specs.Calls.{Answered, replied_seen, answer_text, text_place}
use Rattle.roads.proofs.Lengths.{text_fits}
use Rattle.roads.proofs.PlaceGiven.{place_below}
use Rattle.saying.specs.Saying.{answer_line, explained, lent, said_by, say_of}

module _ (r : Record) (line : List ℕ) (o : Replied) where
  pub reply_short : (room : List ℕ) → replied_seen o room ≡ answer_text r 0 line lent → o.length ≤ 32
  unfolding answer_text
  reply_short room e = omega (arith, ap (λ (a : Answered). a.said.length) e, text_fits (answer_text r 0 line lent).said.number (answer_text r 0 line lent).said.values)

  pub place_short : o.place ≡ text_place r 0 line lent → length line ≤ 600 → o.place ≤ 600
  place_short h k = omega (arith, h, place_below r 0 line lent)

  -- the reply being the part of the room from its start
  pub written : (room : List ℕ) → replied_seen o room ≡ answer_text r 0 line lent → o.place ≡ text_place r 0 line lent → length line ≤ 600 → (range : ℕ) → range ≡ (zone_at r 0).range
      → record { output = answer_line (number_of o.answer) (take o.length room) o.place ++ explained (number_of o.answer) range line o.place; after = o.after } ≡ say_of r line
  unfolding say_of
  written room e h k range q = rw (q, le-ltb 600 (length line) k) (ap (λ (a : Answered). said_by r line a o.place) e ∙ ap (said_by r line (answer_text r 0 line lent)) h)

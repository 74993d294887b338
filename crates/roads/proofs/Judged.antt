-- What is judged at the one zone that is looked at is what the call comes to on the record. Assumes nothing.
use Rattle.std.specs.Prelude.{Err}
use Prim.Native.Nat.{ℕ, ◌≤◌, ◌<◌}
use mathlib.Core.Path.{◌≡◌, refl, sym, ap, ◌∙◌}
use mathlib.Core.Bool.{Bool, true, false, cond, not}
use mathlib.Core.List.{List, [], ◌∷◌}
use native.Mathlib.Omega.{arith}
use lib.ListN.{length}
use lib.Dec.{leb}
use borrow.Author.Tests.{leb-true, leb-false, lt-ltb, le-ltb}
use Rattle.zone.specs.declared.figures.Figures.{Figures}
use Rattle.zone.specs.declared.zones.Zone.{Zone}
use Rattle.card.specs.declared.answers.Refusal.TheVariants as refusal
use Rattle.card.specs.declared.judgements.Verdict.{Verdict}
use Rattle.card.specs.declared.records.Record.{Record}
use Rattle.card.specs.Answers.{Result, number_of, values_of}
use Rattle.card.specs.Refusals.{Row, ◌gives◌, settled}
use Rattle.card.specs.Records.{zone_at, with_zone, sound}
use Rattle.card.specs.Calls.{Judgement, at_zone}
use Rattle.card.specs.Inner.{answer_by, after_by, verdict_seen, judged, stored, ask_at, ask_of}
use Rattle.card.proofs.Inner.{stored_settled}
use Rattle.line.specs.Line.{line_read}
use Rattle.roads.specs.Calls.{text_result}
use Rattle.roads.specs.Inner.{asked_by, one_of_sixteen, unless, missing, asked_of}
use Rattle.roads.proofs.CallLaws.{asked_text}
use Rattle.wire.specs.Road.{Parsed}

-- by whether the number names a zone: then it is that one
pub by_number : (n : ℕ) (P : Type 0) → (n < 16 → leb 16 n ≡ false → one_of_sixteen n ≡ n → P) → (leb 16 n ≡ true → one_of_sixteen n ≡ 15 → P) → P
by_number n P below above = by_test (leb 16 n) refl
  where
    by_test : (t : Bool) → leb 16 n ≡ t → P
    by_test true e = above e (rw (le-ltb n 16 (leb-true 16 n e)))
    by_test false e = let h : n < 16 = leb-false 16 n e in below h e (rw (lt-ltb n 16 h))

-- one of the sixteen is looked at
pub one_below : (n : ℕ) → one_of_sixteen n < 16
one_below n = by_number n (one_of_sixteen n < 16) (λ h e q. rw q h) (λ e q. rw q (omega arith))

-- the result of a judgement at zone p of the record
abbrev pub at : Record → ℕ → Judgement → Result Record
at r p j = settled r j.rows j.values (with_zone r p j.after)

-- a number above 15: 3, or 2 where the record is not sound, whatever else is asked
pub above : (r : Record) (s : Bool) (rows rows' : List Row) (values values' : List Figures) (after after' : Record)
    → settled r ((not s gives 2) ∷ (true gives 3) ∷ rows) values after ≡ settled r ((not s gives 2) ∷ (true gives 3) ∷ rows') values' after'
above r true rows rows' values values' after after' = refl
above r false rows rows' values values' after after' = refl

-- a call at a present zone, as the line names it
pub zone_at_lem : (r : Record) (n : ℕ) (j : Zone → Judgement)
    → at_zone r n (j (zone_at r n)) ≡ at r (one_of_sixteen n) (unless ((not (sound r) gives 2) ∷ (missing (zone_at r (one_of_sixteen n)) n gives 3) ∷ []) (j (zone_at r (one_of_sixteen n))))
zone_at_lem r n j =
    by_number n _ (λ h e q. rw (e, q))
    (λ e q. rw (e, q) (above r (sound r) (j (zone_at r n)).rows (j (zone_at r 15)).rows (j (zone_at r n)).values (j (zone_at r 15)).values (with_zone r n (j (zone_at r n)).after) (with_zone r 15 (j (zone_at r 15)).after)))

-- the same where the missing zone is a refusal that the line meets with before it reaches the zone
pub text_at : (r : Record) (n : ℕ) (parsed : Parsed)
    → ask_of r n (asked_by parsed) ≡ at r (one_of_sixteen n) (unless ((not (sound r) gives 2) ∷ []) (ask_at (zone_at r (one_of_sixteen n)) (asked_of (zone_at r (one_of_sixteen n)) n parsed)))
unfolding ask_of
text_at r n parsed = zone_at_lem r n (λ z. ask_at z (asked_by parsed)) ∙ by_missing (missing (zone_at r (one_of_sixteen n)) n) (sound r)
  where
    by_missing : (t s : Bool)
        → at r (one_of_sixteen n) (unless ((not s gives 2) ∷ (t gives 3) ∷ []) (ask_at (zone_at r (one_of_sixteen n)) (asked_by parsed)))
        ≡ at r (one_of_sixteen n) (unless ((not s gives 2) ∷ []) (ask_at (zone_at r (one_of_sixteen n)) (cond t (Err refusal.NoZone) (asked_by parsed))))
    by_missing true true = refl
    by_missing true false = refl
    by_missing false true = refl
    by_missing false false = refl

-- ---- one of many lines to a record that was found sound

sound_at : (r : Record) (p : ℕ) (j : Judgement) → sound r ≡ true → at r p (unless ((not (sound r) gives 2) ∷ []) j) ≡ at r p j
sound_at r p j s = rw s

-- a line comes to what is decided at the zone that is looked at, and that zone is stored
pub line_judged : (r : Record) (n : ℕ) (line room : List ℕ) (v : Verdict) → sound r ≡ true → 32 ≤ length room
    → verdict_seen (zone_at r (one_of_sixteen n)) v ≡ judged (zone_at r (one_of_sixteen n)) (ask_at (zone_at r (one_of_sixteen n)) (asked_of (zone_at r (one_of_sixteen n)) n (line_read line)))
    → text_result r n line room ≡ record { number = number_of (answer_by v); values = values_of (answer_by v); after = with_zone r (one_of_sixteen n) (after_by v (zone_at r (one_of_sixteen n))) }
line_judged r n line room v s h e =
    let p = one_of_sixteen n in
    let j = ask_at (zone_at r p) (asked_of (zone_at r p) n (line_read line)) in
    sym (asked_text r n line room h) ∙ text_at r n (line_read line) ∙ sound_at r p j s ∙ sym (stored_settled r p j.rows j.values j.after) ∙ ap (stored r p) (sym e)

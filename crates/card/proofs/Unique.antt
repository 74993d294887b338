-- No second outcome satisfies what a public call promises. The promise is the function's own `ensures`, as the check reads it from the source. Assumes nothing.
use Prim.Native.Nat.{ℕ}
use mathlib.Core.Path.{◌≡◌, refl, sym, ap, ◌∙◌}
use mathlib.Core.Bool.{Bool}
use mathlib.Core.List.{[], ◌∷◌}
use native.Mathlib.Omega.{arith}
use lib.ListN.{get_or}
use Rattle.zone.specs.declared.figures.Command.{Command}
use Rattle.zone.specs.declared.sources.Source.{Source}
use Rattle.card.specs.declared.answers.Refusal.{Refusal}
use Rattle.card.specs.declared.answers.Refusal.TheVariants.{NoRoom, NotSound, NoZone, NoFrame, NobodyHolds, Checksum, Unknown, Syntax, OutOfRange, Locked, AddressHeld, AlreadyPresent, Unreadable, NoRecipe, StillBooked, BadAmount, SameZone}
use Rattle.card.specs.declared.answers.Answer.{Answer}
use Rattle.card.specs.declared.answers.Answer.TheVariants.{Done, Told, Refused}
use Rattle.card.specs.declared.records.Record.{Record}
use Rattle.std.specs.Prelude.{Option}
use Rattle.card.specs.declared.records.Outcome.{Outcome}
use Rattle.card.specs.declared.records.Repaired.{Repaired}
use Rattle.card.specs.Answers.{Result, refusal_number, number_of, values_of, outcome_seen}
use Rattle.card.specs.Calls.{Repair}
use Rattle.card.proofs.records.Record.is_sound.Reads as is_sound
use Rattle.card.proofs.records.Record.find.Reads as find
use Rattle.card.proofs.records.Record.add.Reads as add
use Rattle.card.proofs.records.Record.remove.Reads as remove
use Rattle.card.proofs.records.Record.report.Reads as report
use Rattle.card.proofs.records.Record.apply.Reads as apply
use Rattle.card.proofs.records.Record.choose_source.Reads as choose-source
use Rattle.card.proofs.records.Record.setpoint_in_use.Reads as setpoint-in-use
use Rattle.card.proofs.records.Record.book.Reads as book
use Rattle.card.proofs.records.Record.ship.Reads as ship
use Rattle.card.proofs.records.Record.merge.Reads as merge
use Rattle.card.proofs.records.Record.repair.Reads as repair

-- ---- number and values tell the answer

-- the answer that a number alone names
named : ℕ → Answer
named n =
    get_or
    (Done ∷ Refused NoRoom ∷ Refused NotSound ∷ Refused NoZone ∷ Refused NoFrame ∷ Refused NobodyHolds ∷ Refused Checksum ∷ Refused Unknown ∷ Refused Syntax
    ∷ Refused OutOfRange ∷ Refused Locked ∷ Refused AddressHeld ∷ Refused AlreadyPresent ∷ Refused Unreadable ∷ Refused NoRecipe ∷ Refused StillBooked ∷ Refused BadAmount ∷ Refused SameZone ∷ [])
    n
    Done

named_again : (why : Refusal) → named (refusal_number why) ≡ Refused why
unfolding named
named_again NoRoom = refl
named_again NotSound = refl
named_again NoZone = refl
named_again NoFrame = refl
named_again NobodyHolds = refl
named_again Checksum = refl
named_again Unknown = refl
named_again Syntax = refl
named_again OutOfRange = refl
named_again Locked = refl
named_again AddressHeld = refl
named_again AlreadyPresent = refl
named_again Unreadable = refl
named_again NoRecipe = refl
named_again StillBooked = refl
named_again BadAmount = refl
named_again SameZone = refl

-- two answers with the same number and the same values are one
pub one_answer : (a b : Answer) → number_of a ≡ number_of b → values_of a ≡ values_of b → a ≡ b
unfolding named
one_answer Done Done n v = refl
one_answer Done (Told g) n v = absurd (let z : ◌≡◌ {A = ℕ} 0 1 = cc in omega arith)
one_answer Done (Refused w) n v = ap named n ∙ named_again w
one_answer (Told f) Done n v = absurd (let z : ◌≡◌ {A = ℕ} 0 1 = cc in omega arith)
one_answer (Told f) (Told g) n v = let e : f ≡ g = cc in ap Told e
one_answer (Told f) (Refused w) n v = absurd (let z : ◌≡◌ {A = ℕ} 0 1 = cc in omega arith)
one_answer (Refused u) Done n v = sym (ap named (sym n) ∙ named_again u)
one_answer (Refused u) (Told g) n v = absurd (let z : ◌≡◌ {A = ℕ} 0 1 = cc in omega arith)
one_answer (Refused u) (Refused w) n v = sym (named_again u) ∙ ap named n ∙ named_again w

-- so two outcomes of which the same is seen are one
pub one_outcome : (o o' : Outcome) → outcome_seen o ≡ outcome_seen o' → o ≡ o'
one_outcome o o' e =
    let a = one_answer o.answer o'.answer (ap (λ (x : Result Record). x.number) e) (ap (λ (x : Result Record). x.values) e) in
    let r = ap (λ (x : Result Record). x.after) e in
    λ i. record { answer = a i; after = r i }

-- ---- the public calls

pub add_unique : (r : Record) (n address range : ℕ) (o o' : Outcome)
    → add.Post tt (r, (n, (address, (range, tt)))) o (r, (n, (address, (range, tt)))) → add.Post tt (r, (n, (address, (range, tt)))) o' (r, (n, (address, (range, tt)))) → o ≡ o'
add_unique r n address range o o' p q = one_outcome o o' (p ∙ sym q)

pub remove_unique : (r : Record) (n : ℕ) (o o' : Outcome) → remove.Post tt (r, (n, tt)) o (r, (n, tt)) → remove.Post tt (r, (n, tt)) o' (r, (n, tt)) → o ≡ o'
remove_unique r n o o' p q = one_outcome o o' (p ∙ sym q)

pub report_unique : (r : Record) (n state actual : ℕ) (o o' : Outcome)
    → report.Post tt (r, (n, (state, (actual, tt)))) o (r, (n, (state, (actual, tt)))) → report.Post tt (r, (n, (state, (actual, tt)))) o' (r, (n, (state, (actual, tt)))) → o ≡ o'
report_unique r n state actual o o' p q = one_outcome o o' (p ∙ sym q)

pub apply_unique : (r : Record) (n : ℕ) (command : Command) (o o' : Outcome)
    → apply.Post tt (r, (n, (command, tt))) o (r, (n, (command, tt))) → apply.Post tt (r, (n, (command, tt))) o' (r, (n, (command, tt))) → o ≡ o'
apply_unique r n command o o' p q = one_outcome o o' (p ∙ sym q)

pub choose_source_unique : (r : Record) (n : ℕ) (source : Source) (millivolts : ℕ) (o o' : Outcome)
    → choose-source.Post tt (r, (n, (source, (millivolts, tt)))) o (r, (n, (source, (millivolts, tt))))
    → choose-source.Post tt (r, (n, (source, (millivolts, tt)))) o' (r, (n, (source, (millivolts, tt)))) → o ≡ o'
choose_source_unique r n source millivolts o o' p q = one_outcome o o' (p ∙ sym q)

pub setpoint_in_use_unique : (r : Record) (n : ℕ) (o o' : Outcome) → setpoint-in-use.Post tt (r, (n, tt)) o (r, (n, tt)) → setpoint-in-use.Post tt (r, (n, tt)) o' (r, (n, tt)) → o ≡ o'
setpoint_in_use_unique r n o o' p q = one_outcome o o' (p ∙ sym q)

pub book_unique : (r : Record) (n kg : ℕ) (o o' : Outcome)
    → book.Post tt (r, (n, (kg, tt))) o (r, (n, (kg, tt))) → book.Post tt (r, (n, (kg, tt))) o' (r, (n, (kg, tt))) → o ≡ o'
book_unique r n kg o o' p q = one_outcome o o' (p ∙ sym q)

pub ship_unique : (r : Record) (n kg : ℕ) (o o' : Outcome)
    → ship.Post tt (r, (n, (kg, tt))) o (r, (n, (kg, tt))) → ship.Post tt (r, (n, (kg, tt))) o' (r, (n, (kg, tt))) → o ≡ o'
ship_unique r n kg o o' p q = one_outcome o o' (p ∙ sym q)

pub merge_unique : (r : Record) (a b : ℕ) (o o' : Outcome) → merge.Post tt (r, (a, (b, tt))) o (r, (a, (b, tt))) → merge.Post tt (r, (a, (b, tt))) o' (r, (a, (b, tt))) → o ≡ o'
merge_unique r a b o o' p q = one_outcome o o' (p ∙ sym q)

pub find_unique : (r : Record) (address : ℕ) (f f' : Option ℕ) → find.Post tt (r, (address, tt)) f (r, (address, tt)) → find.Post tt (r, (address, tt)) f' (r, (address, tt)) → f ≡ f'
find_unique r address f f' p q = p ∙ sym q

pub is_sound_unique : (r : Record) (t t' : Bool) → is_sound.Post tt (r, tt) t (r, tt) → is_sound.Post tt (r, tt) t' (r, tt) → t ≡ t'
is_sound_unique r t t' p q = p ∙ sym q

pub repair_unique : (r : Record) (o o' : Repaired) → repair.Post tt (r, tt) o (r, tt) → repair.Post tt (r, tt) o' (r, tt) → o ≡ o'
repair_unique r o o' p q =
    let same = p ∙ sym q in
    let outcome = one_outcome o.outcome o'.outcome (ap (λ (x : Repair). x.result) same) in
    let told = ap (λ (x : Repair). x.told) same in
    λ i. record { outcome = outcome i; told = told i }

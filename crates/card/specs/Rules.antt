-- The rules of documents 01 and 02 as statements about a call's result. Above each stands where it is proved, for every record and all arguments that it names.
use Rattle.std.specs.Prelude.{ℕ, ◌+◌, ◌<◌, ◌≡◌, ◌↔◌, ◌⊎◌, true, false, List, [], ◌∷◌, map, length, get_or, take}
use Rattle.zone.specs.declared.figures.Figures.TheVariants.{AhueWindow}
use Rattle.zone.specs.declared.figures.WindowFigures.{WindowFigures}
use Rattle.zone.specs.Zones.{empty_zone, address_in_range, range_known, holds, opened}
use Rattle.zone.specs.Rules.{SetsFigures, SetsKilograms, Shut}
use Rattle.card.specs.declared.records.Record.{Record}
use Rattle.card.specs.declared.records.OldEnd.{OldEnd}
use Rattle.card.specs.declared.records.OldEnds.{OldEnds}
use Rattle.card.specs.Answers.{Result}
use Rattle.card.specs.Refusals.{Row, ◌gives◌}
use Rattle.card.specs.Records.{empty_record, zone_at, held_in, otherwise_sound, sound}
use Rattle.card.specs.Calls.{add_of, told_as, Repair, repair_of}

-- The empty record is sound, so what is said of sound records holds from it on. `empty_record_sound`, in proofs/Worked.antt
abbrev pub EmptyIsSound : Type 0
EmptyIsSound = sound empty_record ≡ true

-- What a call on r keeps, whatever it answers: all but the zones that it may touch
pub record KeepsBesides (r : Record) (touched : ℕ → Type 0) (o : Result Record) : Type 0 where
  -- "Every refusal hands back the record it was given", and tells nothing
  pub refusal : (o.number ≡ 0 → ⊥) → (o.after ≡ r) × (o.values ≡ [])
  -- "Adding and removing touch no other zone"; every other call at a zone touches that zone alone, and merging its two
  pub others : (m : ℕ) → (touched m → ⊥) → zone_at o.after m ≡ zone_at r m
  -- a sound record stays sound
  pub stays : sound r ≡ true → sound o.after ≡ true

-- of a call on zone n: add_keeps, remove_keeps, report_keeps, apply_keeps, choose_source_keeps, setpoint_in_use_keeps, book_keeps and ship_keeps, in proofs/Kept.antt
abbrev pub Keeps : Record → ℕ → Result Record → Type 0
Keeps r n o = KeepsBesides r (λ m. m ≡ n) o

-- of a merging: merge_keeps, in proofs/Merging.antt
abbrev pub KeepsButTwo : Record → ℕ → ℕ → Result Record → Type 0
KeepsButTwo r a b o = KeepsBesides r (λ m. (m ≡ a) ⊎ (m ≡ b)) o

-- row i of a list; past its end none applies
abbrev pub row_at : List Row → ℕ → Row
row_at rows i = get_or rows i (false gives 0)

-- "Given exactly when".
-- add_exactly, remove_exactly, report_exactly, apply_exactly, choose_source_exactly, setpoint_in_use_exactly, book_exactly, ship_exactly and merge_exactly, in proofs/Kept.antt; repair_exactly, in proofs/Repairs.antt
pub record ExactlyWhen (rows : List Row) (number : ℕ) : Type 0 where
  -- a row's number is given if and only if its test holds and no earlier one does
  pub refused : (i : ℕ) → i < length rows → (number ≡ (row_at rows i).number) ↔ (((row_at rows i).test ≡ true) × ((j : ℕ) → j < i → (row_at rows j).test ≡ false))
  -- the call is done if and only if no test holds
  pub done : (number ≡ 0) ↔ ((j : ℕ) → (row_at rows j).test ≡ false)
  -- no other number is given
  pub only : (number ≡ 0) ⊎ ((i : ℕ) × (i < length rows) × (number ≡ (row_at rows i).number))

-- ---- "the first in the call's order"

-- the numbers of a list of refusals, in its order
abbrev pub numbers_in : List Row → List ℕ
numbers_in rows = map (λ row. row.number) rows

-- "Adding a zone (zone, address, range): 2, 3, 12, 9, 11. Removing: 2, 3. Reporting state and actual value: 2, 3, 9." After removing's 3 comes 15 (document 02, Req 07)
abbrev pub add_order : List ℕ
add_order = 2 ∷ 3 ∷ 12 ∷ 9 ∷ 11 ∷ []

abbrev pub remove_order : List ℕ
remove_order = 2 ∷ 3 ∷ 15 ∷ []

abbrev pub report_order : List ℕ
report_order = 2 ∷ 3 ∷ 9 ∷ []

-- applying a command: that of a line without 1, 7 and 8
abbrev pub apply_order : List ℕ
apply_order = 2 ∷ 3 ∷ 9 ∷ 10 ∷ []

-- document 02, Req 08: "9 for more than 10,000 mV, order 2, 3, 9"; of the setpoint in use its beginning
abbrev pub choose_source_order : List ℕ
choose_source_order = 2 ∷ 3 ∷ 9 ∷ []

abbrev pub setpoint_in_use_order : List ℕ
setpoint_in_use_order = 2 ∷ 3 ∷ []

-- document 02, Req 07: "order 2, 3 (first zone, then second), 17, 16 or 15", of each call the numbers that it may give; a merging has one 3 for both zones: see merge_rows, in Calls.antt
abbrev pub book_order : List ℕ
book_order = 2 ∷ 3 ∷ 16 ∷ []

abbrev pub ship_order : List ℕ
ship_order = 2 ∷ 3 ∷ 16 ∷ []

abbrev pub merge_order : List ℕ
merge_order = 2 ∷ 3 ∷ 17 ∷ 16 ∷ []

-- document 02, Req 06: "Any other unsoundness gives 2"
abbrev pub repair_order : List ℕ
repair_order = 2 ∷ []

-- The refusals stand in the printed order: all of it, or its beginning.
-- add_order_lem, remove_order_lem, report_order_lem, choose_source_order_lem, setpoint_in_use_order_lem, book_order_lem, ship_order_lem, merge_order_lem, apply_order_lem and, of a write, write_order, in proofs/Kept.antt; repair_order_lem, in proofs/Repairs.antt
abbrev pub InOrder : List Row → List ℕ → Type 0
InOrder rows printed = numbers_in rows ≡ take (length rows) printed

-- "Removing empties the zone; its number and address may be used again".
-- remove_frees, in proofs/Sets.antt: of the record after zone n of r was removed; of a merging it is a part of Folds, below
pub record Frees (r : Record) (n : ℕ) (after : Record) : Type 0 where
  pub zone : zone_at after n ≡ empty_zone
  -- no zone holds the address that it had
  pub unheld : held_in after.zones (zone_at r n).address ≡ false
  -- the number, with any address that is free
  pub number : (address range : ℕ) → address_in_range address ≡ true → range_known range ≡ true → held_in after.zones address ≡ false → (add_of after n address range).number ≡ 0
  -- the address, at any zone that is absent, that of old among them
  pub address : (m range : ℕ) → m < 16 → (zone_at after m).present ≡ false → range_known range ≡ true → (add_of after m (zone_at r n).address range).number ≡ 0

-- "Merging zone a into b moves a's whole booking to b and removes a; a's other figures are dropped, b's are kept" (document 02, Req 07).
-- merge_folds, in proofs/Merging.antt: of the record after a done merging of zone a of r into b
pub record Folds (r : Record) (a b : ℕ) (after : Record) : Type 0 where
  -- a is removed: the empty zone, and its number and address may be used again
  pub removed : Frees r a after
  -- b has the kilograms of both, and is otherwise as it was
  pub moved : SetsKilograms (zone_at r b) ((zone_at r b).kilograms + (zone_at r a).kilograms) (zone_at after b)
  -- no other zone is touched
  pub others : (m : ℕ) → (m ≡ a → ⊥) → (m ≡ b → ⊥) → zone_at after m ≡ zone_at r m

-- "the search ends at the first zone that holds it".
-- found_first and found_nowhere, in proofs/Finding.antt: find answers zone n if and only if this holds, and none if and only if no zone holds the address
pub record FirstToHold (r : Record) (address n : ℕ) : Type 0 where
  pub here : holds address (zone_at r n) ≡ true
  pub earlier : (m : ℕ) → m < n → holds address (zone_at r m) ≡ false

-- ---- a repair (document 02, Req 06)

-- what is told
abbrev pub told_in : OldEnds → List OldEnd
told_in told = take told.count told.ends

-- zone n is told, with that end
abbrev pub IsTold : List OldEnd → ℕ → ℕ → Type 0
IsTold [] n end = ⊥
IsTold (t ∷ ts) n end = (t ≡ record { zone = n; end = end }) ⊎ IsTold ts n end

-- the numbers of the told zones rise
abbrev pub Rising : List OldEnd → Type 0
Rising [] = Unit {0}
Rising (t ∷ ts) = ((n end : ℕ) → IsTold ts n end → t.zone < n) × Rising ts

-- what a done repair of r does, zone by zone
pub record Mends (r : Record) (o : Repair) : Type 0 where
  pub done : (o.result.number ≡ 0) × (o.result.values ≡ [])
  -- it "sets the end to begin + 1 in each such zone", whose other figures and groups, status, address and range, source and input, and kilograms stay
  pub ends : (n : ℕ) (window : WindowFigures) → Shut (zone_at r n) window → SetsFigures (zone_at r n) (AhueWindow (opened window)) (zone_at o.result.after n)
  -- "and touches nothing else"
  pub others : (n : ℕ) → ((window : WindowFigures) → Shut (zone_at r n) window → ⊥) → zone_at o.result.after n ≡ zone_at r n
  -- it "tells those zones and their old ends", and no others
  pub told : (n end : ℕ) → IsTold (told_in o.told) n end ↔ ((window : WindowFigures) × Shut (zone_at r n) window × (window.end ≡ end))
  pub rising : Rising (told_in o.told)
  -- what is handed back is sound
  pub sound_after : sound o.result.after ≡ true

-- a record without another fault is mended. `repair_mends`, in proofs/Repairs.antt
abbrev pub RepairMends : Type 0
RepairMends = (r : Record) → otherwise_sound r ≡ true → Mends r (repair_of r)

-- a repair that leaves the record as it is, with that number, and tells nothing
abbrev pub leaves : Record → ℕ → Repair
leaves r number = record { result = record { number = number; values = []; after = r }; told = told_as [] }

-- "Any other unsoundness gives 2". `repair_refused`, in proofs/Repairs.antt
abbrev pub RepairRefused : Type 0
RepairRefused = (r : Record) → otherwise_sound r ≡ false → repair_of r ≡ leaves r 2

-- a sound record comes back as it was. `repair_of_sound`, in proofs/Repairs.antt
abbrev pub RepairOfSound : Type 0
RepairOfSound = (r : Record) → sound r ≡ true → repair_of r ≡ leaves r 0

-- and so does a mended one. `repair_again`, in proofs/Repairs.antt
abbrev pub RepairAgain : Type 0
RepairAgain = (r : Record) → otherwise_sound r ≡ true → repair_of (repair_of r).result.after ≡ leaves (repair_of r).result.after 0

-- a record without such a window is sound exactly where nothing else is wrong with it. `sound_as_before`, in proofs/Repairs.antt
abbrev pub SoundAsBefore : Type 0
SoundAsBefore = (r : Record) → ((n : ℕ) (window : WindowFigures) → Shut (zone_at r n) window → ⊥) → sound r ≡ otherwise_sound r

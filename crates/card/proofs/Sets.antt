-- What each done call sets, and what reading gives afterwards. Assumes nothing.
use Prim.Native.Nat.{ℕ, ◌+◌, ◌-◌, ◌≤◌, ◌<◌}
use mathlib.Core.Path.{◌≡◌, refl, ap, ◌∙◌}
use mathlib.Core.Bool.{Bool, true, false, cond}
use mathlib.Core.List.{List, [], ◌∷◌}
use native.Mathlib.Omega.{arith}
use lib.Dec.{ltb}
use lib.Seq.{get_or-set_same}
use borrow.Author.Tests.{lt-leb, leb-false, ltb-false, eqb-true, not-false}
use Rattle.zone.specs.declared.figures.Group.{Group}
use Rattle.zone.specs.declared.figures.Figures.{Figures}
use Rattle.zone.specs.declared.figures.Command.TheVariants.{Read, Write}
use Rattle.zone.specs.declared.sources.Source.{Source}
use Rattle.zone.specs.declared.zones.Zone.{Zone}
use Rattle.zone.specs.Lists.{is_zero}
use Rattle.zone.specs.Figures.{group_of}
use Rattle.zone.specs.Sources.{setpoint_in_use}
use Rattle.zone.specs.Zones.{new_zone, empty_zone, figures_of, state_numbered, address_in_range, range_known, with_figures, with_kilograms}
use Rattle.zone.specs.Rules.{SetsFigures, SetsStatus, SetsOrigin, SetsKilograms}
use Rattle.zone.proofs.Tests.{neither}
use Rattle.zone.proofs.Sound.{fits, empty_sound}
use Rattle.zone.proofs.Written.{sets_figures, sets_status, sets_origin, sets_kilograms}
use Rattle.card.specs.declared.records.Record.{Record}
use Rattle.card.specs.Answers.{Result}
use Rattle.card.specs.Refusals.{Row, first, settled}
use Rattle.card.specs.Records.{zone_at, with_zone, held_in, sound}
use Rattle.card.specs.Calls.{add_rows, add_of, Judgement, zone_rows, at_zone, remove_at, remove_of, report_at, report_of, telling, command_at, apply_of, choose_source_at, choose_source_of, setpoint_told, setpoint_in_use_at, setpoint_in_use_of, book_at, book_of, ship_at, ship_of}
use Rattle.card.specs.Rules.{Frees}
use Rattle.card.proofs.Inner.{same_zone}
use Rattle.card.proofs.Storing.{sound_parts, zone_sound_lem, stored_new, freed}
use Rattle.card.proofs.Kept.{AtZone, done_at_zone, remove_apart, report_apart, apply_apart, choose_source_apart, book_apart, ship_apart, apply_keeps}
use Rattle.card.proofs.Rows.{exactly}

-- ---- once, for every call

pub stored_there : (r : Record) (n : ℕ) (z : Zone) → sound r ≡ true → n < 16 → zone_at (with_zone r n z) n ≡ z
stored_there r n z s l = let h = (sound_parts r s).sixteen in get_or-set_same r.zones n z empty_zone (omega arith)

-- a done call hands back the record with the zone that it decided on
done_after : (r : Record) (n : ℕ) (rows : List Row) (values : List Figures) (z : Zone) → first rows ≡ 0 → (settled r rows values (with_zone r n z)).after ≡ with_zone r n z
done_after r n rows values z e = rw e

done_zone : (r : Record) (n : ℕ) (j : Judgement) → AtZone r n j → first (zone_rows r n j) ≡ 0 → zone_at (at_zone r n j).after n ≡ j.after
done_zone r n j k e = ap (λ (x : Record). zone_at x n) (done_after r n (zone_rows r n j) j.values j.after e) ∙ stored_there r n j.after k.sound_record k.below

-- ---- where each call is done, its zone is present in a sound record

pub remove_at_zone : (r : Record) (n : ℕ) → (remove_of r n).number ≡ 0 → AtZone r n (remove_at (zone_at r n))
unfolding remove_of
remove_at_zone r n e = done_at_zone r n (remove_at (zone_at r n)) (remove_apart r n) e

pub report_at_zone : (r : Record) (n state actual : ℕ) → (report_of r n state actual).number ≡ 0 → AtZone r n (report_at (zone_at r n) state actual)
unfolding report_of
report_at_zone r n state actual e = done_at_zone r n (report_at (zone_at r n) state actual) (report_apart r n state actual) e

pub write_at_zone : (r : Record) (n : ℕ) (figures : Figures) → (apply_of r n (Write figures)).number ≡ 0 → AtZone r n (command_at (zone_at r n) (Write figures))
unfolding apply_of
write_at_zone r n figures e = done_at_zone r n (command_at (zone_at r n) (Write figures)) (apply_apart r n (Write figures)) e

pub choose_source_at_zone : (r : Record) (n : ℕ) (source : Source) (millivolts : ℕ) → (choose_source_of r n source millivolts).number ≡ 0
    → AtZone r n (choose_source_at (zone_at r n) source millivolts)
unfolding choose_source_of
choose_source_at_zone r n source millivolts e = done_at_zone r n (choose_source_at (zone_at r n) source millivolts) (choose_source_apart r n source millivolts) e

pub book_at_zone : (r : Record) (n kg : ℕ) → (book_of r n kg).number ≡ 0 → AtZone r n (book_at (zone_at r n) kg)
unfolding book_of
book_at_zone r n kg e = done_at_zone r n (book_at (zone_at r n) kg) (book_apart r n kg) e

pub ship_at_zone : (r : Record) (n kg : ℕ) → (ship_of r n kg).number ≡ 0 → AtZone r n (ship_at (zone_at r n) kg)
unfolding ship_of
ship_at_zone r n kg e = done_at_zone r n (ship_at (zone_at r n) kg) (ship_apart r n kg) e

-- ---- what each call sets

pub add_sets : (r : Record) (n address range : ℕ) → (add_of r n address range).number ≡ 0 → zone_at (add_of r n address range).after n ≡ new_zone address range
unfolding add_of
add_sets r n address range e =
    let passed = (exactly (add_rows r n address range) refl).done.0 e in
    ap (λ (x : Record). zone_at x n) (done_after r n (add_rows r n address range) [] (new_zone address range) e)
    ∙ stored_there r n (new_zone address range) (not-false (sound r) (passed 0)) (leb-false 16 n (passed 1))

pub remove_sets : (r : Record) (n : ℕ) → (remove_of r n).number ≡ 0 → zone_at (remove_of r n).after n ≡ empty_zone
unfolding remove_of
remove_sets r n e = done_zone r n (remove_at (zone_at r n)) (remove_at_zone r n e) e

pub report_sets : (r : Record) (n state actual : ℕ) → (report_of r n state actual).number ≡ 0
    → SetsStatus (zone_at r n) (record { state = state_numbered state; actual = actual }) (zone_at (report_of r n state actual).after n)
unfolding report_of
report_sets r n state actual e =
    let j = report_at (zone_at r n) state actual in
    rw (done_zone r n j (report_at_zone r n state actual e) e) (sets_status (zone_at r n) (record { state = state_numbered state; actual = actual }))

pub write_sets : (r : Record) (n : ℕ) (figures : Figures) → (apply_of r n (Write figures)).number ≡ 0 → SetsFigures (zone_at r n) figures (zone_at (apply_of r n (Write figures)).after n)
unfolding apply_of
write_sets r n figures e =
    let j = command_at (zone_at r n) (Write figures) in
    rw (done_zone r n j (write_at_zone r n figures e) e) (sets_figures (zone_at r n) figures)

pub choose_source_sets : (r : Record) (n : ℕ) (source : Source) (millivolts : ℕ) → (choose_source_of r n source millivolts).number ≡ 0
    → SetsOrigin (zone_at r n) (record { source = source; millivolts = millivolts }) (zone_at (choose_source_of r n source millivolts).after n)
unfolding choose_source_of
choose_source_sets r n source millivolts e =
    let j = choose_source_at (zone_at r n) source millivolts in
    rw (done_zone r n j (choose_source_at_zone r n source millivolts e) e) (sets_origin (zone_at r n) (record { source = source; millivolts = millivolts }))

pub book_sets : (r : Record) (n kg : ℕ) → (book_of r n kg).number ≡ 0 → SetsKilograms (zone_at r n) ((zone_at r n).kilograms + kg) (zone_at (book_of r n kg).after n)
unfolding book_of
book_sets r n kg e = rw (done_zone r n (book_at (zone_at r n) kg) (book_at_zone r n kg e) e) (sets_kilograms (zone_at r n) ((zone_at r n).kilograms + kg))

pub ship_sets : (r : Record) (n kg : ℕ) → (ship_of r n kg).number ≡ 0 → SetsKilograms (zone_at r n) ((zone_at r n).kilograms - kg) (zone_at (ship_of r n kg).after n)
unfolding ship_of
ship_sets r n kg e = rw (done_zone r n (ship_at (zone_at r n) kg) (ship_at_zone r n kg e) e) (sets_kilograms (zone_at r n) ((zone_at r n).kilograms - kg))

pub write_after : (r : Record) (n : ℕ) (figures : Figures) → (apply_of r n (Write figures)).number ≡ 0 → (apply_of r n (Write figures)).after ≡ with_zone r n (with_figures (zone_at r n) figures)
unfolding apply_of
write_after r n figures e = done_after r n (zone_rows r n (command_at (zone_at r n) (Write figures))) [] (with_figures (zone_at r n) figures) e

pub book_after : (r : Record) (n kg : ℕ) → (book_of r n kg).number ≡ 0 → (book_of r n kg).after ≡ with_zone r n (with_kilograms (zone_at r n) ((zone_at r n).kilograms + kg))
unfolding book_of
book_after r n kg e = done_after r n (zone_rows r n (book_at (zone_at r n) kg)) [] (book_at (zone_at r n) kg).after e

pub ship_after : (r : Record) (n kg : ℕ) → (ship_of r n kg).number ≡ 0 → (ship_of r n kg).after ≡ with_zone r n (with_kilograms (zone_at r n) ((zone_at r n).kilograms - kg))
unfolding ship_of
ship_after r n kg e = done_after r n (zone_rows r n (ship_at (zone_at r n) kg)) [] (ship_at (zone_at r n) kg).after e

-- what is shipped was held
pub ship_held : (r : Record) (n kg : ℕ) → (ship_of r n kg).number ≡ 0 → kg ≤ (zone_at r n).kilograms
ship_held r n kg e = ltb-false (zone_at r n).kilograms kg (neither (is_zero kg) (ltb (zone_at r n).kilograms kg) ((ship_at_zone r n kg e).own 0)).1

-- what is removed held nothing
pub remove_held : (r : Record) (n : ℕ) → (remove_of r n).number ≡ 0 → (zone_at r n).kilograms ≡ 0
remove_held r n e = eqb-true (zone_at r n).kilograms 0 (not-false (is_zero (zone_at r n).kilograms) ((remove_at_zone r n e).own 0))

-- ---- reading

-- a call that hands back the zone as it was, whatever it answers, hands back the record as it was
nothing_altered : (r : Record) (n : ℕ) (rows : List Row) (values : List Figures) → (settled r rows values (with_zone r n (zone_at r n))).after ≡ r
nothing_altered r n rows values = by_done (is_zero (first rows))
  where
    by_done : (done : Bool) → cond done (with_zone r n (zone_at r n)) r ≡ r
    by_done true = same_zone r n
    by_done false = refl

-- "a read alters nothing"
pub read_alters_nothing : (r : Record) (n : ℕ) (group : Group) → (apply_of r n (Read group)).after ≡ r
unfolding apply_of
read_alters_nothing r n group = nothing_altered r n (zone_rows r n (command_at (zone_at r n) (Read group))) (figures_of (zone_at r n) group ∷ [])

pub setpoint_in_use_alters_nothing : (r : Record) (n : ℕ) → (setpoint_in_use_of r n).after ≡ r
unfolding setpoint_in_use_of
setpoint_in_use_alters_nothing r n = nothing_altered r n (zone_rows r n (setpoint_in_use_at (zone_at r n))) (setpoint_told (setpoint_in_use (zone_at r n)))

-- a zone that only tells, of a sound record: the whole of it
telling_done : (r : Record) (n : ℕ) (values : List Figures) → sound r ≡ true → n < 16 → (zone_at r n).present ≡ true
    → at_zone r n (telling (zone_at r n) values) ≡ record { number = 0; values = values; after = r }
telling_done r n values s l p = rw (s, lt-leb 16 n l, p, same_zone r n)

-- a present zone of a sound record tells its figures
pub read_tells : (r : Record) (n : ℕ) (group : Group) → sound r ≡ true → n < 16 → (zone_at r n).present ≡ true
    → ((apply_of r n (Read group)).number ≡ 0) × ((apply_of r n (Read group)).values ≡ figures_of (zone_at r n) group ∷ [])
unfolding apply_of
read_tells r n group s l p =
    let t = telling_done r n (figures_of (zone_at r n) group ∷ []) s l p in
    (ap (λ (o : Result Record). o.number) t, ap (λ (o : Result Record). o.values) t)

-- and its setpoint in use
pub setpoint_in_use_tells : (r : Record) (n : ℕ) → sound r ≡ true → n < 16 → (zone_at r n).present ≡ true
    → setpoint_in_use_of r n ≡ record { number = 0; values = setpoint_told (setpoint_in_use (zone_at r n)); after = r }
unfolding setpoint_in_use_of
setpoint_in_use_tells r n s l p = telling_done r n (setpoint_told (setpoint_in_use (zone_at r n))) s l p

-- ---- one call after the other

-- a done write, to whatever record, is what a read of its group then tells: so "AHUE is read in the form last written"
pub read_back : (r : Record) (n : ℕ) (figures : Figures) → (apply_of r n (Write figures)).number ≡ 0
    → ((apply_of (apply_of r n (Write figures)).after n (Read (group_of figures))).number ≡ 0)
    × ((apply_of (apply_of r n (Write figures)).after n (Read (group_of figures))).values ≡ figures ∷ [])
read_back r n figures e =
    let k = write_at_zone r n figures e in
    let sets = write_sets r n figures e in
    let told = read_tells (apply_of r n (Write figures)).after n (group_of figures) ((apply_keeps r n (Write figures)).stays k.sound_record) k.below (sets.head.present ∙ k.present) in
    (told.0, rw sets.its_group at told.1)

remove_after : (r : Record) (n : ℕ) → (remove_of r n).number ≡ 0 → (remove_of r n).after ≡ with_zone r n empty_zone
unfolding remove_of
remove_after r n e = done_after r n (zone_rows r n (remove_at (zone_at r n))) [] empty_zone e

add_done : (r : Record) (n address range : ℕ) → sound r ≡ true → n < 16 → (zone_at r n).present ≡ false → address_in_range address ≡ true → range_known range ≡ true → held_in r.zones address ≡ false → (add_of r n address range).number ≡ 0
unfolding add_of
add_done r n address range s l p a k h = rw (s, lt-leb 16 n l, p, a, k, h)

-- what is set free where a present zone of a sound record is emptied
pub emptied_frees : (r : Record) (n : ℕ) → sound r ≡ true → n < 16 → (zone_at r n).present ≡ true → Frees r n (with_zone r n empty_zone)
emptied_frees r n s l p =
    let gone = with_zone r n empty_zone in
    let address = (zone_at r n).address in
    let empty = stored_there r n empty_zone s l in
    let left = stored_new r n empty_zone s empty_sound refl in
    let in_range_lem = (fits (zone_at r n) p (zone_sound_lem r n s)).own.address in
    let free : held_in gone.zones address ≡ false = freed r.zones n (sound_parts r s).addresses p in
    record {
      zone = empty;
      unheld = free;
      number = λ a range i d h. add_done gone n a range left l (ap (λ (z : Zone). z.present) empty) i d h;
      address = λ m range k q d. add_done gone m address range left k q in_range_lem d free;
    }

pub remove_frees : (r : Record) (n : ℕ) → (remove_of r n).number ≡ 0 → Frees r n (remove_of r n).after
remove_frees r n e = let k = remove_at_zone r n e in rw (remove_after r n e) (emptied_frees r n k.sound_record k.below k.present)

-- a removed zone may be added again with the address that it had, and is then the new zone
pub add_again : (r : Record) (n range : ℕ) → (remove_of r n).number ≡ 0 → range_known range ≡ true
    → ((add_of (remove_of r n).after n (zone_at r n).address range).number ≡ 0)
    × (zone_at (add_of (remove_of r n).after n (zone_at r n).address range).after n ≡ new_zone (zone_at r n).address range)
add_again r n range e known =
    let frees = remove_frees r n e in
    let done = frees.address n range (remove_at_zone r n e).below (ap (λ (z : Zone). z.present) frees.zone) known in
    (done, add_sets (remove_of r n).after n (zone_at r n).address range done)

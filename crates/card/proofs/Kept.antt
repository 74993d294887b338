-- What every call keeps, and when it gives each number: proved once, of a list of refusals over what is stored, and cited for each call. Assumes nothing.
use Prim.Native.Nat.{ℕ, suc, ◌+◌, ◌-◌, ◌<◌}
use mathlib.Core.Path.{◌≡◌, refl}
use mathlib.Core.Bool.{Bool, true, false, cond, not, ◌&&◌}
use mathlib.Core.List.{List, [], ◌∷◌}
use native.Mathlib.Omega.{arith}
use lib.Dec.{leb}
use lib.Seq.{get_or-set_other}
use borrow.Author.Tests.{ne_eqb, leb-true, le-leb, leb-false, not-false}
use Rattle.zone.specs.declared.figures.Figures.{Figures}
use Rattle.zone.specs.declared.figures.Command.{Command}
use Rattle.zone.specs.declared.figures.Command.TheVariants.{Read, Write}
use Rattle.zone.specs.declared.sources.Source.{Source}
use Rattle.zone.specs.declared.zones.Zone.{Zone}
use Rattle.zone.specs.Lists.{is_zero}
use Rattle.zone.specs.Figures.{in_range}
use Rattle.zone.specs.Sources.{input_in_range, setpoint_in_use}
use Rattle.zone.specs.Zones.{new_zone, empty_zone, figures_of, state_numbered, address_in_range, range_known, actual_in_range, booking_in_range, with_kilograms}
use Rattle.zone.proofs.Tests.{both, neither}
use Rattle.zone.proofs.Sound.{fits, empty_sound, new_sound, status_sound, origin_sound, kilograms_sound, figures_sound}
use Rattle.zone.proofs.Written.{sets_figures}
use Rattle.card.specs.declared.records.Record.{Record}
use Rattle.card.specs.Refusals.{Row, first, settled}
use Rattle.card.specs.Records.{zone_at, with_zone, sound}
use Rattle.card.specs.Calls.{add_rows, add_of, Judgement, zone_rows, at_zone, remove_at, remove_of, report_at, report_of, command_at, apply_of, choose_source_at, choose_source_of, setpoint_told, setpoint_in_use_at, setpoint_in_use_of, book_at, book_of, ship_at, ship_of, merge_rows, merge_of}
use Rattle.card.specs.Rules.{KeepsBesides, Keeps, ExactlyWhen, row_at, numbers_in, add_order, remove_order, report_order, apply_order, choose_source_order, setpoint_in_use_order, book_order, ship_order, merge_order, InOrder}
use Rattle.card.proofs.Rows.{apart, exactly}
use Rattle.card.proofs.Inner.{same_zone}
use Rattle.card.proofs.Storing.{zone_sound_lem, stored_new, stored_same}

-- ---- once, for every call

pub keeps_besides : (r : Record) (touched : ℕ → Type 0) (rows : List Row) (values : List Figures) (next : Record)
    → ((m : ℕ) → (touched m → ⊥) → zone_at next m ≡ zone_at r m) → (first rows ≡ 0 → sound r ≡ true → sound next ≡ true) → KeepsBesides r touched (settled r rows values next)
keeps_besides r touched rows values next same h = record { refusal = refusal; others = λ m u. others m u (is_zero (first rows)); stays = stays }
  where
    refusal : (first rows ≡ 0 → ⊥) → ((settled r rows values next).after ≡ r) × ((settled r rows values next).values ≡ [])
    refusal u = (rw (ne_eqb (first rows) 0 u), rw (ne_eqb (first rows) 0 u))

    others : (m : ℕ) → (touched m → ⊥) → (done : Bool) → zone_at (cond done next r) m ≡ zone_at r m
    others m u true = same m u
    others m u false = refl

    stays : sound r ≡ true → sound (settled r rows values next).after ≡ true
    stays s = by_number (is_zero (first rows)) refl
      where
        by_number : (done : Bool) → is_zero (first rows) ≡ done → sound (cond done next r) ≡ true
        by_number true e = h (borrow.Author.Tests.eqb-true (first rows) 0 e) s
        by_number false e = s

-- of a call that stores one zone
keeps : (r : Record) (n : ℕ) (rows : List Row) (values : List Figures) (z : Zone)
    → (first rows ≡ 0 → sound r ≡ true → sound (with_zone r n z) ≡ true) → Keeps r n (settled r rows values (with_zone r n z))
keeps r n rows values z h = keeps_besides r (λ m. m ≡ n) rows values (with_zone r n z) (λ m u. get_or-set_other r.zones n m z empty_zone u) h

-- what holds where a call at a zone is not refused
pub record AtZone (r : Record) (n : ℕ) (j : Judgement) : Type 0 where
  pub sound_record : sound r ≡ true
  pub below : n < 16
  pub present : (zone_at r n).present ≡ true
  pub own : (i : ℕ) → (row_at j.rows i).test ≡ false

pub done_at_zone : (r : Record) (n : ℕ) (j : Judgement) → apart (zone_rows r n j) ≡ true → first (zone_rows r n j) ≡ 0 → AtZone r n j
done_at_zone r n j a e =
    let passed = (exactly (zone_rows r n j) a).done.0 e in
    let there = neither (leb 16 n) (not (zone_at r n).present) (passed 1) in
    record {
      sound_record = not-false (sound r) (passed 0);
      below = leb-false 16 n there.0;
      present = not-false (zone_at r n).present there.1;
      own = λ i. passed (suc (suc i));
    }

-- ---- each call's numbers

add_apart : (r : Record) (n address range : ℕ) → apart (add_rows r n address range) ≡ true
add_apart r n address range = refl

pub remove_apart : (r : Record) (n : ℕ) → apart (zone_rows r n (remove_at (zone_at r n))) ≡ true
remove_apart r n = refl

pub report_apart : (r : Record) (n state actual : ℕ) → apart (zone_rows r n (report_at (zone_at r n) state actual)) ≡ true
report_apart r n state actual = refl

pub apply_apart : (r : Record) (n : ℕ) (command : Command) → apart (zone_rows r n (command_at (zone_at r n) command)) ≡ true
apply_apart r n (Read group) = refl
apply_apart r n (Write figures) = refl

pub choose_source_apart : (r : Record) (n : ℕ) (source : Source) (millivolts : ℕ) → apart (zone_rows r n (choose_source_at (zone_at r n) source millivolts)) ≡ true
choose_source_apart r n source millivolts = refl

pub setpoint_in_use_apart : (r : Record) (n : ℕ) → apart (zone_rows r n (setpoint_in_use_at (zone_at r n))) ≡ true
setpoint_in_use_apart r n = refl

pub book_apart : (r : Record) (n kg : ℕ) → apart (zone_rows r n (book_at (zone_at r n) kg)) ≡ true
book_apart r n kg = refl

pub ship_apart : (r : Record) (n kg : ℕ) → apart (zone_rows r n (ship_at (zone_at r n) kg)) ≡ true
ship_apart r n kg = refl

merge_apart : (r : Record) (a b : ℕ) → apart (merge_rows r a b) ≡ true
merge_apart r a b = refl

-- ---- and their order

pub add_order_lem : (r : Record) (n address range : ℕ) → numbers_in (add_rows r n address range) ≡ add_order
add_order_lem r n address range = refl

pub remove_order_lem : (r : Record) (n : ℕ) → numbers_in (zone_rows r n (remove_at (zone_at r n))) ≡ remove_order
remove_order_lem r n = refl

pub report_order_lem : (r : Record) (n state actual : ℕ) → numbers_in (zone_rows r n (report_at (zone_at r n) state actual)) ≡ report_order
report_order_lem r n state actual = refl

pub choose_source_order_lem : (r : Record) (n : ℕ) (source : Source) (millivolts : ℕ) → numbers_in (zone_rows r n (choose_source_at (zone_at r n) source millivolts)) ≡ choose_source_order
choose_source_order_lem r n source millivolts = refl

pub setpoint_in_use_order_lem : (r : Record) (n : ℕ) → numbers_in (zone_rows r n (setpoint_in_use_at (zone_at r n))) ≡ setpoint_in_use_order
setpoint_in_use_order_lem r n = refl

pub book_order_lem : (r : Record) (n kg : ℕ) → numbers_in (zone_rows r n (book_at (zone_at r n) kg)) ≡ book_order
book_order_lem r n kg = refl

pub ship_order_lem : (r : Record) (n kg : ℕ) → numbers_in (zone_rows r n (ship_at (zone_at r n) kg)) ≡ ship_order
ship_order_lem r n kg = refl

pub merge_order_lem : (r : Record) (a b : ℕ) → numbers_in (merge_rows r a b) ≡ merge_order
merge_order_lem r a b = refl

-- a write's is the whole order, a read's its beginning
pub write_order : (r : Record) (n : ℕ) (figures : Figures) → numbers_in (zone_rows r n (command_at (zone_at r n) (Write figures))) ≡ apply_order
write_order r n figures = refl

pub apply_order_lem : (r : Record) (n : ℕ) (command : Command) → InOrder (zone_rows r n (command_at (zone_at r n) command)) apply_order
apply_order_lem r n (Read group) = refl
apply_order_lem r n (Write figures) = write_order r n figures

-- ---- when each is given

pub add_exactly : (r : Record) (n address range : ℕ) → ExactlyWhen (add_rows r n address range) (add_of r n address range).number
unfolding add_of
add_exactly r n address range = exactly (add_rows r n address range) (add_apart r n address range)

pub remove_exactly : (r : Record) (n : ℕ) → ExactlyWhen (zone_rows r n (remove_at (zone_at r n))) (remove_of r n).number
unfolding remove_of
remove_exactly r n = exactly (zone_rows r n (remove_at (zone_at r n))) (remove_apart r n)

pub report_exactly : (r : Record) (n state actual : ℕ) → ExactlyWhen (zone_rows r n (report_at (zone_at r n) state actual)) (report_of r n state actual).number
unfolding report_of
report_exactly r n state actual = exactly (zone_rows r n (report_at (zone_at r n) state actual)) (report_apart r n state actual)

pub apply_exactly : (r : Record) (n : ℕ) (command : Command) → ExactlyWhen (zone_rows r n (command_at (zone_at r n) command)) (apply_of r n command).number
unfolding apply_of
apply_exactly r n command = exactly (zone_rows r n (command_at (zone_at r n) command)) (apply_apart r n command)

pub choose_source_exactly : (r : Record) (n : ℕ) (source : Source) (millivolts : ℕ)
    → ExactlyWhen (zone_rows r n (choose_source_at (zone_at r n) source millivolts)) (choose_source_of r n source millivolts).number
unfolding choose_source_of
choose_source_exactly r n source millivolts = exactly (zone_rows r n (choose_source_at (zone_at r n) source millivolts)) (choose_source_apart r n source millivolts)

pub setpoint_in_use_exactly : (r : Record) (n : ℕ) → ExactlyWhen (zone_rows r n (setpoint_in_use_at (zone_at r n))) (setpoint_in_use_of r n).number
unfolding setpoint_in_use_of
setpoint_in_use_exactly r n = exactly (zone_rows r n (setpoint_in_use_at (zone_at r n))) (setpoint_in_use_apart r n)

pub book_exactly : (r : Record) (n kg : ℕ) → ExactlyWhen (zone_rows r n (book_at (zone_at r n) kg)) (book_of r n kg).number
unfolding book_of
book_exactly r n kg = exactly (zone_rows r n (book_at (zone_at r n) kg)) (book_apart r n kg)

pub ship_exactly : (r : Record) (n kg : ℕ) → ExactlyWhen (zone_rows r n (ship_at (zone_at r n) kg)) (ship_of r n kg).number
unfolding ship_of
ship_exactly r n kg = exactly (zone_rows r n (ship_at (zone_at r n) kg)) (ship_apart r n kg)

pub merge_exactly : (r : Record) (a b : ℕ) → ExactlyWhen (merge_rows r a b) (merge_of r a b).number
unfolding merge_of
merge_exactly r a b = exactly (merge_rows r a b) (merge_apart r a b)

-- ---- what each call keeps

pub add_keeps : (r : Record) (n address range : ℕ) → Keeps r n (add_of r n address range)
unfolding add_of
add_keeps r n address range =
    keeps r n (add_rows r n address range) [] (new_zone address range) (λ e s.
    let passed = (exactly (add_rows r n address range) (add_apart r n address range)).done.0 e in
    let ranges = both (address_in_range address) (range_known range) (not-false (address_in_range address && range_known range) (passed 3)) in
    stored_new r n (new_zone address range) s (new_sound address range ranges.0 ranges.1) (passed 4))

pub remove_keeps : (r : Record) (n : ℕ) → Keeps r n (remove_of r n)
unfolding remove_of
remove_keeps r n = keeps r n (zone_rows r n (remove_at (zone_at r n))) [] empty_zone (λ e s. stored_new r n empty_zone s empty_sound refl)

pub report_keeps : (r : Record) (n state actual : ℕ) → Keeps r n (report_of r n state actual)
unfolding report_of
report_keeps r n state actual =
    let j = report_at (zone_at r n) state actual in
    keeps r n (zone_rows r n j) [] j.after (λ e s.
    let k = done_at_zone r n j (report_apart r n state actual) e in
    let ranges = both (leb state 3) (actual_in_range actual) (not-false (leb state 3 && actual_in_range actual) (k.own 0)) in
    stored_same r n j.after s (status_sound (zone_at r n) (record { state = state_numbered state; actual = actual }) k.present (zone_sound_lem r n s) ranges.1) refl refl)

-- a call that tells and sets nothing
telling_keeps : (r : Record) (n : ℕ) (rows : List Row) (values : List Figures) → Keeps r n (settled r rows values (with_zone r n (zone_at r n)))
telling_keeps r n rows values = keeps r n rows values (zone_at r n) (λ e s. rw (same_zone r n) s)

pub setpoint_in_use_keeps : (r : Record) (n : ℕ) → Keeps r n (setpoint_in_use_of r n)
unfolding setpoint_in_use_of
setpoint_in_use_keeps r n = telling_keeps r n (zone_rows r n (setpoint_in_use_at (zone_at r n))) (setpoint_told (setpoint_in_use (zone_at r n)))

pub choose_source_keeps : (r : Record) (n : ℕ) (source : Source) (millivolts : ℕ) → Keeps r n (choose_source_of r n source millivolts)
unfolding choose_source_of
choose_source_keeps r n source millivolts =
    let j = choose_source_at (zone_at r n) source millivolts in
    keeps r n (zone_rows r n j) [] j.after (λ e s.
    let k = done_at_zone r n j (choose_source_apart r n source millivolts) e in
    stored_same r n j.after s
    (origin_sound (zone_at r n) (record { source = source; millivolts = millivolts }) k.present (zone_sound_lem r n s) (not-false (input_in_range millivolts) (k.own 0)))
    refl
    refl)

-- a call that sets the zone's kilograms to a number that is in range where it is done
holding_keeps : (r : Record) (n : ℕ) (rows : List Row) (kg : ℕ)
    → let j : Judgement = record { rows = rows; values = []; after = with_kilograms (zone_at r n) kg } in
    apart (zone_rows r n j) ≡ true → (sound r ≡ true → AtZone r n j → booking_in_range kg ≡ true) → Keeps r n (at_zone r n j)
holding_keeps r n rows kg a h =
    let j : Judgement = record { rows = rows; values = []; after = with_kilograms (zone_at r n) kg } in
    keeps r n (zone_rows r n j) [] j.after (λ e s.
    let k = done_at_zone r n j a e in
    stored_same r n j.after s (kilograms_sound (zone_at r n) kg k.present (zone_sound_lem r n s) (h s k)) refl refl)

-- what stands on a zone of a sound record is in range
pub held_in_range : (r : Record) (n : ℕ) → sound r ≡ true → (zone_at r n).present ≡ true → booking_in_range (zone_at r n).kilograms ≡ true
held_in_range r n s p = (fits (zone_at r n) p (zone_sound_lem r n s)).own.booking

pub book_keeps : (r : Record) (n kg : ℕ) → Keeps r n (book_of r n kg)
unfolding book_of
book_keeps r n kg =
    let held = (zone_at r n).kilograms in
    holding_keeps r n (book_at (zone_at r n) kg).rows (held + kg) (book_apart r n kg)
    (λ s k. not-false (booking_in_range (held + kg)) (neither (is_zero kg) (not (booking_in_range (held + kg))) (k.own 0)).1)

pub ship_keeps : (r : Record) (n kg : ℕ) → Keeps r n (ship_of r n kg)
unfolding ship_of
ship_keeps r n kg =
    let held = (zone_at r n).kilograms in
    holding_keeps r n (ship_at (zone_at r n) kg).rows (held - kg) (ship_apart r n kg)
    (λ s k. le-leb (held - kg) 1000000 (omega (arith, leb-true held 1000000 (held_in_range r n s k.present))))

pub apply_keeps : (r : Record) (n : ℕ) (command : Command) → Keeps r n (apply_of r n command)
unfolding apply_of
apply_keeps r n (Read group) = telling_keeps r n (zone_rows r n (command_at (zone_at r n) (Read group))) (figures_of (zone_at r n) group ∷ [])
apply_keeps r n (Write figures) =
    let j = command_at (zone_at r n) (Write figures) in
    let sets = sets_figures (zone_at r n) figures in
    keeps r n (zone_rows r n j) [] j.after (λ e s.
    let k = done_at_zone r n j (apply_apart r n (Write figures)) e in
    stored_same r n j.after s
    (figures_sound (zone_at r n) figures k.present (zone_sound_lem r n s) (not-false (in_range (zone_at r n).range figures) (k.own 0)))
    sets.head.present
    sets.head.address)

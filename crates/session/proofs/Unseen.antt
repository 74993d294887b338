-- What is answered to all calls but those of Req 08 does not hang on the sources: two sound records that differ in source and input alone are answered alike, and left so. Assumes nothing.
use Rattle.std.specs.Prelude.{Err, Ok, Option}
use Prim.Native.Nat.{ℕ, ◌+◌}
use mathlib.Core.Path.{◌≡◌, refl, sym, ap, subst, ◌∙◌}
use mathlib.Core.Bool.{Bool, true, false, cond, not, ◌&&◌, ◌||◌}
use mathlib.Core.List.{List, [], ◌∷◌, map, ◌++◌}
use lib.ListN.{set, length-map, get_or-map, take, drop}
use lib.Seq.{ext_get_or, map-set_same}
use lib.Dec.{leb, eqb}
use Rattle.zone.specs.declared.figures.Group.{Group}
use Rattle.zone.specs.declared.figures.Figures.{Figures}
use Rattle.zone.specs.declared.figures.Figures.TheVariants.{AhueDeadline, AhueWindow, HzbgLimit, RrueReference, SolwSetpoint}
use Rattle.zone.specs.declared.figures.Command.{Command}
use Rattle.zone.specs.declared.figures.Command.TheVariants.{Read, Write}
use Rattle.zone.specs.declared.sources.Source.{Source}
use Rattle.zone.specs.declared.zones.Zone.{Zone}
use Rattle.zone.specs.Lists.{is_zero, every}
use Rattle.zone.specs.Sources.{new_origin}
use Rattle.zone.specs.Zones.{empty_zone, holds, figures_of, address_in_range, range_known, booking_in_range, with_figures, with_origin, with_kilograms}
use Rattle.zone.proofs.Tests.{never}
use Rattle.zone.proofs.Written.{same_groups}
use Rattle.card.specs.declared.records.Record.{Record}
use Rattle.card.specs.Answers.{Result}
use Rattle.card.specs.Refusals.{Row, ◌gives◌, first, settled}
use Rattle.card.specs.Records.{zone_at, with_zone, held_in, sound, find_of, no_zone}
use Rattle.card.specs.Calls.{Judgement, zone_rows, at_zone, add_at, add_of, remove_at, remove_of, report_at, report_of, command_at, apply_of, choose_source_at, choose_source_of, book_at, book_of, ship_at, ship_of, together, merge_rows, merged, merge_of, Repair}
use Rattle.card.proofs.Storing.{sound_parts}
use Rattle.card.proofs.Finding.{find_alike}
use Rattle.card.proofs.Mapped.{mapped, mapped_set, held_mapped}
use Rattle.card.proofs.Sets.{setpoint_in_use_alters_nothing}
use Rattle.card.proofs.Repairs.{repair_of_sound}
use Rattle.line.specs.Line.{line_read}
use Rattle.frame.specs.Frame.{address_in, body_in, body_read}
use Rattle.roads.specs.Calls.{Said, Answered, said, parsed_at, text_result, answer_text, text_place, zone_found, holder, result_at, frame_rows, frame_result, answer_frame}
use Rattle.roads.specs.Rules.{JudgesAlike}
use Rattle.roads.proofs.Local.{text_rows_lem, frame_rows_lem, text_local, frame_local}
use Rattle.texts.specs.Texts.{lines_of}
use Rattle.recipes.specs.Recipes.{Sending, sendings, Sent, in_turn, is_done, left_by, room_by, of_refused, refused_with, tried_with, form_rows, load_of}
use Rattle.session.specs.Sessions.{text, frame, compose_line, compose_frame, load, Quiet, add, remove, report, apply, choose_source, setpoint_in_use, book, ship, merge, repair, Call, in_room, quiet, answer_to, after, said_to, result_of, heard_by, SameWithout}
use Rattle.session.specs.Sources.{quiet_of_source, of_source, struck, Alike, SourcesAreUnseen}
use Rattle.session.proofs.Demand3.{stays_sound}
use Rattle.session.proofs.Struck.{may_be_struck, strike_again}
use Rattle.wire.specs.declared.Misread.TheVariants.{Syntax, Unknown}
use Rattle.wire.specs.Road.{Parsed}

-- ---- what does not look at the sources is the same of records that are alike

-- the zone with the source and the input of a new one
abbrev plain : Zone → Zone
plain z = with_origin z new_origin

-- records are alike, zone by zone, where they are one with such zones
zones_alike : (r r' : Record) → mapped plain r ≡ mapped plain r' → (n : ℕ) → plain (zone_at r n) ≡ plain (zone_at r' n)
zones_alike r r' e n = sym (get_or-map plain r.zones n empty_zone) ∙ ap (λ (x : Record). zone_at x n) e ∙ get_or-map plain r'.zones n empty_zone

alike_mapped : (r r' : Record) → Alike r r' → mapped plain r ≡ mapped plain r'
alike_mapped r r' a =
    let long = length-map r.zones plain ∙ (sound_parts r a.sound_one).sixteen ∙ sym (length-map r'.zones plain ∙ (sound_parts r' a.sound_other).sixteen) in
    ap (λ (zs : List Zone). record { zones = zs })
    (ext_get_or empty_zone (map plain r.zones) (map plain r'.zones) long
    (λ n h. get_or-map plain r.zones n empty_zone ∙ a.zones n ∙ sym (get_or-map plain r'.zones n empty_zone)))

module _ {r r' : Record} (a : Alike r r') where
  of_zone : {A : Type 0} (f : Zone → A) → ((z : Zone) → f z ≡ f (plain z)) → (n : ℕ) → f (zone_at r n) ≡ f (zone_at r' n)
  of_zone f blind n = blind (zone_at r n) ∙ ap f (a.zones n) ∙ sym (blind (zone_at r' n))

  of_record : {A : Type 0} (f : Record → A) → ((x : Record) → f (mapped plain x) ≡ f x) → f r ≡ f r'
  of_record f blind = sym (blind r) ∙ ap f (alike_mapped r r' a) ∙ blind r'

  same_sound : sound r ≡ sound r'
  same_sound = a.sound_one ∙ sym a.sound_other

  same_there : (n : ℕ) → no_zone r n ≡ no_zone r' n
  same_there n = of_zone (λ z. leb 16 n || not z.present) (λ z. refl) n

  same_held : (address : ℕ) → held_in r.zones address ≡ held_in r'.zones address
  same_held address = of_record (λ x. held_in x.zones address) (λ x. held_mapped plain (λ z. refl) (λ z. refl) x.zones address)

  same_found : (address : ℕ) → find_of r address ≡ find_of r' address
  same_found address = find_alike r r' address (of_zone (holds address) (λ z. refl))

-- ---- judgements that do not look at the source

record Blind (j : Zone → Judgement) : Type 0 where
  rows : (z : Zone) → (j z).rows ≡ (j (plain z)).rows
  values : (z : Zone) → (j z).values ≡ (j (plain z)).values
  left : (z : Zone) → plain (j z).after ≡ plain (j (plain z)).after

write_blind : (f : Figures) (z : Zone) → plain (with_figures z f) ≡ plain (with_figures (plain z) f)
write_blind (AhueDeadline f) z = refl
write_blind (AhueWindow f) z = refl
write_blind (HzbgLimit f) z = refl
write_blind (RrueReference f) z = refl
write_blind (SolwSetpoint f) z = refl

command_blind : (c : Command) → Blind (λ z. command_at z c)
command_blind (Read g) = record { rows = λ z. refl; values = λ z. ap (λ (f : Figures). f ∷ []) (same_groups (plain z) z refl refl g); left = λ z. refl }
command_blind (Write f) = record { rows = λ z. refl; values = λ z. refl; left = write_blind f }

parsed_blind : (p : Parsed) → Blind (λ z. parsed_at z p)
parsed_blind (Ok c) = command_blind c
parsed_blind (Err Unknown) = record { rows = λ z. refl; values = λ z. refl; left = λ z. refl }
parsed_blind (Err Syntax) = record { rows = λ z. refl; values = λ z. refl; left = λ z. refl }

-- ---- two results of which the same is seen, but for the sources of the record

record Seen (o o' : Result Record) : Type 0 where
  number : o.number ≡ o'.number
  values : o.values ≡ o'.values
  left : mapped plain o.after ≡ mapped plain o'.after

module _ {r r' : Record} (a : Alike r r') where
  -- by the same refusals, with the same values, and to records of which the same is left
  settled_seen : (rows rows' : List Row) (values values' : List Figures) (next next' : Record) → rows ≡ rows' → values ≡ values' → mapped plain next ≡ mapped plain next'
      → Seen (settled r rows values next) (settled r' rows' values' next')
  settled_seen rows rows' values values' next next' e v l = record {
    number = ap first e;
    values = λ i. cond (is_zero (first (e i))) (v i) [];
    left = rw (← e) (by_done (is_zero (first rows)));
  }
    where
      by_done : (done : Bool) → mapped plain (cond done next r) ≡ mapped plain (cond done next' r')
      by_done true = l
      by_done false = alike_mapped r r' a

  module _ (n : ℕ) (j : Zone → Judgement) (b : Blind j) where
    -- a call that stores one zone
    stored_seen : (rows rows' : List Row) → rows ≡ rows'
        → Seen (settled r rows (j (zone_at r n)).values (with_zone r n (j (zone_at r n)).after)) (settled r' rows' (j (zone_at r' n)).values (with_zone r' n (j (zone_at r' n)).after))
    stored_seen rows rows' e =
        let zones = ap (λ (x : Record). x.zones) (alike_mapped r r' a) in
        let z = of_zone a (λ z. plain (j z).after) b.left n in
        let stored = mapped_set plain r.zones n (j (zone_at r n)).after ∙ (λ i. set (zones i) n (z i)) ∙ sym (mapped_set plain r'.zones n (j (zone_at r' n)).after) in
        settled_seen rows rows' _ _ _ _ e (of_zone a (λ z. (j z).values) b.values n) (ap (λ (zs : List Zone). record { zones = zs }) stored)

    same_rows : (j (zone_at r n)).rows ≡ (j (zone_at r' n)).rows
    same_rows = of_zone a (λ z. (j z).rows) b.rows n

    at_zone_seen : Seen (at_zone r n (j (zone_at r n))) (at_zone r' n (j (zone_at r' n)))
    at_zone_seen = stored_seen _ _ (λ i. (not (same_sound a i) gives 2) ∷ (same_there a n i gives 3) ∷ same_rows i)

  -- ---- call by call

  same_figures : (n : ℕ) (g : Group) → figures_of (zone_at r n) g ≡ figures_of (zone_at r' n) g
  same_figures n g = of_zone a (λ z. figures_of z g) (λ z. same_groups (plain z) z refl refl g) n

  judges_alike : (n : ℕ) → JudgesAlike (zone_at r n) (zone_at r' n)
  judges_alike n = record { present = of_zone a (λ z. z.present) (λ z. refl) n; range = of_zone a (λ z. z.range) (λ z. refl) n; state = of_zone a (λ z. z.status.state) (λ z. refl) n }

  text_seen : (n : ℕ) (line room : List ℕ) → Seen (text_result r n line room) (text_result r' n line room)
  text_seen n line room = let p = line_read line in stored_seen n (λ z. parsed_at z p) (parsed_blind p) _ _ (text_rows_lem r r' n line room (same_sound a) (judges_alike n))

  frame_seen : (bytes room : List ℕ) → Seen (frame_result r bytes room) (frame_result r' bytes room)
  frame_seen bytes room =
      let p = body_read (body_in bytes) in
      let n = zone_found (holder r bytes) in
      let e = same_found a (address_in bytes) in
      let rows = frame_rows_lem r r' bytes room (same_sound a) e (judges_alike n) in
      subst (λ (m : Option ℕ). Seen (frame_result r bytes room) (result_at r' (zone_found m) (frame_rows r' bytes room) p)) e (stored_seen n (λ z. parsed_at z p) (parsed_blind p) _ _ rows)

  -- what a line is answered, and its place
  text_answered : (n : ℕ) (line room : List ℕ) → ((answer_text r n line room).said ≡ (answer_text r' n line room).said) × (text_place r n line room ≡ text_place r' n line room)
  text_answered n line room = text_local r r' n line room (same_sound a) (judges_alike n) (λ d g q. same_figures n g)

  frame_answered : (bytes room : List ℕ) → (answer_frame r bytes room).said ≡ (answer_frame r' bytes room).said
  frame_answered bytes room =
      let n = zone_found (holder r bytes) in
      frame_local r r' bytes room (same_sound a) (λ p s. (same_found a (address_in bytes), judges_alike n)) (λ d g q. same_figures n g)

-- ---- a recipe, by its lines

-- a line is answered the same, and leaves records that are alike
text_alike : (r r' : Record) → Alike r r' → (n : ℕ) (line room : List ℕ)
    → ((answer_text r n line room).said ≡ (answer_text r' n line room).said) × Alike (answer_text r n line room).after (answer_text r' n line room).after
unfolding answer_text
text_alike r r' a n line room =
    let call = in_room (text n line) room in (
      (text_answered a n line room).0,
      record {
        zones = zones_alike (after r call) (after r' call) (text_seen a n line room).left;
        sound_one = stays_sound r (call ∷ []) a.sound_one;
        sound_other = stays_sound r' (call ∷ []) a.sound_other;
      },
    )

-- lines sent in turn, to one record and to the other
record LinesSeen (r r' : Record) (room : List ℕ) (all all' : List Sent) : Type 0 where
  done : every is_done all ≡ every is_done all'
  number : of_refused (λ one. one.answered.said.number) 0 all ≡ of_refused (λ one. one.answered.said.number) 0 all'
  left_room : room_by all room ≡ room_by all' room
  left : Alike (left_by r all) (left_by r' all')

lines_seen : (r r' : Record) → Alike r r' → (lines : List Sending) (room : List ℕ) → LinesSeen r r' room (in_turn r lines room) (in_turn r' lines room)
unfolding in_turn
lines_seen r r' a [] room = record { done = refl; number = refl; left_room = refl; left = a }
lines_seen r r' a (line ∷ lines) room =
    let one = text_alike r r' a line.zone line.command (take 32 room) in
    let e = one.0 in
    let rest = lines_seen (answer_text r line.zone line.command (take 32 room)).after (answer_text r' line.zone line.command (take 32 room)).after one.1 lines (drop 32 room) in
    record {
      done = λ i. is_zero (e i).number && rest.done i;
      number = λ i. cond (is_zero (e i).number) (rest.number i) (e i).number;
      left_room = λ i. (e i).room ++ rest.left_room i;
      left = rest.left;
    }

-- what is said of lines that were tried, by whether each is done
abbrev said_by : Bool → ℕ → List ℕ → List ℕ → Said
said_by done number left room = cond done (record { number = 0; values = []; length = 0; room = left }) (said number [] [] room)

tried_said : (r : Record) (room : List ℕ) (all : List Sent) → (tried_with r room all).answered.said ≡ said_by (every is_done all) (of_refused (λ one. one.answered.said.number) 0 all) (room_by all room) room
tried_said r room all = by_done (every is_done all) refl
  where
    by_done : (t : Bool) → every is_done all ≡ t → (tried_with r room all).answered.said ≡ said_by (every is_done all) (of_refused (λ one. one.answered.said.number) 0 all) (room_by all room) room
    by_done true e = rw e
    by_done false e = rw e

tried_left : (r : Record) (room : List ℕ) (all : List Sent) → (tried_with r room all).answered.after ≡ cond (every is_done all) (left_by r all) r
tried_left r room all = by_done (every is_done all) refl
  where
    by_done : (t : Bool) → every is_done all ≡ t → (tried_with r room all).answered.after ≡ cond (every is_done all) (left_by r all) r
    by_done true e = rw e
    by_done false e = rw e

module _ {r r' : Record} (a : Alike r r') where
  tried_seen : (lines : List Sending) (room : List ℕ)
      → ((tried_with r room (in_turn r lines room)).answered.said ≡ (tried_with r' room (in_turn r' lines room)).answered.said)
      × (mapped plain (tried_with r room (in_turn r lines room)).answered.after ≡ mapped plain (tried_with r' room (in_turn r' lines room)).answered.after)
  tried_seen lines room =
      let k = lines_seen r r' a lines room in
      let all = in_turn r lines room in
      let all' = in_turn r' lines room in (
        tried_said r room all ∙ (λ i. said_by (k.done i) (k.number i) (k.left_room i) room) ∙ sym (tried_said r' room all'),
        ap (mapped plain) (tried_left r room all)
            ∙ by_done (every is_done all') (left_by r all) (left_by r' all') k.left k.done
            ∙ ap (mapped plain) (sym (tried_left r' room all')),
      )
    where
      by_done : (t : Bool) {u : Bool} (l l' : Record) → Alike l l' → u ≡ t → mapped plain (cond u l r) ≡ mapped plain (cond t l' r')
      by_done true l l' b e = rw e (alike_mapped l l' b)
      by_done false l l' b e = rw e (alike_mapped r r' a)

  -- what a recipe comes to, by whether its form is right and by the number that is given where it is not
  abbrev formed : List ℕ → List ℕ → Record → Bool → ℕ → Answered
  formed recipe room x t n = (cond t (tried_with x room (in_turn x (sendings (lines_of recipe)) room)) (refused_with x room n 0 0)).answered

  recipe_seen : (recipe room : List ℕ)
      → ((load_of r recipe room).answered.said ≡ (load_of r' recipe room).answered.said) × (mapped plain (load_of r recipe room).answered.after ≡ mapped plain (load_of r' recipe room).answered.after)
  unfolding load_of
  recipe_seen recipe room = rw (same_sound a) (by_form (is_zero n) (tried_seen (sendings (lines_of recipe)) room))
    where
      n : ℕ
      n = first (form_rows r' (lines_of recipe) room)

      by_form : (t : Bool) → ((formed recipe room r true n).said ≡ (formed recipe room r' true n).said) × (mapped plain (formed recipe room r true n).after ≡ mapped plain (formed recipe room r' true n).after)
          → ((formed recipe room r t n).said ≡ (formed recipe room r' t n).said) × (mapped plain (formed recipe room r t n).after ≡ mapped plain (formed recipe room r' t n).after)
      by_form true k = k
      by_form false k = (refl, alike_mapped r r' a)

-- ---- calls without a road, and all of them

module _ {r r' : Record} (a : Alike r r') where
  -- a merging looks at the kilograms of two zones, and sets these and no source
  merge_seen : (n m : ℕ) → Seen (result_of r (merge n m)) (result_of r' (merge n m))
  unfolding merge_of
  merge_seen n m = settled_seen a (merge_rows r n m) (merge_rows r' n m) [] [] (merged r n m) (merged r' n m) rows refl (joined r ∙ both ∙ sym (joined r'))
    where
      kilograms : together r n m ≡ together r' n m
      kilograms = λ i. (a.zones m i).kilograms + (a.zones n i).kilograms

      rows : merge_rows r n m ≡ merge_rows r' n m
      rows = λ i. (not (same_sound a i) gives 2) ∷ ((same_there a n i || same_there a m i) gives 3) ∷ (eqb n m gives 17) ∷ (not (booking_in_range (kilograms i)) gives 16) ∷ []

      plainly : Record → Zone → ℕ → Record
      plainly x z held = record { zones = set (set x.zones m (with_kilograms z held)) n empty_zone }

      joined : (x : Record) → mapped plain (merged x n m) ≡ plainly (mapped plain x) (plain (zone_at x m)) (together x n m)
      joined x =
          let z = with_kilograms (zone_at x m) (together x n m) in
          ap (λ (zs : List Zone). record { zones = zs }) (mapped_set plain (set x.zones m z) n empty_zone ∙ ap (λ (zs : List Zone). set zs n empty_zone) (mapped_set plain x.zones m z))

      both : plainly (mapped plain r) (plain (zone_at r m)) (together r n m) ≡ plainly (mapped plain r') (plain (zone_at r' m)) (together r' n m)
      both = λ i. plainly (alike_mapped r r' a i) (a.zones m i) (kilograms i)

  -- a repair leaves a sound record as it is
  repair_seen_lem : Seen (result_of r repair) (result_of r' repair)
  repair_seen_lem =
      let one = ap (λ (o : Repair). o.result) (repair_of_sound r a.sound_one) in
      let other = ap (λ (o : Repair). o.result) (repair_of_sound r' a.sound_other) in
      rw (one, other) (record { number = refl; values = refl; left = alike_mapped r r' a })

  quiet_seen : (call : Quiet) → quiet_of_source call ≡ false → Seen (result_of r call) (result_of r' call)
  unfolding add_of remove_of report_of apply_of book_of ship_of
  quiet_seen (add n address range) e =
      stored_seen a n (λ z. add_at z address range (held_in r.zones address)) (record { rows = λ z. refl; values = λ z. refl; left = λ z. refl }) _ _
      (λ i.
      (not (same_sound a i) gives 2)
      ∷ (leb 16 n gives 3)
      ∷ ((a.zones n i).present gives 12)
      ∷ (not (address_in_range address && range_known range) gives 9)
      ∷ (same_held a address i gives 11)
      ∷ [])
  quiet_seen (remove n) e = at_zone_seen a n remove_at (record { rows = λ z. refl; values = λ z. refl; left = λ z. refl })
  quiet_seen (report n state actual) e = at_zone_seen a n (λ z. report_at z state actual) (record { rows = λ z. refl; values = λ z. refl; left = λ z. refl })
  quiet_seen (apply n c) e = at_zone_seen a n (λ z. command_at z c) (command_blind c)
  quiet_seen (choose_source n source millivolts) e = never (sym e)
  quiet_seen (setpoint_in_use n) e = never (sym e)
  quiet_seen (book n kg) e = at_zone_seen a n (λ z. book_at z kg) (record { rows = λ z. refl; values = λ z. refl; left = λ z. refl })
  quiet_seen (ship n kg) e = at_zone_seen a n (λ z. ship_at z kg) (record { rows = λ z. refl; values = λ z. refl; left = λ z. refl })
  quiet_seen (merge n m) e = merge_seen n m
  quiet_seen repair e = repair_seen_lem

  -- what is answered is the same, and what is left of the records
  answer_seen : (call : Call) → of_source call ≡ false → ((answer_to r call).said ≡ (answer_to r' call).said) × (mapped plain (after r call) ≡ mapped plain (after r' call))
  unfolding answer_text answer_frame
  answer_seen (in_room (text n line) room) e = ((text_answered a n line room).0, (text_seen a n line room).left)
  answer_seen (in_room (frame bytes) room) e = (frame_answered a bytes room, (frame_seen a bytes room).left)
  answer_seen (in_room (compose_line c) room) e = (refl, alike_mapped r r' a)
  answer_seen (in_room (compose_frame address c) room) e = (refl, alike_mapped r r' a)
  answer_seen (in_room (load recipe) room) e = recipe_seen a recipe room
  answer_seen (quiet call) e =
      let k = quiet_seen call e in
      (λ i. said (k.number i) (k.values i) [] [], k.left)

-- one call, whole
pub one_unseen : (r r' : Record) (call : Call) → Alike r r' → of_source call ≡ false → ((answer_to r call).said ≡ (answer_to r' call).said) × Alike (after r call) (after r' call)
one_unseen r r' call a e =
    let k = answer_seen a call e in
    let left : Alike (after r call) (after r' call)
    = record { zones = zones_alike (after r call) (after r' call) k.1; sound_one = stays_sound r (call ∷ []) a.sound_one; sound_other = stays_sound r' (call ∷ []) a.sound_other } in
    (k.0, left)

-- ---- a call of Req 08 alters sources alone

choice_left : (r : Record) (n : ℕ) (source : Source) (millivolts : ℕ) → mapped plain (choose_source_of r n source millivolts).after ≡ mapped plain r
unfolding choose_source_of
choice_left r n source millivolts = by_done (is_zero (first (zone_rows r n (choose_source_at (zone_at r n) source millivolts))))
  where
    by_done : (done : Bool) → mapped plain (cond done (with_zone r n (choose_source_at (zone_at r n) source millivolts).after) r) ≡ mapped plain r
    by_done true = ap (λ (zs : List Zone). record { zones = zs }) (map-set_same plain r.zones n (choose_source_at (zone_at r n) source millivolts).after empty_zone refl)
    by_done false = refl

source_left : (r : Record) (call : Call) → of_source call ≡ true → mapped plain (after r call) ≡ mapped plain r
source_left r (in_room call room) e = never e
source_left r (quiet (add n address range)) e = never e
source_left r (quiet (remove n)) e = never e
source_left r (quiet (report n state actual)) e = never e
source_left r (quiet (apply n c)) e = never e
source_left r (quiet (choose_source n source millivolts)) e = choice_left r n source millivolts
source_left r (quiet (setpoint_in_use n)) e = ap (mapped plain) (setpoint_in_use_alters_nothing r n)
source_left r (quiet (book n kg)) e = never e
source_left r (quiet (ship n kg)) e = never e
source_left r (quiet (merge n m)) e = never e
source_left r (quiet repair) e = never e

one_source : (r r' : Record) (call : Call) → Alike r r' → of_source call ≡ true → Alike (after r call) r'
one_source r r' call a e =
    let zones = zones_alike (after r call) r' (source_left r call e ∙ alike_mapped r r' a) in
    record { zones = zones; sound_one = stays_sound r (call ∷ []) a.sound_one; sound_other = a.sound_other }

-- ---- whole sessions

through : (r r' : Record) (calls : List Call) → Alike r r' → SameWithout of_source after said_to Alike r r' calls
through = may_be_struck of_source after said_to Alike (record { struck = λ s s' call. one_source s s' call; remains = λ s s' call. one_unseen s s' call })

pub unseen : SourcesAreUnseen
unseen r r' calls a =
    let k = through r r' calls a in
    -- in what remains there is nothing more to strike out
    let whole = (through r' r' (struck calls) (record { zones = λ n. refl; sound_one = a.sound_other; sound_other = a.sound_other })).answers in
    let once = ap (heard_by after said_to r') (sym (strike_again of_source of_source calls (λ call e. e))) in
    record { answers = ap (map (λ p. p.1)) (k.answers ∙ once ∙ sym whole); left = k.left; place = λ n line room. (text_answered k.left n line room).1 }

-- What a recipe is answered: by its form, by its first refused line, or done. Assumes nothing.
use Rattle.std.specs.Prelude.{Err, Ok}
use Prim.Native.Nat.{ℕ, suc, ◌*◌, ◌≤◌}
use mathlib.Core.Path.{◌≡◌, refl, sym, ap, ◌∙◌}
use mathlib.Core.Logic.{◌⊎◌, inl, inr}
use mathlib.Core.Bool.{Bool, true, false}
use mathlib.Core.List.{List, [], ◌∷◌, ◌++◌}
use native.Mathlib.Omega.{arith}
use lib.ListN.{length, take, drop, length-drop}
use lib.Dec.{ltb}
use borrow.Author.Tests.{ltb-false, le-ltb, eqb-true, eqb-false, eq-eqb, ne_eqb, not-false}
use Rattle.zone.specs.Lists.{is_zero, every, some}
use Rattle.zone.specs.declared.figures.Command.TheVariants.{Read, Write}
use Rattle.zone.specs.declared.zones.Zone.{Zone}
use Rattle.zone.proofs.Tests.{both, and_false, neither}
use Rattle.card.specs.declared.records.Record.{Record}
use Rattle.card.specs.Refusals.{Row, ◌gives◌, first}
use Rattle.card.specs.Records.{zone_at, sound, no_zone}
use Rattle.card.specs.Rules.{row_at, InOrder}
use Rattle.card.proofs.Rows.{apart, exactly}
use Rattle.line.specs.Line.{line_read}
use Rattle.roads.specs.Calls.{said, parsed_rows, port_rows}
use Rattle.texts.specs.Texts.{lines_of}
use Rattle.texts.proofs.Parts.{by_test}
use Rattle.recipes.specs.Recipes.{lacks, Sending, sendings, Sent, sent, in_turn, is_done, of_refused, refused_line, Loading, refused_with, loaded_with, tried_with, form_rows, load_of, load_order, load_rows}
use Rattle.recipes.specs.Rules.{sent_singly, LoadExactly, LoadInOrder, FirstRefused, WellFormed, LineExactly, LoadsWhole, LoadsIfEachIsDone, Reports, Because, of_its_form, of_a_line, NotAtAll, OrNotAtAll}
use Rattle.recipes.specs.Inner.{port_result, port_place}
use Rattle.recipes.proofs.Sent.{port_stays, sent_as, in_turn_next}
use Rattle.recipes.proofs.Cases.{as_many}
use Rattle.wire.specs.declared.Misread.TheVariants.{Syntax, Unknown}
use Rattle.wire.specs.Road.{Parsed}

-- ---- lines sent singly: each is done, or one is the first that is not

abbrev OneRefused : List Sent → Type 0
OneRefused all = (k : ℕ) × (one : Sent) × FirstRefused all k one

done_or_not : (all : List Sent) → (every is_done all ≡ true) ⊎ OneRefused all
done_or_not [] = inl refl
done_or_not (one ∷ more) =
    by_test (is_done one) (λ e. on e (done_or_not more)) (λ e. inr (0, one, record { before = []; behind = more; split = refl; count = refl; done = refl; refused = e }))
  where
    on : is_done one ≡ true → (every is_done more ≡ true) ⊎ OneRefused more → (every is_done (one ∷ more) ≡ true) ⊎ OneRefused (one ∷ more)
    on e (inl d) = inl (rw e d)
    on e (inr (k, x, f)) =
        inr (
          suc k,
          x,
          record {
            before = one ∷ f.before;
            behind = f.behind;
            split = ap (λ (l : List Sent). one ∷ l) f.split;
            count = ap suc f.count;
            done = rw e f.done;
            refused = f.refused;
          },
        )

module _ (behind : List Sent) (one : Sent) (u : is_done one ≡ false) where
  not_every : (before : List Sent) → every is_done (before ++ one ∷ behind) ≡ false
  not_every [] = rw u
  not_every (x ∷ before) = rw (not_every before) (and_false (is_done x))

  first_part : {A : Type 0} (part : Sent → A) (none : A) (before : List Sent) → every is_done before ≡ true → of_refused part none (before ++ one ∷ behind) ≡ part one
  first_part part none [] d = rw u
  first_part part none (x ∷ before) d = let b = both (is_done x) (every is_done before) d in rw b.0 (first_part part none before b.1)

  first_line : (before : List Sent) → every is_done before ≡ true → refused_line (before ++ one ∷ behind) ≡ suc (length before)
  first_line [] d = rw u
  first_line (x ∷ before) d = let b = both (is_done x) (every is_done before) d in rw (b.0, first_line before b.1)

done_with : (r : Record) (room : List ℕ) (all : List Sent) → every is_done all ≡ true → tried_with r room all ≡ loaded_with r room all
done_with r room all d = rw d

-- of lines of which one is the first refused, number, line number and place are its own
refused_with_lem : (r : Record) (room : List ℕ) (all : List Sent) (k : ℕ) (one : Sent) → FirstRefused all k one → tried_with r room all ≡ refused_with r room one.answered.said.number (suc k) one.place
refused_with_lem r room all k one f =
    let u = f.refused in
    rw (f.split, not_every f.behind one u f.before, first_part f.behind one u (λ (x : Sent). x.answered.said.number) 0 f.before f.done, first_line f.behind one u f.before f.done, first_part f.behind one u (λ (x : Sent). x.place) 0 f.before f.done, f.count)

-- ---- its form

module _ (r : Record) (recipe room : List ℕ) where
  abbrev form : ℕ
  form = first (form_rows r (lines_of recipe) room)

  abbrev all : List Sent
  all = sent_singly r recipe room

  pub well : WellFormed r recipe room → load_of r recipe room ≡ tried_with r room all
  unfolding load_of
  well w = rw (eq-eqb form 0 w)

  ill : (form ≡ 0 → ⊥) → load_of r recipe room ≡ refused_with r room form 0 0
  unfolding load_of
  ill u = rw (ne_eqb form 0 u)

  -- what is known where 1, 2 and 14 do not apply
  pub record Fine : Type 0 where
    pub enough : 32 * length (lines_of recipe) ≤ length room
    pub is_sound : sound r ≡ true
    pub few : length (lines_of recipe) ≤ 64
    pub formed : some lacks (lines_of recipe) ≡ false

  pub fine : WellFormed r recipe room → Fine
  fine w =
      let lines = lines_of recipe in
      let off = (exactly (form_rows r lines room) refl).done.0 w in
      let third = neither (ltb 64 (length lines)) (some lacks lines) (off 2) in
      record {
        enough = ltb-false (length room) (32 * length lines) (off 0);
        is_sound = not-false (sound r) (off 1);
        few = ltb-false 64 (length lines) third.0;
        formed = third.1;
      }

  -- and where they are known, 1, 2 and 14 do not apply
  pub well_formed : Fine → WellFormed r recipe room
  well_formed f = rw (le-ltb (length room) (32 * length (lines_of recipe)) f.enough, f.is_sound, le-ltb 64 (length (lines_of recipe)) f.few, f.formed)

  by_form : {R : Type 0} → (WellFormed r recipe room → R) → ((form ≡ 0 → ⊥) → R) → R
  by_form f g = by_test (is_zero form) (λ e. f (eqb-true form 0 e)) (λ e. g (eqb-false form 0 e))

-- ---- whole, or not at all

module _ (r : Record) (recipe room : List ℕ) where
  abbrev o : Loading
  o = load_of r recipe room

  -- the three ways in which it ends
  pub data Ends : Type 0 where
    by_its_form : (form r recipe room ≡ 0 → ⊥) → o ≡ refused_with r room (form r recipe room) 0 0 → Ends
    by_a_line : (k : ℕ) (one : Sent) → WellFormed r recipe room → FirstRefused (all r recipe room) k one → (one.answered.said.number ≡ 0 → ⊥)
        → o ≡ refused_with r room one.answered.said.number (suc k) one.place → Ends
    well_done : WellFormed r recipe room → every is_done (all r recipe room) ≡ true → o ≡ loaded_with r room (all r recipe room) → Ends

  pub ends : Ends
  ends = by_form r recipe room (λ w. tried w (done_or_not (all r recipe room))) (λ u. by_its_form u (ill r recipe room u))
    where
      tried : WellFormed r recipe room → (every is_done (all r recipe room) ≡ true) ⊎ OneRefused (all r recipe room) → Ends
      tried w (inl d) = well_done w d (well r recipe room w ∙ done_with r room (all r recipe room) d)
      tried w (inr (k, one, f)) = by_a_line k one w f (eqb-false one.answered.said.number 0 f.refused) (well r recipe room w ∙ refused_with_lem r room (all r recipe room) k one f)

pub line_exactly : LineExactly
line_exactly r recipe room k = (to_it (ends r recipe room), from_it)
  where
    to_it : Ends r recipe room → (load_of r recipe room).line ≡ suc k → WellFormed r recipe room × ((one : Sent) × FirstRefused (all r recipe room) k one)
    to_it (by_its_form u e) l = absurd (omega (arith, ap (λ (x : Loading). x.line) e))
    to_it (by_a_line j one w f u e) l =
        let same : j ≡ k = omega (arith, ap (λ (x : Loading). x.line) e) in
        (w, (one, rw same at f))
    to_it (well_done w d e) l = absurd (omega (arith, ap (λ (x : Loading). x.line) e))

    from_it : WellFormed r recipe room × ((one : Sent) × FirstRefused (all r recipe room) k one) → (load_of r recipe room).line ≡ suc k
    from_it t = ap (λ (x : Loading). x.line) (well r recipe room t.0 ∙ refused_with_lem r room (all r recipe room) k t.1.0 t.1.1)

-- of a done recipe
pub record Done (r : Record) (recipe room : List ℕ) : Type 0 where
  pub form_right : WellFormed r recipe room
  pub each_done : every is_done (sent_singly r recipe room) ≡ true
  pub comes_to : load_of r recipe room ≡ loaded_with r room (sent_singly r recipe room)

pub done : (r : Record) (recipe room : List ℕ) → (load_of r recipe room).answered.said.number ≡ 0 → Done r recipe room
done r recipe room z = by_end (ends r recipe room)
  where
    by_end : Ends r recipe room → Done r recipe room
    by_end (by_its_form u e) = absurd (u (sym (ap (λ (x : Loading). x.answered.said.number) e) ∙ z))
    by_end (by_a_line k one w f u e) = absurd (u (sym (ap (λ (x : Loading). x.answered.said.number) e) ∙ z))
    by_end (well_done w d e) = record { form_right = w; each_done = d; comes_to = e }

pub whole : LoadsWhole
whole r recipe room z =
    let d = done r recipe room z in
    record {
      each_done = d.each_done;
      record_left = ap (λ (x : Loading). x.answered.after) d.comes_to;
      room_left = ap (λ (x : Loading). x.answered.said.room) d.comes_to;
      lengths_told = ap (λ (x : Loading). x.lengths) d.comes_to;
      no_line = (ap (λ (x : Loading). x.line) d.comes_to, ap (λ (x : Loading). x.place) d.comes_to);
      tells_nothing = ap (λ (x : Loading). x.answered.said.values) d.comes_to;
    }

pub loaded : (r : Record) (recipe room : List ℕ) → WellFormed r recipe room → every is_done (sent_singly r recipe room) ≡ true → load_of r recipe room ≡ loaded_with r room (sent_singly r recipe room)
loaded r recipe room w d = well r recipe room w ∙ done_with r room (all r recipe room) d

pub loads : LoadsIfEachIsDone
loads r recipe room w d = ap (λ (x : Loading). x.answered.said.number) (loaded r recipe room w d)

pub or_not_at_all : OrNotAtAll
or_not_at_all r recipe room u = by_end (ends r recipe room)
  where
    -- what is left by a refusal, whatever it reports
    left : (number line place : ℕ) → load_of r recipe room ≡ refused_with r room number line place → (Reports r recipe room number line place → Because r recipe room) → NotAtAll r recipe room
    left number line place e why = record {
      record_kept = ap (λ (x : Loading). x.answered.after) e;
      room_kept = ap (λ (x : Loading). x.answered.said.room) e;
      tells_nothing = (ap (λ (x : Loading). x.answered.said.values) e, ap (λ (x : Loading). x.lengths) e);
      because = why (ap (λ (x : Loading). x.answered.said.number) e, ap (λ (x : Loading). x.line) e, ap (λ (x : Loading). x.place) e);
    }

    by_end : Ends r recipe room → NotAtAll r recipe room
    by_end (by_its_form n e) = left (form r recipe room) 0 0 e (of_its_form n)
    by_end (by_a_line k one w f n e) = left one.answered.said.number (suc k) one.place e (of_a_line k one w f)
    by_end (well_done w d e) = absurd (u (ap (λ (x : Loading). x.answered.said.number) e))

-- in short, for those who cite it: a call that is not done leaves the record and the room
pub load_refused : (r : Record) (recipe room : List ℕ) → ((load_of r recipe room).answered.said.number ≡ 0 → ⊥)
    → (load_of r recipe room).answered ≡ record { said = said (load_of r recipe room).answered.said.number [] [] room; after = r }
load_refused r recipe room u = by_end (ends r recipe room)
  where
    by_end : Ends r recipe room → (load_of r recipe room).answered ≡ record { said = said (load_of r recipe room).answered.said.number [] [] room; after = r }
    by_end (by_its_form n e) = rw e
    by_end (by_a_line k one w f n e) = rw e
    by_end (well_done w d e) = absurd (u (ap (λ (x : Loading). x.answered.said.number) e))

-- ---- when each number is given

-- the refusals of the first refused line are none, or those of some line at some record
by_rows : (P : List Row → Type 0) → P [] → ((r : Record) (n : ℕ) (command : List ℕ) → P (port_rows r n command))
    → (r : Record) (lines : List Sending) (room : List ℕ) → P (of_refused (λ one. one.refusals) [] (in_turn r lines room))
unfolding in_turn
by_rows P none some r [] room = none
by_rows P none some r (line ∷ lines) room =
    by_test (is_done (sent r line (take 32 room)))
    (λ e. rw e (by_rows P none some (sent r line (take 32 room)).answered.after lines (drop 32 room)))
    (λ e. rw e (some r line.zone line.command))

-- they follow 1, 2 and 14: other numbers, in the printed order
record Follows (rows : List Row) : Type 0 where
  new : apart ((true gives 1) ∷ (true gives 2) ∷ (true gives 14) ∷ rows) ≡ true
  order : InOrder ((true gives 1) ∷ (true gives 2) ∷ (true gives 14) ∷ rows) load_order

port_follows : (t : Bool) (z : Zone) (p : Parsed) → Follows ((t gives 3) ∷ parsed_rows z p)
port_follows t z (Ok (Read g)) = record { new = refl; order = refl }
port_follows t z (Ok (Write f)) = record { new = refl; order = refl }
port_follows t z (Err Unknown) = record { new = refl; order = refl }
port_follows t z (Err Syntax) = record { new = refl; order = refl }

follows : (r : Record) (lines : List Sending) (room : List ℕ) → Follows (of_refused (λ one. one.refusals) [] (in_turn r lines room))
follows = by_rows Follows (record { new = refl; order = refl }) (λ r n command. port_follows (no_zone r n) (zone_at r n) (line_read command))

pub load_order_lem : LoadInOrder
load_order_lem r recipe room = (follows r (sendings (lines_of recipe)) room).order

-- where the record is sound and the room enough, the number of the first refused line is the one that its refusals give
record Agrees (all : List Sent) : Type 0 where
  told : of_refused (λ one. one.answered.said.number) 0 all ≡ first (of_refused (λ one. one.refusals) [] all)

agree_next : (one : Sent) (more : List Sent) → one.answered.said.number ≡ first one.refusals → Agrees more → Agrees (one ∷ more)
agree_next one more e a = record { told = by_test (is_done one) (λ d. rw d a.told) (λ d. rw d e) }

agree : (r : Record) (lines : List Sending) (room : List ℕ) → sound r ≡ true → 32 * length lines ≤ length room → Agrees (in_turn r lines room)
unfolding in_turn
agree r [] room s h = record { told = refl }
agree r (line ∷ lines) room s h =
    rw (in_turn_next r line lines room s (omega arith))
    (agree_next (sent_as (port_result r line) (port_place r line) (port_rows r line.zone line.command) room) _ refl
    (agree (port_result r line).after lines (drop 32 room) (port_stays r line s) (omega (arith, length-drop 32 room))))

-- of lines that are tried, whether each is done or not
tried_number : (r : Record) (room : List ℕ) (all : List Sent) → (tried_with r room all).answered.said.number ≡ of_refused (λ one. one.answered.said.number) 0 all
tried_number r room all = by_test (every is_done all) (λ d. rw (d, none_refused all d)) (λ d. rw d)
  where
    none_refused : (all : List Sent) → every is_done all ≡ true → of_refused (λ one. one.answered.said.number) 0 all ≡ 0
    none_refused [] d = refl
    none_refused (one ∷ more) d = let b = both (is_done one) (every is_done more) d in rw b.0 (none_refused more b.1)

-- a number of the first rows is given before those behind
first_before : (rows more : List Row) → (first rows ≡ 0 → ⊥) → first (rows ++ more) ≡ first rows
first_before [] more u = absurd (u refl)
first_before (row ∷ rows) more u = by_test row.test (λ e. rw e) (λ e. rw e (first_before rows more (rw e at u)))

-- and where none of the first rows applies, one of those behind
first_behind : (rows more : List Row) → ((j : ℕ) → (row_at rows j).test ≡ false) → first (rows ++ more) ≡ first more
first_behind [] more off = refl
first_behind (row ∷ rows) more off = rw (off 0) (first_behind rows more (λ j. off (suc j)))

pub number_first : (r : Record) (recipe room : List ℕ) → (load_of r recipe room).answered.said.number ≡ first (load_rows r recipe room)
number_first r recipe room =
    by_form r recipe room
    (λ w.
    let f = fine r recipe room w in
    let off = (exactly rows refl).done.0 w in
    ap (λ (x : Loading). x.answered.said.number) (well r recipe room w)
    ∙ tried_number r room (all r recipe room)
    ∙ (agree r (sendings (lines_of recipe)) room f.is_sound (rw (as_many (lines_of recipe) f.formed) f.enough)).told
    ∙ sym (first_behind rows more off))
    (λ u. ap (λ (x : Loading). x.answered.said.number) (ill r recipe room u) ∙ sym (first_before rows more u))
  where
    rows : List Row
    rows = form_rows r (lines_of recipe) room

    more : List Row
    more = of_refused (λ one. one.refusals) [] (all r recipe room)

pub load_exactly : LoadExactly
load_exactly r recipe room = rw (number_first r recipe room) (exactly (load_rows r recipe room) (follows r (sendings (lines_of recipe)) room).new)

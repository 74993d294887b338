-- What the call comes to, case by case, as the code goes through them. Assumes nothing.
use Prim.Native.Nat.{ℕ, zero, suc, ◌*◌, ◌/◌, ◌≤◌, ◌<◌}
use mathlib.Core.Path.{◌≡◌, refl, sym, ap, ◌∙◌}
use mathlib.Core.Bool.{true, false}
use mathlib.Core.List.{List, [], ◌∷◌}
use native.Mathlib.Omega.{arith}
use lib.ListN.{length, length-append, length-map}
use lib.Dec.{ltb}
use borrow.Author.Tests.{lt-ltb, le-ltb, eq-eqb, ne_eqb}
use Rattle.zone.specs.Lists.{some}
use Rattle.zone.proofs.Tests.{never, neither}
use Rattle.card.specs.declared.records.Record.{Record}
use Rattle.card.specs.Records.{sound}
use Rattle.texts.specs.Texts.{Zoned, to, lacking, zoned, lines_of}
use Rattle.recipes.specs.Recipes.{is_lacking, lacks, sending_in, sendings, Sent, in_turn, refused_line, Loading, refused_with, tried_with, load_of}
use Rattle.recipes.specs.Inner.{ill_formed, Trying, try_from, reply_of, replies_in, lengths_of}
use Rattle.recipes.proofs.Sent.{shifted, Tied, tied}

-- where no line lacks its zone and tab, each has something to say
one_said : (z : Zoned) → is_lacking z ≡ false → length (sending_in z) ≡ 1
one_said (to zone command) h = refl
one_said lacking h = never (sym h)

pub as_many : (lines : List (List ℕ)) → some lacks lines ≡ false → length (sendings lines) ≡ length lines
as_many [] h = refl
as_many (line ∷ lines) h =
    let parts = neither (lacks line) (some lacks lines) h in
    omega (arith, length-append (sending_in (zoned line)) (sendings lines), one_said (zoned line) parts.0, as_many lines parts.1)

shift_none : (m : ℕ) → shifted 0 m ≡ m
shift_none zero = refl
shift_none (suc m) = omega arith

-- what is answered where all lines were done
abbrev pub loaded_as : List ℕ → Trying → Loading
loaded_as room t = record {
  answered = record { said = record { number = 0; values = []; length = 0; room = replies_in t.done room }; after = t.after };
  line = 0;
  place = 0;
  lengths = lengths_of t.done;
}

module _ (r : Record) (recipe room : List ℕ) where
  -- ---- before any line is tried

  pub no_room : length room / 32 < length (lines_of recipe) → load_of r recipe room ≡ refused_with r room 1 0 0
  unfolding load_of
  no_room h =
      let k : length room < 32 * length (lines_of recipe) = omega arith in
      rw (lt-ltb (length room) (32 * length (lines_of recipe)) k)

  module _ (h : length (lines_of recipe) ≤ length room / 32) where
    enough : 32 * length (lines_of recipe) ≤ length room
    enough = omega arith

    pub not_sound : sound r ≡ false → load_of r recipe room ≡ refused_with r room 2 0 0
    unfolding load_of
    not_sound s = rw (le-ltb (length room) (32 * length (lines_of recipe)) enough, s)

    module _ (s : sound r ≡ true) where
      pub unformed : ill_formed (lines_of recipe) ≡ true → load_of r recipe room ≡ refused_with r room 14 0 0
      unfolding load_of
      unformed f = rw (le-ltb (length room) (32 * length (lines_of recipe)) enough, s, f)

      -- ---- the lines are tried

      module _ (f : ill_formed (lines_of recipe) ≡ false) where
        goes : load_of r recipe room ≡ tried_with r room (in_turn r (sendings (lines_of recipe)) room)
        unfolding load_of
        goes = rw (le-ltb (length room) (32 * length (lines_of recipe)) enough, s, f)

        abbrev t : Trying
        t = try_from 0 r (sendings (lines_of recipe))

        abbrev all : List Sent
        all = in_turn r (sendings (lines_of recipe)) room

        tie : Tied 0 r room all t
        tie = let parts = neither (ltb 64 (length (lines_of recipe))) (some lacks (lines_of recipe)) f in tied 0 r (sendings (lines_of recipe)) room s (rw (as_many (lines_of recipe) parts.1) enough)

        pub stopped : (t.number ≡ 0 → ⊥) → load_of r recipe room ≡ refused_with r room t.number t.line t.place
        stopped u =
            let line : refused_line all ≡ t.line = sym (shift_none (refused_line all)) ∙ tie.line in
            goes ∙ rw (tie.all_done, ne_eqb t.number 0 u, tie.number, line, tie.place)

        pub loaded : t.number ≡ 0 → load_of r recipe room ≡ loaded_as room t
        loaded z =
            let count : length all ≡ length t.done = sym (length-map all (λ one. one.answered.said.length)) ∙ ap length (tie.lengths z) ∙ length-map t.done (λ one. length (reply_of one)) in
            goes ∙ rw (tie.all_done, eq-eqb t.number 0 z, tie.left z, tie.replies z, tie.lengths z, count)

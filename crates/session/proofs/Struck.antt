-- A session and what remains of it where a part is struck out, for any kinds of calls. Assumes nothing.
use mathlib.Core.Path.{◌≡◌, refl, ap}
use mathlib.Core.Bool.{Bool, true, false}
use mathlib.Core.List.{List, [], ◌∷◌}
use Rattle.card.specs.declared.records.Record.{Record}
use Rattle.session.specs.Sessions.{strike, SameWithout, MayBeStruck}

module _ {C A : Type 0} (out : C → Bool) (step : Record → C → Record) (answer : Record → C → A) (Like : Record → Record → Type 0) where
  pub may_be_struck : MayBeStruck out step answer Like
  may_be_struck k r r' [] a = record { answers = refl; left = a }
  may_be_struck k r r' (x ∷ xs) a = by_test (out x) refl (λ s s' b. may_be_struck k s s' xs b)
    where
      by_test : (t : Bool) → out x ≡ t → ((s s' : Record) → Like s s' → SameWithout out step answer Like s s' xs) → SameWithout out step answer Like r r' (x ∷ xs)
      by_test true e rest =
          let others = rest (step r x) r' (k.struck r r' x a e) in
          record { answers = rw e others.answers; left = rw e others.left }
      by_test false e rest =
          let same = k.remains r r' x a e in
          let others = rest (step r x) (step r' x) same.1 in
          record { answers = rw e (λ i. (x, same.0 i) ∷ others.answers i); left = rw e others.left }

-- what strikes out all that less does, and perhaps more, comes to the same behind less as by itself
pub strike_again : {A : Type 0} (less out : A → Bool) (xs : List A) → ((x : A) → less x ≡ true → out x ≡ true) → strike out (strike less xs) ≡ strike out xs
strike_again less out [] h = refl
strike_again {A = A} less out (x ∷ xs) h = by_test (less x) (out x) refl refl (strike_again less out xs h)
  where
    by_test : (t u : Bool) → less x ≡ t → out x ≡ u → strike out (strike less xs) ≡ strike out xs → strike out (strike less (x ∷ xs)) ≡ strike out (x ∷ xs)
    by_test true u e o rest = rw (e, h x e) rest
    by_test false true e o rest = rw (e, o) rest
    by_test false false e o rest = rw (e, o) (ap (λ (l : List A). x ∷ l) rest)

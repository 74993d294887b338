-- A session put in a permitted order, once for calls of any kinds: where two that change places commute it ends alike, and each call is answered the same. Assumes nothing.
use mathlib.Core.Path.{◌≡◌, refl, sym, ap, ◌∙◌, subst}
use mathlib.Core.Logic.{inl, inr}
use mathlib.Core.List.{List, [], ◌∷◌, ◌++◌}
use Rattle.card.specs.declared.records.Record.{Record}
use Rattle.session.specs.Sessions.{run_by, heard_by}
use Rattle.session.specs.Order.{Has, NoneTwice, Permitted, AlikeBy, CommuteWhereApart, MayBeReordered}
use Rattle.session.proofs.Standing.{has_more, has_less, has_it, has_front, before_more, before_it, once_less, found}

module _ {C A : Type 0} (step : Record → C → Record) (answer : Record → C → A) where
  run_append : (r : Record) (bs cs : List C) → run_by step r (bs ++ cs) ≡ run_by step (run_by step r bs) cs
  run_append r [] cs = refl
  run_append r (b ∷ bs) cs = run_append (step r b) bs cs

  heard_append : (r : Record) (bs cs : List C) → heard_by step answer r (bs ++ cs) ≡ heard_by step answer r bs ++ heard_by step answer (run_by step r bs) cs
  heard_append r [] cs = refl
  heard_append r (b ∷ bs) cs = ap (λ (l : List (C × A)). (b, answer r b) ∷ l) (heard_append (step r b) bs cs)

  -- call x, sent behind others: the record is that of x sent first, and all of them are answered the same
  record SentBehind (r : Record) (x : C) (front : List C) : Type 0 where
    same_record : step (run_by step r front) x ≡ run_by step (step r x) front
    others_heard : heard_by step answer r front ≡ heard_by step answer (step r x) front
    answered : answer (run_by step r front) x ≡ answer r x

  module _ (Apart : C → C → Type 0) (Good : Record → Type 0) (k : CommuteWhereApart step answer Apart Good) where
    -- by exchanges of neighbours
    behind_them : (r : Record) (x : C) (front : List C) → Good r → ((z : C) → Has front z → Apart x z) → SentBehind r x front
    behind_them r x [] g e = record { same_record = refl; others_heard = refl; answered = refl }
    behind_them r x (b ∷ bs) g e =
        let c = k.commute r x b g (e b (inl refl)) in
        let rest = behind_them (step r b) x bs (k.stays r b g) (λ z h. e z (inr h)) in
        record {
          same_record = rest.same_record ∙ ap (λ (s : Record). run_by step s bs) (sym c.same_record);
          others_heard = λ i. (b, sym c.answer_of_y i) ∷ (rest.others_heard ∙ ap (λ (s : Record). heard_by step answer s bs) (sym c.same_record)) i;
          answered = rest.answered ∙ c.answer_of_x;
        }

    -- the first call of the one session stands in the other behind some, or none, from which it is apart; the rest is in a permitted order
    module _ (r : Record) (x : C) (xs front back : List C) (g : Good r) (p : Permitted Apart (x ∷ xs) (front ++ x ∷ back)) where
      once : NoneTwice (front ++ back) × (Has (front ++ back) x → ⊥)
      once = once_less front back x p.each_once.1

      -- what stands in the other session besides x stands behind x in the one, and (kept) the other way round
      others : (z : C) → Has (front ++ back) z → Has xs z
      others z h = elim ((p.same_calls z).1 (has_more front back x z h)) [ inl e ↦ absurd (once.1 (subst (Has (front ++ back)) (sym e) h)) | inr k ↦ k ]

      kept : (z : C) → Has xs z → Has (front ++ back) z
      kept z h = elim (has_less front back x z ((p.same_calls z).0 (inr h))) [ inl e ↦ absurd (p.each_once.0.0 (subst (Has xs) (sym e) h)) | inr k ↦ k ]

      passed : (z : C) → Has front z → Apart x z
      passed z h = p.change_places x z (inl (refl, others z (has_front front back z h))) (before_it front back x z h)

      the_rest : Permitted Apart xs (front ++ back)
      the_rest = record {
        each_once = (p.each_once.0.1, once.0);
        same_calls = λ z. (kept z, others z);
        change_places = λ y z b c. p.change_places y z (inr b) (before_more front back x z y c);
      }

      behind : SentBehind r x front
      behind = behind_them r x front g passed

      -- what is heard in the other session before x, and behind it
      abbrev theirs : List (C × A)
      theirs = heard_by step answer (step r x) front

      abbrev later : List (C × A)
      later = heard_by step answer (run_by step (step r x) front) back

      seam : heard_by step answer r (front ++ x ∷ back) ≡ (theirs ++ (x, answer r x) ∷ later)
      seam = heard_append r front (x ∷ back) ∙ (λ i. behind.others_heard i ++ (x, behind.answered i) ∷ heard_by step answer (behind.same_record i) back)

      placed : AlikeBy step answer (step r x) xs (front ++ back) → AlikeBy step answer r (x ∷ xs) (front ++ x ∷ back)
      placed s = record {
        same_end = s.same_end ∙ run_append (step r x) front back ∙ ap (λ (a : Record). run_by step a back) (sym behind.same_record) ∙ sym (run_append r front (x ∷ back));
        same_answers = λ y a. (forth (y, a), back_again (y, a));
      }
        where
          forth : (q : C × A) → Has ((x, answer r x) ∷ heard_by step answer (step r x) xs) q → Has (heard_by step answer r (front ++ x ∷ back)) q
          forth q (inl e) = rw seam (subst (Has (theirs ++ (x, answer r x) ∷ later)) e (has_it theirs later (x, answer r x)))
          forth q (inr h) = rw seam (has_more theirs later (x, answer r x) q (rw (heard_append (step r x) front back) at ((s.same_answers q.0 q.1).0 h)))

          back_again : (q : C × A) → Has (heard_by step answer r (front ++ x ∷ back)) q → Has ((x, answer r x) ∷ heard_by step answer (step r x) xs) q
          back_again q h = elim (has_less theirs later (x, answer r x) q (rw seam at h)) [
            | inl e ↦ inl e
            | inr k ↦ inr ((s.same_answers q.0 q.1).1 (rw (heard_append (step r x) front back) k))
          ]

    in_order_lem : (xs ys : List C) (r : Record) → Good r → Permitted Apart xs ys → AlikeBy step answer r xs ys
    in_order_lem [] [] r g p = record { same_end = refl; same_answers = λ x a. ((λ h. h), λ h. h) }
    in_order_lem [] (y ∷ ys) r g p = absurd ((p.same_calls y).1 (inl refl))
    in_order_lem (x ∷ xs) ys r g p =
        let a = found ys x ((p.same_calls x).0 (inl refl)) in
        let q = subst (Permitted Apart (x ∷ xs)) a.split p in
        subst (AlikeBy step answer r (x ∷ xs)) (sym a.split)
        (placed r x xs a.front a.back g q (in_order_lem xs (a.front ++ a.back) (step r x) (k.stays r x g) (the_rest r x xs a.front a.back g q)))

  pub may_be_reordered : (Apart : C → C → Type 0) (Good : Record → Type 0) → MayBeReordered step answer Apart Good
  may_be_reordered Apart Good k r xs ys g p = in_order_lem Apart Good k xs ys r g p

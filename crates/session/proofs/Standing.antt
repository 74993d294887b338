-- What stands in a list, and what before what: laws of a list into which something is put. Assumes nothing.
use mathlib.Core.Path.{◌≡◌, refl, sym, ap, subst}
use mathlib.Core.Logic.{◌⊎◌, inl, inr}
use mathlib.Core.List.{List, [], ◌∷◌, ◌++◌}
use Rattle.session.specs.Order.{Has, Before, NoneTwice}

module _ {C : Type 0} where
  -- ---- with x put in between

  pub has_more : (front back : List C) (x z : C) → Has (front ++ back) z → Has (front ++ x ∷ back) z
  has_more [] back x z h = inr h
  has_more (b ∷ bs) back x z (inl e) = inl e
  has_more (b ∷ bs) back x z (inr h) = inr (has_more bs back x z h)

  pub has_less : (front back : List C) (x z : C) → Has (front ++ x ∷ back) z → (x ≡ z) ⊎ Has (front ++ back) z
  has_less [] back x z h = h
  has_less (b ∷ bs) back x z (inl e) = inr (inl e)
  has_less (b ∷ bs) back x z (inr h) = elim (has_less bs back x z h) [ inl e ↦ inl e | inr k ↦ inr (inr k) ]

  pub has_it : (front back : List C) (x : C) → Has (front ++ x ∷ back) x
  has_it [] back x = inl refl
  has_it (b ∷ bs) back x = inr (has_it bs back x)

  pub has_front : (front back : List C) (z : C) → Has front z → Has (front ++ back) z
  has_front [] back z h = elim h [ ]
  has_front (b ∷ bs) back z (inl e) = inl e
  has_front (b ∷ bs) back z (inr h) = inr (has_front bs back z h)

  pub before_more : (front back : List C) (x y z : C) → Before (front ++ back) y z → Before (front ++ x ∷ back) y z
  before_more [] back x y z h = inr h
  before_more (b ∷ bs) back x y z (inl (e, h)) = inl (e, has_more bs back x z h)
  before_more (b ∷ bs) back x y z (inr h) = inr (before_more bs back x y z h)

  pub before_it : (front back : List C) (x z : C) → Has front z → Before (front ++ x ∷ back) z x
  before_it [] back x z h = elim h [ ]
  before_it (b ∷ bs) back x z (inl e) = inl (e, has_it bs back x)
  before_it (b ∷ bs) back x z (inr h) = inr (before_it bs back x z h)

  pub once_less : (front back : List C) (x : C) → NoneTwice (front ++ x ∷ back) → NoneTwice (front ++ back) × (Has (front ++ back) x → ⊥)
  once_less [] back x (u, n) = (n, u)
  once_less (b ∷ bs) back x (u, n) =
      let k = once_less bs back x n in
      (((λ h. u (has_more bs back x b h)), k.0), λ h. elim h [ inl e ↦ u (subst (Has (bs ++ x ∷ back)) (sym e) (has_it bs back x)) | inr h ↦ k.1 h ])

  -- ---- of two, both are there

  pub has_former : (l : List C) (y z : C) → Before l y z → Has l y
  has_former [] y z h = elim h [ ]
  has_former (b ∷ bs) y z (inl (e, h)) = inl e
  has_former (b ∷ bs) y z (inr h) = inr (has_former bs y z h)

  pub has_latter : (l : List C) (y z : C) → Before l y z → Has l z
  has_latter [] y z h = elim h [ ]
  has_latter (b ∷ bs) y z (inl (e, h)) = inr h
  has_latter (b ∷ bs) y z (inr h) = inr (has_latter bs y z h)

  -- ---- where something stands

  pub record Stands (l : List C) (x : C) : Type 0 where
    pub front : List C
    pub back : List C
    pub split : l ≡ front ++ x ∷ back

  pub found : (l : List C) (x : C) → Has l x → Stands l x
  found [] x h = elim h [ ]
  found (z ∷ zs) x (inl e) = record { front = []; back = zs; split = ap (λ (y : C). y ∷ zs) e }
  found (z ∷ zs) x (inr h) = let a = found zs x h in record { front = z ∷ a.front; back = a.back; split = ap (λ (l : List C). z ∷ l) a.split }

-- What the tests of `read` say of `frame_read`. Assumes nothing.
use mathlib.Core.Path.{◌≡◌, sym, ap, ◌∙◌}
use mathlib.Core.List.{List}
use Prim.Native.Nat.{ℕ, ◌+◌, ◌≤◌}
use lib.ListN.{length, take, drop, get_or}
use borrow.Author.Tests.{eq-eqb, ne_eqb, le-leb}
use Rattle.frame.specs.declared.reading.Framed.TheVariants.{NoFrame, BadSum, Request}
use Rattle.frame.specs.Sum.{checksum_of}
use Rattle.frame.specs.Frame.{body_read, frame_read}

module _ (f : List ℕ) (l : ℕ) (w : l ≡ get_or f 1 0) (h₁ : 9 ≤ length f) (h₂ : get_or f 0 0 ≡ 0x68) (h₃ : get_or f 3 0 ≡ 0x68) (h₄ : get_or f 1 0 ≡ get_or f 2 0) where
  pub no_length : (length f ≡ l + 6 → ⊥) → NoFrame ≡ frame_read f
  unfolding frame_read
  no_length n = simp (le-leb _ _ h₁, eq-eqb _ _ h₂, eq-eqb _ _ h₃, eq-eqb _ _ h₄, ne_eqb (length f) (get_or f 1 0 + 6) (λ e. n (e ∙ ap (λ (k : ℕ). k + 6) (sym w))))

  module _ (h₅ : length f ≡ l + 6) where
    pub no_end : (get_or f (l + 5) 0 ≡ 0x16 → ⊥) → NoFrame ≡ frame_read f
    unfolding frame_read
    no_end n = simp (← w, le-leb _ _ h₁, eq-eqb _ _ h₂, eq-eqb _ _ h₃, eq-eqb l (get_or f 2 0) (w ∙ h₄), eq-eqb _ _ h₅, ne_eqb _ _ n)

    module _ (h₆ : get_or f (l + 5) 0 ≡ 0x16) where
      pub no_sum : (checksum_of (take l (drop 4 f)) ≡ get_or f (l + 4) 0 → ⊥) → BadSum (get_or f 4 0) ≡ frame_read f
      unfolding frame_read
      no_sum n = simp (← w, le-leb _ _ h₁, eq-eqb _ _ h₂, eq-eqb _ _ h₃, eq-eqb l (get_or f 2 0) (w ∙ h₄), eq-eqb _ _ h₅, eq-eqb _ _ h₆, ne_eqb _ _ n)

      pub whole : checksum_of (take l (drop 4 f)) ≡ get_or f (l + 4) 0 → Request (get_or f 4 0) (body_read (take l (drop 4 f))) ≡ frame_read f
      unfolding frame_read
      whole n = simp (← w, le-leb _ _ h₁, eq-eqb _ _ h₂, eq-eqb _ _ h₃, eq-eqb l (get_or f 2 0) (w ∙ h₄), eq-eqb _ _ h₅, eq-eqb _ _ h₆, eq-eqb _ _ n)

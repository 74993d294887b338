-- One turn, and the end, of the loop over the lines of a recipe: what is gathered and the lines that are left make the whole. Assumes nothing.
use Prim.Native.Nat.{ℕ, ◌+◌, ◌≤◌, ◌<◌}
use mathlib.Core.Path.{◌≡◌, refl, sym, ap, ◌∙◌}
use mathlib.Core.Logic.{◌⊎◌, inl, inr}
use mathlib.Core.Bool.{true, or-true}
use mathlib.Core.List.{List, [], ◌∷◌, ◌++◌, map, map-append, append-nil}
use native.Mathlib.Omega.{arith}
use native.Mathlib.Numerals.{add-one}
use lib.ListN.{length, take, set, length-set}
use lib.Seq.{take-suc-set, append_snoc}
use borrow.Author.Tests.{lt-ltb, le-ltb}
use Rattle.std.specs.Result.{OnOk, IfErr}
use Rattle.std.proofs.Common.{Result, Ok, Err}
use Rattle.std.proofs.lemmas.Result.{on_ok_weaker}
use Rattle.zone.specs.Lists.{some}
use Rattle.card.specs.declared.answers.Refusal.{Refusal}
use Rattle.card.specs.declared.answers.Refusal.TheVariants.{NoRecipe}
use Rattle.texts.specs.Texts.{to, lacking, zoned}
use Rattle.recipes.specs.declared.lines.Cut.{Cut}
use Rattle.recipes.specs.Recipes.{lacks, sendings}
use Rattle.recipes.specs.Inner.{cut_seen, ill_formed, CutOut}

-- as long as the lines are well formed they are cut out, and stand in turn
pub record Well (all rest : List (List ℕ)) (lines : ℕ) (cuts : List Cut) : Type 0 where
  pub few : lines ≤ 64
  pub none_lacks : some lacks rest ≡ some lacks all
  pub cut : map cut_seen (take lines cuts) ++ sendings rest ≡ sendings all

-- and once they are not, all of them are not
abbrev pub Ill : List (List ℕ) → Refusal → Type 0
Ill all why = (why ≡ NoRecipe) × (ill_formed all ≡ true)

pub record Ahead (all rest : List (List ℕ)) (lines : ℕ) (formed : Result Unit Refusal) (cuts : List Cut) : Type 0 where
  pub counted : lines + length rest ≡ length all
  pub places : length cuts ≡ 64
  pub well : OnOk formed (Well all rest lines cuts)
  pub ill : IfErr formed (Ill all)

module _ (all rest rest' : List (List ℕ)) (line : List ℕ) (lines : ℕ) (formed : Result Unit Refusal) (cuts : List Cut) (a : Ahead all rest lines formed cuts) (e : rest ≡ line ∷ rest') where
  -- one line more is cut out
  pub ahead_cut : (cut : Cut) → zoned line ≡ to cut.zone cut.command.now → lines < 64 → Ahead all rest' (lines + 1) formed (set cuts lines cut)
  ahead_cut cut z few = record {
    counted = omega (arith, a.counted, ap length e);
    places = length-set cuts lines cut ∙ a.places;
    well = on_ok_weaker formed more a.well;
    ill = a.ill;
  }
    where
      more : Well all rest lines cuts → Well all rest' (lines + 1) (set cuts lines cut)
      more w = record {
        few = omega arith;
        none_lacks = rw (e, z) at w.none_lacks;
        cut =
            rw (add-one lines, take-suc-set cuts lines cut (omega (arith, a.places)), map-append cut_seen (take lines cuts) (cut ∷ []), append_snoc (map cut_seen (take lines cuts)) (cut_seen cut) (sendings rest'))
            (rw (e, z) at w.cut);
      }

  -- one is found that is too many, or that lacks its zone or its tab
  pub ahead_ill : (64 ≤ lines) ⊎ (zoned line ≡ lacking) → Ahead all rest' (lines + 1) (Err NoRecipe) cuts
  ahead_ill why = record { counted = omega (arith, a.counted, ap length e); places = a.places; well = tt; ill = (refl, by_formed formed a.well a.ill) }
    where
      by_formed : (f : Result Unit Refusal) → OnOk f (Well all rest lines cuts) → IfErr f (Ill all) → ill_formed all ≡ true
      by_formed (Err w) well ill = ill.1
      by_formed (Ok u) well ill =
          elim why [
            | inl many ↦ rw (lt-ltb 64 (length all) (omega (arith, a.counted, ap length e)))
            | inr z ↦ rw (← well.none_lacks, e, z) (or-true _)
          ]

-- no line is left
module _ (all : List (List ℕ)) (lines : ℕ) (formed : Result Unit Refusal) (cuts : List Cut) (a : Ahead all [] lines formed cuts) where
  pub all_counted : lines ≡ length all
  all_counted = omega (arith, a.counted)

  pub cut_out : OnOk formed (CutOut all cuts)
  cut_out = on_ok_weaker formed out a.well
    where
      out : Well all [] lines cuts → CutOut all cuts
      out w = record {
        formed = rw (le-ltb 64 (length all) (omega (arith, all_counted, w.few)), ← w.none_lacks);
        places = a.places;
        cut = rw (← all_counted) (sym (append-nil (map cut_seen (take lines cuts))) ∙ w.cut);
      }

-- Behind the first tab stand the zone, its tab and the command; without any of them the line is unreadable.
use Rattle.std.specs.Prelude.{None, Option}
use Prim.Native.Nat.{ℕ}
use mathlib.Core.Path.{◌≡◌, sym, ap, ◌∙◌}
use mathlib.Core.Bool.{true}
use mathlib.Core.List.{List}
use lib.ListN.{drop}
use borrow.Author.Rules.{part_to_end}
use Rattle.texts.specs.Texts.{zoned}
use Rattle.texts.specs.Inner.{zoned_seen}
use Rattle.journal.specs.Lines.{zoned_asks, text_asks}
use Rattle.journal.specs.Inner.{tabbed}
use Rattle.journal.proofs.Fields.{text_untabbed, text_zoned}
use Rattle.journal.proofs.asking.text.Goals as goal

pub returns-then-not-is_tabbed : goal.returns-then-not-is_tabbed
returns-then-not-is_tabbed c = rw (text_untabbed _ (sym c.is_tabbed.ensures ∙ c.if-not-is_tabbed.true))

-- what is asked, by the zone that was found
asked : (l : List ℕ) (a a' : Option (ℕ × ℕ)) → tabbed (drop 1 l) ≡ true → zoned_seen l a ≡ zoned (drop 2 l) → a ≡ a' → text_asks (drop 1 l) ≡ zoned_asks (zoned_seen l a')
asked l a a' h e q = text_zoned l h ∙ ap zoned_asks (sym e ∙ ap (zoned_seen l) q)

pub returns-in_err-zone : goal.returns-in_err-zone
returns-in_err-zone c = rw (c.from_residual.ensures, asked c.args.line.now c.zone_at.result None (sym c.is_tabbed.ensures ∙ c.if-not-is_tabbed.false) c.zone_at.ensures.result_value c.in_err-zone.was)

pub returns : goal.returns
returns c = rw (asked c.args.line.now c.zone_at.result _ (sym c.is_tabbed.ensures ∙ c.if-not-is_tabbed.false) c.zone_at.ensures.result_value c.in_ok-zone.was, c.read.ensures, part_to_end)

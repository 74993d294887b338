-- There is room for one end more; a zone's end is stored where its window does not open.
use mathlib.Core.Path.{◌≡◌, sym, ◌∙◌}
use native.Mathlib.Omega.{arith}
use lib.ListN.{length}
use borrow.Author.Rules.{rules}
use Rattle.card.proofs.Scans.{length_mapped}
use Rattle.card.proofs.Mending.{gathers_open, gathers_shut, gathers_end}
use Rattle.card.proofs.records.Record.old_ends.Goals as goal
use Rattle.card.proofs.records.Record.old_ends.Goals.{then-not-window_opens, else-not-window_opens}

pub loop-zone-preserved : goal.loop-zone-preserved
loop-zone-preserved c =
    let zs = c.args.self.zones in
    let h : length zs ≡ 16 = search (rules, length_mapped) in
    let t = c.loop-zone in
    elim c.if-not-window_opens.branch [
      | then-not-window_opens w ↦ rw (w.told-is, w.window_end.ensures) (gathers_shut zs t.told.ends t.told.count t.zone _ (omega arith) (omega arith) t.invariant (sym c.window_opens.ensures ∙ w.if-not-window_opens.true))
      | else-not-window_opens w ↦ rw w.told-is (gathers_open zs t.told.ends t.told.count t.zone _ (omega arith) (omega arith) t.invariant (sym c.window_opens.ensures ∙ w.if-not-window_opens.false))
    ]

pub returns : goal.returns
returns c =
    let zs = c.args.self.zones in
    let h : length zs ≡ 16 = search (rules, length_mapped) in
    gathers_end zs c.loop-zone.told.ends c.loop-zone.told.count c.loop-zone.zone (omega arith) c.loop-zone.invariant

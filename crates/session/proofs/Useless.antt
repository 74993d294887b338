-- The card that stores the first command of a session and only acknowledges later ones is shut out: every write that is answered as done is stored, whatever came before, and stays until its group is written again, its zone is removed (by merging too) or its window mended.
-- Cites write_sets of the card, the law that the edit zone/must-fail/stores_first_only breaks. Assumes nothing.
use Rattle.std.specs.Prelude.{Some}
use Prim.Native.Nat.{ℕ}
use mathlib.Core.Path.{◌≡◌, refl, sym, ap, ◌∙◌}
use mathlib.Core.Bool.{Bool, true, false}
use mathlib.Core.List.{List}
use lib.Dec.{eqb}
use borrow.Author.Tests.{eqb-true, eqb-false}
use Rattle.zone.specs.declared.figures.Figures.{Figures}
use Rattle.zone.specs.declared.figures.Group.{Group}
use Rattle.zone.specs.declared.figures.Group.TheVariants.{Ahue}
use Rattle.zone.specs.declared.figures.Command.TheVariants.{Write}
use Rattle.zone.specs.declared.zones.Zone.{Zone}
use Rattle.zone.specs.Table.{index}
use Rattle.zone.specs.Figures.{group_of}
use Rattle.zone.specs.Zones.{figures_of}
use Rattle.zone.proofs.Tests.{never}
use Rattle.card.specs.declared.records.Record.{Record}
use Rattle.card.specs.Answers.{Result}
use Rattle.card.specs.Records.{zone_at}
use Rattle.card.specs.Calls.{apply_of}
use Rattle.card.proofs.Kept.{apply_keeps}
use Rattle.card.proofs.Sets.{write_sets}
use Rattle.wire.specs.Road.{carries_command}
use Rattle.line.specs.Line.{text_road, line_of}
use Rattle.frame.specs.Frame.{frame_road, frame_of, group_indexed}
use Rattle.frame.proofs.Requests.{index_again}
use Rattle.roads.specs.Calls.{answer_text, answer_frame}
use Rattle.session.specs.Sessions.{Call, after, run}
use Rattle.session.specs.Changes.{Becomes, stays, written, was_reported, was_removed, was_added, was_chosen, was_rebooked, was_mended, was_loaded, NotRewritten}
use Rattle.session.specs.Demands.{Present, SetsOnly, EveryWriteIsStored, StaysStored}
use Rattle.session.proofs.Done.{Applied, line_done, frame_done_lem}
use Rattle.session.proofs.InTurn.{in_turn_kept, in_turn_others}
use Rattle.session.proofs.Changes.{becomes}
use Rattle.session.proofs.Lasting.{Kept, kept_throughout}

-- ---- stored, whichever way it came

applied : (r : Record) (n : ℕ) (f : Figures) → (apply_of r n (Write f)).number ≡ 0 → SetsOnly r n f (apply_of r n (Write f)).after
applied r n f d = record { sets = write_sets r n f d; others = (apply_keeps r n (Write f)).others }

came : {o : Result Record} (r : Record) (n : ℕ) (f : Figures) → Applied o r n (Write f) → SetsOnly r n f o.after
came r n f w = rw w.same (applied r n f w.done)

as_line : (r : Record) (n : ℕ) (f : Figures) (room : List ℕ) → carries_command text_road (Write f) ≡ true → (answer_text r n (line_of (Write f)) room).said.number ≡ 0
    → SetsOnly r n f (answer_text r n (line_of (Write f)) room).after
unfolding answer_text
as_line r n f room k e = came r n f (line_done r n (Write f) room k e)

as_frame : (r : Record) (n : ℕ) (f : Figures) (room : List ℕ) → Present r n → carries_command frame_road (Write f) ≡ true → (answer_frame r (frame_of (zone_at r n).address (Write f)) room).said.number ≡ 0
    → SetsOnly r n f (answer_frame r (frame_of (zone_at r n).address (Write f)) room).after
unfolding answer_frame
as_frame r n f room p k e = came r n f (frame_done_lem r n (Write f) room p k e)

pub every_write_is_stored : EveryWriteIsStored
every_write_is_stored r calls n f room = record {
  applied = applied (run r calls) n f;
  as_line = as_line (run r calls) n f room;
  as_frame = as_frame (run r calls) n f room;
}

-- ---- and it stays

-- "The index byte alone names the group": so two groups are the same or not as their indices are
same_group : (g h : Group) {P : Type 0} → (g ≡ h → P) → ((g ≡ h → ⊥) → P) → P
same_group g h {P} f u = by_index (eqb (index g) (index h)) refl
  where
    by_index : (t : Bool) → eqb (index g) (index h) ≡ t → P
    by_index true e = let named : Some g ≡ Some h = sym (index_again g) ∙ ap group_indexed (eqb-true (index g) (index h) e) ∙ index_again h in f (cc)
    by_index false e = u (λ q. eqb-false (index g) (index h) e (ap index q))

one_kept : (n : ℕ) (group : Group) (r : Record) (call : Call) → (zone_at r n).present ≡ true → NotRewritten n group r call → Kept (λ z. figures_of z group) (zone_at r n) (zone_at (after r call) n)
one_kept n group r call p u = by_change (becomes r call n)
  where
    by_change : {z : Zone} → Becomes r n call z → Kept (λ z. figures_of z group) (zone_at r n) z
    by_change (stays s) = rw s (record { present = p; same = refl })
    by_change (written f w q s) = same_group group (group_of f) (λ e. absurd (u.not_written f (sym e) w)) (λ v. record { present = s.head.present ∙ p; same = s.other_groups group v })
    by_change (was_reported state actual w q s) = record { present = s.head.present ∙ p; same = s.groups group }
    by_change (was_removed w q s) = absurd (u.not_removed w)
    by_change (was_added address range w q s) = never (sym q ∙ p)
    by_change (was_chosen source millivolts w q s) = record { present = s.head.present ∙ p; same = s.groups group }
    by_change (was_rebooked kilograms w q s) = record { present = s.head.present ∙ p; same = s.groups group }
    by_change (was_mended window w q s) = same_group group Ahue (λ e. absurd (u.not_mended e window w)) (λ v. record { present = s.head.present ∙ p; same = s.other_groups group v })
    by_change (was_loaded writes w q s) = record {
      present = in_turn_kept (λ z. z.present) (λ z f l k. k.head.present) writes (zone_at r n) _ s ∙ p;
      same = in_turn_others group writes (zone_at r n) _ (u.not_loaded writes w) s;
    }

pub stays_stored : StaysStored
stays_stored r n group calls p u = kept_throughout (λ z. figures_of z group) n (NotRewritten n group) (one_kept n group) r calls p u

-- The setpoint in use, over calls of every kind: what is told of it, what a SOLW does to it, and how long a choice lasts. Assumes nothing.
use Prim.Native.Nat.{ℕ, ◌≤◌}
use mathlib.Core.Path.{◌≡◌, refl, sym, ap, ◌∙◌}
use mathlib.Core.Bool.{Bool, true, false, cond, not}
use mathlib.Core.List.{List, [], ◌∷◌}
use lib.ListN.{length}
use borrow.Author.Tests.{lt-leb}
use Rattle.zone.specs.declared.figures.Figures.{Figures}
use Rattle.zone.specs.declared.figures.Group.TheVariants.{Solw}
use Rattle.zone.specs.declared.figures.Figures.TheVariants.{SolwSetpoint}
use Rattle.zone.specs.declared.figures.SetpointFigures.{SetpointFigures}
use Rattle.zone.specs.declared.sources.Source.{Source}
use Rattle.zone.specs.declared.sources.Source.TheVariants.{Interface, Voltage}
use Rattle.zone.specs.declared.sources.Origin.{Origin}
use Rattle.zone.specs.declared.zones.Zone.{Zone}
use Rattle.zone.specs.Sources as sources
use Rattle.zone.specs.Rules.{SetsFigures, SetsOrigin}
use Rattle.zone.proofs.Tests.{never}
use Rattle.zone.proofs.InUse.{voltage_none, voltage_full, voltage_rises, in_use_within}
use Rattle.card.specs.declared.records.Record.{Record}
use Rattle.card.specs.Records.{zone_at}
use Rattle.card.specs.Answers.{Result}
use Rattle.card.specs.Refusals.{◌gives◌, first}
use Rattle.card.specs.Calls.{choose_source_of, setpoint_told}
use Rattle.card.proofs.Kept.{choose_source_keeps}
use Rattle.card.proofs.Storing.{zone_sound_lem}
use Rattle.card.proofs.Finding.{present_below}
use Rattle.card.proofs.Sets.{write_at_zone, choose_source_at_zone, choose_source_sets, add_sets, read_tells, setpoint_in_use_tells}
use Rattle.roads.specs.Calls.{Answered, said}
use Rattle.session.specs.Sessions.{setpoint_in_use, Call, quiet, answer_to, after}
use Rattle.session.specs.Changes.{Writes, by_apply, by_line, by_frame, Becomes, stays, written, was_reported, was_removed, was_added, was_chosen, was_rebooked, was_mended, was_loaded}
use Rattle.session.specs.Demands.{Present, later}
use Rattle.session.specs.Sources.{InUse, AtVoltage, AsLsolw, SetpointInUse, NeverFalls, ChoicesAreJudged, EveryChoiceCounts, SolwCounts, NotRechosen, StaysChosen, StartsAnew}
use Rattle.session.proofs.InTurn.{in_turn_kept}
use Rattle.session.proofs.Changes.{becomes, sets}
use Rattle.session.proofs.Lasting.{Kept, kept_throughout}
use Rattle.session.proofs.Demand1.{stays_removed}
use Rattle.session.proofs.Demand2.{replies}
use Rattle.session.proofs.Demand3.{stays_sound}
use Rattle.session.proofs.Done.{line_is_done, frame_is_done}

-- ---- what is told

tells : (r : Record) (n : ℕ) → Present r n → InUse r n (sources.setpoint_in_use (zone_at r n))
tells r n p =
    let t = setpoint_in_use_tells r n p.sound_record p.below p.present in
    ap (λ (o : Result Record). record { said = said o.number o.values [] []; after = o.after }) t

-- so that is the one that is told
only : (r : Record) (n setpoint : ℕ) → Present r n → InUse r n setpoint → setpoint ≡ sources.setpoint_in_use (zone_at r n)
only r n setpoint p u =
    let told : setpoint_told setpoint ≡ setpoint_told (sources.setpoint_in_use (zone_at r n)) = ap (λ (a : Answered). a.said.values) (sym u ∙ tells r n p) in
    let same : ◌≡◌ {A = SetpointFigures} (record { setpoint = setpoint }) (record { setpoint = sources.setpoint_in_use (zone_at r n) }) = cc in
    ap (λ (f : SetpointFigures). f.setpoint) same

-- of a zone under either source
by_source : (z : Zone) (chosen : Source) → z.origin.source ≡ chosen → sources.setpoint_in_use z ≡ sources.setpoint_by chosen z
by_source z chosen e = ap (λ (x : Source). sources.setpoint_by x z) e

by_interface : (z : Zone) (f : SetpointFigures) → z.origin.source ≡ Interface → SolwSetpoint z.settings.setpoint ≡ SolwSetpoint f → sources.setpoint_in_use z ≡ f.setpoint
by_interface z f e g =
    let same : z.settings.setpoint ≡ f = cc in
    by_source z Interface e ∙ ap (λ (x : SetpointFigures). x.setpoint) same

at_voltage : (r : Record) (n millivolts : ℕ) → AtVoltage r n millivolts → sources.setpoint_in_use (zone_at r n) ≡ sources.by_voltage millivolts (zone_at r n).range
at_voltage r n millivolts e = by_source (zone_at r n) Voltage (ap (λ (o : Origin). o.source) e) ∙ ap (λ (o : Origin). sources.by_voltage o.millivolts (zone_at r n).range) e

-- what is told of it is what a read of SOLW tells
as_lsolw : (r : Record) (n : ℕ) (room : List ℕ) → Present r n → 32 ≤ length room → (zone_at r n).origin.source ≡ Interface → AsLsolw r n room
as_lsolw r n room p h e =
    let told : setpoint_told (zone_at r n).settings.setpoint.setpoint ≡ (answer_to r (quiet (setpoint_in_use n))).said.values
    = ap setpoint_told (sym (by_source (zone_at r n) Interface e)) ∙ ap (λ (a : Answered). a.said.values) (sym (tells r n p)) in
    let reply = replies r n Solw room p h in
    record {
      applied = (read_tells r n Solw p.sound_record p.below p.present).1 ∙ told;
      by_line = ap (λ (a : Answered). a.said.values) reply.by_line ∙ told;
      by_frame = ap (λ (a : Answered). a.said.values) reply.by_frame ∙ told;
    }

pub setpoint : SetpointInUse
setpoint r n p = record {
  told = tells r n p;
  within = λ s u. rw (only r n s p u) (in_use_within (zone_at r n) p.present (zone_sound_lem r n p.sound_record));
  none = λ e. rw (at_voltage r n 0 e ∙ voltage_none (zone_at r n).range) at (tells r n p);
  full = λ e. rw (at_voltage r n 10000 e ∙ voltage_full (zone_at r n).range) at (tells r n p);
  commanded = λ room h e. as_lsolw r n room p h e;
}

pub never_falls : NeverFalls
never_falls r r' n m m' s s' p p' k e e' h u u' =
    let here = only r n s p u ∙ at_voltage r n m e in
    let there = only r' n s' p' u' ∙ at_voltage r' n m' e' ∙ ap (sources.by_voltage m') k in
    rw (here, there) (voltage_rises m m' (zone_at r n).range h)

-- ---- a done choice

pub choices_judged : ChoicesAreJudged
unfolding choose_source_of
choices_judged r n chosen millivolts p = rw (p.sound_record, lt-leb 16 n p.below, p.present) (by_input (sources.input_in_range millivolts))
  where
    by_input : (t : Bool) → first ((not t gives 9) ∷ []) ≡ cond t 0 9
    by_input true = refl
    by_input false = refl

-- the zone is present in a sound record afterwards, and has its range and its commanded setpoint still
module _ (r : Record) (n : ℕ) (chosen : Source) (millivolts : ℕ) (d : (choose_source_of r n chosen millivolts).number ≡ 0) where
  left : Record
  left = (choose_source_of r n chosen millivolts).after

  origin_set : SetsOrigin (zone_at r n) (record { source = chosen; millivolts = millivolts }) (zone_at left n)
  unfolding left
  origin_set = choose_source_sets r n chosen millivolts d

  chosen_present : Present left n
  unfolding left
  chosen_present =
      let k = choose_source_at_zone r n chosen millivolts d in
      record { sound_record = (choose_source_keeps r n chosen millivolts).stays k.sound_record; below = k.below; present = origin_set.head.present ∙ k.present }

  in_use_then : InUse left n (sources.setpoint_in_use (zone_at left n))
  in_use_then = tells left n chosen_present

pub choice_counts : EveryChoiceCounts
unfolding left
choice_counts r n millivolts = record {
  of_voltage = λ d.
      let s = origin_set r n Voltage millivolts d in
      rw (at_voltage (left r n Voltage millivolts d) n millivolts s.chosen ∙ ap (sources.by_voltage millivolts) s.head.range) at (in_use_then r n Voltage millivolts d);
  of_interface = λ d.
      let s = origin_set r n Interface millivolts d in
      rw (by_interface (zone_at (left r n Interface millivolts d) n) (zone_at r n).settings.setpoint (ap (λ (o : Origin). o.source) s.chosen) (s.groups Solw)) at (in_use_then r n Interface millivolts d);
}

-- ---- a done SOLW

-- it was to a present zone of a sound record
write_present : (r : Record) (n : ℕ) (f : Figures) (call : Call) → Writes n f r call → Present r n
write_present r n f call (by_apply d) = let k = write_at_zone r n f d in record { sound_record = k.sound_record; below = k.below; present = k.present }
write_present r n f call (by_line line room e d) = (line_is_done r n line room d).present
write_present r n f call (by_frame bytes room p e d) =
    let s = (frame_is_done r bytes room d).present.sound_record in
    record { sound_record = s; below = present_below r n s p; present = p }

-- what a write leaves of source, input and range
module _ (before after : Zone) (f : SetpointFigures) (s : SetsFigures before (SolwSetpoint f) after) where
  solw_interface : before.origin.source ≡ Interface → sources.setpoint_in_use after ≡ f.setpoint
  solw_interface e = by_interface after f (ap (λ (o : Origin). o.source) s.origin ∙ e) s.its_group

  solw_voltage : before.origin.source ≡ Voltage → sources.setpoint_in_use after ≡ sources.setpoint_in_use before
  solw_voltage e =
      by_source after Voltage (ap (λ (o : Origin). o.source) s.origin ∙ e)
      ∙ (λ i. sources.by_voltage (s.origin i).millivolts (s.head.range i))
      ∙ sym (by_source before Voltage e)

pub solw_counts : SolwCounts
solw_counts r n f call w =
    let p = write_present r n (SolwSetpoint f) call w in
    let s = (sets r call n).figures_set (SolwSetpoint f) w in
    let p' : Present (after r call) n = record { sound_record = stays_sound r (call ∷ []) p.sound_record; below = p.below; present = s.head.present ∙ p.present } in
    let now = tells (after r call) n p' in
    record {
      by_interface = λ e. rw (solw_interface (zone_at r n) (zone_at (after r call) n) f s e) at now;
      under_voltage = λ e x u. rw (only r n x p u) (rw (solw_voltage (zone_at r n) (zone_at (after r call) n) f s e) at now);
    }

-- ---- how long a choice lasts

one_kept : (n : ℕ) (r : Record) (call : Call) → (zone_at r n).present ≡ true → NotRechosen n r call → Kept (λ z. z.origin) (zone_at r n) (zone_at (after r call) n)
one_kept n r call p u = by_change (becomes r call n)
  where
    by_change : {z : Zone} → Becomes r n call z → Kept (λ z. z.origin) (zone_at r n) z
    by_change (stays s) = rw s (record { present = p; same = refl })
    by_change (written f w q s) = record { present = s.head.present ∙ p; same = s.origin }
    by_change (was_reported state actual w q s) = record { present = s.head.present ∙ p; same = s.origin }
    by_change (was_removed w q s) = absurd (u.not_removed w)
    by_change (was_added address range w q s) = never (sym q ∙ p)
    by_change (was_chosen chosen millivolts w q s) = absurd (u.not_chosen chosen millivolts w)
    by_change (was_rebooked kilograms w q s) = record { present = s.head.present ∙ p; same = s.origin }
    by_change (was_mended window w q s) = record { present = s.head.present ∙ p; same = s.origin }
    by_change (was_loaded writes w q s) = record {
      present = in_turn_kept (λ z. z.present) (λ z f l k. k.head.present) writes (zone_at r n) _ s ∙ p;
      same = in_turn_kept (λ z. z.origin) (λ z f l k. k.origin) writes (zone_at r n) _ s;
    }

pub stays_chosen : StaysChosen
stays_chosen r n calls p u = kept_throughout (λ z. z.origin) n (NotRechosen n) (one_kept n) r calls p u

pub starts_anew : StartsAnew
starts_anew r n removal calls w u = record {
  absent = ap (λ (z : Zone). z.origin) (stays_removed r n removal calls w u);
  added = λ address range e. ap (λ (z : Zone). z.origin) (add_sets (later r removal calls) n address range e);
}

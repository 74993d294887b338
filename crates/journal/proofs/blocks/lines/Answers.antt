-- A turn writes what its line yields behind the output so far and stores the zone that the line leaves; the rest of the block is still to come.
use Prim.Native.Nat.{ℕ, ◌+◌, ◌-◌, ◌≤◌, ◌<◌}
use mathlib.Core.Path.{◌≡◌, sym, ap, ◌∙◌}
use native.Mathlib.Omega.{arith}
use lib.ListN.{length, take, drop, length-drop}
use lib.Seq.{length-take-le}
use Rattle.card.specs.Records.{sound, with_zone, zone_at, find_of}
use Rattle.card.specs.Answers.{number_of, values_of}
use Rattle.card.specs.Inner.{answer_by, after_by}
use Rattle.card.proofs.Inner.{unaltered}
use Rattle.texts.proofs.Parts.{turn_ended, turn_begun, last_ended, last_begun}
use Rattle.std.proofs.Common.{Option, Some, None}
use Rattle.std.specs.Option.{MatchOption}
use Rattle.card.specs.declared.records.Record.{Record}
use Rattle.journal.specs.Journal.{Yield, line_yields}
use Rattle.journal.specs.Inner.{sought_of, look_up, output_of}
use Rattle.journal.proofs.Judged.{sound_kept, turn_yields}
use Rattle.journal.proofs.Bounds.{eight_so_far}
use Rattle.journal.proofs.Texts.{ahead_turn, ahead_none, written_on, fits_behind}
use borrow.Author.Rules.{rules}
use Rattle.journal.proofs.blocks.lines.Goals as goal
use Rattle.journal.proofs.blocks.lines.Goals.{then-alters, else-alters}

-- the record is searched where an address is sought
sought_by : {P : ℕ → Type 0} (r : Record) (s found : Option ℕ) → MatchOption s (found ≡ None) P → ((address : ℕ) → P address → found ≡ find_of r address) → found ≡ look_up r s
sought_by r None found h f = h
sought_by r (Some address) found h f = f address h

pub loop-reader-preserved : goal.loop-reader-preserved
loop-reader-preserved c =
    let t = c.loop-reader in
    let block = c.args.block.now in
    let end = c.line_end-end.result in
    let h : end < length block = c.if-block-end.false in
    let line = take (end - t.at) (drop t.at block) in
    let entry = c.asks-entry.result in
    let n = c.place-n.result in
    let v = c.judged-verdict.result in
    let k = c.put_judged-filled.result in
    let small : k ≤ 40 = c.put_judged-filled.ensures.upper_bound in
    let room : t.filled + 40 ≤ length t.out = fits_behind t.at t.filled block t.out t.invariant.0 t.invariant.1 (rw t.invariant.2 c.requires) in
    -- where the entry looks, and what is stored there
    let sought : c.and_then-found.result ≡ look_up t.r (sought_of entry) = sought_by t.r c.whom.result _ c.and_then-found.ensures (λ address p. search rules) ∙ ap (λ (x : Option ℕ). look_up t.r x) c.whom.ensures in
    let zone_stored : c.if-alters.r ≡ with_zone t.r n (after_by v (zone_at t.r n)) =
    elim c.if-alters.branch [ then-alters w ↦ w.r-is ∙ rw w.after.ensures | else-alters w ↦ w.r-is ∙ sym (unaltered t.r n v (sym c.alters.ensures ∙ w.if-alters.false)) ] in
    -- so the line is judged as it is to be
    let yields : line_yields t.r line ≡ record { output = output_of entry (number_of (answer_by v)) (values_of (answer_by v)); after = c.if-alters.r } =
    turn_yields t.r c.if-alters.r line c.is_sound-fit.result entry c.and_then-found.result n v c.asks-entry.ensures sought c.place-n.ensures.value t.invariant.3 c.judged-verdict.ensures zone_stored in
    let wide : length line ≡ end - t.at = length-take-le (end - t.at) (drop t.at block) (rw length-drop (omega arith)) in
    let within = eight_so_far entry _ _ line _ _ t.at end t.filled k c.asks-entry.ensures wide (omega (arith, c.line_end-end.ensures)) c.put_judged-filled.ensures.filled t.invariant.1 in
    let sound_still = t.invariant.3 ∙ sym (sound_kept t.r line) ∙ ap (λ (y : Yield). sound y.after) yields in
    let ahead = ahead_turn c.args.given t.r c.if-alters.r block (take t.filled t.out) _ (drop t.at block) (drop (end + 1) block) line _
    t.invariant.4
    (turn_ended block t.at end t.invariant.0 c.line_end-end.ensures h)
    (turn_begun block t.at end t.invariant.0 c.line_end-end.ensures h)
    yields
    (written_on t.out _ _ t.filled k (omega arith) c.put_judged-filled.ensures.filled) in
    (omega arith, omega (arith, within), search rules, sound_still, ahead)

-- ---- the end of the block

pub returns : goal.returns
returns c =
    let t = c.loop-reader in
    let block = c.args.block.now in
    let end = c.line_end-end.result in
    let none = last_ended block t.at end t.invariant.0 c.line_end-end.ensures c.if-block-end.true in
    let rest = last_begun block t.at end t.invariant.0 c.line_end-end.ensures c.if-block-end.true in
    let all = ahead_none c.args.given t.r block (take t.filled t.out) (drop t.at block) t.invariant.4 none in
    record {
      output = sym all.1;
      after = sym all.0;
      rest = sym (t.invariant.4.rest ∙ rest);
      taken_fits = t.invariant.0;
      filled_fits = omega (arith, t.invariant.0, t.invariant.1);
    }

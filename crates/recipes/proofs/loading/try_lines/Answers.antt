-- A line is what came of it at its zone: where it is refused the rest is not tried, and else it is one more that was done.
use Prim.Native.Nat.{ℕ, ◌+◌, ◌-◌, ◌<◌}
use mathlib.Core.Path.{◌≡◌, refl, sym, ap, ◌∙◌}
use mathlib.Core.List.{List, map}
use native.Mathlib.Omega.{arith}
use lib.ListN.{length, take, get_or, set, length-map}
use Rattle.card.specs.declared.answers.Answer.{Answer}
use Rattle.card.specs.declared.judgements.Verdict.{Verdict}
use Rattle.card.specs.declared.judgements.Verdict.TheVariants.{Refuses}
use Rattle.card.specs.declared.records.Record.{Record}
use Rattle.card.specs.Answers.{Result, number_of, values_of}
use Rattle.card.specs.Records.{zone_at, with_zone}
use Rattle.card.specs.Inner.{answer_by, after_by}
use Rattle.card.proofs.Inner.{same_zone}
use Rattle.recipes.specs.Inner.{cut_seen, told}
use Rattle.recipes.proofs.Turns.{came, placed, ahead_next, ahead_stop, ahead_over, cut_next, told_more, refused_above, answers_zero}
use Rattle.recipes.proofs.loading.try_lines.Goals as goal
use Rattle.recipes.proofs.loading.try_lines.Goals.{in-Tells, in-Writes, in_default}

-- what a line comes to by the verdict of its zone
abbrev outcome : Record → ℕ → Verdict → Result Record
outcome r n v = record { number = number_of (answer_by v); values = values_of (answer_by v); after = with_zone r n (after_by v (zone_at r n)) }

pub returns-in-Refuses-clause-stopped : goal.returns-in-Refuses-clause-stopped
returns-in-Refuses-clause-stopped c =
    let t = c.loop-k in
    let all = map cut_seen c.args.cuts.now in
    let line = cut_seen (get_or c.args.cuts.now t.k _) in
    let n = c.one_of_sixteen.result in
    let v : Verdict = Refuses c.in-Refuses.why in
    let next = cut_next c.args.cuts.now t.k _ c.loop-k-test.true in
    let comes = came t.r line c.read-reading.result n c.asked_of.result v t.invariant.1.sound_still c.read-reading.ensures c.one_of_sixteen.ensures c.asked_of.ensures c.in-Refuses.ensures in
    let place = placed t.r line c.read-reading.result n _ c.place_of.result c.read-reading.ensures c.one_of_sixteen.ensures (ap (λ (x : Result Record). x.number) comes) c.place_of.ensures in
    let stop = ahead_stop c.args.r.now all t.r (map told (take t.k t.answers)) t.k line t.invariant.1 next (outcome t.r n v) c.place_of.result comes (λ z. absurd (omega (arith, refused_above c.in-Refuses.why, z))) place in
    let before : t.k ≡ t.k + 1 - 1 = omega arith in
    rw stop (record { number = refl; line = refl; place = refl; done = ap (λ k. map told (take k t.answers)) before; after = sym (same_zone t.r n) })

pub loop-k-preserved : goal.loop-k-preserved
loop-k-preserved c =
    let t = c.loop-k in
    let all = map cut_seen c.args.cuts.now in
    let line = cut_seen (get_or c.args.cuts.now t.k _) in
    let n = c.one_of_sixteen.result in
    let v = c.heard-verdict.result in
    let next = cut_next c.args.cuts.now t.k _ c.loop-k-test.true in
    let comes = came t.r line c.read-reading.result n c.asked_of.result v t.invariant.1.sound_still c.read-reading.ensures c.one_of_sixteen.ensures c.asked_of.ensures c.heard-verdict.ensures in
    -- what comes of the zone is stored
    let zone_stored : c.match-verdict.r ≡ (outcome t.r n v).after =
    elim c.match-verdict.branch [
      | in-Tells w ↦ w.r-is ∙ ap (λ x. with_zone t.r n (after_by x (zone_at t.r n))) (sym w.in-Tells.is)
      | in-Writes w ↦ w.r-is ∙ rw w.with_figures.ensures (ap (λ x. with_zone t.r n (after_by x (zone_at t.r n))) (sym w.in-Writes.is))
      | in_default w ↦ w.r-is ∙ rw w.after.ensures
    ] in
    -- and what the line is answered is kept; a write's answer is Done
    let keeping : Answer → List Answer = set t.answers t.k in
    let answer_kept : c.match-verdict.answers ≡ keeping (answer_by v) =
    elim c.match-verdict.branch [
      | in-Tells w ↦ w.answers-is ∙ ap keeping (ap answer_by (sym w.in-Tells.is))
      | in-Writes w ↦ w.answers-is ∙ ap keeping (ap answer_by (sym w.in-Writes.is))
      | in_default w ↦ w.answers-is ∙ ap keeping w.answer.ensures
    ] in
    let zero : (outcome t.r n v).number ≡ 0 =
    elim c.match-verdict.branch [
      | in-Tells w ↦ ap (λ x. number_of (answer_by x)) w.in-Tells.is
      | in-Writes w ↦ ap (λ x. number_of (answer_by x)) w.in-Writes.is
      | in_default w ↦ answers_zero v w.in_default.not-Refuses
    ] in
    let few : t.k < 64 = omega (arith, c.requires.1) in
    let more = told_more t.answers t.k (answer_by v) (omega (arith, t.invariant.0, few)) in
    let ahead = ahead_next c.args.r.now all t.r (map told (take t.k t.answers)) t.k line t.invariant.1 next (outcome t.r n v) _ comes zero more in
    (c.match-verdict.array_long, rw (answer_kept, zone_stored) ahead)

pub returns-clause-done : goal.returns-clause-done
returns-clause-done c =
    let t = c.loop-k in
    let over : t.k ≡ length c.args.cuts.now = omega arith in
    rw (← over) (ahead_over c.args.r.now (map cut_seen c.args.cuts.now) t.r (map told (take t.k t.answers)) t.k t.invariant.1 (omega (arith, length-map c.args.cuts.now cut_seen)))

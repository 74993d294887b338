-- A line is one more that is cut out, or what is wrong; and where none is left, all are.
use Prim.Native.Nat.{◌-◌}
use mathlib.Core.Path.{sym, ap}
use mathlib.Core.Logic.{inl, inr}
use native.Mathlib.Omega.{arith}
use lib.ListN.{length, drop, length-drop}
use lib.Seq.{take_all}
use Rattle.texts.specs.Texts.{lines_of}
use Rattle.texts.proofs.Turns.{few_lines}
use Rattle.recipes.proofs.Surveys.{ahead_cut, ahead_ill, all_counted, cut_out}
use Rattle.recipes.proofs.lines.survey.Goals as goal
use Rattle.recipes.proofs.lines.survey.Goals.{in-Some-zone_at, in_default-2, in_default}

pub overflow_add-lines : goal.overflow_add-lines
overflow_add-lines c = omega (arith, few_lines c.args.recipe.now, c.loop-line.invariant.counted, ap length c.in-Some.ensures.steps)

pub loop-line-preserved : goal.loop-line-preserved
loop-line-preserved c =
    let all = lines_of c.args.recipe.now in
    let t = c.loop-line in
    let line = c.in-Some.line.now in
    let next = c.in-Some.ensures.steps in
    elim c.match-zone_at.branch [
      | in-Some-zone_at w ↦ rw (w.cuts-is, w.formed-is) (ahead_cut all _ _ line t.lines t.formed t.cuts t.invariant next _ (rw (take_all (length line - w.in-Some-zone_at.start) (drop w.in-Some-zone_at.start line) (rw length-drop (omega arith))) (sym w.in-Some-zone_at.ensures.result_value)) w.if-lines-lt64.true)
      | in_default-2 w ↦ rw (w.cuts-is, w.formed-is) (ahead_ill all _ _ line t.lines t.formed t.cuts t.invariant next (inl w.if-lines-lt64.false))
      | in_default w ↦ rw (w.cuts-is, w.formed-is) (ahead_ill all _ _ line t.lines t.formed t.cuts t.invariant next (inr (sym (rw w.in_default.is at c.zone_at.ensures.result_value))))
    ]

pub returns-clause-lines : goal.returns-clause-lines
returns-clause-lines c =
    let t = c.loop-line in
    all_counted (lines_of c.args.recipe.now) t.lines t.formed t.cuts (rw c.in-None.ensures.steps.0 at t.invariant)

pub returns-clause-cut : goal.returns-clause-cut
returns-clause-cut c =
    let t = c.loop-line in
    cut_out (lines_of c.args.recipe.now) t.lines t.formed t.cuts (rw c.in-None.ensures.steps.0 at t.invariant)

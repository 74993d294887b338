-- The refusal and its meaning, and behind them the line, if one was refused.
use native.Mathlib.Omega.{arith}
use borrow.Author.Tests.{ne_eqb}
use Rattle.saying.proofs.Wrote.{joined}
use Rattle.saying.proofs.loading.write_refused.Goals as goal

pub returns-then-loaded-ne0 : goal.returns-then-loaded-ne0
returns-then-loaded-ne0 c = record {
  wrote =
      rw (ne_eqb _ _ c.if-loaded-ne0.true)
      (joined (rw c.number.ensures at c.write_refusal.ensures.wrote) (joined c.write_meant.ensures.wrote (rw c.line_behind-line.ensures.result_value at c.write_refused_line.ensures.wrote)));
  short = omega arith;
}

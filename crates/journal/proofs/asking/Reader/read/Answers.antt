-- Too long or empty, the line cannot be read; otherwise each arm is the letter's case, and the last has none of the five letters.
use native.Mathlib.Omega.{arith}
use borrow.Author.Tests.{ne_eqb}
use Rattle.journal.specs.Lines.{N, X, M, T, F}
use Rattle.journal.proofs.Fields.{line_long, line_empty, line_letter}
use Rattle.journal.proofs.asking.Reader.read.Goals as goal

pub returns-then-line-gt600 : goal.returns-then-line-gt600
returns-then-line-gt600 c = rw (line_long _ c.if-line-gt600.true)

pub returns-in_err-first : goal.returns-in_err-first
returns-in_err-first c = rw (c.from_residual.ensures, line_empty c.args.line.now c.in_err-first.ensures.value)

pub returns-in-78 : goal.returns-in-78
returns-in-78 c = rw (line_letter c.args.line.now _ (omega arith) c.in_ok-first.ensures.value, c.in-78.is) c.add.ensures

pub returns-in-88 : goal.returns-in-88
returns-in-88 c = rw (line_letter c.args.line.now _ (omega arith) c.in_ok-first.ensures.value, c.in-88.is) c.remove.ensures

pub returns-in-77 : goal.returns-in-77
returns-in-77 c = rw (line_letter c.args.line.now _ (omega arith) c.in_ok-first.ensures.value, c.in-77.is) c.report.ensures

pub returns-in-84 : goal.returns-in-84
returns-in-84 c = rw (line_letter c.args.line.now _ (omega arith) c.in_ok-first.ensures.value, c.in-84.is) c.text.ensures

pub returns-in-70 : goal.returns-in-70
returns-in-70 c = rw (line_letter c.args.line.now _ (omega arith) c.in_ok-first.ensures.value, c.in-70.is) c.frame.ensures

pub returns-in_default : goal.returns-in_default
returns-in_default c =
    let x = c.in_ok-first.field-0.now in
    rw (line_letter c.args.line.now _ (omega arith) c.in_ok-first.ensures.value, ne_eqb x N (λ e. omega arith), ne_eqb x X (λ e. omega arith), ne_eqb x M (λ e. omega arith), ne_eqb x T (λ e. omega arith), ne_eqb x F (λ e. omega arith))

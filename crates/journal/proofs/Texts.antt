-- One turn of the loop at a time: what is written behind the output so far, and the lines of the block that are still to come. Assumes nothing.
use Prim.Native.Nat.{ℕ, ◌+◌, ◌-◌, ◌*◌, ◌≤◌}
use mathlib.Core.Path.{◌≡◌, refl, ◌∙◌}
use mathlib.Core.List.{List, [], ◌∷◌, ◌++◌, append_assoc, append-nil}
use native.Mathlib.Omega.{arith}
use lib.ListN.{length, take, drop, length-append}
use lib.Seq.{length-take-le, take_at}
use borrow.Rule.Slice.PartMut.{put_mid}
use Rattle.card.specs.declared.records.Record.{Record}
use Rattle.wire.specs.Room.{placed, Filled}
use Rattle.wire.proofs.Room.{lent_part}
use Rattle.texts.specs.Texts.{ended, begun}
use Rattle.journal.specs.Journal.{line_yields, lines_yield}
use Rattle.journal.specs.declared.blocks.Done.{Done}
use Rattle.journal.specs.Blocks.{fed, kept_seen}
use Rattle.journal.specs.Inner.{Worked}

-- ---- what was written behind the output so far

pub written_on : (out l part : List ℕ) (filled k : ℕ) → filled + k ≤ length out → Filled l (take (length out - filled) (drop filled out)) part k
    → take (filled + k) (put_mid filled (length out - filled) out part) ≡ take filled out ++ l
unfolding placed
written_on out l part filled k h f =
    let fits : filled + length l ≤ length out = omega (arith, f.count) in
    let front : length (take filled out ++ l) ≡ filled + k = rw (length-append, length-take-le filled out (omega arith)) (omega (arith, f.count)) in
    rw (lent_part out l part filled fits f.contents) (take_at (take filled out ++ l) (drop (filled + length l) out) (filled + k) front)

-- ---- the lines of a block, before and after a turn

-- what is still to come of the block, from a record and a text on
pub record Ahead (given : Record) (block : List ℕ) (r : Record) (written text : List ℕ) : Type 0 where
  pub after : (lines_yield given (ended block)).after ≡ (lines_yield r (ended text)).after
  pub output : (lines_yield given (ended block)).output ≡ written ++ (lines_yield r (ended text)).output
  pub rest : begun block ≡ begun text

pub ahead_all : (given : Record) (block : List ℕ) → Ahead given block given [] block
ahead_all given block = record { after = refl; output = refl; rest = refl }

pub ahead_turn : (given r r' : Record) (block written written' text text' line l : List ℕ) → Ahead given block r written text
    → ended text ≡ line ∷ ended text' → begun text ≡ begun text' → line_yields r line ≡ record { output = l; after = r' } → written' ≡ written ++ l
    → Ahead given block r' written' text'
unfolding lines_yield
ahead_turn given r r' block written written' text text' line l a e b y w = record {
  after = a.after ∙ rw (e, lines_yield, y);
  output = a.output ∙ rw (e, lines_yield, y, w, append_assoc written l (lines_yield r' (ended text')).output);
  rest = a.rest ∙ b;
}

pub ahead_none : (given r : Record) (block written text : List ℕ) → Ahead given block r written text → ended text ≡ []
    → ((lines_yield given (ended block)).after ≡ r) × ((lines_yield given (ended block)).output ≡ written)
unfolding lines_yield
ahead_none given r block written text a e = (a.after ∙ rw e, a.output ∙ rw (e, append-nil written))

-- ---- room for one more line

pub fits_behind : (at filled : ℕ) (block out : List ℕ) → at ≤ length block → filled ≤ 8 * at → 8 * length block + 40 ≤ length out → filled + 40 ≤ length out
fits_behind at filled block out h f k = omega arith

-- ---- a block, and what is kept of it

pub fed_seen : (given : Record) (text out buffer : List ℕ) (o : Done) (held : ℕ) → Worked given text out o → take held buffer ≡ take 601 (drop o.taken text)
    → kept_seen (record { after = o.after; held = held; filled = o.filled }) out buffer ≡ fed given text
unfolding fed
fed_seen given text out buffer o held w k = rw (w.output, w.after, k, w.rest)

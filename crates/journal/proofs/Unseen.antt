-- What a log yields does not hang on the sources of the sound record that it starts from: none of its calls is answered by them. Assumes nothing.
use Prim.Native.Nat.{ℕ}
use mathlib.Core.Path.{◌≡◌, refl, ap}
use mathlib.Core.Bool.{false}
use mathlib.Core.List.{List, [], ◌∷◌, ◌++◌}
use Rattle.card.specs.declared.records.Record.{Record}
use Rattle.roads.specs.Calls.{Said, reply_in}
use Rattle.session.specs.Sessions.{text, frame, add, remove, report, Call, in_room, quiet, answer_to}
use Rattle.session.specs.Sources.{of_source, Alike}
use Rattle.session.proofs.Unseen.{one_unseen}
use Rattle.texts.specs.Numbers.{in_hex}
use Rattle.journal.specs.Lines.{Asks, adds, removes, reports, says, frames, unreadable, N, X, M, T, F, asks_of}
use Rattle.journal.specs.Journal.{lent, output_line, Yield, shown, as_it_is, yield_of, line_yields, lines_yield}
use Rattle.journal.specs.Rules.{LogUnseen}

record Same (y y' : Yield) : Type 0 where
  output : y.output ≡ y'.output
  left : Alike y.after y'.after

shown_same : (r r' : Record) (letter : ℕ) (written : List ℕ → List ℕ) (call : Call) → of_source call ≡ false → Alike r r' → Same (shown letter written (answer_to r call)) (shown letter written (answer_to r' call))
shown_same r r' letter written call e a =
    let k = one_unseen r r' call a e in
    record { output = ap (λ (s : Said). output_line letter s.number (written (reply_in s))) k.0; left = k.1 }

line_same : (r r' : Record) (asks : Asks) → Alike r r' → Same (yield_of r asks) (yield_of r' asks)
line_same r r' (adds n address range) a = shown_same r r' N as_it_is (quiet (add n address range)) refl a
line_same r r' (removes n) a = shown_same r r' X as_it_is (quiet (remove n)) refl a
line_same r r' (reports n state actual) a = shown_same r r' M as_it_is (quiet (report n state actual)) refl a
line_same r r' (says n line) a = shown_same r r' T as_it_is (in_room (text n line) lent) refl a
line_same r r' (frames bytes) a = shown_same r r' F in_hex (in_room (frame bytes) lent) refl a
line_same r r' unreadable a = record { output = refl; left = a }

pub log_unseen : LogUnseen
unfolding lines_yield line_yields
log_unseen r r' [] a = refl
log_unseen r r' (line ∷ lines) a =
    let k = line_same r r' (asks_of line) a in
    let rest = log_unseen (line_yields r line).after (line_yields r' line).after lines k.left in
    λ i. k.output i ++ rest i

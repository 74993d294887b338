-- Laws of a line, as its readers cite them: a decimal behind a tab and what follows it, a command's text, a frame's digits, the letter. Assumes nothing.
use Rattle.std.specs.Prelude.{None, Option, Some}
use mathlib.Core.Path.{◌≡◌, refl, sym, ◌∙◌}
use mathlib.Core.Bool.{true, false}
use mathlib.Core.List.{List, [], ◌∷◌}
use Prim.Native.Nat.{ℕ, suc, ◌-◌, ◌≤◌, ◌<◌}
use native.Mathlib.Omega.{arith}
use lib.ListN.{length, take, drop, drop_of_length-le}
use lib.Seq.{drop-cons}
use borrow.Author.Rules.{part_to_end}
use borrow.Author.Tests.{lt-ltb, le-ltb}
use Rattle.std.specs.List.{slice_get}
use Rattle.std.proofs.lemmas.Option.{none-some, same_Some}
use Rattle.zone.proofs.Tests.{never}
use Rattle.wire.specs.Road.{Numbers, are, none, join}
use Rattle.texts.specs.Numbers.{bytes_read}
use Rattle.texts.specs.Texts.{zoned}
use Rattle.journal.specs.Lines.{unreadable, decimals, zoned_asks, text_asks, bytes_ask, frame_asks, letter_asks, asks_of}
use Rattle.texts.specs.Inner.{numeral_at}
use Rattle.journal.specs.Inner.{tabbed}
use Rattle.texts.proofs.Fields.{opened, behind}

-- decimals, one at a time
abbrev joined : ℕ → Option ℕ → List ℕ → Numbers
joined k f d = join f (decimals k d)

decimals_opened : (k : ℕ) (d : List ℕ) → decimals (suc k) d ≡ opened (joined k) d
unfolding decimals
decimals_opened k [] = refl
decimals_opened k (x ∷ d) = refl

pub no_decimal : (k : ℕ) (l : List ℕ) (at : ℕ) → numeral_at l at ≡ None → decimals (suc k) (drop at l) ≡ none
no_decimal k l at h = decimals_opened k (drop at l) ∙ behind (joined k) (λ d. refl) l at ∙ rw h

pub decimal_behind : (k : ℕ) (l : List ℕ) (at v e : ℕ) → numeral_at l at ≡ Some (v, e)
    → decimals (suc k) (drop at l) ≡ join (Some v) (decimals k (drop e l))
decimal_behind k l at v e h = decimals_opened k (drop at l) ∙ behind (joined k) (λ d. refl) l at ∙ rw h

pub no_more : (l : List ℕ) (e : ℕ) → length l ≤ e → decimals 0 (drop e l) ≡ are []
unfolding decimals
no_more l e h = rw (drop_of_length-le l h)

pub too_many : (l : List ℕ) (e : ℕ) → e < length l → decimals 0 (drop e l) ≡ none
unfolding decimals
too_many l e h = rw (drop-cons l e 0 h)

-- without a tab behind the letter there is nothing to read
pub text_untabbed : (d : List ℕ) → tabbed d ≡ false → text_asks d ≡ unreadable
unfolding text_asks
text_untabbed [] h = refl
text_untabbed (x ∷ d) h = rw h

pub frame_untabbed : (d : List ℕ) → tabbed d ≡ false → frame_asks d ≡ unreadable
unfolding frame_asks
frame_untabbed [] h = refl
frame_untabbed (x ∷ d) h = rw h

-- a command's text
pub text_zoned : (l : List ℕ) → tabbed (drop 1 l) ≡ true → text_asks (drop 1 l) ≡ zoned_asks (zoned (drop 2 l))
unfolding text_asks
text_zoned [] h = never h
text_zoned (letter ∷ []) h = never h
text_zoned (letter ∷ x ∷ l) h = rw h

-- a frame's digits
pub frame_long : (l : List ℕ) → tabbed (drop 1 l) ≡ true → 524 < length l → frame_asks (drop 1 l) ≡ unreadable
unfolding frame_asks
frame_long [] h long = never h
frame_long (letter ∷ []) h long = never h
frame_long (letter ∷ x ∷ digits) h long = rw (h, lt-ltb 522 (length digits) (omega arith))

pub frame_digits : (l : List ℕ) → tabbed (drop 1 l) ≡ true → length l ≤ 524 → (ns : Numbers) → ns ≡ bytes_read (take (length l - 2) (drop 2 l)) → frame_asks (drop 1 l) ≡ bytes_ask ns
unfolding frame_asks
frame_digits [] h fits ns e = never h
frame_digits (letter ∷ []) h fits ns e = never h
frame_digits (letter ∷ x ∷ digits) h fits ns e = rw (h, le-ltb 522 (length digits) (omega arith), e, part_to_end (letter ∷ x ∷ digits) 2)

-- the letter
pub line_long : (l : List ℕ) → 600 < length l → asks_of l ≡ unreadable
unfolding asks_of
line_long l h = rw (lt-ltb 600 (length l) h)

pub line_empty : (l : List ℕ) → None ≡ slice_get l 0 → asks_of l ≡ unreadable
unfolding asks_of
line_empty [] h = refl
line_empty (x ∷ l) h = absurd (none-some x h)

pub line_letter : (l : List ℕ) (x : ℕ) → length l ≤ 600 → Some x ≡ slice_get l 0 → asks_of l ≡ letter_asks x (drop 1 l)
unfolding asks_of
line_letter [] x h k = absurd (none-some x (sym k))
line_letter (y ∷ l) x h k = rw (le-ltb 600 (length (y ∷ l)) h, same_Some x y k)

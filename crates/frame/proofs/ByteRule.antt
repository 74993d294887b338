-- The rule for a figure's bytes, once over their number: written and read they are the figure, and read and written the bytes. Assumes nothing.
use mathlib.Core.Path.{◌≡◌, refl, sym, ap, ◌∙◌}
use mathlib.Core.List.{List, [], ◌∷◌, ◌++◌, append_assoc}
use Prim.Native.Nat.{ℕ, zero, suc, ◌+◌, ◌*◌, ◌/◌, ◌%◌, ◌^◌, ◌≤◌, ◌<◌}
use native.Mathlib.Omega.{arith}
use native.Mathlib.Nat.{pow-suc, pow-zero, mod-one, mod-eq_of_lt, add-zero, add-mul-mod_self_left, add-mul-div_left, div-eq_of_lt, zero-add, pow-le-pow_right}
use native.Mathlib.Numerals.{add-one}
use lib.Arith.{mod-mul}
use lib.Dec.{lit<}
use lib.ListN.{length, drop, get_or, length-append}
use lib.Seq.{get_or-append_seam, drop-cons}
use Rattle.frame.specs.Frame.{bytes_of, number_at}
use Rattle.frame.specs.Rules.{Bytes}

byte_pos : (w : ℕ) → 0 < 256 ^ w
byte_pos w = pow-le-pow_right {n = 256} (lit< tt) {i = 0} {j = w} (omega arith)

pub bytes_length : (w n : ℕ) → length (bytes_of w n) ≡ w
bytes_length zero n = refl
bytes_length (suc w) n = ap suc (bytes_length w (n / 256))

-- behind any bytes, and before any others
number_mod : (w n : ℕ) (pre rest : List ℕ) → number_at w (pre ++ (bytes_of w n ++ rest)) (length pre) ≡ n % 256 ^ w
number_mod zero n pre rest = sym (ap (λ (k : ℕ). n % k) (pow-zero 256) ∙ mod-one n)
number_mod (suc w) n pre rest =
    let b : List ℕ = bytes_of w (n / 256) ++ rest in
    let next : length (pre ++ (n % 256 ∷ [])) ≡ length pre + 1 = length-append pre (n % 256 ∷ []) in
    let more : number_at w (pre ++ (n % 256 ∷ b)) (length pre + 1) ≡ n / 256 % 256 ^ w =
    rw (← next, ← append_assoc pre (n % 256 ∷ []) b) (number_mod w (n / 256) (pre ++ (n % 256 ∷ [])) rest) in
    rw (get_or-append_seam pre (n % 256) b 0, more, pow-suc 256 w, mod-mul n {m = 256 ^ w} {c = 256} (byte_pos w) (lit< tt)) (omega arith)

pub number_reads : (w n : ℕ) (pre rest : List ℕ) → n < 256 ^ w → number_at w (pre ++ (bytes_of w n ++ rest)) (length pre) ≡ n
number_reads w n pre rest h = number_mod w n pre rest ∙ mod-eq_of_lt h

pub number_only : (w at : ℕ) (b : List ℕ) → Bytes b → at + w ≤ length b
    → (drop at b ≡ bytes_of w (number_at w b at) ++ drop (at + w) b) × (number_at w b at < 256 ^ w)
number_only zero at b small h = (ap (λ (k : ℕ). drop k b) (sym (add-zero at)), byte_pos 0)
number_only (suc w) at b small h =
    let x = get_or b at 0 in
    let m = number_at w b (at + 1) in
    let xs : x < 256 = small at in
    let more = number_only w (at + 1) b small (omega arith) in
    let low : (x + 256 * m) % 256 ≡ x = add-mul-mod_self_left x 256 m ∙ mod-eq_of_lt xs in
    let high : (x + 256 * m) / 256 ≡ m = add-mul-div_left x m {y = 256} (lit< tt) ∙ rw (div-eq_of_lt xs) (zero-add m) in
    let next : at + 1 + w ≡ at + suc w = omega arith in
    let bound : m < 256 ^ w = more.1 in
    let tail : drop (suc at) b ≡ bytes_of w m ++ drop (at + suc w) b = rw (← add-one at, ← next) more.0 in
    (drop-cons b at 0 (omega arith) ∙ rw (low, high) (ap (λ (t : List ℕ). x ∷ t) tail), rw (pow-suc 256 w) (omega arith))

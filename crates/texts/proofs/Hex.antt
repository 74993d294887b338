-- Laws of bytes in digits, as the loops cite them: the entries of the table, and a pair of digits at a time. Assumes nothing.
use Rattle.std.specs.Prelude.{None, Option, Some}
use Prim.Native.Nat.{ℕ, zero, suc, ◌+◌, ◌-◌, ◌*◌, ◌/◌, ◌%◌, ◌≤◌, ◌<◌}
use mathlib.Core.Path.{◌≡◌, refl, sym, ap, ◌∙◌}
use mathlib.Core.Bool.{Bool, true, false, cond, ◌||◌}
use mathlib.Core.List.{List, [], ◌∷◌, ◌++◌, append_assoc, append-nil}
use native.Mathlib.Omega.{arith}
use native.Mathlib.Nat.{zero-add, add-zero, add-suc, suc-add}
use native.Mathlib.Numerals.{add-one}
use lib.Dec.{leb, ltb}
use lib.ListN.{length, get_or, take, drop, set, length-append, drop_of_length-le}
use lib.Seq.{get_or-take, get_or-drop, drop-cons, take-suc, take-suc-set, append_snoc, set_at, take_all, length-take-le}
use borrow.Author.Tests.{leb-true, ltb-true, ltb-false}
use Rattle.std.specs.Simd.{first_chunks}
use Rattle.zone.specs.Lists.{within}
use Rattle.zone.proofs.Tests.{and_r, neither}
use Rattle.wire.specs.Road.{Numbers, are, none, join}
use Rattle.wire.specs.Room.{Filled}
use Rattle.wire.proofs.Chunks.{chunk_at}
use Rattle.texts.specs.Numbers.{digit_read, byte_read, bytes_read, hex_digit, in_hex}
use Rattle.texts.specs.Inner.{or_sixteen, digit_value, values_from, digit_values}

-- ---- the table

values_at : (k d i : ℕ) → i < k → get_or (values_from d k) i 0 ≡ digit_value (d + i)
values_at zero d i h = absurd (omega arith)
values_at (suc k) d zero h = rw (add-zero d)
values_at (suc k) d (suc i) h = rw (add-suc d i, ← suc-add d i) (values_at k (suc d) i (omega arith))

value_at : (d : ℕ) → d < 256 → get_or digit_values d 0 ≡ digit_value d
unfolding digit_values
value_at d h = values_at 256 0 d h ∙ ap digit_value (zero-add d)

-- what the value of a byte says of it as a digit
is_value : (f : Option ℕ) → or_sixteen f ≤ 15 → f ≡ Some (or_sixteen f)
is_value (Some n) h = refl
is_value None h = absurd (omega arith)

digit_is : (d : ℕ) → digit_value d ≤ 15 → digit_read d ≡ Some (digit_value d)
digit_is d h = is_value (digit_read d) h

digit_bad : (d : ℕ) → 15 < digit_value d → digit_read d ≡ None
digit_bad d = by_tests (within 48 57 d) (within 65 70 d) refl refl
  where
    by_tests : (s t : Bool) → within 48 57 d ≡ s → within 65 70 d ≡ t → 15 < or_sixteen (cond s (Some (d - 48)) (cond t (Some (d - 55)) None))
        → cond s (Some (d - 48)) (cond t (Some (d - 55)) None) ≡ None
    by_tests true t p q h = absurd (omega (arith, leb-true d 57 (and_r (leb 48 d) (leb d 57) p)))
    by_tests false true p q h = absurd (omega (arith, leb-true d 70 (and_r (leb 65 d) (leb d 70) q)))
    by_tests false false p q h = refl

byte_bad_low : (f : Option ℕ) → byte_read f None ≡ None
byte_bad_low None = refl
byte_bad_low (Some n) = refl

-- a pair of digits, by their values in the table
module _ (values : List ℕ) (x y : ℕ) (table : values ≡ digit_values) (h : x < 256) (k : y < 256) where
  high : get_or values x 0 ≡ digit_value x
  high = rw table (value_at x h)

  low : get_or values y 0 ≡ digit_value y
  low = rw table (value_at y k)

  pub byte_is : (ltb 15 (get_or values x 0) || ltb 15 (get_or values y 0)) ≡ false → byte_read (digit_read x) (digit_read y) ≡ Some (get_or values x 0 * 16 + get_or values y 0)
  byte_is t =
      let n = neither (ltb 15 (get_or values x 0)) (ltb 15 (get_or values y 0)) t in
      let i : digit_value x ≤ 15 = rw high at (ltb-false 15 (get_or values x 0) n.0) in
      let j : digit_value y ≤ 15 = rw low at (ltb-false 15 (get_or values y 0) n.1) in
      rw (high, low, digit_is x i, digit_is y j)

  pub byte_bad : (ltb 15 (get_or values x 0) || ltb 15 (get_or values y 0)) ≡ true → byte_read (digit_read x) (digit_read y) ≡ None
  byte_bad t = by_test (ltb 15 (get_or values x 0)) refl
    where
      by_test : (s : Bool) → ltb 15 (get_or values x 0) ≡ s → byte_read (digit_read x) (digit_read y) ≡ None
      by_test true e =
          let i : 15 < digit_value x = rw high at (ltb-true 15 (get_or values x 0) e) in
          rw (digit_bad x i)
      by_test false e =
          let u : ltb 15 (get_or values y 0) ≡ true = rw e at t in
          let j : 15 < digit_value y = rw low at (ltb-true 15 (get_or values y 0) u) in
          rw (digit_bad y j) (byte_bad_low (digit_read x))

-- ---- bytes from digits

-- numbers behind those of a list
abbrev pub prepend : List ℕ → Numbers → Numbers
prepend l none = none
prepend l (are ns) = are (l ++ ns)

prepend_join : (l : List ℕ) (b : ℕ) (ns : Numbers) → prepend l (join (Some b) ns) ≡ prepend (l ++ (b ∷ [])) ns
prepend_join l b none = refl
prepend_join l b (are ns) = ap are (sym (append_snoc l b ns))

join_none : (f : Option ℕ) → join f none ≡ none
join_none None = refl
join_none (Some n) = refl

-- an odd number of digits makes no bytes
pub read_odd : (l : List ℕ) → (length l % 2 ≡ 0 → ⊥) → bytes_read l ≡ none
unfolding bytes_read
read_odd [] h = absurd (h refl)
read_odd (d ∷ []) h = refl
read_odd (high ∷ low ∷ l) h = rw (read_odd l (λ e. h (omega arith))) (join_none (byte_read (digit_read high) (digit_read low)))

pair_read : (l : List ℕ) (i : ℕ) → 2 * i + 1 < length l
    → bytes_read (drop (2 * i) l) ≡ join (byte_read (digit_read (get_or l (2 * i) 0)) (digit_read (get_or l (2 * i + 1) 0))) (bytes_read (drop (2 * (i + 1)) l))
unfolding bytes_read
pair_read l i h =
    let m : 2 * (i + 1) ≡ suc (suc (2 * i)) = omega arith in
    let k : 2 * i < length l = omega arith in
    let j : suc (2 * i) < length l = omega arith in
    rw (m, add-one, drop-cons l (2 * i) 0 k, drop-cons l (suc (2 * i)) 0 j)

-- the two digits of a pair
pub pair_at : (l : List ℕ) (i : ℕ) (d : List ℕ) → i < length l / 2
    → (get_or (get_or (first_chunks 2 (length l / 2) l) i d) 0 0 ≡ get_or l (2 * i) 0) × (get_or (get_or (first_chunks 2 (length l / 2) l) i d) 1 0 ≡ get_or l (2 * i + 1) 0)
pair_at l i d h =
    let m : i * 2 ≡ 2 * i = omega arith in
    let zero_in : 0 < 2 = omega arith in
    let one_in : 1 < 2 = omega arith in
    let e = rw m at (chunk_at 2 (length l / 2) i l d h) in
    (rw (e, get_or-take, get_or-drop, add-zero), rw (e, get_or-take, get_or-drop))

-- one byte more: the bytes are those put so far, and then those of the digits that are left
pub read_more : (l room : List ℕ) (i b : ℕ) → 2 * i + 1 < length l → i < length room
    → byte_read (digit_read (get_or l (2 * i) 0)) (digit_read (get_or l (2 * i + 1) 0)) ≡ Some b
    → bytes_read l ≡ prepend (take i room) (bytes_read (drop (2 * i) l))
    → bytes_read l ≡ prepend (take (i + 1) (set room i b)) (bytes_read (drop (2 * (i + 1)) l))
read_more l room i b h k v e =
    let s : take (i + 1) (set room i b) ≡ take i room ++ (b ∷ []) = rw (add-one i) (take-suc-set room i b k) in
    e ∙ rw (pair_read l i h, v, s) (prepend_join (take i room) b (bytes_read (drop (2 * (i + 1)) l)))

pub read_bad : (l p : List ℕ) (i : ℕ) → 2 * i + 1 < length l
    → byte_read (digit_read (get_or l (2 * i) 0)) (digit_read (get_or l (2 * i + 1) 0)) ≡ None
    → bytes_read l ≡ prepend p (bytes_read (drop (2 * i) l)) → bytes_read l ≡ none
read_bad l p i h v e = e ∙ rw (pair_read l i h, v)

pub read_all : (l p : List ℕ) (i : ℕ) → length l ≤ 2 * i → bytes_read l ≡ prepend p (bytes_read (drop (2 * i) l)) → bytes_read l ≡ are p
unfolding bytes_read
read_all l p i h e = e ∙ rw (drop_of_length-le l h, append-nil p)

-- ---- digits from bytes

hex_append : (xs ys : List ℕ) → in_hex (xs ++ ys) ≡ in_hex xs ++ in_hex ys
unfolding in_hex
hex_append [] ys = refl
hex_append (x ∷ xs) ys = rw (hex_append xs ys)

pub hex_length : (l : List ℕ) → length (in_hex l) ≡ 2 * length l
unfolding in_hex
hex_length [] = refl
hex_length (x ∷ l) = let e = hex_length l in omega arith

-- two stores, one behind the other
pair_set : (p : List ℕ) (y z : ℕ) (t : List ℕ) (a b n : ℕ) → length p ≡ n → set (set (p ++ (y ∷ z ∷ t)) n a) (n + 1) b ≡ p ++ (a ∷ b ∷ t)
pair_set p y z t a b n e =
    let f : length (p ++ (a ∷ [])) ≡ n + 1 = rw (length-append p (a ∷ []), e) in
    rw (set_at p y (z ∷ t) a n e, ← append_snoc p a (z ∷ t), set_at (p ++ (a ∷ [])) z t b (n + 1) f, append_snoc p a (b ∷ t))

-- two digits more: the room has at its front the digits of the bytes passed, and then what it held before
pub hex_more : (src first room : List ℕ) (i : ℕ) → i < length src → 2 * i + 1 < length first
    → room ≡ in_hex (take i src) ++ drop (2 * i) first
    → set (set room (2 * i) (hex_digit (get_or src i 0 / 16))) (2 * i + 1) (hex_digit (get_or src i 0 % 16)) ≡ in_hex (take (i + 1) src) ++ drop (2 * (i + 1)) first
unfolding in_hex
hex_more src first room i h k e =
    let m : 2 * (i + 1) ≡ suc (suc (2 * i)) = omega arith in
    let j : 2 * i < length first = omega arith in
    let g : suc (2 * i) < length first = omega arith in
    let n : length (in_hex (take i src)) ≡ 2 * i = rw (hex_length (take i src), length-take-le i src (omega arith)) in
    rw (e, m, drop-cons first (2 * i) 0 j, drop-cons first (suc (2 * i)) 0 g, pair_set (in_hex (take i src)) _ _ _ _ _ (2 * i) n, add-one i, take-suc src i 0 h, hex_append (take i src) (get_or src i 0 ∷ []))
    (sym (append_assoc (in_hex (take i src)) (hex_digit (get_or src i 0 / 16) ∷ hex_digit (get_or src i 0 % 16) ∷ []) (drop (suc (suc (2 * i))) first)))

pub hex_all : (src first room : List ℕ) (i : ℕ) → i ≡ length src → room ≡ in_hex (take i src) ++ drop (2 * i) first
    → Filled (in_hex src) first room (2 * length src)
hex_all src first room i n e =
    let m : length (in_hex src) ≡ 2 * length src = hex_length src in
    record { count = sym m; contents = rw (n, take_all (length src) src (omega arith), ← m) at e }

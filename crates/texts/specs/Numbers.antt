-- The numbers of a text, as document 01 has them in its log: decimals, and bytes in capital hexadecimal digits.
use Rattle.std.specs.Prelude.{ℕ, ◌+◌, ◌-◌, ◌*◌, ◌/◌, ◌%◌, Bool, cond, not, ◌&&◌, Option, Some, None, List, [], ◌∷◌, length, get_or, ltb, eqb}
use Rattle.zone.specs.Lists.{within}
use Rattle.wire.specs.Road.{Numbers, are, none, join}
use Rattle.line.specs.Field.{digits_behind}

-- ---- decimals

-- "no leading zeros": a 0 in front stands alone
abbrev pub leading_zero : List ℕ → Bool
leading_zero l = eqb (get_or l 0 0) 48 && ltb 1 (length l)

-- "Decimals have no leading zeros and at most 5 digits"
unfoldable pub decimal_of : List ℕ → Option ℕ
decimal_of l = cond (within 1 5 (length l) && not (leading_zero l)) (digits_behind 0 l) None

-- ---- "in capital hex"

-- 0 to 9 and A to F
abbrev pub digit_read : ℕ → Option ℕ
digit_read d = cond (within 48 57 d) (Some (d - 48)) (cond (within 65 70 d) (Some (d - 55)) None)

-- a byte, by its two digits
abbrev pub byte_read : Option ℕ → Option ℕ → Option ℕ
byte_read (Some high) (Some low) = Some (high * 16 + low)
byte_read (Some high) None = None
byte_read None low = None

-- "an even number of digits, perhaps none"
unfoldable pub bytes_read : List ℕ → Numbers
bytes_read [] = are []
bytes_read (d ∷ []) = none
bytes_read (high ∷ low ∷ digits) = join (byte_read (digit_read high) (digit_read low)) (bytes_read digits)

abbrev pub hex_digit : ℕ → ℕ
hex_digit n = cond (ltb n 10) (48 + n) (55 + n)

unfoldable pub in_hex : List ℕ → List ℕ
in_hex [] = []
in_hex (byte ∷ bytes) = hex_digit (byte / 16) ∷ hex_digit (byte % 16) ∷ in_hex bytes

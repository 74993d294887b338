-- The frame of a command, and the command of a frame.
use Rattle.std.specs.Prelude.{ℕ, zero, suc, ◌+◌, ◌*◌, ◌/◌, ◌%◌, ◌^◌, Bool, cond, ◌&&◌, Option, Some, None, Err, List, [], ◌∷◌, ◌++◌, length, get_or, take, drop, leb, eqb}
use Rattle.zone.specs.declared.figures.Group.{Group}
use Rattle.zone.specs.declared.figures.Figures.{Figures}
use Rattle.zone.specs.declared.figures.Command.{Command}
use Rattle.zone.specs.declared.figures.Command.TheVariants.{Read, Write}
use Rattle.zone.specs.Table.{bytes, index, every_group}
use Rattle.zone.specs.Figures.{group_of}
use Rattle.wire.specs.declared.Misread.TheVariants.{Unknown}
use Rattle.wire.specs.Road.{Road, Parsed, figure_bytes, command_read}
use Rattle.frame.specs.declared.reading.Framed.{Framed}
use Rattle.frame.specs.declared.reading.Framed.TheVariants.{NoFrame, BadSum, Request}
use Rattle.frame.specs.Sum.{checksum_of}

-- `width` bytes of n, "low byte first"
abbrev pub bytes_of : ℕ → ℕ → List ℕ
bytes_of zero n = []
bytes_of (suc w) n = n % 256 ∷ bytes_of w (n / 256)

-- the number that `width` bytes from index `at` on make
abbrev pub number_at : ℕ → List ℕ → ℕ → ℕ
number_at zero l at = 0
number_at (suc w) l at = get_or l at 0 + 256 * number_at w l (at + 1)

-- "Function 89 reads (L = 3), 69 writes"
abbrev pub reading : ℕ
reading = 0x89

abbrev pub writing : ℕ
writing = 0x69

-- address, function and index, and each figure in its bytes
abbrev pub frame_road : Road
frame_road = record {
  head = 3;
  reads = reading;
  writes = writing;
  width = λ kind. bytes kind;
  bound = λ kind. 256 ^ bytes kind;
  bytes_for = λ kind n. bytes_of (bytes kind) n;
  -- any bytes are a figure, so there is always one
  found_at = λ kind l at. Some (number_at (bytes kind) l at);
}

-- the bytes that L counts: "address, function, index and data"
abbrev pub body_with : ℕ → ℕ → Figures → List ℕ
body_with address function figures = address ∷ function ∷ index (group_of figures) ∷ figure_bytes frame_road figures

abbrev pub body_of : ℕ → Command → List ℕ
body_of address (Read group) = address ∷ reading ∷ index group ∷ []
body_of address (Write figures) = body_with address writing figures

-- "68 L L 68, address, function, index, data, checksum, 16"
abbrev pub framed : List ℕ → List ℕ
framed body = 0x68 ∷ length body ∷ length body ∷ 0x68 ∷ (body ++ (checksum_of body ∷ 0x16 ∷ []))

unfoldable pub frame_of : ℕ → Command → List ℕ
frame_of address command = framed (body_of address command)

-- "the short frame 10, address, 00, checksum, 16, its checksum the sum of address and function modulo 256"; an error acknowledgement has "its own function byte"
abbrev pub short_frame : ℕ → ℕ → List ℕ
short_frame address function = 0x10 ∷ address ∷ function ∷ checksum_of (address ∷ function ∷ []) ∷ 0x16 ∷ []

-- ---- the command of a frame

-- "68 L L 68 .. 16 with length L + 6 and L at least 3": so the whole is at least 9 bytes
abbrev pub shaped : List ℕ → Bool
shaped f =
    leb 9 (length f)
    && (eqb (get_or f 0 0) 0x68
    && (eqb (get_or f 3 0) 0x68
    && (eqb (get_or f 1 0) (get_or f 2 0)
    && (eqb (length f) (get_or f 1 0 + 6)
    && eqb (get_or f (get_or f 1 0 + 5) 0) 0x16))))

-- "the L bytes after the second 68"
abbrev pub body_in : List ℕ → List ℕ
body_in f = take (get_or f 1 0) (drop 4 f)

-- the first of them
abbrev pub address_in : List ℕ → ℕ
address_in f = get_or f 4 0

-- the byte behind them is their checksum; where not, "checksum differs"
abbrev pub checksum_right : List ℕ → Bool
checksum_right f = eqb (checksum_of (body_in f)) (get_or f (get_or f 1 0 + 4) 0)

-- the first group of a list that has that index, if there is one
abbrev pub first_indexed : List Group → ℕ → Option Group
first_indexed [] x = None
first_indexed (group ∷ groups) x = cond (eqb x (index group)) (Some group) (first_indexed groups x)

-- "The index byte alone names the group"
unfoldable pub group_indexed : ℕ → Option Group
group_indexed x = first_indexed every_group x

abbrev pub indexed_read : Option Group → List ℕ → Parsed
indexed_read None body = Err Unknown
indexed_read (Some group) body = command_read frame_road (get_or body 1 0) group body

-- what the L bytes are found to be
unfoldable pub body_read : List ℕ → Parsed
body_read body = indexed_read (group_indexed (get_or body 2 0)) body

-- what the codec hands on of a frame: no frame, a sum that differs, or a request to an address. The call's definition has the same tests as rows of its own; the demands speak of what is read back in these words
unfoldable pub frame_read : List ℕ → Framed
frame_read f =
    cond (shaped f)
    (cond (checksum_right f) (Request (address_in f) (body_read (body_in f))) (BadSum (address_in f)))
    NoFrame

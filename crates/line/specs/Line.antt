-- The line of a command, and the command of a line.
use Rattle.std.specs.Prelude.{ℕ, zero, suc, ◌+◌, ◌/◌, ◌%◌, ◌^◌, Bool, true, false, cond, Option, Some, None, Err, List, [], ◌∷◌, ◌++◌, length, get_or, take, drop, ltb, eqb}
use Rattle.zone.specs.declared.figures.Group.{Group}
use Rattle.zone.specs.declared.figures.Figures.{Figures}
use Rattle.zone.specs.declared.figures.Command.{Command}
use Rattle.zone.specs.declared.figures.Command.TheVariants.{Read, Write}
use Rattle.zone.specs.Table.{digits, name, every_group}
use Rattle.zone.specs.Figures.{group_of}
use Rattle.wire.specs.declared.Misread.TheVariants.{Unknown}
use Rattle.wire.specs.Road.{Road, Parsed, figure_bytes, command_read}
use Rattle.line.specs.Field.{figure_of}

-- the last `width` decimal digits of n, "with leading zeros"
abbrev pub digits_for : ℕ → ℕ → List ℕ
digits_for zero n = []
digits_for (suc w) n = (48 + n / 10 ^ w % 10) ∷ digits_for w n

-- the letters L, S and A
abbrev pub L : ℕ
L = 76

abbrev pub S : ℕ
S = 83

abbrev pub A : ℕ
A = 65

-- a letter and four of the name; each figure after one space, in its digits
abbrev pub text_road : Road
text_road = record {
  head = 5;
  reads = L;
  writes = S;
  width = λ kind. 1 + digits kind;
  bound = λ kind. 10 ^ digits kind;
  bytes_for = λ kind n. 32 ∷ digits_for (digits kind) n;
  found_at = λ kind l at. figure_of l at (digits kind);
}

-- a letter, the name, and the figures
abbrev pub line_with : ℕ → Figures → List ℕ
line_with letter figures = letter ∷ (name (group_of figures) ++ figure_bytes text_road figures)

-- "A read is L and the four capital letters"; "A write is S, the name, and each figure"
unfoldable pub line_of : Command → List ℕ
line_of (Read group) = L ∷ name group
line_of (Write figures) = line_with S figures

-- ---- the command of a line

-- two lists of bytes are the same
unfoldable pub same : List ℕ → List ℕ → Bool
same [] [] = true
same [] (y ∷ ys) = false
same (x ∷ xs) [] = false
same (x ∷ xs) (y ∷ ys) = cond (eqb x y) (same xs ys) false

-- the first group of a list that has that name, if there is one
abbrev pub first_named : List Group → List ℕ → Option Group
first_named [] l = None
first_named (group ∷ groups) l = cond (same l (name group)) (Some group) (first_named groups l)

-- the group of that name, if there is one
unfoldable pub group_named : List ℕ → Option Group
group_named l = first_named every_group l

abbrev pub named_read : Option Group → List ℕ → Parsed
named_read None l = Err Unknown
named_read (Some group) l = command_read text_road (get_or l 0 0) group l

-- the name is the four bytes behind the letter; "a line under 5 bytes" is unknown
unfoldable pub line_read : List ℕ → Parsed
line_read l = cond (ltb (length l) 5) (Err Unknown) (named_read (group_named (take 4 (drop 1 l))) l)

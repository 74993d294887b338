-- A command in bytes, said once for both roads. A road says how wide a figure is, how it is written and how it is read; the table says the rest.
use Rattle.std.specs.Prelude.{ℕ, ◌+◌, Bool, true, cond, Option, Some, None, Ok, Err, List, [], ◌∷◌, ◌++◌, length, ltb, eqb}
use Rattle.std.specs.Prelude as std
use Rattle.zone.specs.declared.figures.Group.{Group}
use Rattle.zone.specs.declared.figures.Figures.{Figures}
use Rattle.zone.specs.declared.figures.Command.{Command}
use Rattle.zone.specs.declared.figures.Command.TheVariants.{Read, Write}
use Rattle.zone.specs.Lists.{every, total}
use Rattle.zone.specs.Table.{Kind, Column, Form, layout, forms_of}
use Rattle.zone.specs.Figures.{Entry, entries_of, made}
use Rattle.wire.specs.declared.Misread.TheVariants.{Syntax, Unknown}
use Rattle.wire.specs.declared.Misread.{Misread}

pub record Road : Type 0 where
  -- the bytes before the figures: letter and name, or address, function and index
  pub head : ℕ
  -- the letter, or the function, that reads, and the one that writes
  pub reads : ℕ
  pub writes : ℕ
  -- a figure of a kind: how many bytes it takes, and the first number that they cannot carry
  pub width : Kind → ℕ
  pub bound : Kind → ℕ
  -- the bytes of a number, and the number that is found in bytes from an index on, or None where what stands there is no figure
  pub bytes_for : Kind → ℕ → List ℕ
  pub found_at : Kind → List ℕ → ℕ → Option ℕ

-- ---- writing

-- "what the road can carry"
abbrev pub carried : Road → Entry → Bool
carried road e = ltb e.number (road.bound e.column.kind)

unfoldable pub carries : Road → Figures → Bool
carries road figures = every (carried road) (entries_of figures)

-- "A read has neither form nor figures"
unfoldable pub carries_command : Road → Command → Bool
carries_command road (Read group) = true
carries_command road (Write figures) = carries road figures

abbrev pub entry_bytes : Road → Entry → List ℕ
entry_bytes road e = road.bytes_for e.column.kind e.number

-- the figures' bytes, one figure behind the other
abbrev pub in_order : Road → List Entry → List ℕ
in_order road [] = []
in_order road (e ∷ es) = entry_bytes road e ++ in_order road es

abbrev pub figure_bytes : Road → Figures → List ℕ
figure_bytes road figures = in_order road (entries_of figures)

-- the length of a write
abbrev pub length_of : Road → Form → ℕ
length_of road form = road.head + total (λ k. road.width k.kind) (layout form).columns

-- ---- reading

-- what a line, or the body of a frame, is found to be: a command (Ok), or why it is none (Err): Unknown, which has no known function, letter, name or index, or is a line under 5 bytes; Syntax, which has a wrong length, space or digit. The Result is the standard library's, not the one of card's Answers
abbrev pub Parsed : Type 0
Parsed = std.Result Command Misread

-- the numbers of a layout, or none (a case of its own, and not Option's None) where one of them is no figure
pub data Numbers : Type 0 where
  are : List ℕ → Numbers
  none : Numbers

abbrev pub join : Option ℕ → Numbers → Numbers
join None ns = none
join (Some n) none = none
join (Some n) (are ns) = are (n ∷ ns)

-- the numbers of a layout, one behind the other from index `at` on
abbrev pub numbers_at : Road → List Column → List ℕ → ℕ → Numbers
numbers_at road [] l at = are []
numbers_at road (k ∷ ks) l at = join (road.found_at k.kind l at) (numbers_at road ks l (at + road.width k.kind))

-- what a form is read as
abbrev pub read_as : Form → Numbers → Parsed
read_as form none = Err Syntax
read_as form (are ns) = Ok (Write (made form ns))

-- a write in that form: its figures stand behind the head
unfoldable pub form_read : Road → Form → List ℕ → Parsed
form_read road form l = read_as form (numbers_at road (layout form).columns l road.head)

-- the form is the one that has the length; "wrong length" is a syntax error
unfoldable pub write_read : Road → List Form → List ℕ → Parsed
write_read road [] l = Err Syntax
write_read road (form ∷ forms) l = cond (eqb (length l) (length_of road form)) (form_read road form l) (write_read road forms l)

-- a command to a known group, by its mark, the letter or the function. A read is the head alone and a write has its figures behind it; other lengths are syntax errors.
-- Every other mark is unknown: "A request with function 00, or a line with first letter A, counts as unknown (house)"
abbrev pub command_read : Road → ℕ → Group → List ℕ → Parsed
command_read road mark group l =
    cond (eqb mark road.reads) (cond (eqb (length l) road.head) (Ok (Read group)) (Err Syntax))
    (cond (eqb mark road.writes) (write_read road (forms_of group) l) (Err Unknown))

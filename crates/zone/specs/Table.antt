-- THE TABLE of document 01, "Command groups". The figures' ranges, and their widths on both roads, stand here and nowhere else; the commands' lengths are derived from it.
use Rattle.std.specs.Prelude.{ℕ, List, [], ◌∷◌}
use Rattle.zone.specs.declared.figures.Group.{Group}
use Rattle.zone.specs.declared.figures.Group.TheVariants.{Ahue, Hzbg, Rrue, Solw}
use Rattle.zone.specs.Lists.{ascii}

-- what stands in a column: the flag a; a limit, lower or upper; a time, begin or end, and as wide as these the setpoint
pub data Kind : Type 0 where
  flag limit time : Kind

-- "flag a as one digit, all others as three digits"
abbrev pub digits : Kind → ℕ
digits flag = 1
digits limit = 3
digits time = 3

-- "Flag and limits take one byte; time, begin, end and setpoint take two"
abbrev pub bytes : Kind → ℕ
bytes flag = 1
bytes limit = 1
bytes time = 2

-- a figure's kind and its range, whose end may be the zone's temperature range
pub record Column : Type 0 where
  pub kind : Kind
  pub lowest : ℕ
  pub highest : ℕ → ℕ

abbrev pub column : Kind → ℕ → ℕ → Column
column kind low high = record { kind = kind; lowest = low; highest = λ range. high }

-- "0..the zone's temperature range"
abbrev pub setpoint : Column
setpoint = record { kind = time; lowest = 0; highest = λ range. range }

pub record Layout : Type 0 where
  pub group : Group
  pub columns : List Column

-- "The two forms of AHUE are one group"; every other group has one form
pub data Form : Type 0 where
  deadline window hzbg rrue solw : Form

-- "Group", "Figures, in order" and "Range"
abbrev pub layout : Form → Layout
-- a, lower, upper, time
layout deadline = record { group = Ahue; columns = column flag 0 1 ∷ column limit 5 99 ∷ column limit 5 99 ∷ column time 0 999 ∷ [] }
-- a, lower, upper, begin, end; and begin below end (`opens`, in Figures.antt)
layout window = record { group = Ahue; columns = column flag 0 1 ∷ column limit 5 99 ∷ column limit 5 99 ∷ column time 0 998 ∷ column time 1 999 ∷ [] }
-- time
layout hzbg = record { group = Hzbg; columns = column time 0 999 ∷ [] }
-- a, lower, upper
layout rrue = record { group = Rrue; columns = column flag 0 1 ∷ column limit 5 100 ∷ column limit 5 100 ∷ [] }
-- setpoint
layout solw = record { group = Solw; columns = setpoint ∷ [] }

-- the forms of a group, as the layouts have it (their_group, in proofs/Made.antt)
abbrev pub forms_of : Group → List Form
forms_of Ahue = deadline ∷ window ∷ []
forms_of Hzbg = hzbg ∷ []
forms_of Rrue = rrue ∷ []
forms_of Solw = solw ∷ []

-- "Index"
abbrev pub index : Group → ℕ
index Ahue = 0x0B
index Hzbg = 0x70
index Rrue = 0x15
index Solw = 0x35

-- the name of a group, as it stands in a line
abbrev pub name : Group → List ℕ
name Ahue = ascii "AHUE"
name Hzbg = ascii "HZBG"
name Rrue = ascii "RRUE"
name Solw = ascii "SOLW"

abbrev pub every_form : List Form
every_form = deadline ∷ window ∷ hzbg ∷ rrue ∷ solw ∷ []

abbrev pub every_group : List Group
every_group = Ahue ∷ Hzbg ∷ Rrue ∷ Solw ∷ []

-- The figures of a group: a form of the table with a number for each of its columns; when they are in range.
use Rattle.std.specs.Prelude.{ℕ, Bool, true, ◌&&◌, List, [], ◌∷◌, get_or, ltb}
use Rattle.zone.specs.declared.figures.Group.{Group}
use Rattle.zone.specs.declared.figures.Figures.{Figures}
use Rattle.zone.specs.declared.figures.Figures.TheVariants.{AhueDeadline, AhueWindow, HzbgLimit, RrueReference, SolwSetpoint}
use Rattle.zone.specs.Lists.{within, is_zero, every}
use Rattle.zone.specs.Table.{Column, Form, deadline, window, hzbg, rrue, solw, layout}

abbrev pub form_of : Figures → Form
form_of (AhueDeadline f) = deadline
form_of (AhueWindow f) = window
form_of (HzbgLimit f) = hzbg
form_of (RrueReference f) = rrue
form_of (SolwSetpoint f) = solw

abbrev pub group_of : Figures → Group
group_of figures = (layout (form_of figures)).group

-- "Figures, in order"
abbrev pub numbers : Figures → List ℕ
numbers (AhueDeadline f) = f.flag ∷ f.lower ∷ f.upper ∷ f.time ∷ []
numbers (AhueWindow f) = f.flag ∷ f.lower ∷ f.upper ∷ f.begin ∷ f.end ∷ []
numbers (HzbgLimit f) = f.time ∷ []
numbers (RrueReference f) = f.flag ∷ f.lower ∷ f.upper ∷ []
numbers (SolwSetpoint f) = f.setpoint ∷ []

-- and back: the figures of a form with those numbers (made_again and numbers_again, in proofs/Made.antt)
abbrev pub made : Form → List ℕ → Figures
made deadline ns = AhueDeadline (record { flag = get_or ns 0 0; lower = get_or ns 1 0; upper = get_or ns 2 0; time = get_or ns 3 0 })
made window ns = AhueWindow (record { flag = get_or ns 0 0; lower = get_or ns 1 0; upper = get_or ns 2 0; begin = get_or ns 3 0; end = get_or ns 4 0 })
made hzbg ns = HzbgLimit (record { time = get_or ns 0 0 })
made rrue ns = RrueReference (record { flag = get_or ns 0 0; lower = get_or ns 1 0; upper = get_or ns 2 0 })
made solw ns = SolwSetpoint (record { setpoint = get_or ns 0 0 })

-- a column of the table with the number that stands in it
pub record Entry : Type 0 where
  pub column : Column
  pub number : ℕ

-- column by column; there are as many numbers as columns (as_many, in proofs/Table.antt)
abbrev pub entries : List Column → List ℕ → List Entry
entries [] ns = []
entries (k ∷ ks) [] = []
entries (k ∷ ks) (n ∷ ns) = record { column = k; number = n } ∷ entries ks ns

abbrev pub entries_of : Figures → List Entry
entries_of figures = entries (layout (form_of figures)).columns (numbers figures)

-- the figure lies in its range, in a zone of that temperature range
abbrev pub fits : ℕ → Entry → Bool
fits range e = within e.column.lowest (e.column.highest range) e.number

-- every figure does, each judged by its own range only
unfoldable pub each_in_range : ℕ → Figures → Bool
each_in_range range figures = every (fits range) (entries_of figures)

-- The rule of the window's row: "A window must open before it closes" (document 02, Req 06). "A window with begin not below end now gives 9 on both roads", so equal figures break it too. The other rows have no such rule
abbrev pub opens : Figures → Bool
opens (AhueDeadline f) = true
opens (AhueWindow f) = ltb f.begin f.end
opens (HzbgLimit f) = true
opens (RrueReference f) = true
opens (SolwSetpoint f) = true

-- Figures are in range if each lies in its own and the row's rule is kept. Document 01's "In AHUE each figure is judged by its own range only" is replaced by Req 06
unfoldable pub in_range : ℕ → Figures → Bool
in_range range figures = each_in_range range figures && opens figures

unfoldable pub all_zero : Figures → Bool
all_zero figures = every is_zero (numbers figures)

-- The lines of a text, and the fields of a line: where a line feed ends the one and a tab the other; a zone with what is for it; and a reply as it stands in a line.
use Rattle.std.specs.Prelude.{ℕ, suc, cond, Option, Some, None, List, [], ◌∷◌, ◌++◌, take, drop, eqb}
use Rattle.texts.specs.Numbers.{decimal_of}

abbrev pub line_feed : ℕ
line_feed = 10

-- the index of the first x among the bytes, or their number where there is none
unfoldable pub index_of : ℕ → List ℕ → ℕ
index_of x [] = 0
index_of x (y ∷ bytes) = cond (eqb y x) 0 (suc (index_of x bytes))

-- ---- the lines of a text

-- the lines of a text that are "ended by a line feed"; `so_far` is what the first of them has already
unfoldable pub ended_behind : List ℕ → List ℕ → List (List ℕ)
ended_behind so_far [] = []
ended_behind so_far (x ∷ text) = cond (eqb x line_feed) (so_far ∷ ended_behind [] text) (ended_behind (so_far ++ (x ∷ [])) text)

-- and what the line under way has at the end of the text
unfoldable pub begun_behind : List ℕ → List ℕ → List ℕ
begun_behind so_far [] = so_far
begun_behind so_far (x ∷ text) = cond (eqb x line_feed) (begun_behind [] text) (begun_behind (so_far ++ (x ∷ [])) text)

abbrev pub ended : List ℕ → List (List ℕ)
ended text = ended_behind [] text

abbrev pub begun : List ℕ → List ℕ
begun text = begun_behind [] text

-- "A last line may lack its line end"; where nothing stands behind the last line feed there is no further line
abbrev pub unended : List ℕ → List (List ℕ)
unended [] = []
unended (x ∷ line) = (x ∷ line) ∷ []

abbrev pub lines_of : List ℕ → List (List ℕ)
lines_of text = ended text ++ unended (begun text)

-- ---- the fields of a line

abbrev pub tab : ℕ
tab = 9

-- "fields parted by tabs": the bytes up to the first tab, and what stands from that tab on; where there is no tab, all the bytes, and nothing
abbrev pub field : List ℕ → List ℕ
field l = take (index_of tab l) l

abbrev pub onward : List ℕ → List ℕ
onward l = drop (index_of tab l) l

-- ---- a zone and what is for it

-- "zone, tab, text command" (document 02, Req 01); in the log (document 01) it stands behind "T" and a tab. What lacks its zone or its tab is none
pub data Zoned : Type 0 where
  to : ℕ → List ℕ → Zoned
  lacking : Zoned

abbrev pub zoned_by : Option ℕ → List ℕ → Zoned
zoned_by None l = lacking
zoned_by (Some zone) [] = lacking
zoned_by (Some zone) (its_tab ∷ command) = to zone command

-- the zone is the decimal in front, and the command "all that follows" its tab, "perhaps nothing"
unfoldable pub zoned : List ℕ → Zoned
zoned l = zoned_by (decimal_of (field l)) (onward l)

-- ---- a reply in a line

-- "the reply .. or "-""
abbrev pub or_dash : List ℕ → List ℕ
or_dash [] = 45 ∷ []
or_dash (x ∷ reply) = x ∷ reply

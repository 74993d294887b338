-- Worked places: a line, the place of its 8, and the place of its 9 in a zone of 300 degrees.
use Prim.Native.String.{String}
use Rattle.std.specs.Prelude.{List, [], ◌∷◌}
use Rattle.zone.specs.Lists.{ascii}
use Rattle.line.specs.Line.{line_read}
use Rattle.line.specs.Places.{Place, nowhere, offset, wrong_in, out_in}

pub record Example : Type 0 where
  pub line : String
  pub wrong : Place
  pub out : Place

abbrev pub examples : List Example
examples =
    -- stops short: the line's length
    record { line = "SHZBG"; wrong = offset 5; out = nowhere } ∷
    record { line = "SHZBG "; wrong = offset 6; out = nowhere } ∷
    record { line = "SRRUE 1 10 010"; wrong = offset 10; out = nowhere } ∷
    -- another byte than the expected digit or space
    record { line = "SHZBG 1O0"; wrong = offset 7; out = nowhere } ∷
    record { line = "SHZBG_100"; wrong = offset 5; out = nowhere } ∷
    record { line = "SAHUE 9 004 01x 010"; wrong = offset 14; out = nowhere } ∷
    -- surplus, and a wrong byte before it
    record { line = "SHZBG 1000"; wrong = offset 9; out = nowhere } ∷
    record { line = "SHZBG 1x00"; wrong = offset 7; out = nowhere } ∷
    record { line = "LHZBG 100"; wrong = offset 5; out = nowhere } ∷
    -- AHUE of 20 bytes is a window
    record { line = "SAHUE 1 010 010 010 "; wrong = offset 20; out = nowhere } ∷
    record { line = "SAHUE 1 010 010 0100"; wrong = offset 19; out = nowhere } ∷
    -- the first figure out of range
    record { line = "SSOLW 301"; wrong = nowhere; out = offset 6 } ∷
    record { line = "SAHUE 1 100 004 010"; wrong = nowhere; out = offset 8 } ∷
    record { line = "SAHUE 1 010 010 100 000"; wrong = nowhere; out = offset 20 } ∷
    -- a window that does not open before it closes (Req 06): its end, unless another figure is out of its own range
    record { line = "SAHUE 1 010 010 500 200"; wrong = nowhere; out = offset 20 } ∷
    record { line = "SAHUE 1 010 010 200 200"; wrong = nowhere; out = offset 20 } ∷
    record { line = "SAHUE 1 010 010 200 201"; wrong = nowhere; out = nowhere } ∷
    record { line = "SAHUE 1 010 004 500 200"; wrong = nowhere; out = offset 12 } ∷
    record { line = "SAHUE 1 010 010 999 200"; wrong = nowhere; out = offset 16 } ∷
    -- nothing is wrong, or the command is unknown
    record { line = "SSOLW 300"; wrong = nowhere; out = nowhere } ∷
    record { line = "LHZBG"; wrong = nowhere; out = nowhere } ∷
    record { line = "SHZBX 100"; wrong = nowhere; out = nowhere } ∷
    record { line = "SHZB"; wrong = nowhere; out = nowhere } ∷
    []

-- what comes of it
abbrev pub seen : Example → Example
seen e = record { line = e.line; wrong = wrong_in (ascii e.line); out = out_in 300 (line_read (ascii e.line)) }

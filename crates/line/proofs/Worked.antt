-- The worked places come out as they stand: one table, one statement. Assumes nothing.
use mathlib.Core.Path.{◌≡◌, refl}
use mathlib.Core.List.{map}
use Rattle.zone.specs.Figures.{each_in_range}
use Rattle.wire.specs.Road.{form_read, write_read}
use Rattle.line.specs.Field.{up_to_space, digits_behind, figure_of}
use Rattle.line.specs.Line.{same, group_named, line_read}
use Rattle.line.specs.Places.{wrong_from, wrong_in, out_from, out_of}
use Rattle.line.specs.Worked.{examples, seen}

pub worked : map seen examples ≡ examples
unfolding form_read write_read up_to_space digits_behind figure_of same group_named line_read wrong_from wrong_in each_in_range out_from out_of
worked = refl

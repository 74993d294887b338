-- The worked recipes, computed. Assumes nothing.
use mathlib.Core.Path.{refl}
use Rattle.zone.specs.Figures.{each_in_range, in_range, all_zero}
use Rattle.zone.specs.Zones.{zone_otherwise_sound, zone_sound}
use Rattle.card.specs.Records.{differ, sound}
use Rattle.wire.specs.Road.{form_read, write_read}
use Rattle.line.specs.Field.{up_to_space, digits_behind, figure_of}
use Rattle.line.specs.Line.{same, group_named, line_read}
use Rattle.line.specs.Places.{wrong_from, wrong_in, out_from, out_of}
use Rattle.roads.specs.Acknowledgements.{text_reply}
use Rattle.roads.specs.Calls.{answer_text, text_place}
use Rattle.texts.specs.Numbers.{decimal_of}
use Rattle.texts.specs.Texts.{index_of, ended_behind, begun_behind, zoned}
use Rattle.recipes.specs.Recipes.{in_turn, load_of}
use Rattle.recipes.specs.Worked.{Worked}

pub worked : Worked
unfolding index_of in_range each_in_range all_zero zone_sound zone_otherwise_sound differ sound form_read write_read up_to_space digits_behind figure_of same group_named line_read wrong_from wrong_in out_from out_of text_reply answer_text text_place decimal_of ended_behind begun_behind zoned in_turn load_of
worked = record {
  three = refl;
  out_of_range = refl;
  stops_short = refl;
  no_zone_in_third = refl;
  lone_line_feed = refl;
  leading_zero = refl;
  above_fifteen = refl;
  absent = refl;
  no_command = refl;
  no_room = refl;
  no_room_first = refl;
  empty_line = refl;
}

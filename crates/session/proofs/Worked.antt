-- What does not commute, and what is struck out, computed. Assumes nothing.
use mathlib.Core.Path.{refl}
use Rattle.zone.specs.Figures.{each_in_range, in_range, all_zero}
use Rattle.zone.specs.Zones.{zone_otherwise_sound, zone_sound}
use Rattle.card.specs.Records.{differ, sound}
use Rattle.card.specs.Calls.{add_of, report_of}
use Rattle.wire.specs.Road.{form_read, write_read}
use Rattle.line.specs.Field.{up_to_space, digits_behind, figure_of}
use Rattle.line.specs.Line.{same, group_named, line_read}
use Rattle.frame.specs.Frame.{frame_of}
use Rattle.roads.specs.Calls.{answer_text}
use Rattle.session.specs.Order.{OrderMatters}
use Rattle.session.specs.Neighbours.{StruckOut}

pub order_matters : OrderMatters
unfolding in_range each_in_range all_zero zone_sound zone_otherwise_sound differ sound add_of report_of form_read write_read up_to_space digits_behind figure_of same group_named line_read answer_text
order_matters = record {
  one_two = refl;
  two_one = refl;
  two_stands = refl;
  one_stands = refl;
  then_read = refl;
  read_first = refl;
  then_on = refl;
  on_first = refl;
  then_added = refl;
  added_first = refl;
}

pub struck_out : StruckOut
unfolding in_range each_in_range all_zero zone_sound zone_otherwise_sound differ sound add_of frame_of
struck_out = record { for_three = refl; by_the_fifth_byte = refl; for_seven = refl; with_addition = refl; without_addition = refl }

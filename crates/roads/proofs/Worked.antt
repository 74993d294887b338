-- P1 to P12 come out as document 01 prints them: one table, one statement, computed through the full calls. Assumes nothing.
use mathlib.Core.Path.{◌≡◌, refl}
use mathlib.Core.List.{map}
use Rattle.zone.specs.Figures.{each_in_range, in_range, all_zero}
use Rattle.zone.specs.Zones.{zone_otherwise_sound, zone_sound}
use Rattle.card.specs.Records.{differ, sound, find_from}
use Rattle.wire.specs.Road.{form_read, write_read}
use Rattle.line.specs.Field.{up_to_space, digits_behind, figure_of}
use Rattle.line.specs.Line.{same, group_named, line_read}
use Rattle.frame.specs.Sum.{sum_of}
use Rattle.frame.specs.Frame.{group_indexed, body_read}
use Rattle.roads.specs.Acknowledgements.{text_reply, frame_reply}
use Rattle.roads.specs.Calls.{answer_text, answer_frame}
use Rattle.roads.specs.Worked.{examples, seen, expected}

pub worked : map seen examples ≡ map expected examples
unfolding in_range each_in_range all_zero zone_sound zone_otherwise_sound differ sound find_from form_read write_read up_to_space digits_behind figure_of same group_named line_read sum_of group_indexed body_read text_reply frame_reply answer_text answer_frame
worked = refl

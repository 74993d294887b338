-- The table is the definition's, computed for each of the 256 bytes.
use Rattle.texts.specs.Inner.{digit_values}
use Rattle.texts.proofs.hexadecimal.digit_values.Goals as goal

pub returns : goal.returns
unfolding digit_values
returns c = rw (c.copy_from_slice.ensures.after, c.copy_from_slice-2.ensures.after)

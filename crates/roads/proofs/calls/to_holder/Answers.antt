-- By what was found: nobody, in silence; or the zone that is asked, whose reply is put into the room.
use mathlib.Core.Path.{refl, sym, ◌∙◌}
use Rattle.roads.specs.Inner.{frame_at}
use Rattle.roads.proofs.CallLaws.{silent_place, frame_answer}
use Rattle.roads.proofs.calls.to_holder.Goals as goal

pub returns-in-None : goal.returns-in-None
unfolding frame_at
returns-in-None c = (rw (c.silent.ensures, sym (rw c.from.ensures at c.find.ensures) ∙ c.in-None.is), rw c.silent.ensures (silent_place _ _))

pub returns-in-Some : goal.returns-in-Some
unfolding frame_at
returns-in-Some c =
    let a = c.args in (
      rw (sym (rw c.from.ensures at c.find.ensures) ∙ c.in-Some.is)
          (frame_answer a.r c.in-Some.zone a.address a.asked a.room.now _ _ c.ask-outcome.result c.ask-outcome.ensures c.put_frame-length.ensures),
      refl,
    )

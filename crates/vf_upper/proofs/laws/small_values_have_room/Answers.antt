use Rattle.vf_upper.proofs.Room.{empty_has_room, has_room}
use Rattle.vf_upper.proofs.laws.small_values_have_room.Goals as goal

pub returns : goal.returns
returns c = record { room = has_room; empty = empty_has_room }

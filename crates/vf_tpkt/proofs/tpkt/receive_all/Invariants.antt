use Rattle.std.proofs.Common.{◌++◌, length}
use Rattle.vf_tpkt.specs.Steps.{Onward}
use Rattle.vf_tpkt.proofs.tpkt.receive_all.Given as goal

abbrev pub invariant-loop-rest : goal.invariant-loop-rest
invariant-loop-rest l =
    Onward l.fn.connection (l.fn.packet.items ++ l.fn.piece) l.fn.units.items l.fn.answers.items l.connection l.packet.items l.rest l.units.items l.answers.items

abbrev pub decreases-loop-rest : goal.decreases-loop-rest
decreases-loop-rest l = length l.rest

use Rattle.std.proofs.Common.{◌≡◌, ◌++◌, length}
use Rattle.vf_tpkt.specs.Pieces.{Extends}
use Rattle.vf_tpkt.specs.Sending.{sent}
use Rattle.vf_tpkt.proofs.data.write_joined.Given as goal

abbrev pub invariant-loop-rest : goal.invariant-loop-rest
invariant-loop-rest l =
    (l.fn.out.items ++ sent l.most (l.fn.head ++ l.tail) ≡ l.out.items ++ sent l.most (l.rest ++ l.tail)) × Extends l.fn.out.items l.out.items

abbrev pub decreases-loop-rest : goal.decreases-loop-rest
decreases-loop-rest l = length l.rest

use Rattle.std.proofs.Common.{◌≡◌, min, take}
use Rattle.vf_tables.specs.Sums.{octets_staged}
use Rattle.vf_tables.proofs.pieces.octets_of_pieces.Given as goal

abbrev pub invariant-loop-piece : goal.invariant-loop-piece
invariant-loop-piece l = l.octets ≡ min (octets_staged (take l.piece-index l.pieces)) 18446744073709551615

use Rattle.std.proofs.Common.{◌≡◌, min, take}
use Rattle.vf_tables.specs.Sums.{elements_staged}
use Rattle.vf_tables.proofs.pieces.elements_of_pieces.Given as goal

abbrev pub invariant-loop-piece : goal.invariant-loop-piece
invariant-loop-piece l = l.elements ≡ min (elements_staged (take l.piece-index l.pieces)) 18446744073709551615

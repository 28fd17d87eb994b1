use Rattle.vf_stack.proofs.PieceLemmas.{in-pieces, octets-cut}
use Rattle.vf_stack.proofs.laws.pieces_tell_all.Goals as goal

pub returns : goal.returns
returns c = record { pieces = in-pieces; octets = octets-cut }

use Rattle.vf_stack.proofs.PieceLemmas.{by-octets}
use Rattle.vf_stack.proofs.laws.octets_tell_the_piece.Goals as goal

pub returns : goal.returns
returns c = by-octets

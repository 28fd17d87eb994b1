use Rattle.std.proofs.Common.{◌≡◌, length}
use Rattle.vf_ber.specs.Primitive.{in_prefix, subidentifiers_at}
use Rattle.vf_ber.proofs.primitive.read_subidentifiers.Given as goal

abbrev pub invariant-loop-rest : goal.invariant-loop-rest
invariant-loop-rest l = in_prefix l.out.items (subidentifiers_at l.rest) ≡ in_prefix l.fn.out.items (subidentifiers_at l.octets)

abbrev pub decreases-loop-rest : goal.decreases-loop-rest
decreases-loop-rest l = length l.rest

use Rattle.std.proofs.Common.{◌≡◌, ◌≤◌, drop}
use Rattle.vf_ber.specs.Primitive.{septets}
use Rattle.vf_ber.proofs.primitive.number_of.Given as goal

abbrev pub invariant-loop-octet : goal.invariant-loop-octet
invariant-loop-octet l = (l.n ≤ 268435583) × (septets l.n (drop l.octet-index l.group) ≡ septets 0 l.group)

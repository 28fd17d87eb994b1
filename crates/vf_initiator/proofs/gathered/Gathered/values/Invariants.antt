use Rattle.std.proofs.Common.{◌≡◌, ◌++◌, take}
use Rattle.vf_initiator.proofs.gathered.Gathered.values.Given as goal

abbrev pub invariant-loop-element : goal.invariant-loop-element
invariant-loop-element l = l.self ≡ record l.initial.self { fresh = l.initial.self.fresh ++ take l.element-index l.elements }

use Rattle.std.proofs.Common.{◌≡◌, take}
use Rattle.vf_party_steps.proofs.checking.copied.Given as goal

-- those so far are copied
abbrev pub invariant-loop-element : goal.invariant-loop-element
invariant-loop-element l = l.made ≡ take l.element-index l.elements

use Rattle.std.proofs.Common.{◌≡◌, map, take}
use Rattle.vf_upper.specs.Carried.{carried_of}
use Rattle.vf_upper.proofs.values.CarriedValues.copy.Given as goal

-- what is made so far is the prefix of the list
abbrev pub invariant-loop-value : goal.invariant-loop-value
invariant-loop-value l = l.made ≡ map carried_of (take l.value-index l.value-items)

use Rattle.std.proofs.Common.{◌≡◌, map, take}
use Rattle.vf_upper.specs.Carried.{carried_of}
use Rattle.vf_upper.specs.Written.{external, trees}
use Rattle.vf_upper.proofs.acse.user_information.Given as goal

abbrev pub invariant-loop-value : goal.invariant-loop-value
invariant-loop-value l = l.parts ≡ trees (map external (map carried_of (take l.value-index l.value-items)))

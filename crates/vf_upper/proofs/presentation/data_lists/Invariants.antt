use Rattle.std.proofs.Common.{◌≡◌, map, take}
use Rattle.vf_upper.specs.Carried.{carried_of}
use Rattle.vf_upper.specs.Written.{carried_list, trees}
use Rattle.vf_upper.proofs.presentation.data_lists.Given as goal

abbrev pub invariant-loop-value : goal.invariant-loop-value
invariant-loop-value l = l.made ≡ trees (map carried_list (map carried_of (take l.value-index l.value-items)))

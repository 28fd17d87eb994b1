use Rattle.std.proofs.Common.{◌≡◌, drop, map}
use Rattle.std.specs.Prelude.{Some}
use Rattle.vf_upper.specs.Carried.{carried_of}
use Rattle.vf_upper.specs.Sizes.{all, carried_size}
use Rattle.vf_upper.proofs.sizes.all_carried.Given as goal

abbrev pub invariant-loop-value : goal.invariant-loop-value
invariant-loop-value l = all l.total (map (carried_size l.depth) (map carried_of (drop l.value-index l.fn.values))) ≡ all (Some 0) (map (carried_size l.depth) (map carried_of l.fn.values))

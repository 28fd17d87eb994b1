use Rattle.std.proofs.Common.{◌≡◌, ◌++◌, take}
use Rattle.std.specs.List.{flat_map}
use Rattle.vf_ber.specs.Contents.{arc_octets}
use Rattle.vf_ber.proofs.contents.put_arcs.Given as goal

abbrev pub invariant-loop-arc : goal.invariant-loop-arc
invariant-loop-arc l = l.out.items ≡ l.fn.out.items ++ flat_map arc_octets (take l.arc-index l.arcs)

use Rattle.std.proofs.Common.{◌≡◌, ◌≤◌, ◌*◌, length, take}
use Rattle.std.specs.List.{flat_map}
use Rattle.vf_ber.specs.Contents.{arc_octets}
use Rattle.vf_upper.proofs.sizes.arcs_len.Given as goal

abbrev pub invariant-loop-arc : goal.invariant-loop-arc
invariant-loop-arc l = (l.len ≡ length (flat_map arc_octets (take l.arc-index l.arcs))) × (l.len ≤ 5 * l.arc-index)

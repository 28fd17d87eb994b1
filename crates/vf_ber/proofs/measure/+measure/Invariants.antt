use Rattle.std.proofs.Common.{◌≡◌, ◌*◌, ◌+◌, ◌-◌, ◌≤◌, drop}
use Rattle.vf_ber.specs.Views.{trees_in}
use Rattle.vf_ber.specs.Limits.{measured_in}
use Rattle.vf_ber.proofs.Measures.{plus}
use Rattle.vf_ber.proofs.measure.+measure.Given as goal

abbrev pub decreases-measure : goal.decreases-measure
decreases-measure l = 2 * l.depth

abbrev pub decreases-measure_parts : goal.decreases-measure_parts
decreases-measure_parts l = 2 * l.depth + 1

abbrev pub invariant-measure_parts-loop-part : goal.invariant-measure_parts-loop-part
invariant-measure_parts-loop-part l =
    (l.total ≤ l.room) × (plus l.total (measured_in l.depth (l.room - l.total) (trees_in (drop l.part-index l.parts))) ≡ measured_in l.depth l.room (trees_in l.parts))

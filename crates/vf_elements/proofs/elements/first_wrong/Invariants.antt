use Rattle.std.proofs.Common.{◌≡◌}
use Rattle.vf_ber.specs.Views.{trees_in}
use Rattle.vf_pdu_fields.specs.Reading.{rest}
use Rattle.vf_elements.specs.ElementFaults.{wrong_segment}
use Rattle.vf_elements.proofs.elements.first_wrong.Given as goal

abbrev pub invariant-loop-place : goal.invariant-loop-place
invariant-loop-place l = wrong_segment 0 (trees_in l.parts) ≡ wrong_segment l.place (rest l.parts l.place)

use Rattle.std.proofs.Common.{[], List, take}
use Rattle.vf_base.specs.declared.element.Element.{Element}
use Rattle.vf_party_steps.specs.Recoveries.{IsFilled}
use Rattle.vf_party_steps.proofs.recovered_write.take_piece.Given as goal

-- the values so far are taken
abbrev pub invariant-loop-element : goal.invariant-loop-element
invariant-loop-element l = (pieces : List (List Element)) → IsFilled l.fn.received pieces [] → IsFilled l.received pieces (take l.element-index l.piece)

use Rattle.std.proofs.Common.{◌≡◌, drop}
use Rattle.vf_upper_grammar.specs.Forms.{are_arcs}
use Rattle.vf_stack.proofs.placing.are_same.Given as goal

abbrev pub invariant-loop-arc : goal.invariant-loop-arc
invariant-loop-arc l = are_arcs l.fn.arcs l.fn.others ≡ are_arcs (drop l.arc-index l.arcs) l.rest

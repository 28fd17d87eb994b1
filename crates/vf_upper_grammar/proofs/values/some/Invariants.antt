use Rattle.std.proofs.Common.{◌≡◌, ◌-◌, ◌≤◌, drop, length}
use Rattle.vf_upper_grammar.specs.HeldViews.{octets_of}
use Rattle.vf_upper_grammar.specs.MarkViews.{marks_of}
use Rattle.vf_upper_grammar.specs.Texts.{some as some_values}
use Rattle.vf_upper_grammar.proofs.InTurn.{left}
use Rattle.vf_upper_grammar.proofs.values.some.Given as goal

abbrev pub invariant-loop-more : goal.invariant-loop-more
invariant-loop-more l =
    (some_values (octets_of l.held) (marks_of l.fn.found) ≡ left l.more l.at (drop l.at (octets_of l.held)) (marks_of l.found)) × (l.at ≤ length (octets_of l.held))

abbrev pub decreases-loop-more : goal.decreases-loop-more
decreases-loop-more l = length (octets_of l.held) - l.at

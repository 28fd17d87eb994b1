use Rattle.std.proofs.Common.{◌≡◌, ◌++◌, drop, map}
use Rattle.vf_upper_grammar.specs.MarkViews.{mark_of}
use Rattle.vf_upper.specs.Primitives.{results_of}
use Rattle.vf_upper.proofs.conclusion.results_of.Given as goal

abbrev pub invariant-loop-mark : goal.invariant-loop-mark
invariant-loop-mark l = results_of (map mark_of l.fn.marks) ≡ l.made ++ results_of (map mark_of (drop l.mark-index l.fn.marks))

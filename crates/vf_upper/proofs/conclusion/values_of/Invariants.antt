use Rattle.std.proofs.Common.{◌≡◌, ◌++◌, map}
use Rattle.std.specs.Vec.Iter.{into_iter_items}
use Rattle.vf_upper_grammar.specs.MarkViews.{mark_of, marks_of}
use Rattle.vf_upper.specs.Primitives.{values_from, values_of}
use Rattle.vf_upper.proofs.conclusion.values_of.Given as goal

abbrev pub invariant-loop-mark : goal.invariant-loop-mark
invariant-loop-mark l = values_of (marks_of l.fn.marks) ≡ l.made ++ values_from l.context (map mark_of (into_iter_items l.mark-iterator))

use Rattle.std.proofs.Common.{◌≡◌, drop, map}
use Rattle.vf_upper_grammar.specs.MarkViews.{mark_of}
use Rattle.vf_upper.specs.Primitives.{offers_ber}
use Rattle.vf_upper.proofs.conclusion.offers_ber.Given as goal

abbrev pub invariant-loop-mark : goal.invariant-loop-mark
invariant-loop-mark l = offers_ber (map mark_of l.fn.marks) ≡ offers_ber (map mark_of (drop l.mark-index l.fn.marks))

use Rattle.std.proofs.Common.{◌≡◌, drop, map}
use Rattle.vf_upper.specs.Conclusions.{negotiated_of}
use Rattle.vf_upper_grammar.specs.MarkViews.{mark_of}
use Rattle.vf_upper.specs.Primitives.{refusal}
use Rattle.vf_upper.proofs.conclusion.refusal.Given as goal

abbrev pub invariant-loop-mark : goal.invariant-loop-mark
invariant-loop-mark l = refusal (negotiated_of l.negotiated) (map mark_of l.fn.marks) ≡ refusal (negotiated_of l.negotiated) (map mark_of (drop l.mark-index l.fn.marks))

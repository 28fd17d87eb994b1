use Rattle.std.proofs.Common.{◌≡◌, drop}
use Rattle.vf_upper.specs.Primitives.{answered, syntax_of}
use Rattle.vf_upper.proofs.negotiated.answered_syntax.Given as goal

abbrev pub invariant-loop-entry : goal.invariant-loop-entry
invariant-loop-entry l = syntax_of l.fn.id (answered (drop l.entry-index l.fn.contexts) l.answers) ≡ syntax_of l.fn.id (answered l.fn.contexts l.fn.results)

use Rattle.std.proofs.Common.{◌≡◌, drop}
use Rattle.vf_upper.specs.Primitives.{syntax_of}
use Rattle.vf_upper.specs.Written.{accepted}
use Rattle.vf_stack.proofs.placing.has_context.Given as goal

abbrev pub invariant-loop-entry : goal.invariant-loop-entry
invariant-loop-entry l = syntax_of l.id (accepted (drop l.entry-index l.fn.contexts)) ≡ syntax_of l.id (accepted l.fn.contexts)

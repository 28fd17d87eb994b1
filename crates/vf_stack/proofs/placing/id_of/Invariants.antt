use Rattle.std.proofs.Common.{◌≡◌, drop}
use Rattle.vf_upper.specs.Written.{id_of}
use Rattle.vf_stack.proofs.PlacingLemmas.{id_soon}
use Rattle.vf_stack.proofs.placing.id_of.Given as goal

abbrev pub invariant-loop-entry : goal.invariant-loop-entry
invariant-loop-entry l = id_soon l.fn.contexts l.fn.syntax (drop l.entry-index l.fn.contexts) ≡ id_of l.fn.syntax l.fn.contexts

use Rattle.std.proofs.Common.{◌≡◌, ◌++◌, drop}
use Rattle.vf_stack.specs.Contexts.{chosen}
use Rattle.vf_stack.proofs.contexts.chosen.Given as goal

abbrev pub invariant-loop-entry : goal.invariant-loop-entry
invariant-loop-entry l = chosen l.fn.proposed l.fn.results ≡ l.made ++ chosen (drop l.entry-index l.fn.proposed) l.answers

use Rattle.std.proofs.Common.{◌≡◌, drop, map, true}
use Rattle.vf_upper.specs.Primitives.{with_result, syntax_of}
use Rattle.vf_upper.proofs.negotiated.accepted_syntax.Given as goal

abbrev pub invariant-loop-entry : goal.invariant-loop-entry
invariant-loop-entry l = syntax_of l.fn.id (map (with_result true) (drop l.entry-index l.fn.contexts)) ≡ syntax_of l.fn.id (map (with_result true) l.fn.contexts)

use Rattle.std.proofs.Common.{◌≡◌, drop}
use Rattle.vf_upper_grammar.specs.Syntaxes.{acse}
use Rattle.vf_upper.specs.Written.{id_among}
use Rattle.vf_upper.proofs.negotiated.acse_id.Given as goal

abbrev pub invariant-loop-entry : goal.invariant-loop-entry
invariant-loop-entry l = id_among l.fn.contexts acse (drop l.entry-index l.fn.contexts) ≡ id_among l.fn.contexts acse l.fn.contexts

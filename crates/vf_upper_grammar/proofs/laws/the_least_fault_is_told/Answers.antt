use Rattle.vf_upper_grammar.proofs.LeastTypes.{least_is_told, others_have_faults}
use Rattle.vf_upper_grammar.proofs.laws.the_least_fault_is_told.Goals as goal

pub returns-clause-least : goal.returns-clause-least
returns-clause-least c = least_is_told

pub returns-clause-others : goal.returns-clause-others
returns-clause-others c = others_have_faults

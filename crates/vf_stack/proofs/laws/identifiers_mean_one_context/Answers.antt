use Rattle.vf_stack.proofs.ContextLemmas.{answered-so, means-one}
use Rattle.vf_stack.proofs.laws.identifiers_mean_one_context.Goals as goal

pub returns : goal.returns
returns c = record { requested = means-one; answered = answered-so }

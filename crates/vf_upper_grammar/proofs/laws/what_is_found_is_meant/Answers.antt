use Rattle.vf_upper_grammar.proofs.TypesMeant.{found_is_meant}
use Rattle.vf_upper_grammar.proofs.laws.what_is_found_is_meant.Goals as goal

pub returns : goal.returns
returns c = found_is_meant

use Rattle.vf_incarnations.proofs.Recovered.{good_ends_perform, own_list_stands}
use Rattle.vf_incarnations.proofs.laws.own_lists_are_performed.Goals as goal

pub returns : goal.returns
returns c = record { stands = own_list_stands; performs = good_ends_perform }

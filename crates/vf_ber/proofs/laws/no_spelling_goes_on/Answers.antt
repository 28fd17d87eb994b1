use Rattle.vf_ber.proofs.Readings.{prefix_free}
use Rattle.vf_ber.proofs.laws.no_spelling_goes_on.Goals as goal

pub returns : goal.returns
returns c = prefix_free

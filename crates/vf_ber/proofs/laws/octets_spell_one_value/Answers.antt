use Rattle.vf_ber.proofs.Readings.{spells_one}
use Rattle.vf_ber.proofs.laws.octets_spell_one_value.Goals as goal

pub returns : goal.returns
returns c = spells_one

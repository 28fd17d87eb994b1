use Rattle.vf_ber.proofs.Oids.{oid-spelled}
use Rattle.vf_ber.proofs.contents_laws.oids_are_spelled.Goals as goal

pub returns : goal.returns
returns c = λ tag octets arcs all e. oid-spelled octets arcs all e

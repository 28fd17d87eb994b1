use Rattle.vf_ber.proofs.Oids.{oid-read}
use Rattle.vf_ber.proofs.contents_laws.oids_are_read.Goals as goal

pub returns : goal.returns
returns c = λ tag arcs is. oid-read arcs is

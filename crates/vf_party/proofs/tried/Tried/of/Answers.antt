use Rattle.vf_party.proofs.Lent.{over_lent}
use Rattle.vf_party.proofs.tried.Tried.of.Goals as goal

pub returns : goal.returns
returns c = over_lent c.args.lent c.args.kept.now c.requires

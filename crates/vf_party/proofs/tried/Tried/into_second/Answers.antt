use Rattle.vf_party.proofs.Lent.{second_is}
use Rattle.vf_party.proofs.tried.Tried.into_second.Goals as goal

pub returns : goal.returns
returns c = second_is c.self.inside.own c.self.inside.kept.now c.args.self c.self.view_is

use Rattle.std.proofs.Common.{None, refl}
use Rattle.vf_stack.specs.declared.indication.Indication.TheVariants as indications
use Rattle.vf_responder.proofs.link.Link.leave.Goals as goal

pub returns-clause-said : goal.returns-clause-said
returns-clause-said c = λ association called. c.in_ok-speak.ensures.said association (indications.Abort None) called (record { sync = refl; serial = refl })

use Rattle.std.proofs.Common.{None, Some, refl}
use Rattle.vf_cli_calling.specs.Calling.{Sends}
use Rattle.vf_cli_calling.proofs.Speaking.{acknowledges, says_nothing}
use Rattle.vf_cli_calling.proofs.caller.Caller.acknowledge.Goals as goal

pub returns-in_ok-offer-in-Some : goal.returns-in_ok-offer-in-Some
returns-in_ok-offer-in-Some c = λ calling is.
    acknowledges c.args.self.now calling c.args.point (Some c.in-Some.serial) c.args.out.now.items c.offer.new.self c.offer.new.out.items is c.in-Some.ensures (c.in_ok-offer-in-Some.ensures calling is)

pub returns-in-None : goal.returns-in-None
returns-in-None c = λ calling is.
    acknowledges c.args.self.now calling c.args.point None c.args.out.now.items c.args.self.now c.args.out.now.items is c.in-None.ensures
    (says_nothing (Sends calling None) c.args.self.now calling c.args.out.now.items is (refl, refl))

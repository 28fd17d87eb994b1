use Rattle.std.proofs.Common.{ap, ℕ}
use Rattle.vf_stack.specs.declared.request.Request.TheVariants.{Check}
use Rattle.vf_cli_calling.specs.Calling.{next_of}
use Rattle.vf_cli_calling.proofs.Speaking.{offers_as}
use Rattle.vf_cli_calling.proofs.caller.Caller.check.Goals as goal

pub returns : goal.returns
returns c = λ calling is.
    offers_as calling (Check c.next_serial-serial.result) (Check (next_of calling)) c.args.out.now.items c.offer.new.self c.offer.new.out.items
    (ap (λ (n : ℕ). Check n) (c.next_serial-serial.ensures.association calling.association is.association)) (c.in_ok-offer.ensures calling is)

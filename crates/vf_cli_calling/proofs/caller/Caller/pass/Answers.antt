use Rattle.vf_cli_calling.proofs.caller.Caller.pass.Goals as goal

pub returns : goal.returns
returns c = λ calling is. c.in_ok-offer.ensures calling is

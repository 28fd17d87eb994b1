use Rattle.vf_cli_calling.proofs.caller.Caller.restart.Goals as goal

pub returns : goal.returns
returns c = λ calling is. c.in_ok-say_once.ensures calling is

use Rattle.vf_cli_generate.proofs.peer.calling.Goals as goal

pub returns-in-Ok-clause-ok : goal.returns-in-Ok-clause-ok
returns-in-Ok-clause-ok c = record { side = c.in-Ok.ensures.stack.0; offer = c.in-Ok.ensures.offer; represents = c.in-Ok.ensures.stack.1 }

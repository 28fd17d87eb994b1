use Rattle.vf_cli_calling.proofs.Speaking.{offers}
use Rattle.vf_cli_calling.proofs.caller.Caller.offer.Goals as goal

pub returns : goal.returns
returns c = λ calling is. offers c.in_ok-_sent._sent calling c.args.request c.args.out.now.items c.send.new.self c.send.new.out.items (c.in_ok-_sent.ensures calling is)

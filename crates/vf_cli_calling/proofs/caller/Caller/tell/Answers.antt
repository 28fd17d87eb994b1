use Rattle.vf_cli_calling.proofs.Hearing.{tells_so}
use Rattle.vf_cli_calling.specs.Calling.{noted}
use Rattle.vf_cli_calling.proofs.caller.Caller.tell.Goals as goal

pub returns : goal.returns
returns c = λ calling is read.
    tells_so c.args.link c.note.new.self (noted calling c.args.indication.now) c.args.indication.now c.args.text.now.items c.append_heard.new.text.items (c.note.ensures calling is) (c.in_ok-append_heard.ensures read)

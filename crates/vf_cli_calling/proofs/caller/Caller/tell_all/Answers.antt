use Rattle.vf_cli_calling.proofs.Hearing.{told_first, told_last, told_next}
use Rattle.vf_cli_calling.proofs.caller.Caller.tell_all.Goals as goal

pub loop-indication-init : goal.loop-indication-init
loop-indication-init c = λ calling is read. told_first c.args.link c.args.self.now calling c.args.told.now c.args.text.now.items is read

pub loop-indication-preserved : goal.loop-indication-preserved
loop-indication-preserved c = λ calling is read.
    told_next c.args.link calling c.args.told.now c.args.text.now.items c.loop-indication.self c.loop-indication.text.items c.tell.new.self c.tell.new.text.items c.indication-item.result c.loop-indication.indication-index c.loop-indication-test.true c.indication-item.is
    (c.loop-indication.invariant calling is read) c.in_ok-tell.ensures

pub returns : goal.returns
returns c = λ calling is read.
    told_last c.args.link calling c.args.told.now c.args.text.now.items c.loop-indication.self c.loop-indication.text.items c.loop-indication.indication-index c.loop-indication-test.false (c.loop-indication.invariant calling is read)

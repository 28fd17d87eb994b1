use Rattle.std.proofs.Common.{refl}
use Rattle.vf_initiator.proofs.Took.{took_appended, took_piece}
use Rattle.vf_initiator.proofs.initiator.Initiator.take_waiting.Goals as goal

pub returns-clause-taken : goal.returns-clause-taken
returns-clause-taken c = λ talk is.
    took_appended c.args.self.now c.take_all.new.self talk c.args.piece.now c.args.changes.now c.put_changes.new.changes c.new-sent.result.items c.take_all.new.out.items c.take_all.new.out.items c.args.out.now.items c.append_all.new.out.items c.doing.result
    c.new-sent.ensures.items refl c.in_ok-append_all.ensures.all
    (took_piece c.args.self.now c.take_all.new.self c.mark-mark.new.self c.mark-mark.result talk c.args.piece.now c.args.changes.now c.put_changes.new.changes c.new-sent.result.items c.take_all.new.out.items c.doing.result
    is c.mark-mark.ensures.marked c.mark-mark.ensures.mark c.in_ok-take_all.ensures c.in_ok-put_changes.ensures c.doing.ensures)

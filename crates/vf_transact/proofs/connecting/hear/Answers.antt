-- A read of nothing is the end of the stream.
use Rattle.vf_transact.proofs.Dials.{heard_end}
use Rattle.vf_transact.proofs.connecting.hear.Goals as goal

pub returns-then-count-eq0-clause-heard : goal.returns-then-count-eq0-clause-heard
returns-then-count-eq0-clause-heard g c = λ before said heard on.
    heard_end before said heard c.read.new.into c.in-Ok.count (g.C.Dial.told c.args.dial.now) (g.C.Dial.told c.read.new.self) (g.C.Dial.fault_count c.args.dial.now) (g.C.Dial.fault_count c.read.new.self) on
    c.in-Ok.ensures.connections c.if-count-eq0.true

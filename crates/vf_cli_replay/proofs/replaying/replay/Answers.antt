use Rattle.std.proofs.Common.{inl, inr, refl}
use Rattle.vf_cli_replay.proofs.Printing.{prints_bad, prints_nothing, prints_script}
use Rattle.vf_cli_replay.proofs.Told.{users_are_good}
use Rattle.vf_cli_replay.proofs.replaying.replay.Goals as goal

pub returns-in-Ok-Script-clause-prints : goal.returns-in-Ok-Script-clause-prints
returns-in-Ok-Script-clause-prints g c = λ octets left.
    let told = rw c.in-Ok-Script.field-0-is at (c.in-Ok-Script.ensures.told octets left) in
    prints_script octets c.in-Ok-Script.script c.print_replayed.result (g.O.Sink.taken c.args.out.now) (g.O.Sink.taken c.print_replayed.new.out) told
    (c.print_replayed.ensures.prints (users_are_good octets c.in-Ok-Script.script told))

pub returns-in-Ok-Bad-clause-prints : goal.returns-in-Ok-Bad-clause-prints
returns-in-Ok-Bad-clause-prints g c = λ octets left.
    prints_bad octets c.in-Ok-Bad.number c.print_bad_line.result (g.O.Sink.taken c.args.out.now) (g.O.Sink.taken c.print_bad_line.new.out) (rw c.in-Ok-Bad.field-0-is at (c.in-Ok-Bad.ensures.told octets left)) c.print_bad_line.ensures.prints

pub returns-in-Err-Failed-clause-prints : goal.returns-in-Err-Failed-clause-prints
returns-in-Err-Failed-clause-prints g c = λ octets left. prints_nothing octets 3 (g.O.Sink.taken c.args.out.now) (inl refl)

pub returns-in-Err-NoMemory-clause-prints : goal.returns-in-Err-NoMemory-clause-prints
returns-in-Err-NoMemory-clause-prints g c = λ octets left. prints_nothing octets 9 (g.O.Sink.taken c.args.out.now) (inr (inl refl))

use Rattle.vf_cli_generate.proofs.Going.{goes_stops}
use Rattle.vf_cli_generate.proofs.Making.{arrival_is_front, goes_file}
use Rattle.vf_cli_generate.specs.Generating.{ArrivalFront, FrontOfFile, MakesFile}
use Rattle.vf_cli_generate.proofs.generating.make_file.Goals as goal

pub returns-in-Ok-clause-makes : goal.returns-in-Ok-clause-makes
returns-in-Ok-clause-makes g c = λ number serving are represents stands.
    let arrives = c.in-Ok.ensures.arrives serving represents stands in
    goes_file g.D.Disk.shown g.D.Disk.may_leave g.D.Disk.moment g.D.Disk.left_since number c.args.link c.in-Ok.peer.link c.args.requests.now serving
    c.args.responder.now c.arrive.new.responder c.say_all.new.responder c.in-Ok.peer.stack c.say_all.new.self.stack c.say_all.result arrives.0 are arrives.1
    (λ both here is standing. c.say_all.ensures.says both here is standing)

pub returns-in-Err-clause-makes : goal.returns-in-Err-clause-makes
returns-in-Err-clause-makes g c = λ number serving are represents stands.
    goes_stops g.D.Disk.shown g.D.Disk.may_leave g.D.Disk.moment g.D.Disk.left_since _ (MakesFile number c.args.link serving) (ArrivalFront c.args.link) (FrontOfFile number c.args.link serving) serving
    c.args.responder.now c.arrive.new.responder c.in-Err.error (c.in-Err.ensures.arrives serving represents stands) (λ events front. arrival_is_front number c.args.link serving events front)

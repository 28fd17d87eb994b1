use Rattle.std.proofs.Common.{◌∙◌, ap, sym}
use Rattle.vf_session.specs.Sending.{may}
use Rattle.vf_session.specs.Units.{with_data}
use Rattle.vf_session.specs.declared.state.SessionState.{SessionState}
use Rattle.vf_session.proofs.RoomLemmas.{may-carried}
use Rattle.vf_session.proofs.session.Session.may_carry.Goals as goal

pub returns-clause-state : goal.returns-clause-state
returns-clause-state c =
    may-carried c.args.self.now.side c.args.self.now.offer c.args.self.now.state c.args.say.now c.args.octets c.allows.result c.allows.ensures

pub returns-clause-trace : goal.returns-clause-trace
returns-clause-trace c = λ trace octets r count.
    may-carried c.args.self.now.side c.args.self.now.offer c.args.self.now.state c.args.say.now c.args.octets c.allows.result c.allows.ensures octets count
    ∙ sym (ap (λ (s : SessionState). may c.args.self.now.side c.args.self.now.offer s (with_data c.args.say.now octets)) r.state_is)

use Rattle.std.proofs.Common.{◌∙◌, ap, sym}
use Rattle.vf_session.specs.Rooms.{may_by}
use Rattle.vf_session.specs.Sending.{may}
use Rattle.vf_session.specs.declared.parameters.SayParameters.{SayParameters}
use Rattle.vf_session.specs.declared.state.SessionState.{SessionState}
use Rattle.vf_session.proofs.RoomLemmas.{may-of}
use Rattle.vf_session.proofs.session.Session.may.Goals as goal

pub returns-clause-state : goal.returns-clause-state
returns-clause-state c =
    may-of c.args.self.now.side c.args.self.now.offer c.args.self.now.state c.args.say.now c.data_length.result c.allows.result
    (c.allows.ensures ∙ ap (λ (p : SayParameters). may_by c.args.self.now.side c.args.self.now.offer c.args.self.now.state p c.data_length.result) c.parameters.ensures) c.data_length.ensures

pub returns-clause-trace : goal.returns-clause-trace
returns-clause-trace c = λ trace r.
    may-of c.args.self.now.side c.args.self.now.offer c.args.self.now.state c.args.say.now c.data_length.result c.allows.result
    (c.allows.ensures ∙ ap (λ (p : SayParameters). may_by c.args.self.now.side c.args.self.now.offer c.args.self.now.state p c.data_length.result) c.parameters.ensures) c.data_length.ensures
    ∙ sym (ap (λ (s : SessionState). may c.args.self.now.side c.args.self.now.offer s c.args.say.now) r.state_is)

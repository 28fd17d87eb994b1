use Rattle.std.proofs.Common.{◌≡◌, ◌∙◌, ap}
use Rattle.vf_session.specs.Sending.{holds_token}
use Rattle.vf_session.specs.Trace.{state as state_of}
use Rattle.vf_session.specs.declared.units.TokenSide.{TokenSide}
use Rattle.vf_session.specs.declared.units.TokenSide.TheVariants.{Responder}
use Rattle.vf_responder.proofs.link.Link.setting.Goals as goal

pub returns : goal.returns
returns c = λ association indication called asked.
    let serial = c.next_serial.ensures.association association called.represents in
    let token : c.token.result ≡ holds_token Responder (state_of Responder association.exchange.trace) =
    c.token.ensures.association association called.represents ∙ ap (λ (own : TokenSide). holds_token own (state_of own association.exchange.trace)) called.called in
    (λ i. record { moment = c.args.moment; serial = serial i; token = token i; sync = asked.sync i })

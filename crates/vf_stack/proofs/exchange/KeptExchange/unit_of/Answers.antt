use Rattle.std.proofs.Common.{ap, ◌∙◌}
use Rattle.vf_session.specs.Units.{parameters, with_data}
use Rattle.vf_session.specs.declared.parameters.SayParameters.{SayParameters}
use Rattle.vf_stack.specs.Sends.{unit_kept}
use Rattle.vf_stack.proofs.SendLemmas.{unit-whole}
use Rattle.vf_stack.proofs.exchange.KeptExchange.unit_of.Goals as goal

pub returns : goal.returns
returns c =
    let unit = unit_kept c.args.self.now c.args.request.now in
    c.unit_with.ensures ∙ ap (λ (p : SayParameters). with_data p c.in_ok-user_data.user_data) c.parameters_of-parameters.ensures
    ∙ ap (with_data (parameters unit)) c.in_ok-user_data.ensures ∙ unit-whole unit

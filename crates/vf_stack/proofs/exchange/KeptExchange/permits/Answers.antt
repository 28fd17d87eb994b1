use Rattle.std.proofs.Common.{ap, sym, ◌∙◌}
use Rattle.vf_session.specs.Units.{with_data}
use Rattle.vf_stack.specs.Sending.{permits}
use Rattle.vf_stack.specs.declared.ending.Ending.{Ending}
use Rattle.vf_stack.proofs.MayLemmas.{may-asked, may-counted}
use Rattle.vf_stack.proofs.exchange.KeptExchange.permits.Goals as goal

pub returns-in-Open : goal.returns-in-Open
returns-in-Open c user_data counts =
    let session = c.args.self.now.session in
    let p = c.args.parameters in
    let asked = may-asked session.side session.offer session.state p c.args.octets c.may_carry.result c.may_carry.ensures.state in
    may-counted session.side session.offer session.state p c.args.octets user_data c.may_carry.result asked counts
    ∙ sym (ap (λ (ending : Ending). permits session.side session.offer session.state (with_data p user_data) ending) c.in-Open.is)

pub returns-in-Partly : goal.returns-in-Partly
returns-in-Partly c user_data counts =
    let session = c.args.self.now.session in
    let p = c.args.parameters in
    let asked = may-asked session.side session.offer session.state p c.args.octets c.may_carry-in-Partly.result c.may_carry-in-Partly.ensures.state in
    may-counted session.side session.offer session.state p c.args.octets user_data c.may_carry-in-Partly.result asked counts
    ∙ sym (ap (λ (ending : Ending). permits session.side session.offer session.state (with_data p user_data) ending) c.in-Partly.is)

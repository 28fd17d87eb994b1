use Rattle.std.proofs.Common.{Option, ap, sym, ◌∙◌}
use Rattle.vf_pdu.specs.declared.pdu.Pdu.{Pdu}
use Rattle.vf_stack.specs.Lengths.{placed}
use Rattle.vf_stack.specs.Represents.{standing_of}
use Rattle.vf_stack.specs.Requests.{pdu_carried, results_of}
use Rattle.vf_stack.specs.declared.request.Request.TheVariants.{Refuse}
use Rattle.vf_stack.proofs.CountLemmas.{refuse-placed}
use Rattle.vf_stack.proofs.exchange.KeptExchange.is_refusal_placed.Goals as goal

pub returns-in-Some : goal.returns-in-Some
returns-in-Some c =
    let kept = c.args.self.now in
    c.suits_answer.ensures ∙ sym (refuse-placed (results_of kept.offers) kept.accepted (pdu_carried kept.accepted c.in-Some.field-0))
    ∙ ap (λ (pdu : Option Pdu). placed (standing_of kept) (Refuse pdu)) (sym c.in-Some.is)

use Rattle.std.proofs.Common.{List, [], ◌∷◌, subst, sym, ◌∙◌}
use Rattle.vf_pdu.specs.declared.pdu.Pdu.{Pdu}
use Rattle.vf_stack.specs.Requests.{pdu_carried, results_of}
use Rattle.vf_upper.specs.Laws.{Measures}
use Rattle.vf_upper.specs.declared.contexts.ContextEntry.{ContextEntry}
use Rattle.vf_upper.specs.declared.contexts.Offer.{Offer}
use Rattle.vf_upper.specs.declared.primitive.Primitive.TheVariants.{Accepted}
use Rattle.vf_stack.proofs.CountLemmas.{accept-request, few-counts}
use Rattle.vf_stack.proofs.exchange.KeptExchange.octets_in.Goals as goal

pub returns-then-not-needs_length : goal.returns-then-not-needs_length
returns-then-not-needs_length c = few-counts c.args.self.now c.args.request.now c.requires.carried c.requires.placed (sym c.needs_length.ensures ∙ c.if-not-needs_length.true)

pub returns-in-Accept : goal.returns-in-Accept
returns-in-Accept c =
    let kept = c.args.self.now in
    let pdu = c.value.result.now in
    let O : List Offer → Type 0 = λ offers. Measures (Accepted (results_of offers) (pdu_carried c.as_slice-contexts.result.now pdu ∷ [])) c.as_slice-contexts.result.now c.acceptance_octets.result in
    let K : List ContextEntry → Type 0 = λ contexts. Measures (Accepted (results_of kept.offers) (pdu_carried contexts pdu ∷ [])) contexts c.acceptance_octets.result in
    let P : Pdu → Type 0 = λ p. Measures (Accepted (results_of kept.offers) (pdu_carried kept.accepted p ∷ [])) kept.accepted c.acceptance_octets.result in
    accept-request kept c.args.request.now _ c.in-Accept.pdu c.acceptance_octets.result c.in-Accept.is c.requires.placed
    (subst P c.value.ensures (subst K c.as_slice-contexts.ensures (subst O c.as_slice-offers.ensures c.acceptance_octets.ensures)))

use Rattle.std.proofs.Common.{List, [], ◌∷◌, Option, ap, subst}
use Rattle.vf_pdu.specs.declared.pdu.Pdu.{Pdu}
use Rattle.vf_stack.specs.Lengths.{needs_length}
use Rattle.vf_stack.specs.Requests.{pdu_carried, results_of}
use Rattle.vf_stack.specs.declared.request.Request.TheVariants.{Refuse}
use Rattle.vf_upper.specs.Laws.{Measures}
use Rattle.vf_upper.specs.declared.contexts.ContextEntry.{ContextEntry}
use Rattle.vf_upper.specs.declared.contexts.Offer.{Offer}
use Rattle.vf_upper.specs.declared.primitive.Primitive.TheVariants.{Refused}
use Rattle.vf_stack.proofs.CountLemmas.{few-counts, refuse-request}
use Rattle.vf_stack.proofs.exchange.KeptExchange.refusal_in.Goals as goal

pub returns-in-Some : goal.returns-in-Some
returns-in-Some c =
    let kept = c.args.self.now in
    let pdu = c.value.result.now in
    let O : List Offer → Type 0 = λ offers. Measures (Refused (results_of offers) (pdu_carried c.as_slice-contexts.result.now pdu ∷ [])) c.as_slice-contexts.result.now c.refusal_octets.result in
    let K : List ContextEntry → Type 0 = λ contexts. Measures (Refused (results_of kept.offers) (pdu_carried contexts pdu ∷ [])) contexts c.refusal_octets.result in
    let P : Pdu → Type 0 = λ p. Measures (Refused (results_of kept.offers) (pdu_carried kept.accepted p ∷ [])) kept.accepted c.refusal_octets.result in
    refuse-request kept (Refuse c.args.pdu.now) c.in-Some.pdu c.refusal_octets.result (ap (λ (p : Option Pdu). Refuse p) c.in-Some.is) c.requires.placed
    (subst P c.value.ensures (subst K c.as_slice-contexts.ensures (subst O c.as_slice-offers.ensures c.refusal_octets.ensures)))

pub returns-in-None : goal.returns-in-None
returns-in-None c = few-counts c.args.self.now (Refuse c.args.pdu.now) c.requires.carried c.requires.placed (ap (λ (p : Option Pdu). needs_length (Refuse p)) c.in-None.is)

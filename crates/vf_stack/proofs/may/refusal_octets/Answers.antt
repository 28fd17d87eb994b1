use Rattle.std.proofs.Common.{[], ◌∷◌, rules, subst, sym}
use Rattle.std.specs.Prelude.{ℤ}
use Rattle.vf_pdu.specs.PduNumbers.{number_of}
use Rattle.vf_pdu.specs.PduValue.{value}
use Rattle.vf_stack.specs.Requests.{results_of}
use Rattle.vf_upper.specs.Laws.{Measures, in_context}
use Rattle.vf_upper.specs.declared.primitive.Primitive.TheVariants.{Refused}
use Rattle.vf_stack.proofs.CountLemmas.{handed, pdu-shallow}
use Rattle.vf_stack.proofs.PduLemmas.{same-by}
use Rattle.vf_stack.proofs.may.refusal_octets.Goals as goal
use mir.Syntax.{w64}
use mir.Val.{SFits}

pub response_length-octets-requires : goal.response_length-octets-requires
response_length-octets-requires c = same-by (number_of c.args.pdu.now) 1 c.requires.0

pub returns : goal.returns
returns c =
    let pdu = c.args.pdu.now in
    let contexts = c.args.contexts.now in
    let P : ℤ → Type 0 = λ id. Measures (Refused (results_of c.args.offers.now) (in_context id (value pdu) ∷ [])) contexts c.refusal_length.result in
    let fits : SFits w64 c.pdu_id.result = search rules in
    subst P c.pdu_id.ensures (handed P c.pdu_id.result fits (c.refusal_length.ensures (value pdu) (pdu-shallow pdu c.requires.1) (sym c.response_length-octets.ensures)))

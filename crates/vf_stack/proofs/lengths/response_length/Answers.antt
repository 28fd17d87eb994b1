use Rattle.std.proofs.Common.{ap, sym, ◌∙◌, length, arith}
use Rattle.vf_ber.specs.Spelling.{spell}
use Rattle.vf_pdu.specs.PduValue.{value}
use Rattle.vf_pdu.specs.declared.pdu.Pdu.{Pdu}
use Rattle.vf_stack.proofs.PduLemmas.{response-octets}
use Rattle.vf_stack.proofs.lengths.response_length.Goals as goal

pub returns : goal.returns
returns c =
    let octets = response-octets c.in-InitializeResponse.diagnostic c.in-InitializeResponse.units c.in-InitializeResponse.window in
    omega (arith, c.diagnostic_length.ensures.length, c.numbers_length.ensures.length, octets) ∙ ap (λ (pdu : Pdu). length (spell (value pdu))) (sym c.in-InitializeResponse.is)

-- What comes to an initiator, as far as its table tells it apart (ISO 8571-4): answers, each with the diagnostic that
-- refuses if there is one, values, checks, and what ends the connection.
use Rattle.std.specs.Prelude.{ℕ, Option, None, Some, unwrap_or}
use Rattle.vf_base.specs.declared.diagnostic.Diagnostic.{Diagnostic}
use Rattle.vf_initiator.specs.declared.heard.Heard.{Heard}
use Rattle.vf_initiator.specs.declared.heard.Heard.TheVariants as heard
use Rattle.vf_pdu.specs.declared.pdu.Pdu.{Pdu}
use Rattle.vf_pdu.specs.declared.pdu.Pdu.TheVariants as pdus
use Rattle.vf_stack.specs.declared.indication.Indication.{Indication}
use Rattle.vf_stack.specs.declared.indication.Indication.TheVariants.{Accepted, Refused, Released, Item, Check, Acknowledged, Abort, Fault}
use Rattle.vf_stack.specs.declared.indication.Item.TheVariants as items

-- an answer in P-DATA; the number of the transfer is 1 where an answer to F-RECOVER leaves it out (profile)
abbrev pub heard_of_pdu : Pdu → Heard
heard_of_pdu (pdus.SelectResponse diagnostic) = heard.Selected diagnostic
heard_of_pdu (pdus.DeselectResponse diagnostic) = heard.Deselected diagnostic
heard_of_pdu (pdus.CreateResponse diagnostic) = heard.Created diagnostic
heard_of_pdu (pdus.OpenResponse diagnostic contents) = heard.Opened diagnostic
heard_of_pdu (pdus.CloseResponse diagnostic) = heard.Closed diagnostic
heard_of_pdu (pdus.RecoverResponse diagnostic number point moving last) = heard.Recovered diagnostic (unwrap_or number 1) point moving last
heard_of_pdu (pdus.DataEnd diagnostic) = heard.DataEnded diagnostic
heard_of_pdu (pdus.TransferEndResponse diagnostic) = heard.TransferEnded diagnostic
heard_of_pdu pdu = heard.Other

-- the acceptance of an association, and a refusal, which may come from a lower layer without a PDU
abbrev pub accepted_in : Pdu → Heard
accepted_in (pdus.InitializeResponse diagnostic units window) = heard.Accepted diagnostic units window
accepted_in pdu = heard.Other

abbrev pub refusal_in_pdu : Pdu → Option Diagnostic
refusal_in_pdu (pdus.InitializeResponse diagnostic units window) = diagnostic
refusal_in_pdu pdu = None

abbrev pub refusal_in : Option Pdu → Option Diagnostic
refusal_in None = None
refusal_in (Some pdu) = refusal_in_pdu pdu

-- the number of F-U-ABORT or F-P-ABORT; 0 of an abort without a PDU
abbrev pub number_of_abort_pdu : Pdu → ℕ
number_of_abort_pdu (pdus.UserAbort number) = number
number_of_abort_pdu (pdus.ProviderAbort number place) = number
number_of_abort_pdu pdu = 0

abbrev pub number_of_abort : Option Pdu → ℕ
number_of_abort None = 0
number_of_abort (Some pdu) = number_of_abort_pdu pdu

abbrev pub heard_in : Indication → Heard
heard_in (Accepted sync pdu) = accepted_in pdu
heard_in (Refused pdu) = heard.Refused (refusal_in pdu)
heard_in (Released pdu) = heard.Terminated
heard_in (Item (items.Pdu pdu)) = heard_of_pdu pdu
heard_in (Item (items.Element element)) = heard.Value element
heard_in (Check serial) = heard.Check serial
heard_in (Acknowledged serial) = heard.Acknowledged serial
heard_in (Abort pdu) = heard.Aborted (number_of_abort pdu)
heard_in (Fault layer name at) = heard.Faulty layer name at
heard_in indication = heard.Other

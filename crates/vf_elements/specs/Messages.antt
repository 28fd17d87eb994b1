-- The message that a value means, or its fault: a value of context class is a PDU's (ISO 8571-4), any other one a data
-- element's.
use Rattle.std.specs.Prelude.{ℕ, nat_eq, Result, Ok, Err, if◌then◌else◌}
use Rattle.vf_base.specs.declared.element.Element.{Element}
use Rattle.vf_ber.specs.Tree.{Tree, root}
use Rattle.vf_elements.specs.ElementReading.{element_in}
use Rattle.vf_elements.specs.declared.message.Message.{Message}
use Rattle.vf_elements.specs.declared.message.Message.TheVariants as messages
use Rattle.vf_pdu_fields.specs.Fault.{Fault, Unknown, Field, Range, Missing}
use Rattle.vf_pdu.specs.PduReading.{pdu_in}
use Rattle.vf_pdu.specs.declared.pdu.Pdu.{Pdu}

abbrev pub from_pdu : Result Pdu Fault → Result Message Fault
from_pdu (Ok pdu) = Ok (messages.Pdu pdu)
from_pdu (Err fault) = Err fault

abbrev pub from_element : Result Element Fault → Result Message Fault
from_element (Ok element) = Ok (messages.Element element)
from_element (Err fault) = Err fault

unfoldable pub message_in : Tree → Result Message Fault
message_in tree = if nat_eq (root tree).class 2 then from_pdu (pdu_in tree) else from_element (element_in tree)

-- Where a fault is told to stand (profile): the place of a part, or the number of a field; 0 of a value whose tag is
-- no message's.
abbrev pub place_of : Fault → ℕ
place_of (Unknown tag) = 0
place_of (Field place) = place
place_of (Range field) = field
place_of (Missing field) = field

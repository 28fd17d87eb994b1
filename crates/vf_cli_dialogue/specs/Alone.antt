-- Responses without a parameter (ISO 8571-4): two octets spell each, of which this is the first, its identifier
-- (ISO 8825, 8.1), and a length of 0 the second.
use Rattle.std.specs.Prelude.{ℕ, Option, Some, None}
use Rattle.vf_pdu.specs.declared.pdu.Pdu.{Pdu}
use Rattle.vf_pdu.specs.declared.pdu.Pdu.TheVariants.{SelectResponse, DeselectResponse, CreateResponse, DeleteResponse, ChangeAttribResponse, CloseResponse, BeginGroupResponse, EndGroupResponse}

abbrev pub alone : Pdu → Option ℕ
alone (SelectResponse None) = Some 167
alone (DeselectResponse None) = Some 169
alone (CreateResponse None) = Some 171
alone (DeleteResponse None) = Some 173
alone (ChangeAttribResponse None) = Some 177
alone (CloseResponse None) = Some 181
alone BeginGroupResponse = Some 183
alone EndGroupResponse = Some 185
alone _ = None

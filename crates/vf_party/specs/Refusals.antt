-- What is said to a request that a diagnostic refuses, by the number of the request's tag (ISO 8571-4, the responses).
use Rattle.std.specs.Prelude.{ℕ, ◌==◌, false, List, [], Option, None, Some, if◌then◌else◌}
use Rattle.vf_base.specs.declared.diagnostic.Diagnostic.{Diagnostic}
use Rattle.vf_elements.specs.declared.message.Said.{Said}
use Rattle.vf_filestore.specs.Replies.{reply}
use Rattle.vf_pdu.specs.declared.pdu.Pdu.{Pdu}
use Rattle.vf_pdu.specs.declared.pdu.Pdu.TheVariants.{InitializeResponse, SelectResponse, DeselectResponse, CreateResponse, DeleteResponse, ReadAttribResponse, ChangeAttribResponse, OpenResponse, CloseResponse, RecoverResponse, LocateResponse, EraseResponse}

-- the response with the diagnostic; other messages have none
abbrev pub response_numbered : (number : ℕ) → Diagnostic → Option Pdu
response_numbered number diagnostic =
    if number == 0 then Some (InitializeResponse (Some diagnostic) 0 1)
    else if number == 6 then Some (SelectResponse (Some diagnostic))
    else if number == 8 then Some (DeselectResponse (Some diagnostic))
    else if number == 10 then Some (CreateResponse (Some diagnostic))
    else if number == 12 then Some (DeleteResponse (Some diagnostic))
    else if number == 14 then Some (ReadAttribResponse (Some diagnostic) None)
    else if number == 16 then Some (ChangeAttribResponse (Some diagnostic))
    else if number == 18 then Some (OpenResponse (Some diagnostic) None)
    else if number == 20 then Some (CloseResponse (Some diagnostic))
    else if number == 26 then Some (RecoverResponse (Some diagnostic) None 0 false 0)
    else if number == 28 then Some (LocateResponse (Some diagnostic) 0)
    else if number == 30 then Some (EraseResponse (Some diagnostic))
    else None

abbrev pub reply_where : Option Pdu → List Said
reply_where None = []
reply_where (Some response) = reply response

abbrev pub refusal_numbered : (number : ℕ) → Diagnostic → List Said
refusal_numbered number diagnostic = reply_where (response_numbered number diagnostic)

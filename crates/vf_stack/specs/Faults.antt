-- Faults of the layers: the layer, the name and the place.
use Rattle.std.specs.Prelude.{ℕ, List}
use Rattle.vf_elements.specs.Messages.{place_of}
use Rattle.vf_pdu_fields.specs.Fault.{Fault as FieldFault, Unknown as UnknownOf, Field as FieldOf, Range as RangeOf, Missing as MissingOf}
use Rattle.vf_session.specs.declared.errors.SessionError.{SessionError}
use Rattle.vf_session.specs.declared.errors.SessionError.TheVariants as session
use Rattle.vf_session_spdu.specs.Reading.{fault_place}
use Rattle.vf_session_spdu.specs.declared.errors.SpduError.{SpduError}
use Rattle.vf_session_spdu.specs.declared.errors.SpduError.TheVariants as spdus
use Rattle.vf_stack.specs.declared.fault.Fault.{Fault}
use Rattle.vf_stack.specs.declared.indication.FaultName.{FaultName}
use Rattle.vf_stack.specs.declared.indication.FaultName.TheVariants.{Version, Length, Code, State, Size, Missing, Value, Serial, Token, Context, Grammar, Application, Unknown, Field, Range}
use Rattle.vf_stack.specs.declared.indication.Indication.{Indication}
use Rattle.vf_stack.specs.declared.indication.Indication.TheVariants as indications
use Rattle.vf_stack.specs.declared.indication.Layer.TheVariants.{Transport, Session, Upper, Ftam}
use Rattle.vf_tpkt.specs.declared.error.TpktError.{TpktError}
use Rattle.vf_tpkt.specs.declared.error.TpktError.TheVariants as transport
use Rattle.vf_upper.specs.declared.errors.UpperError.{UpperError}
use Rattle.vf_upper.specs.declared.errors.UpperError.TheVariants as upper

abbrev pub indication_of : Fault → Indication
indication_of fault = indications.Fault fault.layer fault.name fault.at

-- of transport, at a place in the stream
abbrev pub of_transport : TpktError → Fault
of_transport (transport.Version at) = record { layer = Transport; name = Version; at = at }
of_transport (transport.Length at) = record { layer = Transport; name = Length; at = at }
of_transport (transport.Code at code) = record { layer = Transport; name = Code; at = at }
of_transport (transport.State at code) = record { layer = Transport; name = State; at = at }
of_transport (transport.Size at) = record { layer = Transport; name = Size; at = at }
of_transport transport.NoMemory = record { layer = Transport; name = Size; at = 0 }

-- of session, at a place in the TSDU: of the form of its SPDUs, or of the state of the connection at one of them
abbrev pub form_name : SpduError → FaultName
form_name (spdus.Code at) = Code
form_name (spdus.Length at) = Length
form_name (spdus.Missing code) = Missing
form_name (spdus.Value code) = Value
form_name spdus.NoMemory = Length

abbrev pub of_form : List ℕ → SpduError → Fault
of_form tsdu fault = record { layer = Session; name = form_name fault; at = fault_place tsdu fault }

abbrev pub state_name : SessionError → FaultName
state_name (session.State spdu) = State
state_name (session.Serial expected found) = Serial
state_name session.Token = Token
state_name session.NoMemory = State

abbrev pub of_state : ℕ → SessionError → Fault
of_state place fault = record { layer = Session; name = state_name fault; at = place }

-- of presentation and ACSE, at a place in the user data, which only a fault of the form has
abbrev pub of_upper : UpperError → Fault
of_upper (upper.Context id) = record { layer = Upper; name = Context; at = 0 }
of_upper (upper.Grammar at) = record { layer = Upper; name = Grammar; at = at }
of_upper upper.Application = record { layer = Upper; name = Application; at = 0 }
of_upper upper.NoMemory = record { layer = Upper; name = Grammar; at = 0 }

-- of FTAM, at a part or a field of the value
abbrev pub field_name : FieldFault → FaultName
field_name (UnknownOf tag) = Unknown
field_name (FieldOf place) = Field
field_name (RangeOf field) = Range
field_name (MissingOf field) = Missing

abbrev pub of_value : FieldFault → Fault
of_value fault = record { layer = Ftam; name = field_name fault; at = place_of fault }

-- a PDU in another carriage than its own, or none where one is due (profile)
abbrev pub misplaced : Fault
misplaced = record { layer = Ftam; name = Unknown; at = 0 }

-- What a unit of session tells by its user data (ISO 8571-4, ISO 8650, ISO 8823; which PDU goes in which SPDU is profile).
use Rattle.std.specs.Prelude.{ℕ, Bool, true, false, ◌&&◌, ◌||◌, nat_eq, nat_le, List, [], ◌∷◌, ◌++◌, Option, None, Some, Result, Ok, Err, if◌then◌else◌}
use Rattle.vf_base.specs.declared.spdu_kind.SpduKind.{SpduKind}
use Rattle.vf_base.specs.declared.spdu_kind.SpduKind.TheVariants.{CN, AC, RF, FN, DN, AB, DT, RS, RA}
use Rattle.vf_elements.specs.Messages.{message_in}
use Rattle.vf_elements.specs.declared.message.Message.{Message}
use Rattle.vf_elements.specs.declared.message.Message.TheVariants as messages
use Rattle.vf_pdu.specs.PduNumbers.{number_of}
use Rattle.vf_pdu.specs.PduReading.{pdu_in}
use Rattle.vf_pdu.specs.declared.pdu.Pdu.{Pdu}
use Rattle.vf_pdu_fields.specs.Fault.{Fault as FieldFault}
use Rattle.vf_session.specs.Units.{parameters, user_data}
use Rattle.vf_session.specs.declared.parameters.SayParameters.{SayParameters}
use Rattle.vf_session.specs.declared.parameters.SayParameters.TheVariants as head
use Rattle.vf_session.specs.declared.resync.PendingResync.{PendingResync}
use Rattle.vf_session.specs.declared.state.SessionState.{SessionState}
use Rattle.vf_session.specs.declared.units.ResyncKind.{ResyncKind}
use Rattle.vf_session.specs.declared.units.ResyncKind.TheVariants as kinds
use Rattle.vf_session.specs.declared.units.SessionSay.{SessionSay}
use Rattle.vf_stack.specs.Contexts.{Standing, contexts_for}
use Rattle.vf_stack.specs.Faults.{indication_of, of_value, of_upper, misplaced}
use Rattle.vf_stack.specs.declared.fault.Fault.{Fault}
use Rattle.vf_stack.specs.declared.indication.Indication.{Indication}
use Rattle.vf_stack.specs.declared.indication.Indication.TheVariants.{Associate, Accepted, Refused, Release, Released, Item, Check, Acknowledged, Restart, Restarted, Cancel, Cancelled, Abort}
use Rattle.vf_stack.specs.declared.indication.Item.TheVariants as items
use Rattle.vf_upper.specs.CarriedCode.{Carried}
use Rattle.vf_upper.specs.Primitives.{reading}
use Rattle.vf_upper.specs.declared.errors.UpperError.{UpperError}
use Rattle.vf_upper.specs.declared.primitive.Primitive.{Primitive}
use Rattle.vf_upper.specs.declared.primitive.Primitive.TheVariants as primitives

-- What is told: indications, and then a fault if there is one.
pub record Told : Type 0 where
  pub indications : List Indication
  pub fault : Option Fault

abbrev pub fault_told : Option Fault → List Indication
fault_told None = []
fault_told (Some fault) = indication_of fault ∷ []

abbrev pub all_told : Told → List Indication
all_told told = told.indications ++ fault_told told.fault

abbrev pub nothing_told : Told
nothing_told = record { indications = []; fault = None }

abbrev pub one_told : Result Indication Fault → Told
one_told (Ok indication) = record { indications = indication ∷ []; fault = None }
one_told (Err fault) = record { indications = []; fault = Some fault }

-- ---- P-DATA: each value is a PDU or a data element

-- The PDUs of associations, releases and aborts have carriages of their own, and with sync those of restart and cancel.
abbrev pub goes_in_data : Bool → ℕ → Bool
goes_in_data sync number = nat_le 6 number && (if sync then nat_le number 36 else true)

abbrev pub item_told : Bool → Result Message FieldFault → Result Indication Fault
item_told sync (Ok (messages.Pdu pdu)) = if goes_in_data sync (number_of pdu) then Ok (Item (items.Pdu pdu)) else Err misplaced
item_told sync (Ok (messages.Element element)) = Ok (Item (items.Element element))
item_told sync (Ok message) = Err misplaced
item_told sync (Err fault) = Err (of_value fault)

abbrev pub before_others : Result Indication Fault → Told → Told
before_others (Ok indication) others = record { indications = indication ∷ others.indications; fault = others.fault }
before_others (Err fault) others = record { indications = []; fault = Some fault }

abbrev pub items_told : Bool → List Carried → Told
items_told sync [] = nothing_told
items_told sync (value ∷ values) = before_others (item_told sync (message_in value.tree)) (items_told sync values)

-- ---- the other SPDUs: one value, which is a PDU

abbrev pub due : Bool → Indication → Result Indication Fault
due is_due indication = if is_due then Ok indication else Err misplaced

-- F-RESTART (39) stands in an RS restart and F-CANCEL (37) in an RS abandon, their responses (40, 38) in the RA.
abbrev pub resync_told : ResyncKind → ℕ → Pdu → Result Indication Fault
resync_told kinds.Restart serial pdu = due (nat_eq (number_of pdu) 39) (Restart serial pdu)
resync_told kinds.Abandon serial pdu = due (nat_eq (number_of pdu) 37) (Cancel pdu)

abbrev pub answer_told : ResyncKind → ℕ → Pdu → Result Indication Fault
answer_told kinds.Restart serial pdu = due (nat_eq (number_of pdu) 40) (Restarted serial pdu)
answer_told kinds.Abandon serial pdu = due (nat_eq (number_of pdu) 38) (Cancelled pdu)

abbrev pub resynced_told : Option PendingResync → ℕ → Pdu → Result Indication Fault
resynced_told None serial pdu = Err misplaced
resynced_told (Some r) serial pdu = answer_told r.kind serial pdu

-- F-INITIALIZE (0, 1), F-TERMINATE (2, 3), F-U-ABORT (4) and F-P-ABORT (5)
abbrev pub pdu_told : Option PendingResync → SayParameters → Pdu → Result Indication Fault
pdu_told r (head.Connect sync serial) pdu = due (nat_eq (number_of pdu) 0) (Associate sync pdu)
pdu_told r (head.Accept sync serial) pdu = due (nat_eq (number_of pdu) 1) (Accepted sync pdu)
pdu_told r head.Refuse pdu = due (nat_eq (number_of pdu) 1) (Refused (Some pdu))
pdu_told r head.Finish pdu = due (nat_eq (number_of pdu) 2) (Release pdu)
pdu_told r head.Finished pdu = due (nat_eq (number_of pdu) 3) (Released pdu)
pdu_told r (head.Resync kind serial token) pdu = resync_told kind serial pdu
pdu_told r (head.Resynced serial token) pdu = resynced_told r serial pdu
pdu_told r head.Abort pdu = due (nat_eq (number_of pdu) 4 || nat_eq (number_of pdu) 5) (Abort (Some pdu))
pdu_told r unit pdu = Err misplaced

abbrev pub pdu_read : Option PendingResync → SayParameters → Result Pdu FieldFault → Result Indication Fault
pdu_read r unit (Ok pdu) = pdu_told r unit pdu
pdu_read r unit (Err fault) = Err (of_value fault)

-- A refusal and an abort may have no PDU; any other of these units has one.
abbrev pub bare_told : SayParameters → Result Indication Fault
bare_told head.Refuse = Ok (Refused None)
bare_told head.Abort = Ok (Abort None)
bare_told unit = Err misplaced

abbrev pub single_told : Option PendingResync → SayParameters → List Carried → Result Indication Fault
single_told r unit [] = bare_told unit
single_told r unit (value ∷ values) = pdu_read r unit (pdu_in value.tree)

-- ---- a unit

abbrev pub values_of : Primitive → List Carried
values_of (primitives.Associate offers values) = values
values_of (primitives.Accepted results values) = values
values_of (primitives.Refused results values) = values
values_of (primitives.Release values) = values
values_of (primitives.Released values) = values
values_of (primitives.Data values) = values
values_of (primitives.Abort values) = values

abbrev pub is_data : SayParameters → Bool
is_data (head.Data pass) = true
is_data unit = false

-- by where the session connection stands
abbrev pub values_told : SessionState → SayParameters → List Carried → Told
values_told state unit values = if is_data unit then items_told state.agreed values else one_told (single_told state.resync unit values)

abbrev pub read_told : SessionState → SayParameters → Result Primitive UpperError → Told
read_told state unit (Ok primitive) = values_told state unit (values_of primitive)
read_told state unit (Err fault) = one_told (Err (of_upper fault))

-- the SPDU whose user data a unit has
abbrev pub carrier : SayParameters → Option SpduKind
carrier (head.Connect sync serial) = Some CN
carrier (head.Accept sync serial) = Some AC
carrier head.Refuse = Some RF
carrier head.Finish = Some FN
carrier head.Finished = Some DN
carrier (head.Data pass) = Some DT
carrier (head.Resync kind serial token) = Some RS
carrier (head.Resynced serial token) = Some RA
carrier head.Abort = Some AB
carrier unit = None

-- A token that passes tells nothing.
abbrev pub plain_told : SayParameters → Told
plain_told (head.Check serial) = one_told (Ok (Check serial))
plain_told (head.Acknowledge serial) = one_told (Ok (Acknowledged serial))
plain_told unit = nothing_told

abbrev pub carried_told : Standing → SayParameters → List ℕ → Option SpduKind → Told
carried_told s unit octets None = plain_told unit
carried_told s unit octets (Some kind) = read_told s.state unit (reading kind (contexts_for s kind) octets)

abbrev pub unit_told : Standing → SessionSay → Told
unit_told s unit = carried_told s (parameters unit) (user_data unit) (carrier (parameters unit))

-- The performed operations of a run, as its entries tell them (profile): each change of contents with the values that
-- made it, each read that wasn't refused with what it showed, and each locate, with the number of their open regime.
-- The file is that of the name at the operation; a rename and a delete are entries too.
use Rattle.std.specs.Prelude.{ℕ, List, [], ◌∷◌, ◌++◌, Option, None, Some, option_map, option_to_list}
use Rattle.vf_base.specs.declared.access.Context.{Context}
use Rattle.vf_base.specs.declared.access.FaduId.{FaduId}
use Rattle.vf_base.specs.declared.element.Element.{Element}
use Rattle.vf_elements.specs.declared.message.Message.{Message}
use Rattle.vf_elements.specs.declared.message.Message.TheVariants as messages
use Rattle.vf_pdu.specs.declared.pdu.Pdu.TheVariants.{LocateRequest, EraseRequest, ReadRequest, TransferEndRequest, CancelRequest}
use Rattle.vf_pdu_fields.specs.declared.operation.WriteOperation.{WriteOperation}
use Rattle.vf_filestore.specs.History.{Entry, Given, Showed, Placed, History, Regime, regime}
use Rattle.vf_filestore.specs.State.{name_in}
use Rattle.vf_filestore.specs.Transfers.{Movement, Reads, Writes, Transfer, front, survivors, under_way}

pub data Operation : Type 0 where
  Located : FaduId → Operation
  Read : FaduId → Context → (shown : List Element) → Operation
  Wrote : WriteOperation → FaduId → (values : List Element) → Operation
  Erased : FaduId → Operation

pub record Performed : Type 0 where
  pub regime : ℕ
  pub file : List ℕ
  pub operation : Operation

abbrev pub wrote_by : Movement → List Element → Option Operation
wrote_by (Reads fadu context) values = None
wrote_by (Writes operation fadu) values = Some (Wrote operation fadu values)

abbrev pub wrote : Option Transfer → List Element → Option Operation
wrote None values = None
wrote (Some transfer) values = wrote_by transfer.movement values

-- an act on the contents gave a position
abbrev pub where_placed : Given → Option Operation → Option Operation
where_placed (Placed position) operation = operation
where_placed _ operation = None

abbrev pub read_by : Given → FaduId → Context → Option Operation
read_by (Showed version elements position) fadu context = Some (Read fadu context elements)
read_by _ fadu context = None

-- what a message performs after this history
abbrev pub operation : History → Message → Given → Option Operation
operation earlier (messages.Pdu (LocateRequest fadu)) given = where_placed given (Some (Located fadu))
operation earlier (messages.Pdu (EraseRequest fadu)) given = where_placed given (Some (Erased fadu))
operation earlier (messages.Pdu (ReadRequest fadu context)) given = read_by given fadu context
operation earlier (messages.Pdu TransferEndRequest) given = where_placed given (wrote (under_way earlier) (survivors earlier))
operation earlier (messages.Pdu (CancelRequest diagnostic)) given = where_placed given (wrote (under_way earlier) (front earlier))
operation earlier _ given = None

abbrev pub number_in : Option Regime → ℕ
number_in None = 0
number_in (Some regime) = regime.number

abbrev pub performed_in : History → Operation → Performed
performed_in earlier done = record { regime = number_in (regime earlier); file = name_in earlier; operation = done }

-- what an entry performs after this history
abbrev pub performed : History → Entry → Option Performed
performed earlier entry = option_map (performed_in earlier) (operation earlier entry.message entry.given)

-- what the entries of one history perform, the oldest first
abbrev pub performed_in_all : History → List Performed
performed_in_all [] = []
performed_in_all (entry ∷ earlier) = performed_in_all earlier ++ option_to_list (performed earlier entry)

-- The lines of how a task ended, each with its status (profile).
use Rattle.std.specs.Prelude.{◌≡◌, ℕ, Bool, true, false, List, [], ◌∷◌, ◌++◌, Option, Ok, Err, codes, decimal}
use Rattle.vf_cli_printing.specs.Printed.{Printed, Prints, Wrote, line_feed}
use Rattle.vf_initiator.specs.declared.doing.TaskError.{TaskError}
use Rattle.vf_initiator.specs.declared.doing.TaskError.TheVariants.{Refused, PeerFault, PeerAbort, OutOfPlace, Budget}
use Rattle.vf_initiator.specs.declared.plan.Report.{Report}
use Rattle.vf_stack.specs.declared.indication.FaultName.{FaultName}
use Rattle.vf_stack.specs.declared.indication.FaultName.TheVariants as faults
use Rattle.vf_stack.specs.declared.indication.Layer.{Layer}
use Rattle.vf_stack.specs.declared.indication.Layer.TheVariants.{Transport, Session, Upper, Ftam}
use Rattle.vf_store_commands.specs.ErrorLines.{PrintsError}
use Rattle.vf_transact.specs.Transaction.{Answer}
use Rattle.vf_transact.specs.declared.error.TransactError.{TransactError}
use Rattle.vf_transact.specs.declared.error.TransactError.TheVariants.{Task, Broken, InUse, InputFault, OutputFault, Store, NoMemory}

abbrev pub number_line : (words : List ℕ) → ℕ → List ℕ
number_line words number = words ++ (decimal number ++ line_feed ∷ [])

-- of a put that ended well: how many octets its strings have, whether they were sent in this call or before it too
abbrev pub put_words : (resumed : Bool) → List ℕ
put_words true = codes "resumed "
put_words false = codes "put "

abbrev pub put_line : Report → List ℕ
put_line report = number_line (put_words report.resumed) report.octets

abbrev pub layer_name : Layer → List ℕ
layer_name Transport = codes "Transport"
layer_name Session = codes "Session"
layer_name Upper = codes "Upper"
layer_name Ftam = codes "Ftam"

abbrev pub fault_name : FaultName → List ℕ
fault_name faults.Version = codes "Version"
fault_name faults.Length = codes "Length"
fault_name faults.Code = codes "Code"
fault_name faults.State = codes "State"
fault_name faults.Size = codes "Size"
fault_name faults.Missing = codes "Missing"
fault_name faults.Value = codes "Value"
fault_name faults.Serial = codes "Serial"
fault_name faults.Token = codes "Token"
fault_name faults.Context = codes "Context"
fault_name faults.Grammar = codes "Grammar"
fault_name faults.Application = codes "Application"
fault_name faults.Short = codes "Short"
fault_name faults.Bad = codes "Bad"
fault_name faults.Deep = codes "Deep"
fault_name faults.Long = codes "Long"
fault_name faults.Unknown = codes "Unknown"
fault_name faults.Field = codes "Field"
fault_name faults.Range = codes "Range"

-- A diagnostic refused the task (1), or the other end is at fault (7).
abbrev pub failure_line : TaskError → List ℕ
failure_line (Refused diagnostic) = number_line (codes "refused ") diagnostic.number
failure_line (PeerFault layer name at) = codes "peer fault " ++ (layer_name layer ++ (32 ∷ (fault_name name ++ (32 ∷ (decimal at ++ line_feed ∷ [])))))
failure_line (PeerAbort number) = number_line (codes "peer abort ") number
failure_line (OutOfPlace after) = number_line (codes "out of place ") after
failure_line Budget = codes "budget" ++ line_feed ∷ []

abbrev pub failure_status : TaskError → ℕ
failure_status (Refused diagnostic) = 1
failure_status (PeerFault layer name at) = 7
failure_status (PeerAbort number) = 7
failure_status (OutOfPlace after) = 7
failure_status Budget = 7

abbrev pub failure : TaskError → Printed
failure error = record { octets = failure_line error; status = failure_status error }

-- Each connection was lost or not had.
abbrev pub broken : (connections : ℕ) → Printed
broken connections = record { octets = number_line (codes "broken ") connections; status = 6 }

abbrev pub in_use : Printed
in_use = record { octets = codes "activity in use" ++ line_feed ∷ []; status = 13 }

-- WHAT IS PRINTED of an answer. Of a fault of the input, of the output or of the disk, and of want of memory, no line tells.
abbrev pub PrintsFailure : TransactError → ℕ → (old new : Option (List ℕ)) → Type 0
PrintsFailure (Task error) status old new = Prints (4 ∷ 9 ∷ []) (failure error) status old new
PrintsFailure (Broken connections) status old new = Prints (4 ∷ 9 ∷ []) (broken connections) status old new
PrintsFailure InUse status old new = Prints (4 ∷ []) in_use status old new
PrintsFailure InputFault status old new = (status ≡ 3) × Wrote [] old new
PrintsFailure OutputFault status old new = (status ≡ 4) × Wrote [] old new
PrintsFailure (Store error) status old new = PrintsError error status old new
PrintsFailure NoMemory status old new = (status ≡ 9) × Wrote [] old new

-- Of one that ended well: a get has written what it received before, and prints nothing more.
abbrev pub PrintsReport : (put : Bool) → Report → ℕ → (old new : Option (List ℕ)) → Type 0
PrintsReport true report status old new = Prints (4 ∷ 9 ∷ []) (record { octets = put_line report; status = 0 }) status old new
PrintsReport false report status old new = (status ≡ 0) × Wrote [] old new

abbrev pub PrintsAnswer : (put : Bool) → Answer → ℕ → (old new : Option (List ℕ)) → Type 0
PrintsAnswer put (Ok report) status old new = PrintsReport put report status old new
PrintsAnswer put (Err error) status old new = PrintsFailure error status old new

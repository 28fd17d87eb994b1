-- Worked examples of what an initiator says.
use Rattle.std.specs.Prelude.{◌≡◌, ℕ, pos, true, false, List, [], ◌∷◌, Option, None, Some, Ok}
use Rattle.vf_base.specs.declared.diagnostic.Diagnostic.{Diagnostic}
use Rattle.vf_base.specs.declared.element.Element.{Element}
use Rattle.vf_base.specs.declared.element.Element.TheVariants.{Binary, Descriptor, Text}
use Rattle.vf_base.specs.declared.access.Context.TheVariants.{FA, UA}
use Rattle.vf_base.specs.declared.access.FaduId.TheVariants.{Begin}
use Rattle.vf_initiator.specs.Asking.{abort, contents, item, terminate, value}
use Rattle.vf_initiator.specs.Cutting.{cut, fault_of_lines, strings_of}
use Rattle.vf_initiator.specs.Keeping.{changes_since, mark_of}
use Rattle.vf_initiator.specs.Output.{written}
use Rattle.vf_initiator.specs.Rows.{Step}
use Rattle.vf_initiator.specs.Says.{beginning, doing_of, elements_of, says, task_kept}
use Rattle.vf_initiator.specs.Assignments.{given_of}
use Rattle.vf_initiator.specs.declared.conduct.Setting.{Setting}
use Rattle.vf_initiator.specs.declared.doing.Doing.{Doing}
use Rattle.vf_initiator.specs.declared.doing.Doing.TheVariants.{Going, Ended, Failed}
use Rattle.vf_initiator.specs.declared.doing.TaskError.TheVariants.{Refused, PeerFault, PeerAbort, OutOfPlace}
use Rattle.vf_initiator.specs.declared.heard.Heard.{Heard}
use Rattle.vf_initiator.specs.declared.heard.Heard.TheVariants as heard
use Rattle.vf_initiator.specs.declared.plan.Plan.{Plan}
use Rattle.vf_initiator.specs.declared.plan.Task.TheVariants.{Put, Get}
use Rattle.vf_pdu.specs.declared.pdu.Pdu.TheVariants.{CloseRequest, CreateRequest, DataEnd, DeselectRequest, OpenRequest, ReadRequest, RecoverRequest, SelectRequest, TransferEndRequest, WriteRequest}
use Rattle.vf_pdu_fields.specs.declared.operation.WriteOperation.TheVariants.{Replace}
use Rattle.vf_stack.specs.declared.indication.FaultName.TheVariants.{Version}
use Rattle.vf_stack.specs.declared.indication.Layer.TheVariants.{Transport}
use Rattle.vf_stack.specs.declared.request.Request.{Request}
use Rattle.vf_stack.specs.declared.request.Request.TheVariants.{Acknowledge, Check, Pass}
use Rattle.vf_tables.specs.declared.change.Change.{Change}
use Rattle.vf_tables.specs.declared.change.Change.TheVariants.{CutTask, DropTask, PutTask, StageTask}
use Rattle.vf_tables.specs.declared.task.Phase.{Phase}
use Rattle.vf_tables.specs.declared.task.Phase.TheVariants.{New, Open, Whole, Concluded}
use Rattle.vf_tables.specs.declared.task.Task as kept
use Rattle.vf_tables.specs.declared.task.Way.{Way}
use Rattle.vf_tables.specs.declared.task.Way.TheVariants as ways

-- ---- plans

abbrev pub name : List ℕ
name = 97 ∷ []

abbrev pub guest : List ℕ
guest = 103 ∷ 117 ∷ 101 ∷ 115 ∷ 116 ∷ []

-- three strings
abbrev pub first : Element
first = Binary (49 ∷ [])

abbrev pub second : Element
second = Binary (50 ∷ [])

abbrev pub third : Element
third = Binary (51 ∷ [])

abbrev pub plan_with : (every : ℕ) → Option ℕ → Plan
plan_with every activity =
    record { task = Put name 3 every (first ∷ second ∷ third ∷ []); identity = guest; password = None; activity = activity }

abbrev pub get_with : (kind : ℕ) → Option ℕ → Plan
get_with kind activity = record { task = Get name kind 64; identity = guest; password = None; activity = activity }

-- the put and the get of activity 7, as they are kept
abbrev pub kept_with : Way → (number point : ℕ) → Phase → (outcome : ℕ) → List (List Element) → kept.Task
kept_with way number point phase outcome staged =
    record {
      plan = record { activity = 7; way = way; kind = 3; every = 1; file = name; identity = guest; number = number; point = point; phase = phase; outcome = outcome };
      staged = staged;
    }

abbrev pub put_kept : (number point : ℕ) → Phase → (outcome : ℕ) → kept.Task
put_kept number point phase outcome = kept_with ways.Put number point phase outcome ((first ∷ second ∷ third ∷ []) ∷ [])

-- ---- messages, as session has no sync, or has it with the token and this serial number

abbrev pub plain : Heard → Setting × Heard
plain message = (record { serial = 1; token = false }, message)

abbrev pub at : (serial : ℕ) → Heard → Setting × Heard
at serial message = (record { serial = serial; token = true }, message)

abbrev pub away : (serial : ℕ) → Heard → Setting × Heard
away serial message = (record { serial = serial; token = false }, message)

abbrev pub diagnostic : ℕ → Diagnostic
diagnostic number = record { number = number; first = pos 0; second = pos 0 }

-- ---- requests

abbrev pub create : Request
create = item (CreateRequest 1 name (contents 3) (record { value = 255 }) [] (record { value = 4 }) None None)

abbrev pub select : Request
select = item (SelectRequest name (record { value = 1 }) None None)

abbrev pub close : Request
close = item CloseRequest

abbrev pub deselect : Request
deselect = item DeselectRequest

abbrev pub replace : Request
replace = item (WriteRequest Replace Begin)

abbrev pub data_end : Request
data_end = item (DataEnd None)

abbrev pub transfer_end : Request
transfer_end = item TransferEndRequest

abbrev pub recover : (number point : ℕ) → Request
recover number point = item (RecoverRequest 7 number point)

-- ---- what is to be told of the messages: what is said, how the task stands, how it is kept, and the elements of a get

pub record Outcome : Type 0 where
  pub said : List Request
  pub doing : Doing
  pub kept : Option kept.Task
  pub elements : List Element

abbrev pub outcome_after : Plan → Option kept.Task → Step → Outcome
outcome_after plan task step =
    record { said = step.said; doing = doing_of step.conduct; kept = task_kept (given_of plan task) step.conduct; elements = elements_of step.conduct }

abbrev pub run : Plan → Option kept.Task → List (Setting × Heard) → Outcome
run plan task messages = outcome_after plan task (says plan task messages)

-- the changes that keep a task, where all of the messages come in one call
abbrev pub changes_in : Plan → Option kept.Task → List (Setting × Heard) → List Change
changes_in plan task messages =
    let given = given_of plan task in changes_since given (mark_of given (beginning plan task)) (says plan task messages).conduct

-- a put that said these requests, and is kept so
abbrev pub put_to : List Request → Doing → Option kept.Task → Outcome
put_to said doing task = record { said = said; doing = doing; kept = task; elements = [] }

-- ---- a put of three strings without an activity

abbrev pub put_plain : List (Setting × Heard)
put_plain =
    plain (heard.Accepted None 15 4) ∷ plain (heard.Created None) ∷ plain (heard.Opened None) ∷ plain (heard.TransferEnded None)
    ∷ plain (heard.Closed None) ∷ plain (heard.Deselected None) ∷ plain heard.Terminated ∷ []

-- A check behind each value but the last, with a window of 1: after the first one nothing until it is acknowledged.
abbrev pub put_begun : List (Setting × Heard)
put_begun = at 1 (heard.Accepted None 207 1) ∷ at 1 (heard.Created None) ∷ at 1 (heard.Opened None) ∷ []

abbrev pub put_begun_and : Heard → List (Setting × Heard)
put_begun_and message =
    at 1 (heard.Accepted None 207 1) ∷ at 1 (heard.Created None) ∷ at 1 (heard.Opened None) ∷ at 2 message ∷ []

abbrev pub put_acknowledged : List (Setting × Heard)
put_acknowledged = put_begun_and (heard.Acknowledged 1)

-- and then, on another connection, it goes on after check 1
abbrev pub put_recovered : List (Setting × Heard)
put_recovered =
    at 1 (heard.Accepted None 207 4) ∷ at 1 (heard.Recovered None 1 1 true 0) ∷ at 2 (heard.Acknowledged 1)
    ∷ at 2 (heard.TransferEnded None) ∷ at 2 (heard.Closed None) ∷ at 2 (heard.Deselected None) ∷ at 2 heard.Terminated ∷ []

-- The other end has performed the transfer, and tells its outcome.
abbrev pub put_performed : (last : ℕ) → List (Setting × Heard)
put_performed last =
    at 1 (heard.Accepted None 207 4) ∷ at 1 (heard.Recovered None 2 0 false last) ∷ at 1 (heard.Closed None) ∷ at 1 (heard.Deselected None)
    ∷ at 1 heard.Terminated ∷ []

abbrev pub put_forgotten : List (Setting × Heard)
put_forgotten = at 1 (heard.Accepted None 207 4) ∷ at 1 (heard.Recovered (Some (diagnostic 27)) 1 0 false 0) ∷ []

pub record Puts : Type 0 where
  pub without_activity :
      run (plan_with 2 None) None put_plain
      ≡ put_to (create ∷ item (OpenRequest 4 None None None) ∷ replace ∷ value first ∷ value second ∷ value third ∷ data_end ∷ transfer_end ∷ close ∷ deselect ∷ terminate ∷ []) Ended None
  pub begun :
      run (plan_with 1 (Some 7)) None put_begun
      ≡ put_to (create ∷ item (OpenRequest 4 None None (Some 7)) ∷ replace ∷ value first ∷ Check 1 ∷ []) Going (Some (put_kept 1 0 Open 0))
  pub acknowledged :
      run (plan_with 1 (Some 7)) None put_acknowledged
      ≡ put_to (create ∷ item (OpenRequest 4 None None (Some 7)) ∷ replace ∷ value first ∷ Check 1 ∷ value second ∷ Check 2 ∷ []) Going (Some (put_kept 1 1 Open 0))
  pub recovered :
      run (plan_with 64 (Some 7)) (Some (put_kept 1 1 Open 0)) put_recovered
      ≡ put_to (recover 1 1 ∷ value second ∷ Check 1 ∷ value third ∷ data_end ∷ transfer_end ∷ close ∷ deselect ∷ terminate ∷ []) Ended None
  pub performed :
      run (plan_with 1 (Some 7)) (Some (put_kept 1 1 Open 0)) (put_performed 0) ≡ put_to (recover 1 1 ∷ close ∷ deselect ∷ terminate ∷ []) Ended None
  pub refused_there :
      run (plan_with 1 (Some 7)) (Some (put_kept 1 1 Open 0)) (put_performed 21)
      ≡ put_to (recover 1 1 ∷ close ∷ deselect ∷ terminate ∷ []) (Failed (Refused (diagnostic 21))) None
  pub forgotten :
      run (plan_with 1 (Some 7)) (Some (put_kept 3 1 Open 0)) put_forgotten ≡ put_to (recover 3 1 ∷ create ∷ []) Going (Some (put_kept 1 0 New 0))
  pub forgotten_after_its_end :
      run (plan_with 1 (Some 7)) (Some (put_kept 1 1 Concluded 23)) put_forgotten
      ≡ put_to (recover 1 1 ∷ terminate ∷ []) Going (Some (put_kept 1 1 Concluded 23))

-- ---- a get of activity 7 in two connections

abbrev pub get_begun : List (Setting × Heard)
get_begun =
    at 1 (heard.Accepted None 207 4) ∷ at 1 (heard.Selected None) ∷ at 1 (heard.Opened None) ∷ away 1 (heard.Value first)
    ∷ away 2 (heard.Check 1) ∷ away 2 (heard.Value second) ∷ []

abbrev pub get_recovered : List (Setting × Heard)
get_recovered =
    at 1 (heard.Accepted None 207 4) ∷ away 1 (heard.Recovered None 1 1 true 0) ∷ away 1 (heard.Value second) ∷ away 1 (heard.Value third)
    ∷ away 1 (heard.DataEnded None) ∷ []

abbrev pub get_ended : List (Setting × Heard)
get_ended =
    at 1 (heard.Accepted None 207 4) ∷ at 1 (heard.Recovered None 2 0 false 0) ∷ at 1 (heard.Closed None) ∷ at 1 (heard.Deselected None)
    ∷ at 1 heard.Terminated ∷ []

abbrev pub read : Request
read = item (ReadRequest Begin UA)

abbrev pub get_kept : (number point : ℕ) → Phase → List (List Element) → kept.Task
get_kept number point phase staged = record (kept_with ways.Get number point phase 0 staged) { plan = record (kept_with ways.Get number point phase 0 staged).plan { every = 64 } }

abbrev pub whole : kept.Task
whole = get_kept 1 1 Whole ((first ∷ []) ∷ (second ∷ third ∷ []) ∷ [])

abbrev pub one_kept : Option kept.Task
one_kept = Some (get_kept 1 1 Open ((first ∷ []) ∷ []))

-- recovered before the checkpoint that is kept, with this element and a check after it
abbrev pub get_from_start : Element → List (Setting × Heard)
get_from_start element =
    at 1 (heard.Accepted None 207 4) ∷ away 1 (heard.Recovered None 1 0 true 0) ∷ away 1 (heard.Value element) ∷ away 1 (heard.Check 1) ∷ []

pub record Gets : Type 0 where
  pub begun :
      run (get_with 3 (Some 7)) None get_begun
      ≡ record {
        said = select ∷ item (OpenRequest 1 None None (Some 7)) ∷ read ∷ Acknowledge 1 ∷ [];
        doing = Going;
        kept = Some (get_kept 1 1 Open ((first ∷ []) ∷ []));
        elements = first ∷ second ∷ [];
      }
  pub recovered :
      run (get_with 3 (Some 7)) (Some (get_kept 1 1 Open ((first ∷ []) ∷ []))) get_recovered
      ≡ record { said = Pass ∷ recover 1 1 ∷ transfer_end ∷ []; doing = Going; kept = Some whole; elements = first ∷ second ∷ third ∷ [] }
  pub ended :
      run (get_with 3 (Some 7)) (Some whole) get_ended
      ≡ record { said = Pass ∷ recover 1 1 ∷ close ∷ deselect ∷ terminate ∷ []; doing = Ended; kept = None; elements = first ∷ second ∷ third ∷ [] }
  pub behind :
      run (get_with 3 (Some 7)) (Some (get_kept 1 1 Open ((first ∷ []) ∷ []))) (at 1 (heard.Accepted None 207 4) ∷ at 1 (heard.Recovered None 2 0 false 0) ∷ [])
      ≡ record { said = Pass ∷ recover 1 1 ∷ read ∷ []; doing = Going; kept = Some (get_kept 2 0 Open []); elements = [] }
  pub goes_back :
      changes_in (get_with 3 (Some 7)) one_kept (at 1 (heard.Accepted None 207 4) ∷ away 1 (heard.Recovered None 1 0 true 0) ∷ [])
      ≡ PutTask (get_kept 1 0 Open []).plan ∷ CutTask 7 0 ∷ []
  pub comes_again : changes_in (get_with 3 (Some 7)) one_kept (get_from_start first) ≡ []
  pub comes_otherwise : changes_in (get_with 3 (Some 7)) one_kept (get_from_start second) ≡ CutTask 7 0 ∷ StageTask 7 1 (second ∷ []) ∷ []
  pub is_dropped : changes_in (get_with 3 (Some 7)) (Some whole) get_ended ≡ DropTask 7 ∷ []
  pub of_records :
      run (get_with 2 None) None (plain (heard.Accepted None 15 4) ∷ plain (heard.Selected None) ∷ plain (heard.Opened None) ∷ [])
      ≡ record { said = select ∷ item (OpenRequest 1 None None None) ∷ item (ReadRequest Begin FA) ∷ []; doing = Going; kept = None; elements = [] }

-- ---- refusals, and what is out of place

abbrev pub refused : ℕ → Doing
refused number = Failed (Refused (diagnostic number))

abbrev pub out_of_place : ℕ → Doing
out_of_place after = Failed (OutOfPlace after)

abbrev pub kept_new : Option kept.Task
kept_new = Some (put_kept 1 0 New 0)

abbrev pub accepted : Setting × Heard
accepted = plain (heard.Accepted None 15 4)

pub record Refusals : Type 0 where
  pub association : run (plan_with 1 (Some 7)) None (plain (heard.Refused (Some (diagnostic 36))) ∷ []) ≡ put_to [] (refused 36) None
  pub in_acceptance : run (plan_with 1 (Some 7)) None (plain (heard.Accepted (Some (diagnostic 36)) 0 1) ∷ []) ≡ put_to (abort ∷ []) (refused 36) None
  pub without_diagnostic : run (plan_with 1 (Some 7)) None (plain (heard.Refused None) ∷ []) ≡ put_to [] (out_of_place 0) kept_new
  pub creation :
      run (plan_with 1 None) None (accepted ∷ plain (heard.Created (Some (diagnostic 24))) ∷ []) ≡ put_to (create ∷ terminate ∷ []) (refused 24) None
  pub opening :
      run (plan_with 1 None) None (accepted ∷ plain (heard.Created None) ∷ plain (heard.Opened (Some (diagnostic 16))) ∷ [])
      ≡ put_to (create ∷ item (OpenRequest 4 None None None) ∷ abort ∷ []) (refused 16) None
  pub recovery :
      run (plan_with 1 (Some 7)) (Some (put_kept 1 0 New 0)) (accepted ∷ plain (heard.Recovered (Some (diagnostic 29)) 1 0 false 0) ∷ [])
      ≡ put_to (recover 1 0 ∷ terminate ∷ []) (refused 29) None
  pub selection_of_another : run (plan_with 1 None) None (accepted ∷ plain (heard.Selected None) ∷ []) ≡ put_to (create ∷ []) (out_of_place 1) None
  pub early_end :
      run (plan_with 1 (Some 7)) None (put_begun_and (heard.TransferEnded None))
      ≡ put_to (create ∷ item (OpenRequest 4 None None (Some 7)) ∷ replace ∷ value first ∷ Check 1 ∷ []) (out_of_place 3) (Some (put_kept 1 0 Open 0))
  pub fault : run (plan_with 1 (Some 7)) None (plain (heard.Faulty Transport Version 0) ∷ accepted ∷ []) ≡ put_to [] (Failed (PeerFault Transport Version 0)) kept_new
  pub abort_heard : run (plan_with 1 (Some 7)) None (plain (heard.Aborted 106) ∷ []) ≡ put_to [] (Failed (PeerAbort 106)) kept_new

-- ---- inputs and outputs

-- "a", line feed, line feed, "b"
abbrev pub two_and_a_half_lines : List ℕ
two_and_a_half_lines = 97 ∷ 10 ∷ 10 ∷ 98 ∷ []

abbrev pub text : ℕ → Element
text octet = Text 25 (octet ∷ [])

abbrev pub record_head : Element
record_head = Descriptor None true

pub record Contents : Type 0 where
  pub of_text : cut 1 two_and_a_half_lines ≡ Ok (text 97 ∷ Text 25 [] ∷ text 98 ∷ [])
  pub of_records : cut 2 (97 ∷ 10 ∷ []) ≡ Ok (record_head ∷ text 97 ∷ [])
  pub of_strings : strings_of 2 (1 ∷ 2 ∷ 3 ∷ 4 ∷ 5 ∷ []) ≡ (1 ∷ 2 ∷ []) ∷ (3 ∷ 4 ∷ []) ∷ (5 ∷ []) ∷ []
  pub of_nothing : cut 3 [] ≡ Ok []
  pub too_many_octets : fault_of_lines 1 16777216 0 ((97 ∷ []) ∷ []) ≡ Some 23
  pub too_many_elements : fault_of_lines 2 0 262143 ([] ∷ []) ≡ Some 23
  pub text_out : written 1 (text 97 ∷ Text 25 [] ∷ []) ≡ 97 ∷ 10 ∷ 10 ∷ []
  pub records_out : written 2 (text 97 ∷ record_head ∷ record_head ∷ text 98 ∷ text 99 ∷ []) ≡ 97 ∷ 10 ∷ 10 ∷ 98 ∷ 99 ∷ 10 ∷ []
  pub binary_out : written 3 (record_head ∷ first ∷ second ∷ []) ≡ 49 ∷ 50 ∷ []

pub record Examples : Type 0 where
  pub puts : Puts
  pub gets : Gets
  pub refusals : Refusals
  pub inputs_and_outputs : Contents

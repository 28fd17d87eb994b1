-- The requests of an initiator (ISO 8571-3; which of them it makes, and with which fields, is profile).
use Rattle.std.specs.Prelude.{ℕ, nat_eq, [], ◌∷◌, Option, None, Some, is_some, if◌then◌else◌}
use Rattle.vf_base.specs.declared.access.Context.TheVariants.{FA, UA}
use Rattle.vf_base.specs.declared.access.FaduId.TheVariants.{Begin, End}
use Rattle.vf_base.specs.declared.contents.Contents.{Contents}
use Rattle.vf_base.specs.declared.element.Element.{Element}
use Rattle.vf_initiator.specs.Assignments.{mode_of}
use Rattle.vf_initiator.specs.declared.assignment.Assignment.{Assignment}
use Rattle.vf_initiator.specs.declared.plan.Plan.{Plan}
use Rattle.vf_initiator.specs.declared.progress.Progress.{Progress}
use Rattle.vf_pdu.specs.declared.pdu.Pdu.{Pdu}
use Rattle.vf_pdu.specs.declared.pdu.Pdu.TheVariants as pdus
use Rattle.vf_pdu_fields.specs.declared.operation.WriteOperation.TheVariants.{Insert, Replace}
use Rattle.vf_stack.specs.declared.indication.Item.TheVariants as items
use Rattle.vf_stack.specs.declared.request.Request.{Request}
use Rattle.vf_stack.specs.declared.request.Request.TheVariants.{Associate, Release, Item, Abort}
use Rattle.vf_tables.specs.declared.task.Way.{Way}
use Rattle.vf_tables.specs.declared.task.Way.TheVariants.{Get, Put}

abbrev pub item : Pdu → Request
item pdu = Item (items.Pdu pdu)

abbrev pub value : Element → Request
value element = Item (items.Element element)

-- Read, write, file access and limited management; with an activity restart and recovery too, and the session's sync is
-- proposed. The window is 4.
abbrev pub units_of : Option ℕ → ℕ
units_of None = 15
units_of (Some activity) = 207

abbrev pub associate : Plan → Assignment → Request
associate plan assignment =
    Associate (is_some assignment.activity) (pdus.InitializeRequest (units_of assignment.activity) (Some assignment.identity) plan.password 4)

-- the contents type of FTAM-1, FTAM-2 or FTAM-3, with the defaults of its parameters
abbrev pub contents : (kind : ℕ) → Contents
contents kind = record { kind = 1 ∷ 0 ∷ 8571 ∷ 5 ∷ kind ∷ []; class = 25; longest = 0; significance = 0 }

-- F-CREATE of a file that is selected where it is there, or F-SELECT
abbrev pub select_by : Way → Assignment → Request
select_by Put assignment =
    item (pdus.CreateRequest 1 assignment.file (contents assignment.kind) (record { value = 255 }) [] (record { value = mode_of assignment }) None None)
select_by Get assignment = item (pdus.SelectRequest assignment.file (record { value = mode_of assignment }) None None)

abbrev pub select : Assignment → Request
select assignment = select_by assignment.way assignment

-- F-RECOVER of the transfer that is kept
abbrev pub recover : (activity : ℕ) → Progress → Request
recover activity progress = item (pdus.RecoverRequest activity progress.number progress.point)

-- F-OPEN, recoverable with an activity
abbrev pub open_file : Assignment → Request
open_file assignment = item (pdus.OpenRequest (mode_of assignment) None None assignment.activity)

-- F-READ of the whole file: of records with their descriptors, else of the strings alone
abbrev pub read : Assignment → Request
read assignment = item (pdus.ReadRequest Begin (if nat_eq assignment.kind 2 then FA else UA))

-- F-WRITE of records after the others, else of the whole file
abbrev pub write : Assignment → Request
write assignment = item (if nat_eq assignment.kind 2 then pdus.WriteRequest Insert End else pdus.WriteRequest Replace Begin)

abbrev pub terminate : Request
terminate = Release pdus.TerminateRequest

abbrev pub abort : Request
abort = Abort (Some (pdus.UserAbort 0))

-- What a message comes to in a state in which all that is said has a value: a diagnostic whose fields are in their ranges,
-- an abort with a number that has 16 bits, or what is given of it is such as it is told.
use Rattle.std.proofs.Common.{◌≡◌, ℕ, ◌+◌, ◌≤◌, pos, Bool, true, false, cond, not, ◌&&◌, ◌||◌, min, nat_eq, List, [], ◌∷◌, length, find, is_some, unwrap_or, Option, None, Some, Result, Ok, Err, refl, arith}
use Rattle.std.specs.Prelude.{IfOk, IfSome, nat_le}
use Rattle.std.specs.List.{AllByRecursion}
use Rattle.std.specs.Str.{bytes_eq}
use Rattle.std.proofs.lemmas.Bool.{and_parts, leb-true}
use Rattle.std.proofs.lemmas.List.Sums.{sum_by-cons}
use Rattle.vf_attr.specs.Access.{may}
use Rattle.vf_attr.specs.declared.file.File.{File}
use Rattle.vf_attr.specs.declared.stamp.Stamp.{Stamp}
use Rattle.vf_base.specs.declared.access.Constraint.{Constraint}
use Rattle.vf_base.specs.declared.access.Constraint.TheVariants.{Unstructured, SequentialFlat}
use Rattle.vf_base.specs.declared.access.Context.{Context}
use Rattle.vf_base.specs.declared.access.FaduId.{FaduId}
use Rattle.vf_base.specs.declared.access.FaduId.TheVariants.{Begin, End, First, Last, Current, Next, Previous, Number}
use Rattle.vf_base.specs.declared.action.Action.{Action}
use Rattle.vf_base.specs.declared.action.Action.TheVariants as actions
use Rattle.vf_base.specs.declared.action.Actions.{Actions}
use Rattle.vf_base.specs.declared.action.Controls.{Controls}
use Rattle.vf_base.specs.declared.contents.Contents.{Contents}
use Rattle.vf_base.specs.declared.diagnostic.Diagnostic.{Diagnostic}
use Rattle.vf_base.specs.declared.element.Element.{Element}
use Rattle.vf_doctype.specs.Checks.{fault, has_length, takes as takes_element}
use Rattle.vf_doctype.specs.DocumentTypes.{constraint_of, doc_type}
use Rattle.vf_doctype.specs.Units.{fault_at, first_fault, is_descriptor, or_else, starts_open, units, units_of as made_units, unless}
use Rattle.vf_doctype.specs.declared.doc_type.DocType.{DocType}
use Rattle.vf_doctype.specs.declared.errors.DocError.{DocError}
use Rattle.vf_doctype.specs.declared.errors.DocError.TheVariants as doc_errors
use Rattle.vf_elements.specs.Stages.{takes}
use Rattle.vf_elements.specs.declared.message.Message.{Message}
use Rattle.vf_elements.specs.declared.message.Message.TheVariants as messages
use Rattle.vf_pdu.specs.PduMeaning.{IsInRange}
use Rattle.vf_pdu.specs.declared.pdu.Pdu.{Pdu}
use Rattle.vf_pdu.specs.declared.pdu.Pdu.TheVariants.{InitializeRequest, TerminateRequest, UserAbort, ProviderAbort, SelectRequest, DeselectRequest, CreateRequest, DeleteRequest, ReadAttribRequest, ChangeAttribRequest, OpenRequest, CloseRequest, BeginGroupRequest, EndGroupRequest, RecoverRequest, LocateRequest, EraseRequest, ReadRequest, WriteRequest, DataEnd, TransferEndRequest, CancelRequest, RestartRequest}
use Rattle.vf_pdu_fields.specs.declared.controls.ContentControls.{ContentControls}
use Rattle.vf_pdu_fields.specs.declared.limits.TheConstants.{MOST_POINT}
use Rattle.vf_pdu_fields.specs.declared.operation.WriteOperation.{WriteOperation}
use Rattle.vf_tables.specs.Fitting.{is_activity}
use Rattle.vf_tree.specs.Actions.{Outcome}
use Rattle.vf_tree.specs.Acts.{Erases, Locates, Reads as ReadsTree, does, moves, shows}
use Rattle.vf_tree.specs.Contexts.{shown}
use Rattle.vf_tree.specs.FileTree.{DataUnit, FileTree, IsFile, parts_in, parts_of_unit}
use Rattle.vf_tree.specs.Identities.{locate, located, locating, meant, standing, unit_at}
use Rattle.vf_tree.specs.TreeRefusal.{TreeRefusal, NotFound}
use Rattle.vf_filestore.specs.Aborts.{Setting, abort_where, aborts, first_abort, request_aborts}
use Rattle.vf_filestore.specs.Controls.{joined, not_opened}
use Rattle.vf_filestore.specs.Decision.{Decision, Aborts, Refuses, Grants, Waits, Groups, Ends, Leaves, decided, decision, decision_in, erase_decision, granted_unless, grouped_decision, grouped_request, item_decision, locate_decision, made_unless, message_decision, open_decision, opened_by, opening_rows, recover_decision, request_decision, trial_decision, unless_aborted, unless_without_token, units_for, wanted_by}
use Rattle.vf_filestore.specs.Diagnostics.{Row, first_row, plain, cancelled, wrong_regime, wrong_state}
use Rattle.vf_filestore.specs.Ending.{Ending, cancel_ending, cancel_in, cancel_of, element_diagnostic, element_row, ending_in, ending_of, ending_unless, file_after, in_silence, performed_by, room_rows, stamp_of, transfer_ending, unchanged, units_or_none, was_given_up, write_of, written_in}
use Rattle.vf_filestore.specs.Files.{file_named, made}
use Rattle.vf_filestore.specs.History.{Given, Nothing, Made, Refused, Showed, Placed, Resumed, History, Selection, guest, position, regime, selection}
use Rattle.vf_filestore.specs.Holders.{alone_row, clash_row, held_files, holders}
use Rattle.vf_filestore.specs.Keeping.{EachAfter, IsFilled}
use Rattle.vf_filestore.specs.Limits.{most_items, most_version}
use Rattle.vf_filestore.specs.Opening.{Opened, act_of, act_row, activity_rows, erase_rows, given_unless, locate_rows, placed, read_given, read_rows, showing, tree_diagnostic, version_row as full_row, write_given, write_rows}
use Rattle.vf_filestore.specs.Ranges.{IsRangedFile, IsReadEntry}
use Rattle.vf_filestore.specs.Recovering.{changed_row, is_read_in, read_row, recover_rows, resumed, version_in, version_of}
use Rattle.vf_filestore.specs.Replies.{located_at}
use Rattle.vf_filestore.specs.Sayable.{IsLink, IsReadWhole, IsToldEntry, IsToldFile, IsToldGiven}
use Rattle.vf_filestore.specs.Selecting.{Wanted, change_attrib_rows, create_by, delete_rows, initialize_rows, read_attrib_rows, rename_row, rows_on, select_rows, selection_rows, typed_rows}
use Rattle.vf_filestore.specs.Sound.{IsLimited, IsNested}
use Rattle.vf_filestore.specs.Stage.{Group, pending, regime_stage, stage}
use Rattle.vf_filestore.specs.State.{Docket, State, StandingParty, docket_of, file_in, identity_of, is_docket_of, mode_in, name_in, selected_file, units_of}
use Rattle.vf_filestore.specs.Transfers.{Movement, Reads, Writes, Transfer, data_end, front, point, refusal_of, survivors, transferring, under_way}
use Rattle.vf_filestore.specs.Units.{enhanced_management, file_access, limited_management, read_unit, recovery_unit, unit_row, write_unit}
use Rattle.vf_filestore.specs.declared.creation.NewFile.{NewFile}
use Rattle.vf_filestore.proofs.ReadMessages.{recover_read}
use Rattle.vf_filestore.proofs.ToldElements.{ShowsTold, file_units_told, shown_told}
use Rattle.vf_filestore.proofs.ToldRows.{AreRows, IsRow, IsToldBy, access_told, act_told, alone_told, clash_told, first_told, holders_numbered, number_told, plain_told, row_told, told_of, tree_told, unit_told}

-- ---- what is known of a state, and of the party that takes a message

pub record IsKnownFile (file : File) : Type 0 where
  pub limited : IsLimited file
  pub filled : IsFilled file
  pub ranged : IsRangedFile file
  pub told : IsToldFile file

pub record IsKnownHistory (history : History) : Type 0 where
  pub nested : IsNested history
  pub read : EachAfter IsReadEntry history
  pub told : EachAfter IsToldEntry history

pub record IsKnownDocket (docket : Docket) : Type 0 where
  pub active : is_activity docket.activity ≡ true
  pub known : IsKnownHistory docket.history

pub record IsKnown (state : State) (party : StandingParty) : Type 0 where
  pub files : AllByRecursion IsKnownFile state.files
  pub links : AllByRecursion (λ (party : StandingParty). IsLink party.link) state.parties
  pub actives : AllByRecursion (λ (docket : Docket). is_activity docket.activity ≡ true) state.dockets
  pub dockets : AllByRecursion IsKnownDocket state.dockets
  pub own : IsKnownHistory party.history

-- the file of a name
file_if : (P : File → Type 0) (name : List ℕ) (files : List File) → AllByRecursion P files → IfSome (file_named name files) P
file_if P name [] all = tt
file_if P name (file ∷ files) all = by (bytes_eq name file.name) (file_if P name files all.1)
  where
    by : (b : Bool) → IfSome (file_named name files) P → IfSome (cond b (Some file) (file_named name files)) P
    by true rest = all.0
    by false rest = rest

pub found_if : {A : Type 0} (P : A → Type 0) (test : A → Bool) (xs : List A) → AllByRecursion P xs → IfSome (find test xs) P
found_if P test [] all = tt
found_if P test (x ∷ xs) all = by (test x) (found_if P test xs all.1)
  where
    by : (b : Bool) → IfSome (find test xs) P → IfSome (cond b (Some x) (find test xs)) P
    by true rest = all.0
    by false rest = rest

pub selected_known : (state : State) (history : History) → AllByRecursion IsKnownFile state.files → IfSome (selected_file state history) IsKnownFile
selected_known state history files = file_if IsKnownFile (name_in history) state.files files

-- ---- what a transfer under way was given

abbrev pub IsToldTransfer : Transfer → Type 0
IsToldTransfer transfer = IsToldGiven transfer.given

given_request : (request : Pdu) (given : Given) (before : Option Transfer) → IsToldGiven given → IfSome before IsToldTransfer → IfSome (transferring (messages.Pdu request) given before) IsToldTransfer
given_request (ReadRequest fadu context) given before is was = is
given_request (WriteRequest operation fadu) given before is was = is
given_request TransferEndRequest given before is was = tt
given_request (CancelRequest diagnostic) given before is was = tt
given_request request given before is was = was

pub given_message : (message : Message) (given : Given) (before : Option Transfer) → IsToldGiven given → IfSome before IsToldTransfer → IfSome (transferring message given before) IsToldTransfer
given_message (messages.Pdu request) given before is was = given_request request given before is was
given_message message given before is was = was

pub all_given : (history : History) → EachAfter IsToldEntry history → IfSome (under_way history) IsToldTransfer
all_given [] each = tt
all_given (entry ∷ earlier) each = given_message entry.message entry.given (under_way earlier) each.0.given (all_given earlier each.1)

-- ---- what is told of what a message is given

abbrev pub point_in : Given → ℕ
point_in (Resumed goes_on point) = point
point_in _ = 0

abbrev pub IsToldAnswer : Pdu → Given → Type 0
IsToldAnswer (LocateRequest fadu) given = located_at given ≤ 4294967295
IsToldAnswer (RecoverRequest activity number point) given = point_in given ≤ MOST_POINT
IsToldAnswer request given = Unit {0}

abbrev pub Gives : Pdu → Given → Type 0
Gives request given = IsToldGiven given × IsToldAnswer request given

abbrev pub Tells : Message → Given → Type 0
Tells (messages.Pdu request) given = Gives request given
Tells message given = IsToldGiven given

abbrev pub IsToldDecision : (Given → Type 0) → Decision → Type 0
IsToldDecision Q (Aborts number) = number ≤ 65535
IsToldDecision Q (Refuses diagnostic) = IsToldBy diagnostic
IsToldDecision Q (Grants given) = Q given
IsToldDecision Q decision = Unit {0}

decided_told : (Q : Given → Type 0) (rows : List Row) (given : Given) → AreRows rows → Q given → IsToldDecision Q (decided rows given)
decided_told Q rows given told is = by (first_row rows) (first_told rows told)
  where
    by : (one : Row) → IsRow one → IsToldDecision Q (granted_unless one given)
    by None told = is
    by (Some diagnostic) told = told

-- ---- parts of decisions

made_given : (found : Option File) → IsToldGiven (made_unless found)
made_given None = tt
made_given (Some file) = tt

placed_given : (answer : Result Outcome TreeRefusal) → IsToldGiven (placed answer)
placed_given (Ok outcome) = tt
placed_given (Err refusal) = tt

-- what has no more to tell
plainly : (one : Decision) → IsToldDecision IsToldGiven one → IsToldDecision (λ given. IsToldGiven given × Unit {0}) one
plainly (Aborts number) is = is
plainly (Refuses diagnostic) is = is
plainly (Grants given) is = (is, tt)
plainly Waits is = tt
plainly (Groups group) is = tt
plainly Ends is = tt
plainly Leaves is = tt

version_few : (given : Given) → IsToldGiven given → version_in given ≤ most_version
version_few (Refused version number) is = is.0
version_few (Showed version elements at) is = is.0
version_few Nothing is = omega arith
version_few Made is = omega arith
version_few (Placed at) is = omega arith
version_few (Resumed goes_on at) is = omega arith

refusal_told : (given : Given) → IsToldGiven given → IsRow (refusal_of given)
refusal_told (Refused version number) is = plain_told number (record { least = is.1; most = is.2 })
refusal_told (Showed version elements at) is = tt
refusal_told Nothing is = tt
refusal_told Made is = tt
refusal_told (Placed at) is = tt
refusal_told (Resumed goes_on at) is = tt

unless_told : (setting : Setting) (Q : Given → Type 0) (docket : Option Docket) (one : Decision) → IsToldDecision Q one → IsToldDecision Q (unless_without_token setting docket one)
unless_told setting Q docket (Grants given) is = by (is_read_in docket && not setting.token)
  where
    by : (b : Bool) → IsToldDecision Q (cond b (Aborts wrong_state) (Grants given))
    by true = omega arith
    by false = is
unless_told setting Q docket (Aborts number) is = is
unless_told setting Q docket (Refuses diagnostic) is = is
unless_told setting Q docket Waits is = tt
unless_told setting Q docket (Groups group) is = tt
unless_told setting Q docket Ends is = tt
unless_told setting Q docket Leaves is = tt

resumed_told : (docket : Option Docket) (asked : ℕ) → asked ≤ MOST_POINT → IsToldGiven (resumed docket asked) × (point_in (resumed docket asked) ≤ MOST_POINT)
resumed_told None asked few = (tt, omega arith)
resumed_told (Some docket) asked few = by (is_some (under_way docket.history))
  where
    by : (b : Bool) → IsToldGiven (cond b (Resumed true (min asked (point docket.history))) (Resumed false 0)) × (point_in (cond b (Resumed true (min asked (point docket.history))) (Resumed false 0)) ≤ MOST_POINT)
    by true = (tt, omega (arith, few))
    by false = (tt, omega arith)

-- a position of a file is no further than its end
unit_within : (n i : ℕ) → IfOk (unit_at n i) (λ at. at ≤ n + 1)
unit_within n i = by (nat_le 1 i && nat_le i n) refl
  where
    by : (b : Bool) → (nat_le 1 i && nat_le i n) ≡ b → IfOk (cond b (Ok i) (Err NotFound)) (λ at. at ≤ n + 1)
    by true is = omega (arith, leb-true i n (and_parts (nat_le 1 i) (nat_le i n) is).1)
    by false is = tt

located_within : (n p : ℕ) (fadu : FaduId) → IfOk (located n p fadu) (λ at. at ≤ n + 1)
located_within n p Begin = omega arith
located_within n p End = omega arith
located_within n p First = unit_within n (meant n p First)
located_within n p Last = unit_within n (meant n p Last)
located_within n p Current = unit_within n (meant n p Current)
located_within n p Next = unit_within n (meant n p Next)
located_within n p Previous = unit_within n (meant n p Previous)
located_within n p (Number k) = unit_within n (meant n p (Number k))

locating_within : (constraint : Constraint) (n p : ℕ) (fadu : FaduId) → IfOk (locating constraint n p fadu) (λ at. at ≤ n + 1)
locating_within Unstructured n p fadu = tt
locating_within SequentialFlat n p fadu = located_within n (standing n p) fadu

few_units : (units : List DataUnit) → length units ≤ parts_in units
few_units [] = omega arith
few_units (unit ∷ later) = omega (arith, sum_by-cons parts_of_unit unit later, few_units later)

located_few : (tree : FileTree) (at : ℕ) (fadu : FaduId) → IsFile tree → located_at (placed (does tree at (Locates fadu))) ≤ 4294967295
located_few tree at fadu is = by (locate tree at fadu) (locating_within tree.constraint (length tree.units) at fadu)
  where
    by : (answer : Result ℕ TreeRefusal) → IfOk answer (λ at. at ≤ length tree.units + 1) → located_at (placed (moves tree answer)) ≤ 4294967295
    by (Ok at) few = omega (arith, few, few_units tree.units, is.1.1)
    by (Err refusal) few = omega arith

-- the faults of values, by their numbers
abbrev IsToldFault : DocError → Type 0
IsToldFault error = IsToldBy (element_diagnostic error)

fault_told : (doc : DocType) (element : Element) → IfSome (fault doc element) IsToldFault
fault_told doc element = by (takes_element doc element) (has_length doc element)
  where
    by : (taken fitting : Bool) → IfSome (cond (not taken) (Some doc_errors.BadElement) (cond (not fitting) (Some doc_errors.TooLong) None)) IsToldFault
    by true true = tt
    by true false = refl
    by false fitting = refl

at_told : (doc : DocType) (is_open : Bool) (element : Element) → IfSome (fault_at doc is_open element) IsToldFault
at_told doc is_open element = by (is_open || is_descriptor element)
  where
    by : (b : Bool) → IfSome (cond b (fault doc element) (Some doc_errors.BadElement)) IsToldFault
    by true = fault_told doc element
    by false = refl

or_told : (first later : Option DocError) → IfSome first IsToldFault → IfSome later IsToldFault → IfSome (or_else first later) IsToldFault
or_told None later told rest = rest
or_told (Some error) later told rest = told

faults_told : (doc : DocType) (is_open : Bool) (values : List Element) → IfSome (first_fault doc is_open values) IsToldFault
faults_told doc is_open [] = tt
faults_told doc is_open (element ∷ values) =
    or_told (fault_at doc is_open element) (first_fault doc (is_open || is_descriptor element) values) (at_told doc is_open element) (faults_told doc (is_open || is_descriptor element) values)

elements_told : (doc : DocType) (values : List Element) → IsRow (element_row (units doc values))
elements_told doc values = by (first_fault doc (starts_open (constraint_of doc.kind)) values) (faults_told doc (starts_open (constraint_of doc.kind)) values)
  where
    by : (one : Option DocError) → IfSome one IsToldFault → IsRow (element_row (unless one (made_units (constraint_of doc.kind) values)))
    by None told = tt
    by (Some error) told = told

-- what is answered at the end of a transfer, and what is given
abbrev pub IsToldEnding : Ending → Type 0
IsToldEnding ending = IsRow ending.refused × IsToldGiven ending.given

unless_ends : (refused : Option Diagnostic) (ending : Ending) → IsRow refused → IsToldEnding ending → IsToldEnding (ending_unless refused ending)
unless_ends None ending told is = is
unless_ends (Some diagnostic) ending told is = (told, tt)

performed_ends : (one : Row) (after : File) (answer : Result Outcome TreeRefusal) → IsRow one → IsToldEnding (performed_by one after answer)
performed_ends None after answer told = (tt, placed_given answer)
performed_ends (Some diagnostic) after answer told = (told, tt)

-- ---- aborts

abbrev IsFew : Option ℕ → Type 0
IsFew abort = IfSome abort (λ number. number ≤ 65535)

first_few : (all : List (Option ℕ)) → AllByRecursion IsFew all → IsFew (first_abort all)
first_few [] few = tt
first_few (None ∷ all) few = first_few all few.1
first_few (Some number ∷ all) few = few.0

where_few : (applies : Bool) (number : ℕ) → number ≤ 65535 → IsFew (abort_where applies number)
where_few true number few = few
where_few false number few = tt

request_few : (party : StandingParty) (setting : Setting) (request : Pdu) → IsFew (first_abort (request_aborts party setting request))
request_few party setting (BeginGroupRequest threshold) = first_few (request_aborts party setting (BeginGroupRequest threshold)) (where_few _ 102 (omega arith), tt)
request_few party setting (ReadRequest fadu context) = first_few (request_aborts party setting (ReadRequest fadu context)) (where_few _ 102 (omega arith), (where_few _ 105 (omega arith), tt))
request_few party setting (WriteRequest operation fadu) = first_few (request_aborts party setting (WriteRequest operation fadu)) (where_few _ 105 (omega arith), tt)
request_few party setting (CancelRequest diagnostic) = first_few (request_aborts party setting (CancelRequest diagnostic)) (where_few _ 105 (omega arith), tt)
request_few party setting (RestartRequest check) = first_few (request_aborts party setting (RestartRequest check)) (where_few _ 102 (omega arith), (where_few _ 102 (omega arith), (where_few _ 105 (omega arith), tt)))
request_few party setting request = tt

aborts_few : (party : StandingParty) (setting : Setting) (message : Message) → IsFew (first_abort (aborts party setting message))
aborts_few party setting (messages.Pdu request) = request_few party setting request
aborts_few party setting (messages.Element element) = first_few (aborts party setting (messages.Element element)) (where_few _ 104 (omega arith), tt)
aborts_few party setting messages.Check = first_few (aborts party setting messages.Check) (where_few _ 102 (omega arith), tt)
aborts_few party setting (messages.Acknowledge check) = first_few (aborts party setting (messages.Acknowledge check)) (where_few _ 102 (omega arith), tt)
aborts_few party setting (messages.Restart check) = first_few (aborts party setting (messages.Restart check)) (where_few _ 102 (omega arith), (where_few _ 102 (omega arith), (where_few _ 105 (omega arith), tt)))
aborts_few party setting messages.Break = tt

spared : (Q : Given → Type 0) (one : Option ℕ) (decides : Decision) → IsFew one → IsToldDecision Q decides → IsToldDecision Q (unless_aborted one decides)
spared Q None decides few told = told
spared Q (Some number) decides few told = few

-- ---- within a group

item_told : (Q : Given → Type 0) (group : Group) → IsToldDecision Q (item_decision group)
item_told Q group = by (nat_le most_items (length group.items))
  where
    by : (b : Bool) → IsToldDecision Q (cond b (Aborts wrong_state) Waits)
    by true = omega arith
    by false = tt

grouped_request_told : (Q : Given → Type 0) (group : Group) (request : Pdu) → IsToldDecision Q (grouped_request group request)
grouped_request_told Q group EndGroupRequest = tt
grouped_request_told Q group (UserAbort number) = tt
grouped_request_told Q group (ProviderAbort number place) = tt
grouped_request_told Q group request = item_told Q group

grouped_told : (Q : Given → Type 0) (group : Group) (message : Message) → IsToldDecision Q (grouped_decision group message)
grouped_told Q group (messages.Pdu request) = grouped_request_told Q group request
grouped_told Q group messages.Break = tt
grouped_told Q group message = omega arith

-- ---- selections

on_told : (found : Option File) (rows : File → List Row) → ((file : File) → AreRows (rows file)) → AreRows (rows_on found rows)
on_told None rows told = (refl, tt)
on_told (Some file) rows told = told file

module _ (state : State) (party : StandingParty) (known : IsKnown state party) where
  clashes : (file : List ℕ) (link : ℕ) (wanted : Controls) → IsRow (clash_row (holders state file) link wanted)
  clashes file link wanted = clash_told (holders state file) link wanted (holders_numbered state file known.links known.actives)

  alone : (file : List ℕ) (link : ℕ) (action : Action) → IsRow (alone_row (holders state file) link action)
  alone file link action = alone_told (holders state file) link action (holders_numbered state file known.links known.actives)

  selection_told : (wanted : Wanted) (file : File) → AreRows (selection_rows (held_files state) wanted file)
  selection_told wanted file = (row_told _ 13 refl, (access_told (may file wanted.identity wanted.password wanted.requested), (clashes file.name wanted.link (joined not_opened wanted.controls), tt)))

  create_told : (wanted : Wanted) (over : ℕ) (stamp : Stamp) (new : NewFile) (found : Option File) → AreRows (create_by (held_files state) wanted over stamp new found)
  create_told wanted over stamp new (Some file) = (row_told _ 12 refl, selection_told wanted file)
  create_told wanted over stamp new None = by (doc_type new.contents)
    where
      by : (doc : Option DocType) → AreRows (typed_rows (held_files state) wanted stamp new doc)
      by None = (refl, tt)
      by (Some doc) = (row_told _ 24 refl, selection_told wanted (made new stamp doc))

  rename_told : (old : List ℕ) (name : Option (List ℕ)) → IsRow (rename_row (holders state old) party.link old name)
  rename_told old None = tt
  rename_told old (Some name) = by (bytes_eq name old)
    where
      by : (b : Bool) → IsRow (cond b None (alone_row (holders state old) party.link actions.ChangeAttribute))
      by true = tt
      by false = alone old party.link actions.ChangeAttribute

  -- ---- opens

  activity_told : (identity : List ℕ) (activity : Option ℕ) → AreRows (activity_rows state identity activity)
  activity_told identity None = tt
  activity_told identity (Some activity) = (row_told _ 28 refl, (row_told _ 35 refl, tt))

  open_told : (asked : Opened) (file : File) → AreRows (opening_rows state asked file)
  open_told asked file =
      (row_told _ 13 refl, (row_told _ 17 refl, (row_told _ 18 refl, (clashes file.name asked.link (joined asked.controls asked.selection.controls), activity_told asked.identity asked.activity))))

  opens : (mode : Actions) (contents : Option Contents) (controls : Option ContentControls) (activity : Option ℕ) (one : Option Selection)
      → IsToldDecision IsToldGiven (open_decision state party mode contents controls activity one)
  opens mode contents controls activity None = omega arith
  opens mode contents controls activity (Some one) =
      let asked = opened_by party one mode contents controls activity in
      decided_told IsToldGiven (unit_row (units_of party) (units_for activity) ∷ rows_on (selected_file state party.history) (opening_rows state asked)) Nothing
      (unit_told (units_of party) (units_for activity), on_told (selected_file state party.history) (opening_rows state asked) (open_told asked)) tt

  -- ---- recoveries

  changed_told : (one : Option Transfer) (now : ℕ) → IfSome one IsToldTransfer → now ≤ most_version → IsRow (changed_row one now)
  changed_told None now given few = tt
  changed_told (Some transfer) now given few = by transfer.movement
    where
      before : version_in transfer.given ≤ most_version
      before = version_few transfer.given given

      told : (b : Bool) → IsRow (cond b None (Some (record { number = 34; first = pos (version_in transfer.given); second = pos now })))
      told true = tt
      told false = told_of 34 (version_in transfer.given) now (record { least = omega arith; most = omega arith }) (omega (arith, before)) (omega (arith, few))

      by : (movement : Movement) → IsRow (read_row movement (version_in transfer.given) now)
      by (Reads fadu context) = told (nat_eq (version_in transfer.given) now)
      by (Writes operation fadu) = tt

  version_now : (found : Option File) → IfSome found IsKnownFile → version_of found ≤ most_version
  version_now None is = omega arith
  version_now (Some file) is = is.limited.counted

  recover_told : (docket : Option Docket) (number : ℕ) → IfSome docket IsKnownDocket → AreRows (recover_rows state docket number)
  recover_told None number is = (refl, tt)
  recover_told (Some docket) number is = (
    row_told _ 29 refl,
    (
      changed_told (under_way docket.history) (version_of (selected_file state docket.history)) (all_given docket.history is.known.told)
          (version_now (selected_file state docket.history) (selected_known state docket.history known.files)),
      tt,
    ),
  )

  recovers : (setting : Setting) (activity number asked : ℕ) (docket : Option Docket) → IfSome docket IsKnownDocket → asked ≤ MOST_POINT
      → IsToldDecision (Gives (RecoverRequest activity number asked)) (recover_decision state party setting number asked docket)
  recovers setting activity number asked docket is few =
      let rows = unit_row (units_of party) recovery_unit ∷ recover_rows state docket number in
      let told : AreRows rows = (unit_told (units_of party) recovery_unit, recover_told docket number is) in
      unless_told setting (Gives (RecoverRequest activity number asked)) docket (decided rows (resumed docket asked)) (decided_told (Gives (RecoverRequest activity number asked)) rows (resumed docket asked) told (resumed_told docket asked few))

  -- ---- positions

  locates : (fadu : FaduId) (found : Option File) → IfSome found IsKnownFile → IsToldDecision (Gives (LocateRequest fadu)) (locate_decision party fadu found)
  locates fadu None is = refl
  locates fadu (Some file) is =
      decided_told (Gives (LocateRequest fadu)) (unit_row (units_of party) file_access ∷ locate_rows file (position party.history) fadu) (placed (does file.tree (position party.history) (Locates fadu)))
      (unit_told (units_of party) file_access, (act_told (does file.tree (position party.history) (Locates fadu)), tt))
      (placed_given (does file.tree (position party.history) (Locates fadu)), located_few file.tree (position party.history) fadu is.limited.shaped)

  full_told : (file : File) → IsRow (full_row file)
  full_told file = row_told _ 23 refl

  erases : (fadu : FaduId) (found : Option File) → IfSome found IsKnownFile → IsToldDecision IsToldGiven (erase_decision party fadu found)
  erases fadu None is = refl
  erases fadu (Some file) is =
      decided_told IsToldGiven (unit_row (units_of party) file_access ∷ erase_rows file (mode_in (regime party.history)) (position party.history) fadu) (placed (does file.tree (position party.history) (Erases fadu)))
      (unit_told (units_of party) file_access, (row_told _ 13 refl, (act_told (does file.tree (position party.history) (Erases fadu)), (full_told file, tt)))) (placed_given (does file.tree (position party.history) (Erases fadu)))

  -- ---- reads and writes

  unless_given : (one : Row) (version : ℕ) (given : Given) → version ≤ most_version → IsRow one → IsToldGiven given → IsToldGiven (given_unless one version given)
  unless_given None version given few told is = is
  unless_given (Some diagnostic) version given few told is = let number = number_told diagnostic told in (few, number.least, number.most)

  shows_told : (file : File) (answer : Result (List Element × ℕ) TreeRefusal) → file.version ≤ most_version → ShowsTold answer → IsToldGiven (showing file.version (shows file.tree answer))
  shows_told file (Ok answer) few told = (few, told)
  shows_told file (Err refusal) few told = let number = number_told (tree_diagnostic refusal) (tree_told refusal) in (few, number.least, number.most)

  reads : (fadu : FaduId) (context : Context) (found : Option File) → IfSome found IsKnownFile
      → IsToldGiven (read_given found (units_of party) (mode_in (regime party.history)) (position party.history) fadu context)
  reads fadu context None is = (omega arith, omega arith, omega arith)
  reads fadu context (Some file) is =
      let at = position party.history in
      let rows = unit_row (units_of party) read_unit ∷ read_rows file (mode_in (regime party.history)) at fadu context in
      unless_given (first_row rows) file.version (showing file.version (does file.tree at (ReadsTree fadu context))) is.limited.counted
      (first_told rows (unit_told (units_of party) read_unit, (row_told _ 13 refl, (act_told (does file.tree at (ReadsTree fadu context)), tt))))
      (shows_told file (shown file.tree at fadu context) is.limited.counted (shown_told file.tree at fadu context (file_units_told file is.limited is.filled is.ranged)))

  writes : (operation : WriteOperation) (fadu : FaduId) (found : Option File) → IfSome found IsKnownFile
      → IsToldGiven (write_given found (units_of party) (mode_in (regime party.history)) (position party.history) operation fadu)
  writes operation fadu None is = (omega arith, omega arith, omega arith)
  writes operation fadu (Some file) is =
      let at = position party.history in
      let rows = unit_row (units_of party) write_unit ∷ write_rows file (mode_in (regime party.history)) at operation fadu in
      unless_given (first_row rows) file.version Nothing is.limited.counted (first_told rows (unit_told (units_of party) write_unit, (row_told _ 13 refl, (act_told (does file.tree at (act_of operation fadu [])), tt)))) tt

  -- ---- ends of transfers

  written_ends : (stamp : Stamp) (file : File) (at : ℕ) (operation : WriteOperation) (fadu : FaduId) (values : List Element) (doc : Option DocType)
      → IsToldEnding (written_in state.files stamp file at operation fadu values doc)
  written_ends stamp file at operation fadu values None = (refl, tt)
  written_ends stamp file at operation fadu values (Some doc) =
      let outcome = does file.tree at (act_of operation fadu (units_or_none (units doc values))) in
      let after = file_after stamp file outcome in
      let rows = element_row (units doc values) ∷ act_row outcome ∷ room_rows state.files file after in
      performed_ends (first_row rows) after outcome (first_told rows
      (elements_told doc values, (act_told outcome, (row_told _ 23 refl, (full_told file, (row_told _ 24 refl, tt))))))

  write_ends : (stamp : Stamp) (found : Option File) (at : ℕ) (operation : WriteOperation) (fadu : FaduId) (values : List Element) → IsToldEnding (write_of state.files stamp found at operation fadu values)
  write_ends stamp None at operation fadu values = (refl, tt)
  write_ends stamp (Some file) at operation fadu values = written_ends stamp file at operation fadu values (doc_type file.contents)

  pub transfer_told : (moment : ℕ) → IsToldEnding (transfer_ending state party moment)
  transfer_told moment = by (under_way party.history) (all_given party.history known.own.told)
    where
      written_by : (b : Bool) (operation : WriteOperation) (fadu : FaduId)
          → IsToldEnding (cond b (unchanged (Some (plain cancelled)))
          (write_of state.files (stamp_of party moment) (selected_file state party.history) (position party.history) operation fadu (survivors party.history)))
      written_by true operation fadu = (refl, tt)
      written_by false operation fadu = write_ends (stamp_of party moment) (selected_file state party.history) (position party.history) operation fadu (survivors party.history)

      of : (movement : Movement) → IsToldEnding (ending_of state party (stamp_of party moment) movement)
      of (Reads fadu context) = (tt, tt)
      of (Writes operation fadu) = written_by (was_given_up (data_end party.history)) operation fadu

      by : (one : Option Transfer) → IfSome one IsToldTransfer → IsToldEnding (ending_in state party (stamp_of party moment) one)
      by None given = (tt, tt)
      by (Some transfer) given = unless_ends (refusal_of transfer.given) (ending_of state party (stamp_of party moment) transfer.movement) (refusal_told transfer.given given) (of transfer.movement)

  cancel_given : (moment : ℕ) → IsToldGiven (cancel_ending state party moment).given
  cancel_given moment = by (under_way party.history) (all_given party.history known.own.told)
    where
      written_by : (b : Bool) (operation : WriteOperation) (fadu : FaduId)
          → IsToldEnding (cond b (unchanged None)
          (in_silence (write_of state.files (stamp_of party moment) (selected_file state party.history) (position party.history) operation fadu (front party.history))))
      written_by true operation fadu = (tt, tt)
      written_by false operation fadu = (tt, (write_ends (stamp_of party moment) (selected_file state party.history) (position party.history) operation fadu (front party.history)).1)

      of : (movement : Movement) → IsToldEnding (cancel_of state party (stamp_of party moment) movement)
      of (Reads fadu context) = (tt, tt)
      of (Writes operation fadu) = written_by (nat_eq (point party.history) 0) operation fadu

      by : (one : Option Transfer) → IfSome one IsToldTransfer → IsToldGiven (cancel_in state party (stamp_of party moment) one).given
      by None given = tt
      by (Some transfer) given = (unless_ends (refusal_of transfer.given) (cancel_of state party (stamp_of party moment) transfer.movement) (refusal_told transfer.given given) (of transfer.movement)).1

  -- ---- every request

  pub request_told : (setting : Setting) (request : Pdu) → IsInRange request → IsToldDecision (Gives request) (request_decision state party setting request)
  request_told setting (InitializeRequest units identity password window) is =
      decided_told (Gives (InitializeRequest units identity password window)) (initialize_rows state.users (unwrap_or identity guest) password) Nothing (row_told _ 36 refl, tt) (tt, tt)
  request_told setting TerminateRequest is = tt
  request_told setting (UserAbort number) is = tt
  request_told setting (ProviderAbort number place) is = tt
  request_told setting (SelectRequest name requested controls password) is =
      decided_told (Gives (SelectRequest name requested controls password)) (select_rows (held_files state) (wanted_by party requested controls password) name) Nothing
      (on_told (file_named name state.files) (selection_rows (held_files state) (wanted_by party requested controls password)) (selection_told (wanted_by party requested controls password))) (tt, tt)
  request_told setting (CreateRequest over name contents permitted terms requested controls password) is =
      let wanted = wanted_by party requested controls password in
      let new : NewFile = record { name = name; contents = contents; permitted = permitted; terms = terms } in
      decided_told (Gives (CreateRequest over name contents permitted terms requested controls password))
      (unit_row (units_of party) limited_management ∷ create_by (held_files state) wanted over (stamp_of party setting.moment) new (file_named name state.files)) (made_unless (file_named name state.files))
      (unit_told (units_of party) limited_management, create_told wanted over (stamp_of party setting.moment) new (file_named name state.files))
      (made_given (file_named name state.files), tt)
  request_told setting DeselectRequest is = (tt, tt)
  request_told setting DeleteRequest is =
      decided_told (Gives DeleteRequest) (unit_row (units_of party) limited_management ∷ delete_rows (held_files state) party.link (selection party.history)) Nothing
      (unit_told (units_of party) limited_management, (row_told _ 13 refl, (alone (file_in (selection party.history)) party.link actions.Delete, tt))) (tt, tt)
  request_told setting (ReadAttribRequest names) is =
      decided_told (Gives (ReadAttribRequest names)) (unit_row (units_of party) limited_management ∷ read_attrib_rows (selection party.history) names) Nothing
      (unit_told (units_of party) limited_management, (row_told _ 13 refl, (row_told _ 31 refl, tt))) (tt, tt)
  request_told setting (ChangeAttribRequest name permitted terms others) is =
      decided_told (Gives (ChangeAttribRequest name permitted terms others))
      (unit_row (units_of party) enhanced_management ∷ change_attrib_rows (held_files state) party.link (selection party.history) name others) Nothing
      (unit_told (units_of party) enhanced_management, (row_told _ 13 refl, (row_told _ 31 refl, (row_told _ 12 refl, (rename_told (file_in (selection party.history)) name, tt))))) (tt, tt)
  request_told setting (OpenRequest mode contents controls activity) is =
      plainly (open_decision state party (record { value = mode }) contents controls activity (selection party.history)) (opens (record { value = mode }) contents controls activity (selection party.history))
  request_told setting CloseRequest is = (tt, tt)
  request_told setting (RecoverRequest activity number asked) is =
      recovers setting activity number asked (docket_of (identity_of party) activity state.dockets) (found_if IsKnownDocket (is_docket_of (identity_of party) activity) state.dockets known.dockets) (recover_read activity number asked is)
  request_told setting (LocateRequest fadu) is = locates fadu (selected_file state party.history) (selected_known state party.history known.files)
  request_told setting (EraseRequest fadu) is = plainly (erase_decision party fadu (selected_file state party.history)) (erases fadu (selected_file state party.history) (selected_known state party.history known.files))
  request_told setting (ReadRequest fadu context) is = (reads fadu context (selected_file state party.history) (selected_known state party.history known.files), tt)
  request_told setting (WriteRequest operation fadu) is = (writes operation fadu (selected_file state party.history) (selected_known state party.history known.files), tt)
  request_told setting (DataEnd diagnostic) is = (tt, tt)
  request_told setting TransferEndRequest is = ((transfer_told setting.moment).1, tt)
  request_told setting (CancelRequest diagnostic) is = (cancel_given setting.moment, tt)
  request_told setting (RestartRequest check) is = (tt, tt)
  request_told setting (BeginGroupRequest threshold) is = tt
  request_told setting request is = omega arith

  pub message_told : (setting : Setting) (message : Message) → IsReadWhole message → IsToldDecision (Tells message) (message_decision state party setting message)
  message_told setting (messages.Pdu request) is = request_told setting request is
  message_told setting messages.Break is = tt
  message_told setting (messages.Element element) is = tt
  message_told setting messages.Check is = tt
  message_told setting (messages.Acknowledge check) is = tt
  message_told setting (messages.Restart check) is = tt

  -- ---- items, and messages that aborts refuse

  pub trial_told : (setting : Setting) (item : Pdu) → IsInRange item → IsToldDecision (Gives item) (trial_decision state party setting item)
  trial_told setting item is = by (takes (regime_stage party.history) (messages.Pdu item))
    where
      by : (b : Bool) → IsToldDecision (Gives item) (cond b (request_decision state party setting item) (Refuses (plain wrong_regime)))
      by true = request_told setting item is
      by false = refl

  pub decision_told : (setting : Setting) (message : Message) → IsReadWhole message → IsToldDecision (Tells message) (decision state party setting message)
  decision_told setting message is = by (takes (stage party) message)
    where
      among : (one : Option Group) → IsToldDecision (Tells message) (decision_in one state party setting message)
      among (Some group) = grouped_told (Tells message) group message
      among None = spared (Tells message) (first_abort (aborts party setting message)) (message_decision state party setting message) (aborts_few party setting message) (message_told setting message is)

      by : (b : Bool) → IsToldDecision (Tells message) (cond b (decision_in (pending party.trace) state party setting message) (Aborts wrong_state))
      by true = among (pending party.trace)
      by false = omega arith

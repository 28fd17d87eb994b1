-- The entry of each message that is granted is such as is kept: what it was given, that there was room for it, and what
-- was said.
use Rattle.std.proofs.Common.{◌≡◌, ℕ, Bool, true, false, cond, not, List, [], ◌∷◌, ◌++◌, Option, None, Some, Result, Ok, Err, refl, subst, arith, unwrap_or}
use Rattle.std.specs.Prelude.{IfSome, is_some, min}
use Rattle.std.specs.List.{AllByRecursion}
use Rattle.std.specs.Option.{option_or}
use Rattle.vf_attr.specs.Access.{has}
use Rattle.vf_attr.specs.declared.file.File.{File}
use Rattle.vf_base.specs.declared.access.Constraint.{Constraint}
use Rattle.vf_base.specs.declared.access.Constraint.TheVariants.{Unstructured, SequentialFlat}
use Rattle.vf_base.specs.declared.access.Context.{Context}
use Rattle.vf_base.specs.declared.access.FaduId.{FaduId}
use Rattle.vf_base.specs.declared.access.FaduId.TheVariants.{Begin, End, First}
use Rattle.vf_base.specs.declared.action.Action.{Action}
use Rattle.vf_base.specs.declared.action.Action.TheVariants as actions
use Rattle.vf_base.specs.declared.action.Actions.{Actions}
use Rattle.vf_base.specs.declared.contents.Contents.{Contents}
use Rattle.vf_base.specs.declared.diagnostic.Diagnostic.{Diagnostic}
use Rattle.vf_elements.specs.Stages.{takes}
use Rattle.vf_elements.specs.declared.message.Message.{Message}
use Rattle.vf_elements.specs.declared.message.Message.TheVariants as messages
use Rattle.vf_elements.specs.declared.message.Said.{Said}
use Rattle.vf_elements.specs.declared.stage.Stage.TheVariants as stages
use Rattle.vf_pdu.specs.declared.pdu.Pdu.{Pdu}
use Rattle.vf_pdu.specs.declared.pdu.Pdu.TheVariants.{InitializeRequest, SelectRequest, DeselectRequest, CreateRequest, DeleteRequest, ReadAttribRequest, ChangeAttribRequest, OpenRequest, CloseRequest, RecoverRequest, LocateRequest, EraseRequest, ReadRequest, WriteRequest, TransferEndRequest, CancelRequest, RestartRequest, DataEnd}
use Rattle.vf_pdu_fields.specs.declared.controls.ContentControls.{ContentControls}
use Rattle.vf_pdu_fields.specs.declared.operation.WriteOperation.{WriteOperation}
use Rattle.vf_pdu_fields.specs.declared.operation.WriteOperation.TheVariants.{Insert, Replace, Extend}
use Rattle.vf_tables.specs.Validity.{includes, is_written}
use Rattle.vf_tables.specs.declared.docket.Operation.TheVariants as operations
use Rattle.vf_tree.specs.Actions.{Outcome, extension, insertion, replacement}
use Rattle.vf_tree.specs.Acts.{Reads as ActReads, does}
use Rattle.vf_tree.specs.FileTree.{DataUnit, FileTree}
use Rattle.vf_tree.specs.TreeRefusal.{TreeRefusal, Outside, NotFound, BadContext}
use Rattle.vf_filestore.specs.Aborts as aborting
use Rattle.vf_filestore.specs.Aborts.{Setting, abort_where, first_abort, passes_survivors}
use Rattle.vf_filestore.specs.Conclusion.{concluding_entry, entry_of, taken_up}
use Rattle.vf_filestore.specs.Decision.{Grants, decided, made_unless, message_decision, open_decision, opened_by, opening_rows, request_decision, units_for, wanted_by}
use Rattle.vf_filestore.specs.Diagnostics.{Row, first_row, plain, not_permitted, too_long, unit_not_agreed}
use Rattle.vf_filestore.specs.Due.{due_after, next_serial}
use Rattle.vf_filestore.specs.Ending.{stamp_of}
use Rattle.vf_filestore.specs.Files.{file_named}
use Rattle.vf_filestore.specs.History.{Given, Nothing, Resumed, History, Selection, guest, position, regime, selection}
use Rattle.vf_filestore.specs.Holders.{held_files}
use Rattle.vf_filestore.specs.Keeping.{IsEarned, IsGiven, IsGivenTo, IsKeptEntry, IsNoElement, IsSilentIn, IsTakenIn, IsUnplaced}
use Rattle.vf_filestore.specs.Opening.{act_of, act_row, action_of, action_row, given_unless, read_given, read_rows, showing, tree_diagnostic, write_given, write_rows}
use Rattle.vf_filestore.specs.Recovering.{resumed}
use Rattle.vf_filestore.specs.Replies.{replies, request_replies}
use Rattle.vf_filestore.specs.Selecting.{change_attrib_rows, create_rows, delete_rows, initialize_rows, read_attrib_rows, rows_on, select_rows}
use Rattle.vf_filestore.specs.State.{Docket, State, StandingParty, docket_of, identity_of, mode_in, selected_file, units_of}
use Rattle.vf_filestore.specs.Tables.{operation_of}
use Rattle.vf_filestore.specs.Transfers.{Movement, Reads, Writes, Transfer, point, survivors, transferring, under_way}
use Rattle.vf_filestore.specs.Units.{enhanced_management, limited_management, read_unit, unit_row, write_unit}
use Rattle.vf_filestore.specs.declared.creation.NewFile.{NewFile}
use Rattle.vf_filestore.proofs.Decided.{first_passed, later_passed, rows_passed}
use Rattle.vf_filestore.proofs.Decisions.{or_none, where_none}
use Rattle.vf_filestore.proofs.Lists.{all_append}
use Rattle.vf_filestore.proofs.Owned.{recovers}
use Rattle.vf_filestore.proofs.Preserved.{IsDue}

-- ---- rows have numbers

abbrev IsNumbered : Row → Type 0
IsNumbered one = IfSome one (λ (diagnostic : Diagnostic). diagnostic.number ≡ 0 → ⊥)

or_numbered : (one later : Row) → IsNumbered one → IsNumbered later → IsNumbered (option_or one later)
or_numbered None later first second = second
or_numbered (Some diagnostic) later first second = first

rows_numbered : (rows : List Row) → AllByRecursion IsNumbered rows → IsNumbered (first_row rows)
rows_numbered [] all = tt
rows_numbered (one ∷ rows) all = or_numbered one (first_row rows) all.0 (rows_numbered rows all.1)

tree_numbered : (refusal : TreeRefusal) → (tree_diagnostic refusal).number ≡ 0 → ⊥
tree_numbered Outside e = absurd (omega (arith, e))
tree_numbered NotFound e = absurd (omega (arith, e))
tree_numbered BadContext e = absurd (omega (arith, e))

act_numbered : (answer : Result Outcome TreeRefusal) → IsNumbered (act_row answer)
act_numbered (Ok outcome) = tt
act_numbered (Err refusal) = tree_numbered refusal

unit_numbered : (units needed : ℕ) → IsNumbered (unit_row units needed)
unit_numbered units needed = by (includes units needed)
  where
    by : (b : Bool) → IsNumbered (cond b None (Some (plain unit_not_agreed)))
    by true = tt
    by false = λ e. absurd (omega (arith, e))

action_numbered : (mode : Actions) (action : Action) → IsNumbered (action_row mode action)
action_numbered mode action = by (not (has mode action))
  where
    by : (b : Bool) → IsNumbered (cond b (Some (plain not_permitted)) None)
    by true = λ e. absurd (omega (arith, e))
    by false = tt

-- ---- what a transfer is given

read_earned : (found : Option File) (units : ℕ) (mode : Actions) (at : ℕ) (fadu : FaduId) (context : Context) → IsEarned (Reads fadu context) (read_given found units mode at fadu context)
read_earned None units mode at fadu context = λ e. absurd (omega (arith, e))
read_earned (Some file) units mode at fadu context =
    by (first_row (unit_row units read_unit ∷ read_rows file mode at fadu context))
    (rows_numbered (unit_row units read_unit ∷ read_rows file mode at fadu context) (unit_numbered units read_unit, (action_numbered mode actions.Read, (act_numbered (does file.tree at (ActReads fadu context)), tt))))
    (does file.tree at (ActReads fadu context))
  where
    by : (one : Row) → IsNumbered one → (answer : Result Outcome TreeRefusal) → IsEarned (Reads fadu context) (given_unless one file.version (showing file.version answer))
    by (Some diagnostic) numbered answer = numbered
    by None numbered (Ok outcome) = tt
    by None numbered (Err refusal) = tree_numbered refusal

insert_taken : (constraint : Constraint) (units : List DataUnit) (fadu : FaduId) → act_row (insertion constraint units fadu []) ≡ None → is_written operations.Insert fadu ≡ true
insert_taken Unstructured units fadu is = absurd cc
insert_taken SequentialFlat units End is = refl
insert_taken SequentialFlat units _ is = absurd cc

replace_taken : (constraint : Constraint) (units : List DataUnit) (fadu : FaduId) → act_row (replacement constraint units fadu []) ≡ None → is_written operations.Replace fadu ≡ true
replace_taken SequentialFlat units fadu is = absurd cc
replace_taken Unstructured units Begin is = refl
replace_taken Unstructured units First is = refl
replace_taken Unstructured units _ is = absurd cc

extend_taken : (constraint : Constraint) (units : List DataUnit) (fadu : FaduId) → act_row (extension constraint units fadu []) ≡ None → is_written operations.Extend fadu ≡ true
extend_taken SequentialFlat units fadu is = absurd cc
extend_taken Unstructured units Begin is = refl
extend_taken Unstructured units First is = refl
extend_taken Unstructured units _ is = absurd cc

write_taken : (tree : FileTree) (at : ℕ) (operation : WriteOperation) (fadu : FaduId) → act_row (does tree at (act_of operation fadu [])) ≡ None → is_written (operation_of operation) fadu ≡ true
write_taken tree at Insert fadu is = insert_taken tree.constraint tree.units fadu is
write_taken tree at Replace fadu is = replace_taken tree.constraint tree.units fadu is
write_taken tree at Extend fadu is = extend_taken tree.constraint tree.units fadu is

write_earned : (found : Option File) (units : ℕ) (mode : Actions) (at : ℕ) (operation : WriteOperation) (fadu : FaduId) → IsEarned (Writes operation fadu) (write_given found units mode at operation fadu)
write_earned None units mode at operation fadu = λ e. absurd (omega (arith, e))
write_earned (Some file) units mode at operation fadu =
    by (first_row (unit_row units write_unit ∷ write_rows file mode at operation fadu)) refl
    (rows_numbered (unit_row units write_unit ∷ write_rows file mode at operation fadu)
    (unit_numbered units write_unit, (action_numbered mode (action_of operation), (act_numbered (does file.tree at (act_of operation fadu [])), tt))))
  where
    by : (one : Row) → first_row (unit_row units write_unit ∷ write_rows file mode at operation fadu) ≡ one → IsNumbered one → IsEarned (Writes operation fadu) (given_unless one file.version Nothing)
    by (Some diagnostic) is numbered = numbered
    by None is numbered =
        let act = act_row (does file.tree at (act_of operation fadu [])) in
        let action = action_row mode (action_of operation) in
        write_taken file.tree at operation fadu (first_passed act [] (later_passed action (act ∷ []) (later_passed (unit_row units write_unit) (action ∷ act ∷ []) is)))

-- ---- what other requests are given

given_nothing : (given : Given) → Nothing ≡ given → IsUnplaced given
given_nothing given is = subst IsUnplaced is tt

rows_nothing : (rows : List Row) (given : Given) → decided rows Nothing ≡ Grants given → IsUnplaced given
rows_nothing rows given is = given_nothing given (rows_passed rows Nothing given is).is

grants_nothing : (given : Given) → Grants Nothing ≡ Grants given → IsUnplaced given
grants_nothing given is = given_nothing given cc

made_unplaced : (found : Option File) (given : Given) → made_unless found ≡ given → IsUnplaced given
made_unplaced None given is = subst IsUnplaced is tt
made_unplaced (Some file) given is = subst IsUnplaced is tt

opened_unplaced : (state : State) (party : StandingParty) (mode : Actions) (contents : Option Contents) (controls : Option ContentControls) (activity : Option ℕ) (one : Option Selection) (given : Given)
    → open_decision state party mode contents controls activity one ≡ Grants given → IsUnplaced given
opened_unplaced state party mode contents controls activity None given is = absurd cc
opened_unplaced state party mode contents controls activity (Some one) given is =
    rows_nothing (unit_row (units_of party) (units_for activity) ∷ rows_on (selected_file state party.history) (opening_rows state (opened_by party one mode contents controls activity))) given is

resumed_unplaced : (docket : Docket) (asked : ℕ) (given : Given) → resumed (Some docket) asked ≡ given → IsUnplaced given
resumed_unplaced docket asked given is = subst IsUnplaced is (by (is_some (under_way docket.history)))
  where
    by : (b : Bool) → IsUnplaced (cond b (Resumed true (min asked (point docket.history))) (Resumed false 0))
    by true = tt
    by false = tt

given_request : (state : State) (party : StandingParty) (setting : Setting) (request : Pdu) (given : Given) → request_decision state party setting request ≡ Grants given → IsGivenTo request given
given_request state party setting (InitializeRequest units identity password window) given is = rows_nothing (initialize_rows state.users (unwrap_or identity guest) password) given is
given_request state party setting (SelectRequest name requested controls password) given is = rows_nothing (select_rows (held_files state) (wanted_by party requested controls password) name) given is
given_request state party setting (CreateRequest over name contents permitted terms requested controls password) given is =
    let new : NewFile = record { name = name; contents = contents; permitted = permitted; terms = terms } in
    let rows = unit_row (units_of party) limited_management ∷ create_rows (held_files state) (wanted_by party requested controls password) over (stamp_of party setting.moment) new in
    made_unplaced (file_named name state.files) given (rows_passed rows (made_unless (file_named name state.files)) given is).is
given_request state party setting DeselectRequest given is = grants_nothing given is
given_request state party setting DeleteRequest given is = rows_nothing (unit_row (units_of party) limited_management ∷ delete_rows (held_files state) party.link (selection party.history)) given is
given_request state party setting (ReadAttribRequest names) given is = rows_nothing (unit_row (units_of party) limited_management ∷ read_attrib_rows (selection party.history) names) given is
given_request state party setting (ChangeAttribRequest name permitted terms number) given is =
    rows_nothing (unit_row (units_of party) enhanced_management ∷ change_attrib_rows (held_files state) party.link (selection party.history) name number) given is
given_request state party setting (OpenRequest mode contents controls activity) given is = opened_unplaced state party (record { value = mode }) contents controls activity (selection party.history) given is
given_request state party setting CloseRequest given is = grants_nothing given is
given_request state party setting (RecoverRequest activity number asked) given is =
    let facts = recovers state party setting number asked (docket_of (identity_of party) activity state.dockets) given is in
    resumed_unplaced facts.found asked given facts.resumes
given_request state party setting (LocateRequest fadu) given is = tt
given_request state party setting (EraseRequest fadu) given is = tt
given_request state party setting (ReadRequest fadu context) given is =
    subst (IsEarned (Reads fadu context)) (granted given is) (read_earned (selected_file state party.history) (units_of party) (mode_in (regime party.history)) (position party.history) fadu context)
  where
    granted : {one : Given} (given : Given) → Grants one ≡ Grants given → one ≡ given
    granted given is = cc
given_request state party setting (WriteRequest operation fadu) given is =
    subst (IsEarned (Writes operation fadu)) (granted given is) (write_earned (selected_file state party.history) (units_of party) (mode_in (regime party.history)) (position party.history) operation fadu)
  where
    granted : {one : Given} (given : Given) → Grants one ≡ Grants given → one ≡ given
    granted given is = cc
given_request state party setting TransferEndRequest given is = tt
given_request state party setting (CancelRequest diagnostic) given is = tt
given_request state party setting (RestartRequest check) given is = grants_nothing given is
given_request state party setting (DataEnd diagnostic) given is = grants_nothing given is
given_request state party setting request given is = absurd cc

given_message : (state : State) (party : StandingParty) (setting : Setting) (message : Message) (given : Given) → message_decision state party setting message ≡ Grants given → IsGiven message given
given_message state party setting (messages.Pdu request) given is = given_request state party setting request given is
given_message state party setting (messages.Element element) given is = grants_nothing given is
given_message state party setting messages.Check given is = grants_nothing given is
given_message state party setting (messages.Acknowledge check) given is = grants_nothing given is
given_message state party setting (messages.Restart check) given is = grants_nothing given is
given_message state party setting messages.Break given is = absurd cc

-- ---- what is said

silent_request : (state : State) (party : StandingParty) (setting : Setting) (given : Given) (request : Pdu) → AllByRecursion IsNoElement (request_replies state party setting given request)
silent_request state party setting given (InitializeRequest units identity password window) = (tt, tt)
silent_request state party setting given (SelectRequest name requested controls password) = (tt, tt)
silent_request state party setting given DeselectRequest = (tt, tt)
silent_request state party setting given (CreateRequest over name contents permitted terms requested controls password) = (tt, tt)
silent_request state party setting given DeleteRequest = (tt, tt)
silent_request state party setting given (ReadAttribRequest names) = (tt, tt)
silent_request state party setting given (ChangeAttribRequest name permitted terms number) = (tt, tt)
silent_request state party setting given (OpenRequest mode contents controls activity) = (tt, tt)
silent_request state party setting given CloseRequest = (tt, tt)
silent_request state party setting given (RecoverRequest activity number check) = (tt, tt)
silent_request state party setting given (LocateRequest fadu) = (tt, tt)
silent_request state party setting given (EraseRequest fadu) = (tt, tt)
silent_request state party setting given TransferEndRequest = (tt, tt)
silent_request state party setting given (CancelRequest diagnostic) = (tt, tt)
silent_request state party setting given (RestartRequest check) = (tt, tt)
silent_request state party setting given request = tt

silent_replies : (state : State) (party : StandingParty) (setting : Setting) (given : Given) (message : Message) → AllByRecursion IsNoElement (replies state party setting given message)
silent_replies state party setting given (messages.Pdu request) = silent_request state party setting given request
silent_replies state party setting given (messages.Element element) = tt
silent_replies state party setting given messages.Check = (tt, tt)
silent_replies state party setting given (messages.Acknowledge check) = tt
silent_replies state party setting given (messages.Restart check) = (tt, tt)
silent_replies state party setting given messages.Break = tt

-- in a write nothing is due
silent_due : (said : List Said) (history : History) (serial : ℕ) (one : Option Transfer) → AllByRecursion IsNoElement said
    → IfSome one (λ (transfer : Transfer). IsSilentIn transfer.movement (said ++ due_after history serial one))
silent_due said history serial None silent = tt
silent_due said history serial (Some transfer) silent = by transfer.movement
  where
    by : (movement : Movement) → IsSilentIn movement (said ++ due_after history serial (Some (record { movement = movement; given = transfer.given })))
    by (Reads fadu context) = tt
    by (Writes operation fadu) = all_append IsNoElement said [] silent tt

-- ---- entries

taken_message : (state : State) (party : StandingParty) (setting : Setting) (message : Message) → (takes stages.Grouping message ≡ false → first_abort (aborting.aborts party setting message) ≡ None) → IsTakenIn (taken_up state party message) message
taken_message state party setting (messages.Element element) spared =
    where_none (passes_survivors (survivors party.history) element) too_long (or_none (abort_where (passes_survivors (survivors party.history) element) too_long) None (spared refl)).0
taken_message state party setting message spared = tt

entry_with : (state : State) (party : StandingParty) (setting : Setting) (message : Message) (given : Given) → IsGiven message given → IsTakenIn (taken_up state party message) message
    → IsKeptEntry (taken_up state party message) (concluding_entry state party setting message given)
entry_with state party setting message given is taken =
    let earlier = taken_up state party message in
    let entry = entry_of state party setting message given in
    record {
      given = is;
      taken = taken;
      silent = silent_due (replies state party setting given message) (entry ∷ earlier) (next_serial earlier setting.serial message) (transferring message given (under_way earlier)) (silent_replies state party setting given message);
    }

pub entry_kept : (state : State) (party : StandingParty) (setting : Setting) (message : Message) (given : Given) → IsDue state party setting message given → IsKeptEntry (taken_up state party message) (concluding_entry state party setting message given)
entry_kept state party setting message given due = entry_with state party setting message given (given_message state party setting message given due.decided) (taken_message state party setting message due.spared)

-- What is asked for and opened may be done, with each request that is granted.
use Rattle.std.proofs.Common.{◌≡◌, ℕ, true, ◌||◌, not, List, [], ◌∷◌, ◌++◌, length, nat_eq, Option, None, Some, refl, ap, sym, subst, ◌∙◌, Result, Ok, Err}
use Rattle.std.specs.Prelude.{IfSome, nat_lt}
use Rattle.std.specs.List.{AllByRecursion}
use Rattle.std.specs.Option.{option_map}
use Rattle.std.proofs.lemmas.Bool.{not-false, or_parts}
use Rattle.vf_attr.specs.Access.{has, may}
use Rattle.vf_attr.specs.declared.file.File.{File}
use Rattle.vf_attr.specs.declared.stamp.Stamp.{Stamp}
use Rattle.vf_base.specs.declared.access.Context.{Context}
use Rattle.vf_base.specs.declared.access.FaduId.{FaduId}
use Rattle.vf_base.specs.declared.action.Action.{Action}
use Rattle.vf_base.specs.declared.action.Action.TheVariants as actions
use Rattle.vf_base.specs.declared.action.Actions.{Actions}
use Rattle.vf_base.specs.declared.contents.Contents.{Contents}
use Rattle.vf_doctype.specs.DocumentTypes.{doc_type}
use Rattle.vf_doctype.specs.declared.doc_type.DocType.{DocType}
use Rattle.vf_elements.specs.Stages.{takes}
use Rattle.vf_elements.specs.declared.message.Message.{Message}
use Rattle.vf_elements.specs.declared.message.Message.TheVariants as messages
use Rattle.vf_pdu.specs.declared.pdu.Pdu.{Pdu}
use Rattle.vf_pdu.specs.declared.pdu.Pdu.TheVariants.{SelectRequest, CreateRequest, DeselectRequest, DeleteRequest, ChangeAttribRequest, OpenRequest, CloseRequest, RecoverRequest, ReadRequest, WriteRequest, TransferEndRequest, CancelRequest}
use Rattle.vf_pdu_fields.specs.declared.controls.ContentControls.{ContentControls}
use Rattle.vf_pdu_fields.specs.declared.operation.WriteOperation.{WriteOperation}
use Rattle.vf_tables.specs.Validity.{includes, modes}
use Rattle.vf_tables.specs.declared.limits.TheConstants.{MOST_FILES}
use Rattle.vf_tree.specs.Actions.{Outcome}
use Rattle.vf_tree.specs.Acts.{Reads as reads_of, does, shows}
use Rattle.vf_tree.specs.Contexts.{shown}
use Rattle.vf_tree.specs.TreeRefusal.{TreeRefusal}
use Rattle.vf_filestore.specs.Aborts.{Setting}
use Rattle.vf_filestore.specs.Conclusion.{concluding_entry, history_of, taken_up}
use Rattle.vf_filestore.specs.Controls.{attribute_controls, attributes_usable, content_controls, contents_usable, joined, not_opened}
use Rattle.vf_filestore.specs.Decision.{Grants, made_unless, open_decision, opened_by, opening_rows, request_decision, units_for, wanted_by}
use Rattle.vf_filestore.specs.Diagnostics.{Row, contents_mismatch, first_row, name_exists, not_permitted, outside_constraint_set, row, store_full}
use Rattle.vf_filestore.specs.Ending.{stamp_of}
use Rattle.vf_filestore.specs.Files.{file_named, made}
use Rattle.vf_filestore.specs.History.{Given, Nothing, Regime, Selection, position, regime, renamed, selection}
use Rattle.vf_filestore.specs.Holders.{clash_row, held_files, holders}
use Rattle.vf_filestore.specs.Opening.{act_of, act_row, action_of, action_row, activity_rows, given_unless, is_mismatch, read_given, read_rows, showing, write_given, write_rows}
use Rattle.vf_filestore.specs.Selecting.{Wanted, access_row, create_by, create_rows, rows_on, select_rows, selection_rows, typed_rows}
use Rattle.vf_filestore.specs.Sound.{Holding, IsInMode, IsUsable, IsUsableOpen, holding_by, holding_in, holding_of_docket, holding_of_party}
use Rattle.vf_filestore.specs.Stage.{regime_stage}
use Rattle.vf_filestore.specs.State.{Docket, State, StandingParty, docket_of, identity_of, is_docket_of, mode_in, selected_file, units_of}
use Rattle.vf_filestore.specs.Transfers.{Reads, Writes, Transfer, under_way}
use Rattle.vf_filestore.specs.Units.{limited_management, read_unit, unit_row, write_unit}
use Rattle.vf_filestore.specs.declared.creation.NewFile.{NewFile}
use Rattle.vf_filestore.proofs.Decided.{first_passed, later_passed, row_passed, rows_passed}
use Rattle.vf_filestore.proofs.Nested.{placed}
use Rattle.vf_filestore.proofs.Owned.{found_all, placed_request, recovers, within_stage}
use Rattle.vf_filestore.proofs.Requests.{given_is}
use Rattle.vf_filestore.proofs.Soundness.{alike_resumed}
use Rattle.vf_filestore.proofs.Views.{in_association_only, in_regime_only, in_selection_only}

-- ---- selections

attributes_passed : (state : State) (wanted : Wanted) (file : File) → first_row (selection_rows (held_files state) wanted file) ≡ None → attributes_usable wanted.requested wanted.controls ≡ true
attributes_passed state wanted file passed =
    let first = row (not (attributes_usable wanted.requested wanted.controls)) not_permitted in
    let later = access_row (may file wanted.identity wanted.password wanted.requested) ∷ clash_row (holders state file.name) wanted.link (joined not_opened wanted.controls) ∷ [] in
    not-false (attributes_usable wanted.requested wanted.controls) (row_passed (not (attributes_usable wanted.requested wanted.controls)) not_permitted (first_passed first later passed))

select_passed : (state : State) (wanted : Wanted) (name : List ℕ) → first_row (select_rows (held_files state) wanted name) ≡ None → attributes_usable wanted.requested wanted.controls ≡ true
select_passed state wanted name passed = by (file_named name state.files) passed
  where
    by : (found : Option File) → first_row (rows_on found (selection_rows (held_files state) wanted)) ≡ None → attributes_usable wanted.requested wanted.controls ≡ true
    by None passed = absurd cc
    by (Some file) passed = attributes_passed state wanted file passed

create_passed : (state : State) (wanted : Wanted) (over : ℕ) (stamp : Stamp) (new : NewFile) (found : Option File) → first_row (create_by (held_files state) wanted over stamp new found) ≡ None → attributes_usable wanted.requested wanted.controls ≡ true
create_passed state wanted over stamp new (Some file) passed = attributes_passed state wanted file (later_passed (row (nat_eq over 0) name_exists) (selection_rows (held_files state) wanted file) passed)
create_passed state wanted over stamp new None passed = by (doc_type new.contents) passed
  where
    by : (doc : Option DocType) → first_row (typed_rows (held_files state) wanted stamp new doc) ≡ None → attributes_usable wanted.requested wanted.controls ≡ true
    by None passed = absurd cc
    by (Some doc) passed =
        attributes_passed state wanted (made new stamp doc) (later_passed (row (not (nat_lt (length state.files) MOST_FILES)) store_full) (selection_rows (held_files state) wanted (made new stamp doc)) passed)

-- nothing is open in it yet
selected_usable : (one : Selection) (opened : Option Regime) (moving : Option Transfer) → opened ≡ None → moving ≡ None → attributes_usable one.requested one.controls ≡ true → AllByRecursion IsUsable (holding_by opened moving (Some one))
selected_usable one opened moving no_regime no_transfer usable =
    subst (λ (opened : Option Regime). AllByRecursion IsUsable (holding_by opened moving (Some one))) (sym no_regime)
    (subst (λ (moving : Option Transfer). AllByRecursion IsUsable (holding_by None moving (Some one))) (sym no_transfer) (record { attributes = usable; opened = tt; moving = tt }, tt))

-- ---- opens

open_usable : (state : State) (party : StandingParty) (mode : Actions) (contents : Option Contents) (controls : Option ContentControls) (activity : Option ℕ) (one : Selection) (number : ℕ) (given : Given)
    → open_decision state party mode contents controls activity (Some one) ≡ Grants given → IsUsableOpen one (record { number = number; mode = mode; controls = content_controls mode controls; activity = activity })
open_usable state party mode contents controls activity one number given is =
    let asked = opened_by party one mode contents controls activity in
    let unit = unit_row (units_of party) (units_for activity) in
    let passed = rows_passed (unit ∷ rows_on (selected_file state party.history) (opening_rows state asked)) Nothing given is in
    by (selected_file state party.history) (later_passed unit (rows_on (selected_file state party.history) (opening_rows state asked)) passed.passed)
  where
    by : (found : Option File) → first_row (rows_on found (opening_rows state (opened_by party one mode contents controls activity))) ≡ None
        → IsUsableOpen one (record { number = number; mode = mode; controls = content_controls mode controls; activity = activity })
    by None rows = absurd cc
    by (Some file) rows =
        let asked = opened_by party one mode contents controls activity in
        let within = includes one.requested.value mode.value in
        let usable = contents_usable mode (content_controls mode controls) in
        let later = row (is_mismatch asked.contents file.contents) contents_mismatch ∷ row (not (includes (modes file.tree.constraint) asked.mode.value)) outside_constraint_set
        ∷ clash_row (holders state file.name) asked.link (joined asked.controls asked.selection.controls) ∷ activity_rows state asked.identity asked.activity in
        let both = or_parts (not within) (not usable) (row_passed (not within || not usable) not_permitted (first_passed (row (not within || not usable) not_permitted) later rows)) in
        record { within = not-false within both.0; usable = not-false usable both.1 }

-- ---- transfers

in_mode : (mode : Actions) (later : List Row) (first : Row) (action : Action) → first_row (first ∷ action_row mode action ∷ later) ≡ None → has mode action ≡ true
in_mode mode later first action passed =
    not-false (has mode action) (row_passed (not (has mode action)) not_permitted (first_passed (action_row mode action) later (later_passed first (action_row mode action ∷ later) passed)))

read_in_mode : (found : Option File) (units : ℕ) (mode : Actions) (at : ℕ) (fadu : FaduId) (context : Context) → IsInMode mode (Reads fadu context) (read_given found units mode at fadu context)
read_in_mode None units mode at fadu context = tt
read_in_mode (Some file) units mode at fadu context =
    by (first_row (unit_row units read_unit ∷ read_rows file mode at fadu context)) (shows file.tree (shown file.tree at fadu context))
    (in_mode mode (act_row (does file.tree at (reads_of fadu context)) ∷ []) (unit_row units read_unit) actions.Read)
  where
    by : (one : Row) (answer : Result Outcome TreeRefusal) → (one ≡ None → has mode actions.Read ≡ true) → IsInMode mode (Reads fadu context) (given_unless one file.version (showing file.version answer))
    by (Some diagnostic) answer in_it = tt
    by None (Ok outcome) in_it = in_it refl
    by None (Err refusal) in_it = tt

write_in_mode : (found : Option File) (units : ℕ) (mode : Actions) (at : ℕ) (operation : WriteOperation) (fadu : FaduId) → IsInMode mode (Writes operation fadu) (write_given found units mode at operation fadu)
write_in_mode None units mode at operation fadu = tt
write_in_mode (Some file) units mode at operation fadu =
    by (first_row (unit_row units write_unit ∷ write_rows file mode at operation fadu))
    (in_mode mode (act_row (does file.tree at (act_of operation fadu [])) ∷ []) (unit_row units write_unit) (action_of operation))
  where
    by : (one : Row) → (one ≡ None → has mode (action_of operation) ≡ true) → IsInMode mode (Writes operation fadu) (given_unless one file.version Nothing)
    by (Some diagnostic) in_it = tt
    by None in_it = in_it refl

-- a transfer begins in an open regime
moving_usable : (selected : Option Selection) (opened : Option Regime) (before : Option Transfer) (transfer : Transfer) → IsInMode (mode_in opened) transfer.movement transfer.given
    → AllByRecursion IsUsable (holding_by opened before selected) → AllByRecursion IsUsable (holding_by opened (Some transfer) selected)
moving_usable None opened before transfer in_it usable = tt
moving_usable (Some one) opened before transfer in_it usable = (record { attributes = usable.0.attributes; opened = usable.0.opened; moving = in_it }, tt)

ended_usable : (selected : Option Selection) (opened : Option Regime) (before : Option Transfer) → AllByRecursion IsUsable (holding_by opened before selected) → AllByRecursion IsUsable (holding_by opened None selected)
ended_usable None opened before usable = tt
ended_usable (Some one) opened before usable = (record { attributes = usable.0.attributes; opened = usable.0.opened; moving = tt }, tt)

closed_usable : (selected : Option Selection) (opened : Option Regime) (before : Option Transfer) → AllByRecursion IsUsable (holding_by opened before selected) → before ≡ None → AllByRecursion IsUsable (holding_by None before selected)
closed_usable None opened before usable none = tt
closed_usable (Some one) opened before usable none =
    subst (λ (moving : Option Transfer). AllByRecursion IsUsable (holding_by None moving (Some one))) (sym none) (record { attributes = usable.0.attributes; opened = tt; moving = tt }, tt)

renamed_usable : (name : Option (List ℕ)) (selected : Option Selection) (opened : Option Regime) (before : Option Transfer) → AllByRecursion IsUsable (holding_by opened before selected)
    → AllByRecursion IsUsable (holding_by opened before (option_map (renamed name) selected))
renamed_usable name None opened before usable = tt
renamed_usable name (Some one) opened before usable = (record { attributes = usable.0.attributes; opened = by opened usable.0.opened; moving = usable.0.moving }, tt)
  where
    by : (opened : Option Regime) → IfSome opened (IsUsableOpen one) → IfSome opened (IsUsableOpen (renamed name one))
    by None usable = tt
    by (Some regime) usable = record { within = usable.within; usable = usable.usable }

opened_usable : (one : Selection) (opened : Option Regime) (before : Option Transfer) (regime : Regime) → before ≡ None → IsUsableOpen one regime → AllByRecursion IsUsable (holding_by opened before (Some one))
    → AllByRecursion IsUsable (holding_by (Some regime) before (Some one))
opened_usable one opened before regime none open_is usable =
    subst (λ (moving : Option Transfer). AllByRecursion IsUsable (holding_by (Some regime) moving (Some one))) (sym none) (record { attributes = usable.0.attributes; opened = open_is; moving = tt }, tt)

-- ---- requests

-- what a party holds after a message, with what it took up
abbrev pub holding_after : State → StandingParty → Setting → Message → Given → List Holding
holding_after state party setting message given = holding_in (concluding_entry state party setting message given ∷ taken_up state party message)

pub request_usable : (state : State) (party : StandingParty) (setting : Setting) (request : Pdu) (given : Given) → request_decision state party setting request ≡ Grants given
    → takes (regime_stage party.history) (messages.Pdu request) ≡ true → AllByRecursion (λ (docket : Docket). AllByRecursion IsUsable (holding_of_docket docket)) state.dockets
    → AllByRecursion IsUsable (holding_of_party party) → AllByRecursion IsUsable (holding_after state party setting (messages.Pdu request) given)
request_usable state party setting (SelectRequest name requested controls password) given is taken dockets usable =
    let message = messages.Pdu (SelectRequest name requested controls password) in
    let there = in_association_only message (record { reading = refl; shown = refl; writing = refl; written = refl }) refl refl (placed message party.history (placed_request party.history (SelectRequest name requested controls password) taken)) in
    let passed = rows_passed (select_rows (held_files state) (wanted_by party requested controls password) name) Nothing given is in
    let one : Selection = record { file = name; requested = requested; controls = attribute_controls requested controls; password = password } in
    selected_usable one (regime party.history) (under_way party.history) there.no_regime there.no_transfer (select_passed state (wanted_by party requested controls password) name passed.passed)
request_usable state party setting (CreateRequest over name contents permitted terms requested controls password) given is taken dockets usable =
    let message = messages.Pdu (CreateRequest over name contents permitted terms requested controls password) in
    let there = in_association_only message (record { reading = refl; shown = refl; writing = refl; written = refl }) refl refl
    (placed message party.history (placed_request party.history (CreateRequest over name contents permitted terms requested controls password) taken)) in
    let wanted = wanted_by party requested controls password in
    let new : NewFile = record { name = name; contents = contents; permitted = permitted; terms = terms } in
    let unit = unit_row (units_of party) limited_management in
    let rows = create_rows (held_files state) wanted over (stamp_of party setting.moment) new in
    let passed = rows_passed (unit ∷ rows) (made_unless (file_named name state.files)) given is in
    let one : Selection = record { file = name; requested = requested; controls = attribute_controls requested controls; password = password } in
    selected_usable one (regime party.history) (under_way party.history) there.no_regime there.no_transfer
    (create_passed state wanted over (stamp_of party setting.moment) new (file_named name state.files) (later_passed unit rows passed.passed))
request_usable state party setting (ChangeAttribRequest name permitted terms number) given is taken dockets usable = renamed_usable name (selection party.history) (regime party.history) (under_way party.history) usable
request_usable state party setting DeselectRequest given is taken dockets usable = tt
request_usable state party setting DeleteRequest given is taken dockets usable = tt
request_usable state party setting (OpenRequest mode contents controls activity) given is taken dockets usable =
    let request = OpenRequest mode contents controls activity in
    let there = in_selection_only (messages.Pdu request) (record { reading = refl; shown = refl; writing = refl; written = refl }) refl refl (placed (messages.Pdu request) party.history (placed_request party.history request taken)) in
    let opened : Regime = record { number = state.concluded; mode = record { value = mode }; controls = content_controls (record { value = mode }) controls; activity = activity } in
    let decided_is = subst (λ (one : Option Selection). open_decision state party (record { value = mode }) contents controls activity one ≡ Grants given) there.is is in
    subst (λ (one : Option Selection). AllByRecursion IsUsable (holding_by (Some opened) (under_way party.history) one)) (sym there.is)
    (opened_usable there.selected (regime party.history) (under_way party.history) opened there.no_transfer (open_usable state party (record { value = mode }) contents controls activity there.selected state.concluded given decided_is)
    (subst (λ (one : Option Selection). AllByRecursion IsUsable (holding_by (regime party.history) (under_way party.history) one)) there.is usable))
request_usable state party setting CloseRequest given is taken dockets usable =
    let there = in_regime_only (messages.Pdu CloseRequest) (record { reading = refl; shown = refl; writing = refl; written = refl }) refl refl (placed (messages.Pdu CloseRequest) party.history (placed_request party.history CloseRequest taken)) in
    closed_usable (selection party.history) (regime party.history) (under_way party.history) usable there.no_transfer
request_usable state party setting (ReadRequest fadu context) given is taken dockets usable =
    moving_usable (selection party.history) (regime party.history) (under_way party.history) (record { movement = Reads fadu context; given = given })
    (subst (λ given. IsInMode (mode_in (regime party.history)) (Reads fadu context) given) (given_is _ given is)
    (read_in_mode (selected_file state party.history) (units_of party) (mode_in (regime party.history)) (position party.history) fadu context)) usable
request_usable state party setting (WriteRequest operation fadu) given is taken dockets usable =
    moving_usable (selection party.history) (regime party.history) (under_way party.history) (record { movement = Writes operation fadu; given = given })
    (subst (λ given. IsInMode (mode_in (regime party.history)) (Writes operation fadu) given) (given_is _ given is)
    (write_in_mode (selected_file state party.history) (units_of party) (mode_in (regime party.history)) (position party.history) operation fadu)) usable
request_usable state party setting TransferEndRequest given is taken dockets usable = ended_usable (selection party.history) (regime party.history) (under_way party.history) usable
request_usable state party setting (CancelRequest diagnostic) given is taken dockets usable = ended_usable (selection party.history) (regime party.history) (under_way party.history) usable
request_usable state party setting (RecoverRequest activity number point) given is taken dockets usable =
    let message = messages.Pdu (RecoverRequest activity number point) in
    let facts = recovers state party setting number point (docket_of (identity_of party) activity state.dockets) given is in
    let there = in_association_only message (record { reading = refl; shown = refl; writing = refl; written = refl }) refl refl (placed message party.history (within_stage party.history message refl taken)) in
    let alike = alike_resumed facts.found.history party.history there.no_selection there.no_regime there.no_transfer in
    let same : holding_in (history_of (docket_of (identity_of party) activity state.dockets) ++ party.history) ≡ holding_of_docket facts.found
    = ap (λ (one : Option Docket). holding_in (history_of one ++ party.history)) facts.is ∙ (λ i. holding_by (alike.opens i) (alike.moves i) (alike.selects i)) in
    subst (λ (all : List Holding). AllByRecursion IsUsable all) (sym same)
    (found_all (λ (docket : Docket). AllByRecursion IsUsable (holding_of_docket docket)) (is_docket_of (identity_of party) activity) state.dockets facts.found facts.is dockets)
request_usable state party setting request given is taken dockets usable = usable

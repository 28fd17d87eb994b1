-- The history of a party stays sound with each message that is granted to it.
use Rattle.std.proofs.Common.{◌≡◌, ℕ, true, false, not, List, [], ◌∷◌, ◌++◌, map, Option, None, Some, refl, ap, sym, subst}
use Rattle.std.specs.Prelude.{IfSome, nat_eq}
use Rattle.std.specs.List.{AllByRecursion, IsDistinct}
use Rattle.std.specs.Option.{option_map}
use Rattle.std.specs.Str.{bytes_eq}
use Rattle.vf_attr.specs.Access.{has}
use Rattle.vf_attr.specs.declared.changes.AttributeChange.{AttributeChange}
use Rattle.vf_base.specs.declared.access.Context.{Context}
use Rattle.vf_base.specs.declared.access.FaduId.{FaduId}
use Rattle.vf_base.specs.declared.action.Action.TheVariants as actions
use Rattle.vf_elements.specs.Stages.{takes}
use Rattle.vf_elements.specs.declared.message.Message.TheVariants as messages
use Rattle.vf_pdu.specs.declared.pdu.Pdu.{Pdu}
use Rattle.vf_pdu.specs.declared.pdu.Pdu.TheVariants.{SelectRequest, CreateRequest, DeselectRequest, DeleteRequest, ChangeAttribRequest, EraseRequest, RecoverRequest, ReadRequest, WriteRequest, TransferEndRequest, CancelRequest}
use Rattle.vf_filestore.specs.Aborts.{Setting}
use Rattle.vf_filestore.specs.Conclusion.{concluding_entry, history_of, taken_up}
use Rattle.vf_filestore.specs.Decision.{Grants, made_unless, request_decision, wanted_by}
use Rattle.vf_filestore.specs.Diagnostics.{attribute_unsupported, name_exists, not_permitted, row}
use Rattle.vf_filestore.specs.Effects.{changed, erased, files_by, put_where, without_file}
use Rattle.vf_filestore.specs.Ending.{cancel_ending, stamp_of, transfer_ending}
use Rattle.vf_filestore.specs.Files.{file_named}
use Rattle.vf_filestore.specs.History.{Given, Nothing, History, Selection, position, regime, renamed, selection}
use Rattle.vf_filestore.specs.Holders.{held_files, holders}
use Rattle.vf_filestore.specs.Opening.{read_given}
use Rattle.vf_filestore.specs.Selecting.{create_rows, is_taken, rename_row, select_rows}
use Rattle.vf_filestore.specs.Sound.{IsSoundDocket, IsSoundIn, IsShownIn, IsThere, file_of, name_of}
use Rattle.vf_filestore.specs.Stage.{regime_stage}
use Rattle.vf_filestore.specs.State.{Docket, State, StandingParty, docket_of, file_in, identity_of, is_docket_of, mode_in, name_in, requested_in, selected_file, units_of}
use Rattle.vf_filestore.specs.Transfers.{happened}
use Rattle.vf_filestore.specs.Units.{enhanced_management, limited_management, unit_row}
use Rattle.vf_filestore.specs.declared.creation.NewFile.{NewFile}
use Rattle.vf_filestore.proofs.Decided.{first_passed, later_passed, row_passed, rows_passed}
use Rattle.vf_filestore.proofs.Effected.{KeepsAll, cancel_next, erased_next, put_keeps, transfer_next}
use Rattle.vf_filestore.proofs.Named.{named_read, named_request, named_write, RecoversKnown}
use Rattle.vf_filestore.proofs.Nested.{placed}
use Rattle.vf_filestore.proofs.Owned.{AsksCheck, change_there, create_there, due_later, due_later_plain, ended_sound, found_all, goes_for, moving_named, placed_request, read_faithful, recovers, resumed_known, select_there, still_sound, within_stage}
use Rattle.vf_filestore.proofs.Soundness.{alike_resumed, nested_resumed, sound_alike, sound_continues}
use Rattle.vf_filestore.proofs.Views.{in_association_only, in_selection_only}

-- what a grant gives
pub given_is : (would given : Given) → Grants would ≡ Grants given → would ≡ given
given_is would given is = cc

renamed_there : (state : State) (party : StandingParty) (setting : Setting) (name : Option (List ℕ)) (change : AttributeChange) → change.name ≡ name → (one : Option Selection)
    → IfSome one (IsThere state.files) → is_taken state.files (file_in one) name ≡ false
    → IfSome (option_map (renamed name) one) (IsThere (put_where (file_in one) (changed (file_named (file_in one) state.files) (stamp_of party setting.moment) change) state.files))
renamed_there state party setting name change named None there free = tt
renamed_there state party setting name change named (Some selection) there free =
    change_there state (stamp_of party setting.moment) selection.file name change named free (file_named selection.file state.files) refl there

read_there : (state : State) (party : StandingParty) (fadu : FaduId) (context : Context) (given : Given) (one : Option Selection)
    → read_given (file_named (file_in one) state.files) (units_of party) (mode_in (regime party.history)) (position party.history) fadu context ≡ given
    → IsShownIn (file_of state.files one) fadu context given
read_there state party fadu context given None is = tt
read_there state party fadu context given (Some selection) is =
    subst (λ given. IsShownIn (file_named selection.file state.files) fadu context given) is
    (read_faithful (file_named selection.file state.files) (units_of party) (mode_in (regime party.history)) (position party.history) fadu context)

pub own_request : (state : State) (party : StandingParty) (setting : Setting) (request : Pdu) (given : Given) → request_decision state party setting request ≡ Grants given
    → takes (regime_stage party.history) (messages.Pdu request) ≡ true → AsksCheck request party.history → IsDistinct bytes_eq (map name_of state.files)
    → AllByRecursion (IsSoundDocket state.files) state.dockets → IsSoundIn state.files party.history
    → IsSoundIn (files_by state party setting.moment given request) (concluding_entry state party setting (messages.Pdu request) given ∷ taken_up state party (messages.Pdu request))
own_request state party setting (SelectRequest name requested controls password) given is taken asks filed dockets sound =
    let message = messages.Pdu (SelectRequest name requested controls password) in
    let at = placed_request party.history (SelectRequest name requested controls password) taken in
    let there = in_association_only message (record { reading = refl; shown = refl; writing = refl; written = refl }) refl refl (placed message party.history at) in
    let passed = rows_passed (select_rows (held_files state) (wanted_by party requested controls password) name) Nothing given is in
    ended_sound state.files party.history (concluding_entry state party setting message given) (select_there state (wanted_by party requested controls password) name passed.passed) there.no_transfer at sound.nested
own_request state party setting (CreateRequest over name contents permitted terms requested controls password) given is taken asks filed dockets sound =
    let message = messages.Pdu (CreateRequest over name contents permitted terms requested controls password) in
    let at = placed_request party.history (CreateRequest over name contents permitted terms requested controls password) taken in
    let there = in_association_only message (record { reading = refl; shown = refl; writing = refl; written = refl }) refl refl (placed message party.history at) in
    let wanted = wanted_by party requested controls password in
    let new : NewFile = record { name = name; contents = contents; permitted = permitted; terms = terms } in
    let one = unit_row (units_of party) limited_management in
    let rows = create_rows (held_files state) wanted over (stamp_of party setting.moment) new in
    let passed = rows_passed (one ∷ rows) (made_unless (file_named name state.files)) given is in
    ended_sound (files_by state party setting.moment given (CreateRequest over name contents permitted terms requested controls password)) party.history (concluding_entry state party setting message given)
    (create_there state wanted over (stamp_of party setting.moment) new (file_named name state.files) given refl (later_passed one rows passed.passed) passed.is) there.no_transfer at sound.nested
own_request state party setting (ChangeAttribRequest name permitted terms number) given is taken asks filed dockets sound =
    let message = messages.Pdu (ChangeAttribRequest name permitted terms number) in
    let at = placed_request party.history (ChangeAttribRequest name permitted terms number) taken in
    let there = in_selection_only message (record { reading = refl; shown = refl; writing = refl; written = refl }) refl refl (placed message party.history at) in
    let old = name_in party.history in
    let one = unit_row (units_of party) enhanced_management in
    let first = row (not (has (requested_in (selection party.history)) actions.ChangeAttribute)) not_permitted in
    let second = row (not (nat_eq number 0)) attribute_unsupported in
    let third = row (is_taken state.files old name) name_exists in
    let fourth = rename_row (holders state old) party.link old name in
    let passed = rows_passed (one ∷ first ∷ second ∷ third ∷ fourth ∷ []) Nothing given is in
    let left = later_passed second (third ∷ fourth ∷ []) (later_passed first (second ∷ third ∷ fourth ∷ []) (later_passed one (first ∷ second ∷ third ∷ fourth ∷ []) passed.passed)) in
    ended_sound (files_by state party setting.moment given (ChangeAttribRequest name permitted terms number)) party.history (concluding_entry state party setting message given)
    (renamed_there state party setting name (record { name = name; permitted = permitted; terms = terms; others = number }) refl (selection party.history) sound.there
    (row_passed (is_taken state.files old name) name_exists (first_passed third (fourth ∷ []) left))) there.no_transfer at sound.nested
own_request state party setting DeselectRequest given is taken asks filed dockets sound =
    let message = messages.Pdu DeselectRequest in
    let at = placed_request party.history DeselectRequest taken in
    let there = in_selection_only message (record { reading = refl; shown = refl; writing = refl; written = refl }) refl refl (placed message party.history at) in
    ended_sound state.files party.history (concluding_entry state party setting message given) tt there.no_transfer at sound.nested
own_request state party setting DeleteRequest given is taken asks filed dockets sound =
    let message = messages.Pdu DeleteRequest in
    let at = placed_request party.history DeleteRequest taken in
    let there = in_selection_only message (record { reading = refl; shown = refl; writing = refl; written = refl }) refl refl (placed message party.history at) in
    ended_sound (without_file (name_in party.history) state.files) party.history (concluding_entry state party setting message given) tt there.no_transfer at sound.nested
own_request state party setting (EraseRequest fadu) given is taken asks filed dockets sound =
    let message = messages.Pdu (EraseRequest fadu) in
    let at = placed_request party.history (EraseRequest fadu) taken in
    let files = files_by state party setting.moment given (EraseRequest fadu) in
    let keeps : KeepsAll state.files files = put_keeps (name_in party.history) state.files (erased (selected_file state party.history) (stamp_of party setting.moment) (position party.history) fadu) filed
    (erased_next (selected_file state party.history) (stamp_of party setting.moment) (position party.history) fadu) in
    let later = sound_continues state.files files party.history (goes_for state.files files (selection party.history) keeps) sound in
    still_sound files party.history (concluding_entry state party setting message given) refl refl at
    (λ named. named_request state party setting party.history (EraseRequest fadu) given (due_later state party setting message given) (due_later_plain state party setting message given) asks named) later
own_request state party setting (ReadRequest fadu context) given is taken asks filed dockets sound =
    let message = messages.Pdu (ReadRequest fadu context) in
    let at = placed_request party.history (ReadRequest fadu context) taken in
    record {
      nested = (at, sound.nested);
      there = sound.there;
      moving = record {
        named = named_read state party setting fadu context given (happened party.history) (due_later state party setting message given) (due_later_plain state party setting message given);
        faithful = read_there state party fadu context given (selection party.history) (given_is _ given is);
      };
    }
own_request state party setting (WriteRequest operation fadu) given is taken asks filed dockets sound =
    let message = messages.Pdu (WriteRequest operation fadu) in
    let at = placed_request party.history (WriteRequest operation fadu) taken in
    record {
      nested = (at, sound.nested);
      there = sound.there;
      moving = record {
        named = named_write state party setting operation fadu given (happened party.history) (due_later state party setting message given) (due_later_plain state party setting message given);
        faithful = tt;
      };
    }
own_request state party setting TransferEndRequest given is taken asks filed dockets sound =
    let message = messages.Pdu TransferEndRequest in
    let at = placed_request party.history TransferEndRequest taken in
    let files = files_by state party setting.moment given TransferEndRequest in
    let keeps : KeepsAll state.files files = put_keeps (name_in party.history) state.files (transfer_ending state party setting.moment).file filed (transfer_next state party setting.moment) in
    let later = sound_continues state.files files party.history (goes_for state.files files (selection party.history) keeps) sound in
    ended_sound files party.history (concluding_entry state party setting message given) later.there refl at sound.nested
own_request state party setting (CancelRequest diagnostic) given is taken asks filed dockets sound =
    let message = messages.Pdu (CancelRequest diagnostic) in
    let at = placed_request party.history (CancelRequest diagnostic) taken in
    let files = files_by state party setting.moment given (CancelRequest diagnostic) in
    let keeps : KeepsAll state.files files = put_keeps (name_in party.history) state.files (cancel_ending state party setting.moment).file filed (cancel_next state party setting.moment) in
    let later = sound_continues state.files files party.history (goes_for state.files files (selection party.history) keeps) sound in
    ended_sound files party.history (concluding_entry state party setting message given) later.there refl at sound.nested
own_request state party setting (RecoverRequest activity number point) given is taken asks filed dockets sound =
    let message = messages.Pdu (RecoverRequest activity number point) in
    let facts = recovers state party setting number point (docket_of (identity_of party) activity state.dockets) given is in
    let docket = found_all (IsSoundDocket state.files) (is_docket_of (identity_of party) activity) state.dockets facts.found facts.is dockets in
    let there = in_association_only message (record { reading = refl; shown = refl; writing = refl; written = refl }) refl refl
    (placed message party.history (within_stage party.history message refl taken)) in
    let own = facts.found.history in
    let alike = alike_resumed own party.history there.no_selection there.no_regime there.no_transfer in
    let resumed_sound = sound_alike state.files own (own ++ party.history) alike (nested_resumed own party.history there.no_selection there.no_regime there.no_transfer docket.sound.nested sound.nested) docket.sound in
    let knows = resumed_known facts.found party.history point given facts.resumes alike (moving_named state.files own docket.sound) in
    let same : own ++ party.history ≡ history_of (docket_of (identity_of party) activity state.dockets) ++ party.history = sym (ap (λ (one : Option Docket). history_of one ++ party.history) facts.is) in
    let before : IsSoundIn state.files (history_of (docket_of (identity_of party) activity state.dockets) ++ party.history) = subst (λ (one : History). IsSoundIn state.files one) same resumed_sound in
    let known_now = subst (λ (one : History). RecoversKnown given one) same knows in
    still_sound state.files (history_of (docket_of (identity_of party) activity state.dockets) ++ party.history) (concluding_entry state party setting message given) refl refl tt
    (λ named. named_request state party setting (history_of (docket_of (identity_of party) activity state.dockets) ++ party.history) (RecoverRequest activity number point) given
    (due_later state party setting message given) (due_later_plain state party setting message given) known_now named) before
own_request state party setting request given is taken asks filed dockets sound =
    still_sound state.files party.history (concluding_entry state party setting (messages.Pdu request) given) refl refl (placed_request party.history request taken)
    (λ named. named_request state party setting party.history request given (due_later state party setting (messages.Pdu request) given) (due_later_plain state party setting (messages.Pdu request) given) asks named) sound

-- What each request that is granted does to the contents of its file and to its position is what it performs.
use Rattle.std.proofs.Common.{◌≡◌, ℕ, Bool, true, false, cond, List, [], ◌∷◌, nat_eq, Option, None, Some, Result, Ok, Err, refl, sym, subst}
use Rattle.vf_attr.specs.declared.file.File.{File}
use Rattle.vf_attr.specs.declared.stamp.Stamp.{Stamp}
use Rattle.vf_base.specs.declared.access.Context.{Context}
use Rattle.vf_base.specs.declared.access.FaduId.{FaduId}
use Rattle.vf_base.specs.declared.action.Action.TheVariants as actions
use Rattle.vf_base.specs.declared.diagnostic.Diagnostic.{Diagnostic}
use Rattle.vf_base.specs.declared.element.Element.{Element}
use Rattle.vf_elements.specs.declared.message.Message.TheVariants as messages
use Rattle.vf_pdu.specs.declared.pdu.Pdu.{Pdu}
use Rattle.vf_pdu.specs.declared.pdu.Pdu.TheVariants.{CreateRequest, DeleteRequest, ChangeAttribRequest, OpenRequest, LocateRequest, EraseRequest, ReadRequest, WriteRequest, TransferEndRequest, CancelRequest}
use Rattle.vf_pdu_fields.specs.declared.operation.WriteOperation.{WriteOperation}
use Rattle.vf_tree.specs.Actions.{Outcome}
use Rattle.vf_tree.specs.Acts.{Locates, Reads as reads_of, Erases, does}
use Rattle.vf_tree.specs.TreeRefusal.{TreeRefusal}
use Rattle.vf_filestore.specs.Aborts.{Setting}
use Rattle.vf_filestore.specs.Decision.{Grants, erase_decision, locate_decision, request_decision}
use Rattle.vf_filestore.specs.Diagnostics.{Row, cancelled, first_row, plain}
use Rattle.vf_filestore.specs.Effects.{erased, files_by, put_where}
use Rattle.vf_filestore.specs.Ending.{Ending, after_act, after_read, cancel_ending, cancel_in, cancel_of, ending_in, ending_of, ending_unless, file_after, in_silence, read_ending, stamp_of, transfer_ending, unchanged, was_given_up, write_of}
use Rattle.vf_filestore.specs.History.{Given, Nothing, Made, Refused, Showed, Placed, Resumed, placed_by, placing, position, regime}
use Rattle.vf_filestore.specs.Keeping.{IsEarned, IsGivenTo}
use Rattle.vf_filestore.specs.Opening.{act_row, action_row, given_unless, placed, read_given, read_rows, showing, version_row}
use Rattle.vf_filestore.specs.Performed as performances
use Rattle.vf_filestore.specs.Performed.{operation, read_by, where_placed, wrote}
use Rattle.vf_filestore.specs.State.{State, StandingParty, mode_in, name_in, selected_file, units_of}
use Rattle.vf_filestore.specs.Transfers.{Movement, Reads, Writes, Transfer, data_end, front, point, refusal_of, survivors, under_way}
use Rattle.vf_filestore.specs.Units.{file_access, read_unit, unit_row}
use Rattle.vf_filestore.proofs.Decided.{AreRowsPassed, first_passed, later_passed, rows_passed}
use Rattle.vf_serial.specs.Moves.{doc_of}
use Rattle.vf_serial.proofs.Effects.{EffectBy, IsEffect, IsEffectOf, IsSilent, change_effect, reading_effect, silent_erase, silent_locate, trees_kept, write_effect}
use Rattle.vf_serial.proofs.Earned.{granted_is}
use Rattle.vf_serial.proofs.Placed.{unplaced}

-- a request that neither makes, names nor deletes a file, nor opens it
abbrev pub IsOfOpen : Pdu → Type 0
IsOfOpen (CreateRequest over name contents permitted terms requested controls password) = ⊥
IsOfOpen DeleteRequest = ⊥
IsOfOpen (ChangeAttribRequest name permitted terms others) = ⊥
IsOfOpen (OpenRequest mode contents controls activity) = ⊥
IsOfOpen request = Unit {0}

abbrev pub EffectIn : State → StandingParty → (moment : ℕ) → Pdu → Given → Type 0
EffectIn state party moment request given =
    IsEffect state.files (files_by state party moment given request) (name_in party.history) (position party.history) (placing (messages.Pdu request) given (position party.history))
    (doc_of (selected_file state party.history)) (operation party.history (messages.Pdu request) given)

-- ---- locate

locate_effect : (state : State) (party : StandingParty) (moment : ℕ) (fadu : FaduId) (given : Given) (found : Option File) → selected_file state party.history ≡ found → locate_decision party fadu found ≡ Grants given
    → EffectIn state party moment (LocateRequest fadu) given
locate_effect state party moment fadu given None none is = absurd cc
locate_effect state party moment fadu given (Some file) found is = by (does file.tree (position party.history) (Locates fadu)) refl passed.passed passed.is
  where
    passed : AreRowsPassed (unit_row (units_of party) file_access ∷ act_row (does file.tree (position party.history) (Locates fadu)) ∷ []) (placed (does file.tree (position party.history) (Locates fadu))) given
    passed = rows_passed (unit_row (units_of party) file_access ∷ act_row (does file.tree (position party.history) (Locates fadu)) ∷ []) (placed (does file.tree (position party.history) (Locates fadu))) given is

    by : (answer : Result Outcome TreeRefusal) → does file.tree (position party.history) (Locates fadu) ≡ answer → first_row (unit_row (units_of party) file_access ∷ act_row answer ∷ []) ≡ None → placed answer ≡ given
        → EffectIn state party moment (LocateRequest fadu) given
    by (Ok outcome) same rows gives =
        subst (λ given. EffectIn state party moment (LocateRequest fadu) given) gives
        (reading_effect state.files (name_in party.history) (position party.history) file (doc_of (selected_file state party.history)) (performances.Located fadu) outcome found refl same
        (subst IsSilent same (silent_locate file.tree (position party.history) fadu)))
    by (Err refusal) same rows gives =
        let never = first_passed (act_row (Err refusal)) [] (later_passed (unit_row (units_of party) file_access) (act_row (Err refusal) ∷ []) rows) in absurd cc

-- ---- erase

erase_effect : (state : State) (party : StandingParty) (moment : ℕ) (fadu : FaduId) (given : Given) (found : Option File) → selected_file state party.history ≡ found → erase_decision party fadu found ≡ Grants given
    → EffectIn state party moment (EraseRequest fadu) given
erase_effect state party moment fadu given None none is = absurd cc
erase_effect state party moment fadu given (Some file) found is = by (does file.tree (position party.history) (Erases fadu)) refl passed.passed passed.is
  where
    first : Row
    first = action_row (mode_in (regime party.history)) actions.Erase

    passed : AreRowsPassed (unit_row (units_of party) file_access ∷ action_row (mode_in (regime party.history)) actions.Erase ∷ act_row (does file.tree (position party.history) (Erases fadu)) ∷ version_row file ∷ [])
        (placed (does file.tree (position party.history) (Erases fadu))) given
    passed =
        rows_passed (unit_row (units_of party) file_access ∷ action_row (mode_in (regime party.history)) actions.Erase ∷ act_row (does file.tree (position party.history) (Erases fadu)) ∷ version_row file ∷ [])
        (placed (does file.tree (position party.history) (Erases fadu))) given is

    by : (answer : Result Outcome TreeRefusal) → does file.tree (position party.history) (Erases fadu) ≡ answer
        → first_row (unit_row (units_of party) file_access ∷ action_row (mode_in (regime party.history)) actions.Erase ∷ act_row answer ∷ version_row file ∷ []) ≡ None → placed answer ≡ given
        → EffectIn state party moment (EraseRequest fadu) given
    by (Ok outcome) same rows gives =
        subst (λ given. EffectIn state party moment (EraseRequest fadu) given) gives
        (subst (λ (one : Option File). IsEffectOf state.files (put_where (name_in party.history) (erased one (stamp_of party moment) (position party.history) fadu) state.files) (name_in party.history) (position party.history) outcome.position
        (doc_of (selected_file state party.history)) (performances.Erased fadu)) (sym found)
        (subst (λ answer. IsEffectOf state.files (put_where (name_in party.history) (Some (file_after (stamp_of party moment) file answer)) state.files) (name_in party.history) (position party.history) outcome.position
        (doc_of (selected_file state party.history)) (performances.Erased fadu)) (sym same)
        (change_effect state.files (name_in party.history) (position party.history) file (after_act (stamp_of party moment) file outcome.tree) (doc_of (selected_file state party.history)) (performances.Erased fadu) outcome found same
        (subst IsSilent same (silent_erase file.tree.constraint file.tree.units fadu)) refl refl)))
    by (Err refusal) same rows gives =
        let later = later_passed (action_row (mode_in (regime party.history)) actions.Erase) (act_row (Err refusal) ∷ version_row file ∷ [])
        (later_passed (unit_row (units_of party) file_access) (action_row (mode_in (regime party.history)) actions.Erase ∷ act_row (Err refusal) ∷ version_row file ∷ []) rows) in
        let never = first_passed (act_row (Err refusal)) (version_row file ∷ []) later in absurd cc

-- ---- read

read_effect : (state : State) (party : StandingParty) (moment : ℕ) (fadu : FaduId) (context : Context) (found : Option File) → selected_file state party.history ≡ found
    → EffectIn state party moment (ReadRequest fadu context) (read_given found (units_of party) (mode_in (regime party.history)) (position party.history) fadu context)
read_effect state party moment fadu context None none = (λ other. refl, refl)
read_effect state party moment fadu context (Some file) found =
    by (first_row (unit_row (units_of party) read_unit ∷ read_rows file (mode_in (regime party.history)) (position party.history) fadu context)) (does file.tree (position party.history) (reads_of fadu context)) refl
  where
    by : (one : Row) (answer : Result Outcome TreeRefusal) → does file.tree (position party.history) (reads_of fadu context) ≡ answer
        → EffectIn state party moment (ReadRequest fadu context) (given_unless one file.version (showing file.version answer))
    by (Some diagnostic) answer same = (λ other. refl, refl)
    by None (Err refusal) same = (λ other. refl, refl)
    by None (Ok outcome) same =
        reading_effect state.files (name_in party.history) (position party.history) file (doc_of (selected_file state party.history)) (performances.Read fadu context outcome.shown) outcome found refl same refl

-- ---- the end of a transfer

-- a read that ends leaves the contents
read_end_effect : (state : State) (party : StandingParty) (stamp : Stamp) (found : Option File) → selected_file state party.history ≡ found
    → EffectBy state.files (name_in party.history) (position party.history) (doc_of found) None (read_ending stamp found)
read_end_effect state party stamp None none = (λ other. refl, refl)
read_end_effect state party stamp (Some file) found = (trees_kept (name_in party.history) file (after_read stamp file) state.files found refl refl, refl)

abbrev EndsBy : State → StandingParty → List Element → Option Transfer → Ending → Type 0
EndsBy state party values moving ending =
    EffectBy state.files (name_in party.history) (position party.history) (doc_of (selected_file state party.history)) (wrote moving values) ending

nothing_done : (state : State) (party : StandingParty) (one : Option performances.Operation) (diagnostic : Option Diagnostic)
    → EffectBy state.files (name_in party.history) (position party.history) (doc_of (selected_file state party.history)) one (unchanged diagnostic)
nothing_done state party one diagnostic = (λ other. refl, refl)

transfer_effect : (state : State) (party : StandingParty) (stamp : Stamp) (moving : Option Transfer) → EndsBy state party (survivors party.history) moving (ending_in state party stamp moving)
transfer_effect state party stamp None = nothing_done state party None None
transfer_effect state party stamp (Some transfer) = by (refusal_of transfer.given) transfer.movement
  where
    by : (one : Option Diagnostic) (movement : Movement) → EndsBy state party (survivors party.history) (Some (record { movement = movement; given = transfer.given })) (ending_unless one (ending_of state party stamp movement))
    by (Some diagnostic) movement = nothing_done state party (wrote (Some (record { movement = movement; given = transfer.given })) (survivors party.history)) (Some diagnostic)
    by None (Reads fadu context) = read_end_effect state party stamp (selected_file state party.history) refl
    by None (Writes operation fadu) = given_up (was_given_up (data_end party.history))
      where
        given_up : (b : Bool) → EndsBy state party (survivors party.history) (Some (record { movement = Writes operation fadu; given = transfer.given }))
            (cond b (unchanged (Some (plain cancelled))) (write_of state.files stamp (selected_file state party.history) (position party.history) operation fadu (survivors party.history)))
        given_up true = nothing_done state party (Some (performances.Wrote operation fadu (survivors party.history))) (Some (plain cancelled))
        given_up false = write_effect state.files stamp (name_in party.history) (position party.history) operation fadu (survivors party.history) (selected_file state party.history) refl

cancel_effect : (state : State) (party : StandingParty) (stamp : Stamp) (moving : Option Transfer) → EndsBy state party (front party.history) moving (cancel_in state party stamp moving)
cancel_effect state party stamp None = nothing_done state party None None
cancel_effect state party stamp (Some transfer) = by (refusal_of transfer.given) transfer.movement
  where
    by : (one : Option Diagnostic) (movement : Movement) → EndsBy state party (front party.history) (Some (record { movement = movement; given = transfer.given })) (in_silence (ending_unless one (cancel_of state party stamp movement)))
    by (Some diagnostic) movement = nothing_done state party (wrote (Some (record { movement = movement; given = transfer.given })) (front party.history)) None
    by None (Reads fadu context) = read_end_effect state party stamp (selected_file state party.history) refl
    by None (Writes operation fadu) = at_start (nat_eq (point party.history) 0)
      where
        at_start : (b : Bool) → EndsBy state party (front party.history) (Some (record { movement = Writes operation fadu; given = transfer.given }))
            (in_silence (cond b (unchanged None) (in_silence (write_of state.files stamp (selected_file state party.history) (position party.history) operation fadu (front party.history)))))
        at_start true = nothing_done state party (Some (performances.Wrote operation fadu (front party.history))) None
        at_start false = write_effect state.files stamp (name_in party.history) (position party.history) operation fadu (front party.history) (selected_file state party.history) refl

-- ---- requests

-- a write that begins is given no position
write_stays : (operation : WriteOperation) (fadu : FaduId) (given : Given) (at : ℕ) → IsEarned (Writes operation fadu) given → placed_by given at ≡ at
write_stays operation fadu Nothing at is = refl
write_stays operation fadu (Refused version number) at is = refl
write_stays operation fadu Made at is = refl
write_stays operation fadu (Showed version elements position) at is = absurd is
write_stays operation fadu (Placed position) at is = absurd is
write_stays operation fadu (Resumed goes_on check) at is = refl

pub request_effect : (state : State) (party : StandingParty) (setting : Setting) (request : Pdu) (given : Given) → request_decision state party setting request ≡ Grants given → IsGivenTo request given → IsOfOpen request
    → EffectIn state party setting.moment request given
request_effect state party setting (LocateRequest fadu) given is was open_is = locate_effect state party setting.moment fadu given (selected_file state party.history) refl is
request_effect state party setting (EraseRequest fadu) given is was open_is = erase_effect state party setting.moment fadu given (selected_file state party.history) refl is
request_effect state party setting (ReadRequest fadu context) given is was open_is =
    subst (λ given. EffectIn state party setting.moment (ReadRequest fadu context) given)
    (sym (granted_is (read_given (selected_file state party.history) (units_of party) (mode_in (regime party.history)) (position party.history) fadu context) given is))
    (read_effect state party setting.moment fadu context (selected_file state party.history) refl)
request_effect state party setting (WriteRequest operation fadu) given is was open_is = (λ other. refl, write_stays operation fadu given (position party.history) was)
request_effect state party setting TransferEndRequest given is was open_is =
    subst (λ given. EffectIn state party setting.moment TransferEndRequest given) (sym (granted_is (transfer_ending state party setting.moment).given given is))
    (transfer_effect state party (stamp_of party setting.moment) (under_way party.history))
request_effect state party setting (CancelRequest diagnostic) given is was open_is =
    subst (λ given. EffectIn state party setting.moment (CancelRequest diagnostic) given) (sym (granted_is (cancel_ending state party setting.moment).given given is))
    (cancel_effect state party (stamp_of party setting.moment) (under_way party.history))
request_effect state party setting (CreateRequest over name contents permitted terms requested controls password) given is was open_is = absurd open_is
request_effect state party setting DeleteRequest given is was open_is = absurd open_is
request_effect state party setting (ChangeAttribRequest name permitted terms others) given is was open_is = absurd open_is
request_effect state party setting (OpenRequest mode contents controls activity) given is was open_is = absurd open_is
request_effect state party setting request given is was open_is = (λ other. refl, unplaced given (position party.history) was)

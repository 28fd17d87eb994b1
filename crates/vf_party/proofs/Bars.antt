-- What aborts a message, and which stage takes it, by what typed states keep.
use Rattle.std.proofs.Common.{◌≡◌, ℕ, ◌+◌, ◌-◌, ◌==◌, Bool, true, false, cond, not, length, nat_lt, ◌&&◌, ◌||◌, [], ◌∷◌, is_some, nat_le, Option, None, refl, ap, sym, ◌∙◌}
use borrow.Author.Tests.{clash}
use Rattle.vf_elements.specs.Stages.{initialize, lists, takes}
use Rattle.vf_base.specs.declared.diagnostic.Diagnostic.{Diagnostic}
use Rattle.vf_elements.specs.declared.message.Message.{Message}
use Rattle.vf_elements.specs.declared.message.Message.TheVariants as messages
use Rattle.vf_elements.specs.declared.stage.Stage.{Stage}
use Rattle.vf_elements.specs.declared.stage.Stage.TheVariants as stages
use Rattle.vf_filestore.specs.Aborts.{Setting, abort_where, aborts, passes_serials, request_aborts, restart_aborts}
use Rattle.vf_filestore.specs.Decision.{Leaves, request_decision}
use Rattle.vf_filestore.specs.Diagnostics.{numbers_spent, too_long, wrong_state}
use Rattle.vf_filestore.specs.History.{History, association, done, regime, selection}
use Rattle.vf_filestore.specs.Limits.{most_survivor_octets, most_survivors}
use Rattle.vf_filestore.specs.Stage.{grouping, regime_stage, stage_by}
use Rattle.vf_filestore.specs.State.{State, StandingParty, units_in, units_of}
use Rattle.vf_filestore.specs.Transfers.{data_end, happened, last_check, survivors, was_shown}
use Rattle.vf_filestore.specs.Transition.{associates}
use Rattle.vf_filestore.specs.Units.{grouping_unit, has_checks}
use Rattle.vf_tables.specs.Validity.{includes}
use Rattle.vf_party.specs.Aborting.{aborts_of_open, aborts_of_quiet, aborts_of_reading, aborts_of_restart, aborts_of_units, aborts_of_writing, spent_aborts}
use Rattle.vf_party.specs.Items.{is_item}
use Rattle.vf_party.specs.Quiets.{IsQuiet, stage_of}
use Rattle.vf_party_steps.specs.Moving.{stage_of_writing}
use Rattle.vf_party_steps.specs.Reads.{IsReading}
use Rattle.vf_party_steps.specs.Reads.{stage_of as reading_stage_of}
use Rattle.vf_party_steps.specs.Represents.{IsIdle}
use Rattle.vf_party_steps.specs.Writes.{IsWriting}
use Rattle.vf_party_steps.specs.declared.idle.Idle.{Idle}
use Rattle.vf_party_steps.specs.declared.reading.Reading.{Reading}
use Rattle.vf_party_steps.specs.declared.writing.Writing.{Writing}
use Rattle.vf_party.specs.declared.quiet.Quiet.{Quiet}
use Rattle.vf_party.specs.declared.quiet.Quiet.TheVariants as quiets
use Rattle.vf_pdu.specs.PduNumbers.{number_of}
use Rattle.vf_transfer.proofs.Entries.{offers_last}
use Rattle.vf_transfer.specs.Checks.{offered}
use Rattle.vf_transfer.specs.Transfer as transfer
use Rattle.vf_tree.specs.FileTree.{octets_of}
use Rattle.vf_pdu.specs.declared.pdu.Pdu.{Pdu}
use Rattle.vf_pdu.specs.declared.pdu.Pdu.TheVariants.{InitializeRequest, UserAbort, ProviderAbort, BeginGroupRequest, ReadRequest, WriteRequest, CancelRequest, RestartRequest}

-- ---- stages

pub idle_stage : (idle : Idle) (link : ℕ) (history : History) → IsIdle idle link history → regime_stage history ≡ stages.Idle
idle_stage idle link history is =
    λ i. stage_by (is.associated i) (is.selected i) (is.opened i) (is.moved i) (is_some (data_end history)) (was_shown history)

pub quiet_stage : (quiet : Quiet) (party : StandingParty) → IsQuiet quiet party.link party.history → regime_stage party.history ≡ stage_of quiet
quiet_stage (quiets.Associated associated) party is =
    λ i. stage_by (is.stands i) (is.selected i) (is.opened i) (is.moved i) (is_some (data_end party.history)) (was_shown party.history)
quiet_stage (quiets.Selected selected) party is =
    λ i. stage_by (association party.history) (is.stands i) (is.opened i) (is.moved i) (is_some (data_end party.history)) (was_shown party.history)
quiet_stage (quiets.Open regimes) party is =
    λ i. stage_by (association party.history) (selection party.history) (is.opened.stands i) (is.moved i) (is_some (data_end party.history)) (was_shown party.history)

-- ---- aborts

module _ (party : StandingParty) (setting : Setting) where
  associated_bars : (units : ℕ) → units_of party ≡ units → (request : Pdu) → takes stages.Associated (messages.Pdu request) ≡ true
      → request_aborts party setting request ≡ aborts_of_units units request
  associated_bars units is (BeginGroupRequest threshold) taken = λ i. abort_where (not (includes (is i) grouping_unit)) wrong_state ∷ []
  associated_bars units is (ReadRequest fadu context) taken = absurd (clash taken)
  associated_bars units is (WriteRequest operation fadu) taken = absurd (clash taken)
  associated_bars units is (CancelRequest diagnostic) taken = absurd (clash taken)
  associated_bars units is (RestartRequest point) taken = absurd (clash taken)
  associated_bars units is request taken = refl

  selected_bars : (units : ℕ) → units_of party ≡ units → (request : Pdu) → takes stages.Selected (messages.Pdu request) ≡ true
      → request_aborts party setting request ≡ aborts_of_units units request
  selected_bars units is (BeginGroupRequest threshold) taken = λ i. abort_where (not (includes (is i) grouping_unit)) wrong_state ∷ []
  selected_bars units is (ReadRequest fadu context) taken = absurd (clash taken)
  selected_bars units is (WriteRequest operation fadu) taken = absurd (clash taken)
  selected_bars units is (CancelRequest diagnostic) taken = absurd (clash taken)
  selected_bars units is (RestartRequest point) taken = absurd (clash taken)
  selected_bars units is request taken = refl

  opened_bars : (units count : ℕ) → units_of party ≡ units → done party.history ≡ count → (request : Pdu) → takes stages.Opened (messages.Pdu request) ≡ true
      → request_aborts party setting request ≡ aborts_of_open units count setting.token request
  opened_bars units count is counted (BeginGroupRequest threshold) taken = λ i. abort_where (not (includes (is i) grouping_unit)) wrong_state ∷ []
  opened_bars units count is counted (ReadRequest fadu context) taken = λ i. abort_where (has_checks (is i) && not setting.token) wrong_state ∷ spent_aborts (counted i)
  opened_bars units count is counted (WriteRequest operation fadu) taken = λ i. spent_aborts (counted i)
  opened_bars units count is counted (CancelRequest diagnostic) taken = absurd (clash taken)
  opened_bars units count is counted (RestartRequest point) taken = absurd (clash taken)
  opened_bars units count is counted request taken = refl

  pub quiet_bars : (quiet : Quiet) (request : Pdu) → IsQuiet quiet party.link party.history → takes (stage_of quiet) (messages.Pdu request) ≡ true
      → request_aborts party setting request ≡ aborts_of_quiet quiet setting.token request
  quiet_bars (quiets.Associated associated) request is taken = associated_bars associated.association.units (ap units_in is.stands) request taken
  quiet_bars (quiets.Selected selected) request is taken = selected_bars selected.associated.association.units (ap units_in is.associated) request taken
  quiet_bars (quiets.Open regimes) request is taken =
      opened_bars regimes.selected.associated.association.units regimes.regime.done (ap units_in is.opened.associated) is.opened.counted request taken

-- ---- groups

-- a request that begins no group leaves none pending
pub begins_none : (request : Pdu) → ((threshold : ℕ) → request ≡ BeginGroupRequest threshold → ⊥) → grouping request None ≡ None
begins_none (BeginGroupRequest threshold) no_begin = absurd (no_begin threshold refl)
begins_none request no_begin = refl

pub no_begin : (request : Pdu) → (number_of request == 22) ≡ false → (threshold : ℕ) → request ≡ BeginGroupRequest threshold → ⊥
no_begin request other threshold is = let never : (22 == 22) ≡ false = sym (ap (λ (r : Pdu). number_of r == 22) is) ∙ other in absurd cc

-- a stage that takes no F-INITIALIZE takes no request that associates
pub unassociating : (request : Pdu) (here : Stage) → lists here initialize ≡ false → takes here (messages.Pdu request) ≡ true → associates (messages.Pdu request) ≡ false
unassociating (InitializeRequest units identity password window) here no_initialize taken = let never : true ≡ false = sym taken ∙ no_initialize in absurd cc
unassociating request here no_initialize taken = refl

pub item_begins_none : (request : Pdu) → is_item request ≡ true → (threshold : ℕ) → request ≡ BeginGroupRequest threshold → ⊥
item_begins_none request item threshold is = let never : false ≡ true = sym (ap is_item is) ∙ item in absurd cc

-- no quiet stage takes F-INITIALIZE
pub quiet_stays : (quiet : Quiet) → lists (stage_of quiet) initialize ≡ false
quiet_stays (quiets.Associated associated) = refl
quiet_stays (quiets.Selected selected) = refl
quiet_stays (quiets.Open regimes) = refl

-- by an abort of its own the initiator leaves
pub leaving_decides : (state : State) (party : StandingParty) (setting : Setting) (request : Pdu) → (number_of request == 4 || number_of request == 5) ≡ true → request_decision state party setting request ≡ Leaves
leaving_decides state party setting (UserAbort number) is = refl
leaving_decides state party setting (ProviderAbort number place) is = refl
leaving_decides state party setting request is = absurd (clash is)

-- ---- transfers

neither : (b : Bool) (one other : Stage) (message : Message) → takes one message ≡ false → takes other message ≡ false → takes (cond b one other) message ≡ true → ⊥
neither true one other message first second taken = let never : true ≡ false = sym taken ∙ first in absurd cc
neither false one other message first second taken = let never : true ≡ false = sym taken ∙ second in absurd cc

module _ (party : StandingParty) (setting : Setting) where
  module _ (reading : Reading) (is : IsReading reading party.link party.history) where
    read_restart : (check : ℕ) → restart_aborts party setting check ≡ aborts_of_restart reading.opened.selected.associated.association.units reading.start reading.check setting.serial check
    read_restart check =
        λ i. abort_where (not (has_checks (units_in (is.within.associated i)))) wrong_state
        ∷ abort_where (not (nat_le (is.started i) check && nat_le check (is.checked i))) wrong_state
        ∷ abort_where (passes_serials ((setting.serial + check) - is.checked i)) numbers_spent ∷ []

    read_request_bars : (request : Pdu) → takes (reading_stage_of reading) (messages.Pdu request) ≡ true → request_aborts party setting request ≡ aborts_of_reading reading setting.serial (messages.Pdu request)
    read_request_bars (RestartRequest check) taken = read_restart check
    read_request_bars (CancelRequest diagnostic) taken = refl
    read_request_bars (BeginGroupRequest threshold) taken = absurd (neither reading.shown stages.Shown stages.Reading (messages.Pdu (BeginGroupRequest threshold)) refl refl taken)
    read_request_bars (ReadRequest fadu context) taken = absurd (neither reading.shown stages.Shown stages.Reading (messages.Pdu (ReadRequest fadu context)) refl refl taken)
    read_request_bars (WriteRequest operation fadu) taken = absurd (neither reading.shown stages.Shown stages.Reading (messages.Pdu (WriteRequest operation fadu)) refl refl taken)
    read_request_bars request taken = refl

    pub reading_bars : (message : Message) → takes (reading_stage_of reading) message ≡ true → aborts party setting message ≡ aborts_of_reading reading setting.serial message
    reading_bars (messages.Pdu request) taken = read_request_bars request taken
    reading_bars (messages.Element element) taken = absurd (neither reading.shown stages.Shown stages.Reading (messages.Element element) refl refl taken)
    reading_bars messages.Check taken = absurd (neither reading.shown stages.Shown stages.Reading messages.Check refl refl taken)
    reading_bars (messages.Acknowledge check) taken = λ i. abort_where (not (nat_le (is.started i) check && nat_le check (is.checked i))) wrong_state ∷ []
    reading_bars (messages.Restart check) taken = read_restart check
    reading_bars messages.Break taken = refl

  module _ (writing : Writing) (is : IsWriting writing party.link party.history) where
    last_is : last_check party.history ≡ offered writing.received.checks
    last_is = ap (λ start. transfer.last_check start (happened party.history)) (sym is.counted) ∙ sym (offers_last writing.received.checks (happened party.history) is.received.checks)

    values_are : survivors party.history ≡ writing.received.values
    values_are = ap (λ start. transfer.survivors start (happened party.history)) (sym is.counted) ∙ sym is.received.values

    write_restart : (check : ℕ) → restart_aborts party setting check ≡ aborts_of_restart writing.regimes.selected.associated.association.units writing.start (offered writing.received.checks) setting.serial check
    write_restart check =
        λ i. abort_where (not (has_checks (units_in (is.opened.associated i)))) wrong_state
        ∷ abort_where (not (nat_le (is.started i) check && nat_le check (last_is i))) wrong_state
        ∷ abort_where (passes_serials ((setting.serial + check) - last_is i)) numbers_spent ∷ []

    write_request_bars : (request : Pdu) → takes (stage_of_writing writing) (messages.Pdu request) ≡ true → request_aborts party setting request ≡ aborts_of_writing writing setting.serial (messages.Pdu request)
    write_request_bars (RestartRequest check) taken = write_restart check
    write_request_bars (CancelRequest diagnostic) taken = refl
    write_request_bars (BeginGroupRequest threshold) taken = absurd (neither (is_some writing.ended) stages.Written stages.Writing (messages.Pdu (BeginGroupRequest threshold)) refl refl taken)
    write_request_bars (ReadRequest fadu context) taken = absurd (neither (is_some writing.ended) stages.Written stages.Writing (messages.Pdu (ReadRequest fadu context)) refl refl taken)
    write_request_bars (WriteRequest operation fadu) taken = absurd (neither (is_some writing.ended) stages.Written stages.Writing (messages.Pdu (WriteRequest operation fadu)) refl refl taken)
    write_request_bars request taken = refl

    pub writing_bars : (message : Message) → takes (stage_of_writing writing) message ≡ true → aborts party setting message ≡ aborts_of_writing writing setting.serial message
    writing_bars (messages.Pdu request) taken = write_request_bars request taken
    writing_bars (messages.Element element) taken =
        λ i. abort_where (nat_lt most_survivor_octets (is.weighed i + octets_of element) || nat_le most_survivors (length (values_are i))) too_long ∷ []
    writing_bars messages.Check taken = λ i. abort_where (not (has_checks (units_in (is.opened.associated i)))) wrong_state ∷ []
    writing_bars (messages.Acknowledge check) taken = absurd (neither (is_some writing.ended) stages.Written stages.Writing (messages.Acknowledge check) refl refl taken)
    writing_bars (messages.Restart check) taken = write_restart check
    writing_bars messages.Break taken = refl

-- the stage of a party that writes
pub writing_stage : (writing : Writing) (link : ℕ) (history : History) → IsWriting writing link history → regime_stage history ≡ stage_of_writing writing
writing_stage writing link history is =
    (λ i. stage_by (association history) (selection history) (regime history) (is.moved i) (is_some (data_end history)) (was_shown history))
    ∙ ap (λ (ended : Option (Option Diagnostic)). cond (is_some ended) stages.Written stages.Writing) is.ended

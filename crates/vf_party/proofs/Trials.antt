-- An item of a group that is tried, and items after it, in the words of the filestore.
use Rattle.std.proofs.Common.{◌≡◌, ℕ, ◌+◌, Bool, true, false, cond, List, [], ◌∷◌, ◌++◌, append-nil, is_some, Option, None, Some, unwrap_or, Result, Ok, Err, refl, ap, sym, subst, ◌∙◌}
use Rattle.std.specs.Prelude.{IfErr}
use borrow.Author.Tests.{clash}
use Rattle.std.proofs.lemmas.List.Concat.{flat_map-append}
use Rattle.std.proofs.lemmas.List.Sums.{sum_by-append}
use Rattle.vf_base.specs.declared.diagnostic.Diagnostic.{Diagnostic}
use Rattle.vf_elements.specs.Stages.{takes}
use Rattle.vf_elements.specs.declared.message.Message.{Message}
use Rattle.vf_elements.specs.declared.message.Message.TheVariants as messages
use Rattle.vf_elements.specs.declared.stage.Stage.{Stage}
use Rattle.vf_filestore.specs.Aborts.{Setting}
use Rattle.vf_filestore.specs.Changes.{delta}
use Rattle.vf_filestore.specs.Conclusion.{concluding_entry, entry_of, has_abort, taken_up}
use Rattle.vf_filestore.specs.Decision.{Decision, Aborts, Refuses, Grants, Waits, Groups, Ends, Leaves, message_decision, request_decision, trial_decision}
use Rattle.vf_filestore.specs.Diagnostics.{below_threshold, plain, wrong_regime}
use Rattle.vf_filestore.specs.Dockets.{broken}
use Rattle.vf_filestore.specs.Groups as groups
use Rattle.vf_filestore.specs.Groups.{is_good, said_in_vain, said_of, trial, trial_by, trial_step}
use Rattle.vf_filestore.specs.History.{Given, History}
use Rattle.vf_filestore.specs.HoldersAfter.{concluded_by}
use Rattle.vf_filestore.specs.Records.{changes_between, changes_by_items}
use Rattle.vf_filestore.specs.Replies.{refusal_of_request, request_replies}
use Rattle.vf_filestore.specs.Sound.{IsItem, IsSound}
use Rattle.vf_filestore.specs.Stage.{regime_stage, stage_by}
use Rattle.vf_filestore.specs.State.{State, StandingParty, party_of, with_party}
use Rattle.vf_filestore.specs.Tables.{tables_of}
use Rattle.vf_filestore.specs.Transfers.{data_end, under_way, was_shown}
use Rattle.vf_filestore.proofs.Decisions.{trial_sound}
use Rattle.vf_filestore.proofs.Parties.{found_at, located, with_at}
use Rattle.vf_filestore.proofs.Recorded.{items_lead}
use Rattle.vf_locks.specs.Table.{IsAsBefore}
use Rattle.vf_party.specs.Items.{AreItems, is_item}
use Rattle.vf_party.specs.Quiets.{IsQuiet, stage_of}
use Rattle.vf_party.specs.Refusals.{refusal_numbered}
use Rattle.vf_party_steps.specs.Steps.{Concludes, HoldersOfFiles, MeetsStep, StandsIn, history_by}
use Rattle.vf_party.specs.Trials.{AreTried, AreTriedIn, ComesOf, HasTried, IsGoodItem, IsJoined, IsBadItem, taken_in}
use Rattle.vf_party.specs.declared.quiet.Quiet.{Quiet}
use Rattle.vf_party.specs.declared.quiet.Quiet.TheVariants as quiets
use Rattle.vf_party_steps.specs.declared.step.Step.{Step}
use Rattle.vf_party_steps.specs.declared.step.StepError.{StepError}
use Rattle.vf_party_steps.specs.declared.step.StepError.TheVariants as errors
use Rattle.vf_party.specs.declared.trying.Trial.{Trial}
use Rattle.vf_party_steps.proofs.Kept.{no_change, nothing_due}
use Rattle.vf_party.proofs.Refused.{refused_by_number}
use Rattle.vf_pdu.specs.PduNumbers.{number_of}
use Rattle.vf_pdu.specs.declared.pdu.Pdu.{Pdu}
use Rattle.vf_pdu.specs.declared.pdu.Pdu.TheVariants.{SelectRequest, CreateRequest, DeselectRequest, DeleteRequest, ReadAttribRequest, ChangeAttribRequest, OpenRequest, CloseRequest}
use Rattle.vf_tables.specs.Changes.{after_all}
use Rattle.vf_tables.specs.declared.tables.Tables.{Tables}

-- ---- items

pub may_be_item : (request : Pdu) → is_item request ≡ true → IsItem request
may_be_item (SelectRequest name requested controls password) item = refl
may_be_item DeselectRequest item = refl
may_be_item (CreateRequest over name contents permitted terms requested controls password) item = refl
may_be_item DeleteRequest item = refl
may_be_item (ReadAttribRequest names) item = refl
may_be_item (ChangeAttribRequest name permitted terms others) item = refl
may_be_item (OpenRequest mode contents controls activity) item = refl
may_be_item CloseRequest item = refl
may_be_item request item = absurd (clash item)

-- no item is answered by an abort
unaborted : (state : State) (party : StandingParty) (setting : Setting) (given : Given) (request : Pdu) → is_item request ≡ true → has_abort (request_replies state party setting given request) ≡ false
unaborted state party setting given (SelectRequest name requested controls password) item = refl
unaborted state party setting given DeselectRequest item = refl
unaborted state party setting given (CreateRequest over name contents permitted terms requested controls password) item = refl
unaborted state party setting given DeleteRequest item = refl
unaborted state party setting given (ReadAttribRequest names) item = refl
unaborted state party setting given (ChangeAttribRequest name permitted terms others) item = refl
unaborted state party setting given (OpenRequest mode contents controls activity) item = refl
unaborted state party setting given CloseRequest item = refl
unaborted state party setting given request item = absurd (clash item)

-- the regime that a typed state represents
pub stage_is : (quiet : Quiet) (link : ℕ) (history : History) → IsQuiet quiet link history → regime_stage history ≡ stage_of quiet
stage_is (quiets.Associated associated) link history is = λ i. stage_by (is.stands i) (is.selected i) (is.opened i) (is.moved i) (is_some (data_end history)) (was_shown history)
stage_is (quiets.Selected selected) link history is = λ i. stage_by (is.associated i) (is.stands i) (is.opened i) (is.moved i) (is_some (data_end history)) (was_shown history)
stage_is (quiets.Open regimes) link history is = λ i. stage_by (is.opened.associated i) (is.opened.selected i) (is.opened.stands i) (is.moved i) (is_some (data_end history)) (was_shown history)

quiet_moves : (quiet : Quiet) (link : ℕ) (history : History) → IsQuiet quiet link history → under_way history ≡ None
quiet_moves (quiets.Associated associated) link history is = is.moved
quiet_moves (quiets.Selected selected) link history is = is.moved
quiet_moves (quiets.Open regimes) link history is = is.moved

abbrev pub one_tried : groups.Tried → State → groups.Trial
one_tried one state = record { tried = one ∷ []; state = state }

-- ---- one item

module _ (state : State) (party : StandingParty) (setting : Setting) (item : Pdu) where
  -- what its decision comes to
  trial_is : (decision : Decision) → party_of party.link state.parties ≡ Some party → trial_decision state party setting item ≡ decision
      → trial party.link setting (item ∷ []) state ≡ trial_step (trial party.link setting []) setting item state party decision
  trial_is decision found is =
      (λ i. trial_by (trial party.link setting []) setting item state (found i))
      ∙ (λ i. trial_step (trial party.link setting []) setting item state party (is i))

  taken_decides : takes (regime_stage party.history) (messages.Pdu item) ≡ true → trial_decision state party setting item ≡ message_decision state party setting (messages.Pdu item)
  taken_decides taken = λ i. cond (taken i) (request_decision state party setting item) (Refuses (plain wrong_regime))

  pub left_decides : takes (regime_stage party.history) (messages.Pdu item) ≡ false → trial_decision state party setting item ≡ Refuses (plain wrong_regime)
  left_decides left = λ i. cond (left i) (request_decision state party setting item) (Refuses (plain wrong_regime))

  abbrev granted_one : Given → groups.Tried
  granted_one given = record { item = item; refused = None; said = (concluding_entry state party setting (messages.Pdu item) given).said }

  abbrev refused_one : Diagnostic → groups.Tried
  refused_one diagnostic = record { item = item; refused = Some diagnostic; said = refusal_of_request diagnostic item }

  -- nothing is due after the reply to a granted item, and it is no abort
  no_abort : (given : Given) → is_item item ≡ true → under_way (history_by state party setting (messages.Pdu item) given) ≡ None → has_abort (concluding_entry state party setting (messages.Pdu item) given).said ≡ false
  no_abort given item_is quiet =
      ap has_abort (sym (nothing_due (taken_up state party (messages.Pdu item)) setting.serial (entry_of state party setting (messages.Pdu item) given) quiet))
      ∙ unaborted state party setting given item item_is

  granted_is : (given : Given) → is_item item ≡ true → party_of party.link state.parties ≡ Some party → takes (regime_stage party.history) (messages.Pdu item) ≡ true
      → message_decision state party setting (messages.Pdu item) ≡ Grants given → under_way (history_by state party setting (messages.Pdu item) given) ≡ None
      → trial party.link setting (item ∷ []) state ≡ one_tried (granted_one given) (concluded_by state party setting (messages.Pdu item) given)
  granted_is given item_is found taken grants quiet =
      let later = concluded_by state party setting (messages.Pdu item) given in
      trial_is (Grants given) found (taken_decides taken ∙ grants)
      ∙ (λ i. one_tried (granted_one given) (cond (no_abort given item_is quiet i) (broken party.link later) later))

  -- the party after it
  found_next : (history : History) → party_of party.link state.parties ≡ Some party
      → party_of party.link (with_party (record party { history = history }) state.parties) ≡ Some (record party { history = history })
  found_next history found =
      let at = located party.link state.parties party found in
      let next : StandingParty = record party { history = history } in
      ap (party_of party.link) (ap (with_party next) at.is ∙ with_at party.link at.before at.after party next at.absent refl refl)
      ∙ found_at party.link at.before at.after next at.absent refl

  module _ (tables : Tables) (old new : HoldersOfFiles) where
    pub granted_item : (step : Step Quiet) (tried : Trial) → is_item item ≡ true → StandsIn tables old state party → takes (regime_stage party.history) (messages.Pdu item) ≡ true
        → Concludes IsQuiet tables new state party setting (messages.Pdu item) step → IsGoodItem (number_of item) step tables tried
        → AreTriedIn new setting (item ∷ []) state party tried
    granted_item step tried item_is stands taken concludes granted =
        let given = concludes.given in
        let message = messages.Pdu item in
        let later = concluded_by state party setting message given in
        let history = history_by state party setting message given in
        let changes = changes_by_items party.link setting (item ∷ []) state in
        let quiet = quiet_moves step.state party.link history concludes.next in
        let is : trial party.link setting (item ∷ []) state ≡ one_tried (granted_one given) later = granted_is given item_is stands.stands taken concludes.granted quiet in
        let state_is : (trial party.link setting (item ∷ []) state).state ≡ later = ap (λ (one : groups.Trial). one.state) is in
        let differs : step.changes ≡ changes
        = concludes.changes ∙ (λ i. delta (sym stands.kept i) (tables_of (sym state_is i)))
        ∙ sym (append-nil (changes_between state (trial party.link setting (item ∷ []) state).state)) in
        let becomes : tables_of later ≡ tried.tables
        = ap tables_of (sym state_is) ∙ sym (items_lead party.link setting (item ∷ []) state (may_be_item item item_is, tt) stands.sound).lead
        ∙ (λ i. after_all (stands.kept i) (sym differs i)) ∙ sym granted.kept in
        let owed : HasTried new party.link party.trace changes (one_tried (granted_one given) later) tried = record {
          says = granted.says ∙ concludes.said ∙ sym (append-nil (concluding_entry state party setting message given).said);
          warns = granted.warns ∙ sym (refused_by_number (plain below_threshold) item) ∙ sym (append-nil (refusal_of_request (plain below_threshold) item));
          counts = granted.counts;
          changed = granted.changed ∙ differs;
          party = record party { history = history };
          linked = refl;
          traced = refl;
          stands = record {
            sound = subst IsSound state_is (trial_sound party.link setting (item ∷ []) state (may_be_item item item_is, tt) stands.sound);
            kept = becomes;
            held = concludes.held;
            stands = found_next history stands.stands;
          };
          represented = subst (λ (one : Quiet). IsQuiet one party.link history) (sym granted.next) concludes.next;
        } in
        subst (λ (one : groups.Trial). HasTried new party.link party.trace changes one tried) (sym is) owed

    pub refused_item : (quiet : Quiet) (diagnostic : Diagnostic) (tried : Trial) → StandsIn tables old state party → IsQuiet quiet party.link party.history → trial_decision state party setting item ≡ Refuses diagnostic
        → IsAsBefore old new → IsBadItem quiet (number_of item) diagnostic tables tried → AreTriedIn new setting (item ∷ []) state party tried
    refused_item quiet diagnostic tried stands represents refuses before refused =
        let changes = changes_by_items party.link setting (item ∷ []) state in
        let is : trial party.link setting (item ∷ []) state ≡ one_tried (refused_one diagnostic) state = trial_is (Refuses diagnostic) stands.stands refuses in
        let state_is : (trial party.link setting (item ∷ []) state).state ≡ state = ap (λ (one : groups.Trial). one.state) is in
        let none : changes ≡ []
        = append-nil (changes_between state (trial party.link setting (item ∷ []) state).state) ∙ ap (changes_between state) state_is
        ∙ no_change (tables_of state) state state stands.sound refl refl in
        let says : refusal_numbered (number_of item) diagnostic ≡ refusal_of_request diagnostic item ++ []
        = sym (refused_by_number diagnostic item) ∙ sym (append-nil (refusal_of_request diagnostic item)) in
        let owed : HasTried new party.link party.trace changes (one_tried (refused_one diagnostic) state) tried = record {
          says = refused.says ∙ says;
          warns = refused.warns ∙ says;
          counts = refused.counts;
          changed = refused.changed ∙ sym none;
          party = party;
          linked = refl;
          traced = refl;
          stands = record {
            sound = stands.sound;
            kept = stands.kept ∙ sym refused.kept;
            held = λ file. before file ∙ stands.held file;
            stands = stands.stands;
          };
          represented = subst (λ (one : Quiet). IsQuiet one party.link party.history) (sym refused.next) represents;
        } in
        subst (λ (one : groups.Trial). HasTried new party.link party.trace changes one tried) (sym is) owed

    -- what a step answers to an item that its regime takes
    pub answered_item : (answer : Result (Step Quiet) (Quiet × StepError)) (quiet : Quiet) (tried : Trial) → is_item item ≡ true → StandsIn tables old state party → IsQuiet quiet party.link party.history
        → takes (regime_stage party.history) (messages.Pdu item) ≡ true → MeetsStep IsQuiet tables old new state party setting (messages.Pdu item) answer → IfErr answer (λ back. back.0 ≡ quiet)
        → ComesOf (number_of item) answer tables tried → AreTriedIn new setting (item ∷ []) state party tried
    answered_item (Ok step) quiet tried item_is stands represents taken meets kept comes = granted_item step tried item_is stands taken meets comes
    answered_item (Err (back, errors.Refused diagnostic)) quiet tried item_is stands represents taken meets kept comes =
        refused_item back diagnostic tried stands (subst (λ (one : Quiet). IsQuiet one party.link party.history) (sym kept) represents) (taken_decides taken ∙ meets.0) meets.1 comes
    answered_item (Err (back, errors.NoMemory)) quiet tried item_is stands represents taken meets kept comes = absurd comes

-- ---- what a stage takes

pub record IsTaken (stage : Stage) (item request : Pdu) : Type 0 where
  pub is : is_item item ≡ true
  pub taken : takes stage (messages.Pdu item) ≡ true
  pub same : item ≡ request

pub taken_some : (stage : Stage) (item request : Pdu) → taken_in stage item ≡ Some request → IsTaken stage item request
taken_some stage item request is = by (is_item item) refl (takes stage (messages.Pdu item)) refl is
  where
    by : (b : Bool) → is_item item ≡ b → (c : Bool) → takes stage (messages.Pdu item) ≡ c → cond b (cond c (Some item) None) None ≡ Some request → IsTaken stage item request
    by true listed true taken is = record { is = listed; taken = taken; same = ap (λ (one : Option Pdu). unwrap_or one item) is }
    by true listed false taken is = absurd cc
    by false listed c taken is = absurd cc

pub taken_none : (stage : Stage) (item : Pdu) → is_item item ≡ true → ((request : Pdu) → taken_in stage item ≡ Some request → ⊥) → takes stage (messages.Pdu item) ≡ false
taken_none stage item listed never = by (takes stage (messages.Pdu item)) refl
  where
    by : (b : Bool) → takes stage (messages.Pdu item) ≡ b → takes stage (messages.Pdu item) ≡ false
    by true taken = absurd (never item (λ i. cond (listed i) (cond (taken i) (Some item) None) None))
    by false left = left

-- ---- items after an item

-- a trial, and then another
abbrev trials : groups.Trial → groups.Trial → groups.Trial
trials first later = record { tried = first.tried ++ later.tried; state = later.state }

step_followed : (later : State → groups.Trial) (setting : Setting) (item : Pdu) (state : State) (party : StandingParty) (one : Decision)
    → trial_step later setting item state party one ≡ trials (trial_step (trial party.link setting []) setting item state party one) (later (trial_step (trial party.link setting []) setting item state party one).state)
step_followed later setting item state party (Grants given) = refl
step_followed later setting item state party (Refuses diagnostic) = refl
step_followed later setting item state party (Aborts number) = refl
step_followed later setting item state party Waits = refl
step_followed later setting item state party (Groups group) = refl
step_followed later setting item state party Ends = refl
step_followed later setting item state party Leaves = refl

trial_followed : (link : ℕ) (setting : Setting) (item : Pdu) (items : List Pdu) (state : State)
    → trial link setting (item ∷ items) state ≡ trials (trial link setting (item ∷ []) state) (trial link setting items (trial link setting (item ∷ []) state).state)
trial_followed link setting item items state = by (party_of link state.parties)
  where
    by : (found : Option StandingParty) → trial_by (trial link setting items) setting item state found
        ≡ trials (trial_by (trial link setting []) setting item state found) (trial link setting items (trial_by (trial link setting []) setting item state found).state)
    by None = refl
    by (Some party) = step_followed (trial link setting items) setting item state party (trial_decision state party setting item)

module _ (state : State) (party : StandingParty) (setting : Setting) where
  pub items_tried : (item : Pdu) (items : List Pdu) (mid new : HoldersOfFiles) (first later all : Trial) → AreTriedIn mid setting (item ∷ []) state party first
      → AreItems items → AreTried first.quiet first.tables mid new setting items later → IsJoined first.said.items first.vain.items first.good first.changes later all
      → AreTriedIn new setting (item ∷ items) state party all
  items_tried item items mid new first later all one listed are joined =
      let link = party.link in
      let begun = trial link setting (item ∷ []) state in
      let next = begun.state in
      let ended = trial link setting items next in
      let changes = changes_by_items link setting items next in
      let rest : HasTried new link party.trace changes ended later
      = subst (λ (trace : List Message). HasTried new link trace changes ended later) one.traced
      (subst (λ (l : ℕ). HasTried new l one.party.trace (changes_by_items l setting items next) (trial l setting items next) later) one.linked
      (are next one.party one.stands one.represented listed)) in
      let owed : HasTried new link party.trace (changes_by_items link setting (item ∷ items) state) (trials begun ended) all = record {
        says = joined.says ∙ (λ i. one.says i ++ rest.says i) ∙ sym (flat_map-append said_of begun.tried ended.tried);
        warns = joined.warns ∙ (λ i. one.warns i ++ rest.warns i) ∙ sym (flat_map-append said_in_vain begun.tried ended.tried);
        counts = joined.counts ∙ (λ i. one.counts i + rest.counts i) ∙ sym (sum_by-append (λ (tried : groups.Tried). cond (is_good tried) 1 0) begun.tried ended.tried);
        changed = joined.changed ∙ (λ i. (one.changed ∙ append-nil (changes_between state next)) i ++ rest.changed i);
        party = rest.party;
        linked = rest.linked;
        traced = rest.traced;
        stands = subst (λ (tables : Tables). StandsIn tables new ended.state rest.party) (sym joined.kept) rest.stands;
        represented = subst (λ (quiet : Quiet). IsQuiet quiet rest.party.link rest.party.history) (sym joined.next) rest.represented;
      } in
      subst (λ (whole : groups.Trial). HasTried new link party.trace (changes_by_items link setting (item ∷ items) state) whole all) (sym (trial_followed link setting item items state)) owed

-- What holds of states stays so with every message where it stays so with each that is granted, with breaks, and whatever
-- stands in traces.
use Rattle.std.proofs.Common.{◌≡◌, ℕ, Bool, true, false, cond, List, [], ◌∷◌, ◌++◌, Option, None, Some, refl, sym, subst, ◌∙◌}
use Rattle.std.specs.Prelude.{IfSome, count_by, flat_map, nat_le}
use Rattle.std.specs.List.{AllByRecursion}
use Rattle.vf_elements.specs.Stages.{takes}
use Rattle.vf_elements.specs.declared.message.Message.{Message}
use Rattle.vf_elements.specs.declared.message.Message.TheVariants as messages
use Rattle.vf_elements.specs.declared.message.Said.{Said}
use Rattle.vf_elements.specs.declared.stage.Stage.TheVariants as stages
use Rattle.vf_pdu.specs.declared.pdu.Pdu.{Pdu}
use Rattle.vf_pdu.specs.declared.pdu.Pdu.TheVariants.{BeginGroupRequest, EndGroupRequest}
use Rattle.vf_filestore.specs.Aborts as aborting
use Rattle.vf_filestore.specs.Aborts.{Setting, first_abort}
use Rattle.vf_filestore.specs.Conclusion.{Answered, concluded, concluding_entry, grants, has_abort}
use Rattle.vf_filestore.specs.Decision.{Decision, Aborts, Refuses, Grants, Waits, Groups, Ends, Leaves, decision, message_decision, trial_decision}
use Rattle.vf_filestore.specs.Dockets.{broken}
use Rattle.vf_filestore.specs.Groups.{Trial, between, groups, is_good, said_in_vain, said_of, trial, trial_by, trial_step}
use Rattle.vf_filestore.specs.History.{Given}
use Rattle.vf_filestore.specs.Sound.{HasItems, IsItem, IsSound, IsSoundParty}
use Rattle.vf_filestore.specs.Stage.{Group, grouping, pending, regime_stage}
use Rattle.vf_filestore.specs.State.{State, StandingParty, party_of, with_party}
use Rattle.vf_filestore.specs.Transition.{answered, associates, fault_of, leaves, met, refuses, superseded_by, taking_over, transition, transition_of, fault}
use Rattle.vf_filestore.proofs.Broken.{broken_sound}
use Rattle.vf_filestore.proofs.Concluded.{IsGranting, after_entry, concluded_is, concluded_sound, granting_request, grants_sound}
use Rattle.vf_filestore.proofs.Decisions.{broken_same, decided_taken, granting, grouped_as, grouped_items, heard_sound, item_asks, party_sound, passed_alone, put_again, traced, trial_taken}
use Rattle.vf_filestore.proofs.Lists.{all_append}
use Rattle.vf_filestore.proofs.Parties.{located}
use Rattle.vf_filestore.proofs.Same.{with_parties, with_trace}
use Rattle.vf_filestore.proofs.Transitions.{still_there}

-- what is known of a message that is granted: its stage takes it, its rows grant it, and no abort refuses it where it is
-- no item of a group
pub record IsDue (state : State) (party : StandingParty) (setting : Setting) (message : Message) (given : Given) : Type 0 where
  pub taken : takes (regime_stage party.history) message ≡ true
  pub decided : message_decision state party setting message ≡ Grants given
  pub spared : takes stages.Grouping message ≡ false → first_abort (aborting.aborts party setting message) ≡ None

-- what stays: with breaks, under any trace of messages that are allowed, and with each one that is granted in such a setting
pub record StaysIn (During : Setting → Type 0) (Allowed : Message → Type 0) (P : State → Type 0) : Type 0 where
  pub breaks : (link : ℕ) (state : State) → IsSound state → P state → P (broken link state)
  pub hears : (state : State) (link : ℕ) (party : StandingParty) (message : Message) → Allowed message → P state → party_of link state.parties ≡ Some party
      → P (with_parties state (with_party (with_trace party (message ∷ party.trace)) state.parties))
  pub traces : (state : State) (link : ℕ) (party : StandingParty) → P state → party_of link state.parties ≡ Some party → AllByRecursion Allowed party.trace
  pub grants : (state : State) (party : StandingParty) (setting : Setting) (message : Message) (given : Given) (trace : List Message) (before after : List StandingParty) → During setting → IsSound state → P state
      → IsSound (after_entry state party setting message given trace before after) → state.parties ≡ before ++ party ∷ after → Allowed message → AllByRecursion Allowed trace
      → IsGranting state party setting message given → IsDue state party setting message given → P (after_entry state party setting message given trace before after)

-- the same in every setting
pub record Stays (Allowed : Message → Type 0) (P : State → Type 0) : Type 0 where
  pub breaks : (link : ℕ) (state : State) → IsSound state → P state → P (broken link state)
  pub hears : (state : State) (link : ℕ) (party : StandingParty) (message : Message) → Allowed message → P state → party_of link state.parties ≡ Some party
      → P (with_parties state (with_party (with_trace party (message ∷ party.trace)) state.parties))
  pub traces : (state : State) (link : ℕ) (party : StandingParty) → P state → party_of link state.parties ≡ Some party → AllByRecursion Allowed party.trace
  pub grants : (state : State) (party : StandingParty) (setting : Setting) (message : Message) (given : Given) (trace : List Message) (before after : List StandingParty) → IsSound state → P state
      → IsSound (after_entry state party setting message given trace before after) → state.parties ≡ before ++ party ∷ after → Allowed message → AllByRecursion Allowed trace
      → IsGranting state party setting message given → IsDue state party setting message given → P (after_entry state party setting message given trace before after)

-- where any message is allowed, any trace is
abbrev pub IsAny : Message → Type 0
IsAny message = Unit {0}

pub any : (trace : List Message) → AllByRecursion IsAny trace
any [] = tt
any (message ∷ trace) = (tt, any trace)

-- ---- items are allowed where the trace is

module _ (Allowed : Message → Type 0) where
  grouping_allowed : (pdu : Pdu) (one : Option Group) → Allowed (messages.Pdu pdu) → IfSome one (λ (group : Group). AllByRecursion (λ (item : Pdu). Allowed (messages.Pdu item)) group.items)
      → IfSome (grouping pdu one) (λ (group : Group). AllByRecursion (λ (item : Pdu). Allowed (messages.Pdu item)) group.items)
  grouping_allowed (BeginGroupRequest threshold) one allowed items = tt
  grouping_allowed EndGroupRequest one allowed items = tt
  grouping_allowed pdu None allowed items = tt
  grouping_allowed pdu (Some group) allowed items = all_append (λ (item : Pdu). Allowed (messages.Pdu item)) group.items (pdu ∷ []) items (allowed, tt)

  pub pending_allowed : (trace : List Message) → AllByRecursion Allowed trace → IfSome (pending trace) (λ (group : Group). AllByRecursion (λ (item : Pdu). Allowed (messages.Pdu item)) group.items)
  pending_allowed [] all = tt
  pending_allowed (messages.Pdu pdu ∷ earlier) all = grouping_allowed pdu (pending earlier) all.0 (pending_allowed earlier all.1)
  pending_allowed (_ ∷ earlier) all = pending_allowed earlier all.1

-- ---- every message

pub no_item : (item : Pdu) → IsItem item → takes stages.Grouping (messages.Pdu item) ≡ false → ⊥
no_item item is never = let wrong : true ≡ false = sym is ∙ never in cc

module _ (During : Setting → Type 0) (Allowed : Message → Type 0) (P : State → Type 0) (stays : StaysIn During Allowed P) where
  pub granted_in : (state : State) (link : ℕ) (party : StandingParty) (setting : Setting) (during : During setting) (message : Message) (given : Given) (parties : List StandingParty) (trace : List Message) → IsSound state → P state
      → party_of link state.parties ≡ Some party → parties ≡ with_party (with_trace party trace) state.parties → IfSome (pending trace) HasItems → Allowed message → AllByRecursion Allowed trace
      → IsGranting state party setting message given → IsDue state party setting message given → P (grants (with_parties state parties) (with_trace party trace) setting message given).state
  granted_in state link party setting during message given parties trace sound holds found are grouped allowed traces granting due =
      by (has_abort (concluding_entry (with_parties state parties) (with_trace party trace) setting message given).said)
    where
      kept : IsSound (concluded (with_parties state parties) (with_trace party trace) (concluding_entry (with_parties state parties) (with_trace party trace) setting message given))
      kept = concluded_sound state link party setting message given parties trace sound found are grouped granting

      holds_after : P (concluded (with_parties state parties) (with_trace party trace) (concluding_entry (with_parties state parties) (with_trace party trace) setting message given))
      holds_after =
          let at = located link state.parties party found in
          let is = concluded_is state link party setting message given parties trace at are in
          let sound_after = concluded_sound state link party setting message given parties trace sound found are grouped granting in
          subst P (sym is) (stays.grants state party setting message given trace at.before at.after during sound holds (subst (λ (one : State). IsSound one) is sound_after) at.is allowed traces granting due)

      by : (b : Bool) → P (cond b (broken party.link (concluded (with_parties state parties) (with_trace party trace) (concluding_entry (with_parties state parties) (with_trace party trace) setting message given)))
          (concluded (with_parties state parties) (with_trace party trace) (concluding_entry (with_parties state parties) (with_trace party trace) setting message given)))
      by true = stays.breaks party.link (concluded (with_parties state parties) (with_trace party trace) (concluding_entry (with_parties state parties) (with_trace party trace) setting message given)) kept holds_after
      by false = holds_after

  step_in : (later : State → Trial) → ((state : State) → IsSound state → P state → P (later state).state) → (state : State) (link : ℕ) (party : StandingParty) (setting : Setting) (during : During setting) (item : Pdu)
      → IsItem item → Allowed (messages.Pdu item) → IsSound state → P state → party_of link state.parties ≡ Some party → (one : Decision) → trial_decision state party setting item ≡ one
      → P (trial_step later setting item state party one).state
  step_in later keeps state link party setting during item is_item allowed sound holds found (Grants given) is =
      let taken = trial_taken state party setting item given is in
      let own = party_sound state link party sound found in
      let granting = granting_request state party setting item given sound own taken.1 taken.0 (item_asks item party.history is_item) in
      let again = put_again link state.parties party found in
      keeps (grants state party setting (messages.Pdu item) given).state
      (grants_sound state link party setting (messages.Pdu item) given state.parties party.trace sound found again own.grouped granting)
      (granted_in state link party setting during (messages.Pdu item) given state.parties party.trace sound holds found again own.grouped allowed (stays.traces state link party holds found) granting
      (record { taken = taken.0; decided = taken.1; spared = λ never. absurd (no_item item is_item never) }))
  step_in later keeps state link party setting during item is_item allowed sound holds found (Refuses diagnostic) is = keeps state sound holds
  step_in later keeps state link party setting during item is_item allowed sound holds found (Aborts number) is = keeps state sound holds
  step_in later keeps state link party setting during item is_item allowed sound holds found Waits is = keeps state sound holds
  step_in later keeps state link party setting during item is_item allowed sound holds found (Groups group) is = keeps state sound holds
  step_in later keeps state link party setting during item is_item allowed sound holds found Ends is = keeps state sound holds
  step_in later keeps state link party setting during item is_item allowed sound holds found Leaves is = keeps state sound holds

  pub trial_in : (link : ℕ) (setting : Setting) (during : During setting) (items : List Pdu) (state : State) → AllByRecursion IsItem items → AllByRecursion (λ (item : Pdu). Allowed (messages.Pdu item)) items → IsSound state → P state → P (trial link setting items state).state
  trial_in link setting during [] state are allowed sound holds = holds
  trial_in link setting during (item ∷ items) state are allowed sound holds =
      by (λ state sound holds. trial_in link setting during items state are.1 allowed.1 sound holds) (party_of link state.parties) refl
    where
      by : ((state : State) → IsSound state → P state → P (trial link setting items state).state) → (found : Option StandingParty) → party_of link state.parties ≡ found
          → P (trial_by (trial link setting items) setting item state found).state
      by keeps None is = keeps state sound holds
      by keeps (Some party) is = step_in (trial link setting items) keeps state link party setting during item are.0 allowed.0 sound holds is (trial_decision state party setting item) refl

  groups_in : (state : State) (party : StandingParty) (setting : Setting) (during : During setting) (group : Group) → HasItems group → AllByRecursion (λ (item : Pdu). Allowed (messages.Pdu item)) group.items → IsSound state → P state
      → P (groups state party setting group).state
  groups_in state party setting during group items allowed sound holds = by (nat_le group.threshold (count_by is_good (trial party.link setting group.items state).tried))
    where
      by : (b : Bool) → P (cond {A = Answered} b
          (record { said = between (flat_map said_of (trial party.link setting group.items state).tried); state = (trial party.link setting group.items state).state })
          (record { said = between (flat_map said_in_vain (trial party.link setting group.items state).tried); state = state })).state
      by true = trial_in party.link setting during group.items state items allowed sound holds
      by false = holds

  refuses_in : (heard_state : State) (heard : StandingParty) (message : Message) (said : List Said) → P heard_state → P (broken heard.link heard_state) → P (refuses heard_state heard message said).state
  refuses_in heard_state heard message said holds gone = by (associates message)
    where
      by : (b : Bool) → P (cond b (leaves heard_state heard said) (record { said = said; state = heard_state })).state
      by true = gone
      by false = holds

  pub answered_in : (state : State) (link : ℕ) (party : StandingParty) (setting : Setting) (during : During setting) (message : Message) → Allowed message → IsSound state → P state → party_of link state.parties ≡ Some party
      → P (answered state party setting message).state
  answered_in state link party setting during message allowed sound holds found = by (decision state party setting message) refl
    where
      own : IsSoundParty state.files party
      own = party_sound state link party sound found

      heard : P (with_parties state (with_party (with_trace party (message ∷ party.trace)) state.parties))
      heard = stays.hears state link party message allowed holds found

      -- the trace doesn't matter for what is left
      gone : P (broken party.link (with_parties state (with_party (with_trace party (message ∷ party.trace)) state.parties)))
      gone = subst P (sym (broken_same state link party (message ∷ party.trace) sound.linked found)) (stays.breaks party.link state sound holds)

      traces : AllByRecursion Allowed (message ∷ party.trace)
      traces = (allowed, stays.traces state link party holds found)

      by : (one : Decision) → decision state party setting message ≡ one
          → P (met (with_parties state (with_party (with_trace party (message ∷ party.trace)) state.parties)) (with_trace party (message ∷ party.trace)) setting message one).state
      by (Aborts number) is = gone
      by (Refuses diagnostic) is = refuses_in _ (with_trace party (message ∷ party.trace)) message _ heard gone
      by (Grants given) is =
          let taken = decided_taken state party setting message (Grants given) is (λ number e. cc) in
          let passed = passed_alone state party setting message given (pending party.trace) refl taken.0 taken.1 in
          granted_in state link party setting during message given (with_party (with_trace party (message ∷ party.trace)) state.parties) (message ∷ party.trace) sound holds found refl
          (traced party message own.grouped taken.0) allowed traces (granting state party setting message given sound own passed)
          (record { taken = passed.taken; decided = passed.decided; spared = λ is. passed.unaborted })
      by Waits is = heard
      by (Groups group) is =
          let taken = decided_taken state party setting message (Groups group) is (λ number e. cc) in
          groups_in (with_parties state (with_party (with_trace party (message ∷ party.trace)) state.parties)) (with_trace party (message ∷ party.trace)) setting during group
          (grouped_items state party setting message group (pending party.trace) own.grouped taken.1)
          (grouped_as (λ (group : Group). AllByRecursion (λ (item : Pdu). Allowed (messages.Pdu item)) group.items) state party setting message group (pending party.trace)
          (pending_allowed Allowed party.trace (stays.traces state link party holds found)) taken.1)
          (heard_sound state link party (message ∷ party.trace) sound found (traced party message own.grouped taken.0)) heard
      by Ends is = gone
      by Leaves is = gone

  taking_in : (state : State) (link : ℕ) (party : StandingParty) (setting : Setting) (during : During setting) (message : Message) (one : Option StandingParty) → Allowed message → IsSound state → P state → party_of link state.parties ≡ Some party
      → superseded_by state party message ≡ one → P (taking_over one state party setting message).state
  taking_in state link party setting during message None allowed sound holds found is = answered_in state link party setting during message allowed sound holds found
  taking_in state link party setting during message (Some other) allowed sound holds found is =
      answered_in (broken other.link state) link party setting during message allowed (broken_sound other.link state sound) (stays.breaks other.link state sound holds) (still_there state link party other message sound found is)

  pub transitions_in : (state : State) (link : ℕ) (setting : Setting) (during : During setting) (message : Message) → Allowed message → IsSound state → P state → P (transition state link setting message).state
  transitions_in state link setting during message allowed sound holds = by (party_of link state.parties) refl
    where
      by : (one : Option StandingParty) → party_of link state.parties ≡ one → P (transition_of state setting message one).state
      by None is = holds
      by (Some party) is = taking_in state link party setting during message (superseded_by state party message) allowed sound holds is refl

  pub faults_in : (state : State) (link number place : ℕ) → IsSound state → P state → P (fault state link number place).state
  faults_in state link number place sound holds = by (party_of link state.parties)
    where
      by : (one : Option StandingParty) → P (fault_of state number place one).state
      by None = holds
      by (Some party) = stays.breaks party.link state sound holds

-- ---- in every setting

abbrev IsAnyTime : Setting → Type 0
IsAnyTime setting = Unit {0}

module _ (Allowed : Message → Type 0) (P : State → Type 0) (stays : Stays Allowed P) where
  at_any : StaysIn IsAnyTime Allowed P
  at_any = record {
    breaks = stays.breaks;
    hears = stays.hears;
    traces = stays.traces;
    grants = λ state party setting message given trace before after during. stays.grants state party setting message given trace before after;
  }

  pub trial_stays : (link : ℕ) (setting : Setting) (items : List Pdu) (state : State) → AllByRecursion IsItem items → AllByRecursion (λ (item : Pdu). Allowed (messages.Pdu item)) items → IsSound state → P state → P (trial link setting items state).state
  trial_stays link setting items state are allowed sound holds = trial_in IsAnyTime Allowed P at_any link setting tt items state are allowed sound holds

  pub answered_stays : (state : State) (link : ℕ) (party : StandingParty) (setting : Setting) (message : Message) → Allowed message → IsSound state → P state → party_of link state.parties ≡ Some party
      → P (answered state party setting message).state
  answered_stays state link party setting message allowed sound holds found = answered_in IsAnyTime Allowed P at_any state link party setting tt message allowed sound holds found

  pub transitions_stay : (state : State) (link : ℕ) (setting : Setting) (message : Message) → Allowed message → IsSound state → P state → P (transition state link setting message).state
  transitions_stay state link setting message allowed sound holds = transitions_in IsAnyTime Allowed P at_any state link setting tt message allowed sound holds

  pub faults_stay : (state : State) (link number place : ℕ) → IsSound state → P state → P (fault state link number place).state
  faults_stay state link number place sound holds = faults_in IsAnyTime Allowed P at_any state link number place sound holds

-- A group as one message (ISO 8571-3, grouping; profile): at its end the items are tried in order, each as if the good
-- ones before it had been performed. Where as many as the threshold are good, these are performed, else none is.
use Rattle.std.specs.Prelude.{ℕ, Bool, List, [], ◌∷◌, ◌++◌, flat_map, count_by, Option, None, Some, is_none, if◌then◌else◌, nat_le}
use Rattle.vf_base.specs.declared.diagnostic.Diagnostic.{Diagnostic}
use Rattle.vf_elements.specs.declared.message.Message.TheVariants as messages
use Rattle.vf_elements.specs.declared.message.Said.{Said}
use Rattle.vf_pdu.specs.declared.pdu.Pdu.{Pdu}
use Rattle.vf_pdu.specs.declared.pdu.Pdu.TheVariants.{BeginGroupResponse, EndGroupResponse}
use Rattle.vf_filestore.specs.Aborts.{Setting}
use Rattle.vf_filestore.specs.Conclusion.{Answered, grants}
use Rattle.vf_filestore.specs.Decision.{Decision, Refuses, Grants, trial_decision}
use Rattle.vf_filestore.specs.Diagnostics.{plain, below_threshold, wrong_regime}
use Rattle.vf_filestore.specs.Replies.{refusal_of_request, reply}
use Rattle.vf_filestore.specs.Stage.{Group}
use Rattle.vf_filestore.specs.State.{State, StandingParty, party_of}

-- an item that was tried: why it is refused, if it is, and what is said to it
pub record Tried : Type 0 where
  pub item : Pdu
  pub refused : Option Diagnostic
  pub said : List Said

pub record Trial : Type 0 where
  pub tried : List Tried
  pub state : State

abbrev pub after_item : Tried → Trial → Trial
after_item one trial = record trial { tried = one ∷ trial.tried }

abbrev pub good : Pdu → Answered → (State → Trial) → Trial
good item answered later = after_item (record { item = item; refused = None; said = answered.said }) (later answered.state)

abbrev pub bad : Pdu → Diagnostic → State → (State → Trial) → Trial
bad item diagnostic state later =
    after_item (record { item = item; refused = Some diagnostic; said = refusal_of_request diagnostic item }) (later state)

-- Items are granted or refused; nothing else comes of one.
abbrev pub trial_step : (State → Trial) → Setting → Pdu → State → StandingParty → Decision → Trial
trial_step later setting item state party (Grants given) = good item (grants state party setting (messages.Pdu item) given) later
trial_step later setting item state party (Refuses diagnostic) = bad item diagnostic state later
trial_step later setting item state party _ = bad item (plain wrong_regime) state later

abbrev pub trial_by : (State → Trial) → Setting → Pdu → State → Option StandingParty → Trial
trial_by later setting item state None = later state
trial_by later setting item state (Some party) =
    trial_step later setting item state party (trial_decision state party setting item)

abbrev pub trial : (link : ℕ) → Setting → List Pdu → State → Trial
trial link setting [] state = record { tried = []; state = state }
trial link setting (item ∷ items) state = trial_by (trial link setting items) setting item state (party_of link state.parties)

abbrev pub is_good : Tried → Bool
is_good one = is_none one.refused

abbrev pub said_of : Tried → List Said
said_of one = one.said

-- what is said to an item of a group that isn't performed: that it could have been, or its own diagnostic
abbrev pub said_in_vain : Tried → List Said
said_in_vain one = if is_good one then refusal_of_request (plain below_threshold) one.item else one.said

abbrev pub between : List Said → List Said
between said = reply BeginGroupResponse ++ said ++ reply EndGroupResponse

abbrev pub group_answer : State → (threshold : ℕ) → Trial → Answered
group_answer state threshold trial =
    if nat_le threshold (count_by is_good trial.tried)
    then record { said = between (flat_map said_of trial.tried); state = trial.state }
    else record { said = between (flat_map said_in_vain trial.tried); state = state }

abbrev pub groups : State → StandingParty → Setting → Group → Answered
groups state party setting group = group_answer state group.threshold (trial party.link setting group.items state)

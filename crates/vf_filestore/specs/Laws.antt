-- What holds of every run of the filestore (profile).
use Rattle.std.specs.Prelude.{◌≡◌, ℕ, true, List, [], ◌∷◌, map, None}
use Rattle.std.specs.List.{IsDistinct}
use Rattle.std.specs.Str.{bytes_eq}
use Rattle.vf_attr.specs.declared.file.File.{File}
use Rattle.vf_elements.specs.declared.message.Message.{Message}
use Rattle.vf_elements.specs.declared.message.Message.TheVariants as messages
use Rattle.vf_pdu.specs.declared.pdu.Pdu.TheVariants.{EndGroupRequest}
use Rattle.vf_tables.specs.Changes.{after_all}
use Rattle.vf_tables.specs.Fitting.{all_fit}
use Rattle.vf_tables.specs.Snapshot.{is_kept}
use Rattle.vf_tables.specs.declared.change.Change.{Change}
use Rattle.vf_tables.specs.declared.tables.Tables.{Tables}
use Rattle.vf_tables.specs.declared.user.User.{User}
use Rattle.vf_filestore.specs.Aborts.{Setting}
use Rattle.vf_filestore.specs.Changes.{all_stand, delta, is_same_open}
use Rattle.vf_filestore.specs.Dockets.{broken, dropped, stopped}
use Rattle.vf_filestore.specs.Records.{changes_by}
use Rattle.vf_filestore.specs.Runs.{Event, Arrives, after_event, beginning, run}
use Rattle.vf_filestore.specs.Sound.{AreLimited, Begins, IsSound, name_of}
use Rattle.vf_filestore.specs.State.{State, party_of}
use Rattle.vf_filestore.specs.Tables.{tables_of}
use Rattle.vf_filestore.specs.Transition.{fault, transition}

-- a filestore whose files have names of their own and are within their limits
abbrev pub BeginsSound : Type 0
BeginsSound = (users : List User) (files : List File) → IsDistinct bytes_eq (map name_of files) → AreLimited files → IsSound (beginning users files)

-- whatever message comes on whatever link
abbrev pub TransitionsAreSound : Type 0
TransitionsAreSound = (state : State) (link : ℕ) (setting : Setting) (message : Message) → IsSound state → IsSound (transition state link setting message).state

abbrev pub FaultsAreSound : Type 0
FaultsAreSound = (state : State) (link number place : ℕ) → IsSound state → IsSound (fault state link number place).state

abbrev pub BreaksAreSound : Type 0
BreaksAreSound = (state : State) (link : ℕ) → IsSound state → IsSound (broken link state)

abbrev pub StopsAreSound : Type 0
StopsAreSound = (state : State) → IsSound state → IsSound (stopped state)

abbrev pub DropsAreSound : Type 0
DropsAreSound = (state : State) (identity : List ℕ) (activity : ℕ) → IsSound state → IsSound (dropped identity activity state)

-- a link that arrives is none that stands
abbrev pub IsNew : Event → State → Type 0
IsNew (Arrives link) state = party_of link state.parties ≡ None
IsNew _ state = Unit {0}

abbrev pub AreNew : List Event → State → Type 0
AreNew [] state = Unit {0}
AreNew (event ∷ events) state = IsNew event state × AreNew events (after_event state event).state

abbrev pub RunsAreSound : Type 0
RunsAreSound = (events : List Event) (state : State) → AreNew events state → IsSound state → IsSound (run events state).state

-- WHAT IS KEPT. A stop and a break change none of it.
abbrev pub StopsKeep : Type 0
StopsKeep = (state : State) → tables_of (stopped state) ≡ tables_of state

abbrev pub BreaksKeep : Type 0
BreaksKeep = (state : State) (link : ℕ) → IsSound state → tables_of (broken link state) ≡ tables_of state

-- where nothing that is kept changes there is no change
abbrev pub MakesNoChange : Type 0
MakesNoChange = (tables : Tables) → IsDistinct is_same_open tables.dockets → delta tables tables ≡ []

-- what a stop leaves is a state that an incarnation begins with
abbrev pub StopsBegin : Type 0
StopsBegin = (state : State) → IsSound state → Begins (tables_of state) (stopped state)

-- WHAT CHANGES LEAD TO. What each change names stands in the tables before it, and all of them lead to these tables.
pub record Lead (before : Tables) (changes : List Change) (after : Tables) : Type 0 where
  pub stand : all_stand before changes ≡ true
  pub lead : after_all before changes ≡ after

-- the changes by any message, of a group or alone, lead to what is kept after it
abbrev pub MessagesLead : Type 0
MessagesLead =
    (state : State) (link : ℕ) (setting : Setting) (message : Message) → IsSound state
    → Lead (tables_of state) (changes_by state link setting message) (tables_of (transition state link setting message).state)

-- and where it is the end of no group, they are the difference of what was kept and what is
abbrev pub DifferencesLead : Type 0
DifferencesLead =
    (state : State) (link : ℕ) (setting : Setting) (message : Message) → IsSound state → (message ≡ messages.Pdu EndGroupRequest → ⊥)
    → Lead (tables_of state) (delta (tables_of state) (tables_of (transition state link setting message).state)) (tables_of (transition state link setting message).state)

-- octets that are no message change nothing that is kept
abbrev pub FaultsKeep : Type 0
FaultsKeep = (state : State) (link number place : ℕ) → IsSound state → tables_of (fault state link number place).state ≡ tables_of state

-- the changes by which a docket is dropped
abbrev pub DropsLead : Type 0
DropsLead =
    (state : State) (identity : List ℕ) (activity : ℕ) → IsSound state
    → Lead (tables_of state) (delta (tables_of state) (tables_of (dropped identity activity state))) (tables_of (dropped identity activity state))

-- THEY FIT, where a store may keep the tables before and those after.
abbrev pub DifferencesFit : Type 0
DifferencesFit =
    (before after : Tables) → is_kept before ≡ true → is_kept after ≡ true → all_stand before (delta before after) ≡ true
    → all_fit before (delta before after) ≡ true

-- so those by a message do, but for the end of a group
abbrev pub MessagesFit : Type 0
MessagesFit =
    (state : State) (link : ℕ) (setting : Setting) (message : Message) → IsSound state → (message ≡ messages.Pdu EndGroupRequest → ⊥)
    → is_kept (tables_of state) ≡ true → is_kept (tables_of (transition state link setting message).state) ≡ true
    → all_fit (tables_of state) (delta (tables_of state) (tables_of (transition state link setting message).state)) ≡ true

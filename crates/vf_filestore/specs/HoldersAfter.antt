-- How the holders of each file change with each thing that happens (ISO 8571-2, concurrency control; profile), in the
-- words of what is done to the holders of one file: one is granted controls, goes, or is passed to another.
use Rattle.std.specs.Prelude.{◌≡◌, ℕ, Bool, true, false, List, [], Option, None, Some, IsSome, if◌then◌else◌}
use Rattle.std.specs.Str.{bytes_eq}
use Rattle.vf_base.specs.declared.action.Controls.{Controls}
use Rattle.vf_elements.specs.declared.message.Message.{Message}
use Rattle.vf_elements.specs.declared.message.Message.TheVariants as messages
use Rattle.vf_locks.specs.Clash.{conflict}
use Rattle.vf_locks.specs.Holders.{controls_of, granted, others, passed}
use Rattle.vf_locks.specs.Table as tables
use Rattle.vf_locks.specs.Table.{held}
use Rattle.vf_locks.specs.declared.held.Held.{Held}
use Rattle.vf_locks.specs.declared.holder.Holder.{Holder}
use Rattle.vf_locks.specs.declared.holder.Holder.TheVariants.{Party, Docket}
use Rattle.vf_pdu.specs.declared.pdu.Pdu.{Pdu}
use Rattle.vf_pdu.specs.declared.pdu.Pdu.TheVariants.{SelectRequest, CreateRequest, DeselectRequest, DeleteRequest, ChangeAttribRequest, OpenRequest, CloseRequest, RecoverRequest}
use Rattle.vf_pdu_fields.specs.declared.controls.ContentControls.{ContentControls}
use Rattle.vf_filestore.specs.Aborts.{Setting}
use Rattle.vf_filestore.specs.Conclusion.{concluded, concluding_entry}
use Rattle.vf_filestore.specs.Controls.{attribute_controls, content_controls, joined, not_opened}
use Rattle.vf_filestore.specs.Decision.{Grants, decision, trial_decision}
use Rattle.vf_filestore.specs.Dockets.{broken, dropped}
use Rattle.vf_filestore.specs.History.{Given, Regime, Selection, regime, selection}
use Rattle.vf_filestore.specs.Holders.{controls_by, holders}
use Rattle.vf_filestore.specs.Runs.{arrives}
use Rattle.vf_filestore.specs.Sound.{IsSound}
use Rattle.vf_filestore.specs.State as states
use Rattle.vf_filestore.specs.State.{State, StandingParty, activity_of, docket_of, identity_of, name_in, party_of, with_party}
use Rattle.vf_filestore.specs.Transition.{with_message}

-- a table has of each file the holders that it has in the state
abbrev pub Keeps : List (List ℕ × List Held) → State → Type 0
Keeps table state = (file : List ℕ) → held file table ≡ holders state file

-- the file has these holders, and each other file has those that it had
abbrev pub IsWith : (file : List ℕ) → List Held → (before after : State) → Type 0
IsWith file helds before after = (other : List ℕ) → holders after other ≡ (if bytes_eq file other then helds else holders before other)

-- each file has the holders that it had
abbrev pub IsAsBefore : (before after : State) → Type 0
IsAsBefore before after = (file : List ℕ) → holders after file ≡ holders before file

-- the party of the link has these controls on the file
abbrev pub IsGranted : (link : ℕ) (file : List ℕ) → Controls → (before after : State) → Type 0
IsGranted link file controls before after = IsWith file (granted (Party link) controls (holders before file)) before after

-- the party of the link no longer stands on the file
abbrev pub IsReleased : (link : ℕ) (file : List ℕ) → (before after : State) → Type 0
IsReleased link file before after = IsWith file (others (Party link) (holders before file)) before after

-- one holder stands on the file in the place of the other, and didn't before
pub record IsPassed (file : List ℕ) (from to : Holder) (before after : State) : Type 0 where
  pub stands : IsSome (controls_of from (holders before file))
  pub free : controls_of to (holders before file) ≡ None
  pub is : IsWith file (passed from to (holders before file)) before after

-- the party alone holds the file, and nobody holds one of the new name; under this it has its controls
pub record IsMoved (link : ℕ) (old new : List ℕ) (controls : Controls) (before after : State) : Type 0 where
  pub alone : others (Party link) (holders before old) ≡ []
  pub free : holders before new ≡ []
  pub is : (file : List ℕ)
      → holders after file ≡ (if bytes_eq new file then granted (Party link) controls [] else (if bytes_eq old file then [] else holders before file))

-- REQUESTS. What is selected is opened with these controls of its contents, or closed.
abbrev pub IsOpened : (link : ℕ) → ContentControls → Option Selection → (before after : State) → Type 0
IsOpened link contents None before after = IsAsBefore before after
IsOpened link contents (Some selection) before after =
    IsGranted link selection.file (joined contents selection.controls) before after

abbrev pub IsDeselected : (link : ℕ) → Option Selection → (before after : State) → Type 0
IsDeselected link None before after = IsAsBefore before after
IsDeselected link (Some selection) before after = IsReleased link selection.file before after

abbrev pub IsMovedUnless : (same : Bool) (link : ℕ) (old new : List ℕ) → Controls → (before after : State) → Type 0
IsMovedUnless true link old new controls before after = IsAsBefore before after
IsMovedUnless false link old new controls before after = IsMoved link old new controls before after

abbrev pub IsRenamed : (link : ℕ) → Option (List ℕ) → Option Regime → Option Selection → (before after : State) → Type 0
IsRenamed link None opened selection before after = IsAsBefore before after
IsRenamed link (Some name) opened None before after = IsAsBefore before after
IsRenamed link (Some name) opened (Some selection) before after =
    IsMovedUnless (bytes_eq name selection.file) link selection.file name (controls_by selection opened) before after

abbrev pub IsTakenUp : (link : ℕ) (identity : List ℕ) (activity : ℕ) → Option states.Docket → (before after : State) → Type 0
IsTakenUp link identity activity None before after = IsAsBefore before after
IsTakenUp link identity activity (Some docket) before after =
    IsPassed (name_in docket.history) (Docket identity activity) (Party link) before after

-- a request of the party that is granted
abbrev pub IsHeldAfterRequest : (before : State) → StandingParty → Pdu → (after : State) → Type 0
IsHeldAfterRequest before party (SelectRequest name requested controls password) after =
    IsGranted party.link name (joined not_opened (attribute_controls requested controls)) before after
IsHeldAfterRequest before party (CreateRequest over name contents permitted terms requested controls password) after =
    IsGranted party.link name (joined not_opened (attribute_controls requested controls)) before after
IsHeldAfterRequest before party DeselectRequest after = IsDeselected party.link (selection party.history) before after
IsHeldAfterRequest before party DeleteRequest after = IsDeselected party.link (selection party.history) before after
IsHeldAfterRequest before party (ChangeAttribRequest name permitted terms number) after =
    IsRenamed party.link name (regime party.history) (selection party.history) before after
IsHeldAfterRequest before party (OpenRequest mode contents controls activity) after =
    IsOpened party.link (content_controls (record { value = mode }) controls) (selection party.history) before after
IsHeldAfterRequest before party CloseRequest after =
    IsOpened party.link not_opened (selection party.history) before after
IsHeldAfterRequest before party (RecoverRequest activity number point) after =
    IsTakenUp party.link (identity_of party) activity (docket_of (identity_of party) activity before.dockets) before after
IsHeldAfterRequest before party _ after = IsAsBefore before after

-- a message of the party that is granted
abbrev pub IsHeldAfter : (before : State) → StandingParty → Message → (after : State) → Type 0
IsHeldAfter before party (messages.Pdu request) after = IsHeldAfterRequest before party request after
IsHeldAfter before party _ after = IsAsBefore before after

-- ENDS. The docket of a recoverable open stands in the place of its party.
abbrev pub IsLeft : (link : ℕ) (identity : List ℕ) → (activity : Option ℕ) → Option Selection → (before after : State) → Type 0
IsLeft link identity activity None before after = IsAsBefore before after
IsLeft link identity None (Some selection) before after = IsReleased link selection.file before after
IsLeft link identity (Some activity) (Some selection) before after =
    IsPassed selection.file (Party link) (Docket identity activity) before after

abbrev pub IsDropped : (identity : List ℕ) (activity : ℕ) → Option states.Docket → (before after : State) → Type 0
IsDropped identity activity None before after = IsAsBefore before after
IsDropped identity activity (Some docket) before after =
    IsWith (name_in docket.history) (others (Docket identity activity) (holders before (name_in docket.history))) before after

-- LAWS. The message joins the trace of the party first.
abbrev pub hearing : State → StandingParty → Message → State
hearing state party message = record state { parties = with_party (with_message message party) state.parties }

abbrev pub concluded_by : State → StandingParty → Setting → Message → Given → State
concluded_by state party setting message given =
    concluded state party (concluding_entry state party setting message given)

-- what a message leaves that is granted
abbrev pub MessagesHold : Type 0
MessagesHold =
    (state : State) (party : StandingParty) (setting : Setting) (message : Message) (given : Given) → IsSound state
    → party_of party.link state.parties ≡ Some party → decision state party setting message ≡ Grants given
    → IsHeldAfter state party message (concluded_by (hearing state party message) (with_message message party) setting message given)

-- and an item of a group
abbrev pub ItemsHold : Type 0
ItemsHold =
    (state : State) (party : StandingParty) (setting : Setting) (item : Pdu) (given : Given) → IsSound state
    → party_of party.link state.parties ≡ Some party → trial_decision state party setting item ≡ Grants given
    → IsHeldAfterRequest state party item (concluded_by state party setting (messages.Pdu item) given)

-- a message that only joins the trace, and a party that arrives, change nothing
abbrev pub TracesHold : Type 0
TracesHold =
    (state : State) (party : StandingParty) (message : Message) → party_of party.link state.parties ≡ Some party
    → IsAsBefore state (hearing state party message)

abbrev pub ArrivalsHold : Type 0
ArrivalsHold = (state : State) (link : ℕ) → IsAsBefore state (arrives link state)

abbrev pub BreaksHold : Type 0
BreaksHold =
    (state : State) (party : StandingParty) → IsSound state → party_of party.link state.parties ≡ Some party
    → IsLeft party.link (identity_of party) (activity_of party) (selection party.history) state (broken party.link state)

abbrev pub DropsHold : Type 0
DropsHold =
    (state : State) (identity : List ℕ) (activity : ℕ) → IsSound state
    → IsDropped identity activity (docket_of identity activity state.dockets) state (dropped identity activity state)

-- a party with a selection holds its file, with the controls of the selection and of the open in it
abbrev pub PartiesHold : Type 0
PartiesHold =
    (state : State) (party : StandingParty) (one : Selection) → IsSound state → party_of party.link state.parties ≡ Some party
    → selection party.history ≡ Some one → controls_of (Party party.link) (holders state one.file) ≡ Some (controls_by one (regime party.history))

-- and once the open is closed no other holder stands against those that are left
abbrev pub ClosesHold : Type 0
ClosesHold =
    (state : State) (party : StandingParty) (one : Selection) → IsSound state → party_of party.link state.parties ≡ Some party
    → selection party.history ≡ Some one → conflict (Party party.link) (joined not_opened one.controls) (holders state one.file) ≡ None

-- CALLS. A call that does to one file of a table what becomes of it in the state leaves what the state has.
abbrev pub CallsFollow : Type 0
CallsFollow =
    (table later : List (List ℕ × List Held)) (before after : State) (file : List ℕ) (change : List Held → List Held) → Keeps table before
    → tables.IsWith file (change (held file table)) table later → IsWith file (change (holders before file)) before after → Keeps later after

-- so do the two of a new name: the party is granted its controls on it, and then released of the old one
abbrev pub MovesFollow : Type 0
MovesFollow =
    (table mid later : List (List ℕ × List Held)) (before after : State) (link : ℕ) (old new : List ℕ) (controls : Controls)
    → bytes_eq new old ≡ false → Keeps table before → tables.IsWith new (granted (Party link) controls (held new table)) table mid
    → tables.IsWith old (others (Party link) (held old mid)) mid later → IsMoved link old new controls before after → Keeps later after

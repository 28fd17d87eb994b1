-- What holds of every state that a run reaches (profile): each message was taken by the stage in which it came, what is
-- selected is there, what a read was shown is what its file shows, files are within their limits, open regimes are told
-- apart by their numbers, and the controls of all who hold a file agree, and let each do what it has opened it for.
use Rattle.std.specs.Prelude.{◌≡◌, ℕ, ◌<◌, ◌≤◌, Bool, true, false, ◌&&◌, List, [], ◌∷◌, ◌++◌, count_by, flat_map, length, map, option_map, Option, None, Some, IfSome, IsSome, Ok, is_some, nat_eq}
use Rattle.std.specs.List.{AllByRecursion, IsDistinct, list_any, zip}
use Rattle.std.specs.Str.{bytes_eq}
use Rattle.vf_attr.specs.declared.file.File.{File}
use Rattle.vf_attr.specs.Access.{has}
use Rattle.vf_base.specs.declared.access.Context.{Context}
use Rattle.vf_base.specs.declared.access.FaduId.{FaduId}
use Rattle.vf_base.specs.declared.action.Action.TheVariants as actions
use Rattle.vf_base.specs.declared.action.Actions.{Actions}
use Rattle.vf_base.specs.declared.action.Control.{Control}
use Rattle.vf_base.specs.declared.action.Controls.{Controls}
use Rattle.vf_base.specs.declared.element.Element.{Element}
use Rattle.vf_elements.specs.Stages.{takes}
use Rattle.vf_elements.specs.declared.message.Message.{Message}
use Rattle.vf_elements.specs.declared.message.Message.TheVariants as messages
use Rattle.vf_elements.specs.declared.stage.Stage.{Stage}
use Rattle.vf_elements.specs.declared.stage.Stage.TheVariants as stages
use Rattle.vf_doctype.specs.DocumentTypes.{constraint_of, doc_type}
use Rattle.vf_doctype.specs.declared.doc_type.DocType.{DocType}
use Rattle.vf_locks.specs.Clash.{clash}
use Rattle.vf_pdu.specs.declared.pdu.Pdu.{Pdu}
use Rattle.vf_pdu.specs.declared.pdu.Pdu.TheVariants.{InitializeRequest, RecoverRequest}
use Rattle.vf_tables.specs.Sums.{octets_of_files}
use Rattle.vf_tables.specs.Validity.{includes}
use Rattle.vf_tables.specs.declared.limits.TheConstants.{MOST_FILES, MOST_FILESTORE_OCTETS}
use Rattle.vf_transfer.specs.Transfer.{NamesKnownChecks}
use Rattle.vf_tree.specs.Contexts.{shown}
use Rattle.vf_tree.specs.FileTree.{IsFile}
use Rattle.vf_tables.specs.declared.tables.Tables.{Tables}
use Rattle.vf_filestore.specs.Controls.{attributes_usable, contents_usable}
use Rattle.vf_filestore.specs.Files.{file_named}
use Rattle.vf_filestore.specs.History.{Association, Given, Nothing, Showed, History, Regime, Selection, association, guest, regime, selection}
use Rattle.vf_filestore.specs.Holders.{controls_by}
use Rattle.vf_filestore.specs.Limits.{most_dockets, most_version}
use Rattle.vf_filestore.specs.Opening.{action_of}
use Rattle.vf_filestore.specs.Stage.{Group, pending, stage_by}
use Rattle.vf_filestore.specs.State.{Docket, State, StandingParty, activity_in, identity_of, mode_in}
use Rattle.vf_filestore.specs.Tables.{tables_of}
use Rattle.vf_filestore.specs.Transfers.{Movement, Reads, Writes, Transfer, data_end, happened, under_way, was_shown}

-- HISTORIES. Whose association it is doesn't matter for the stage within one.
abbrev pub someone : Association
someone = record { identity = guest; units = 0; window = 1 }

-- the stage of a history within an association
abbrev pub stage_within : History → Stage
stage_within history =
    stage_by (Some someone) (selection history) (regime history) (under_way history) (is_some (data_end history)) (was_shown history)

-- A message was concluded where its stage takes it. An association begins before there is a selection, and a recovery
-- stands after what its docket retained.
abbrev pub IsPlacedRequest : History → Pdu → Type 0
IsPlacedRequest earlier (InitializeRequest units identity password window) = selection earlier ≡ None
IsPlacedRequest earlier (RecoverRequest activity number point) = Unit {0}
IsPlacedRequest earlier request = takes (stage_within earlier) (messages.Pdu request) ≡ true

abbrev pub IsPlaced : History → Message → Type 0
IsPlaced earlier (messages.Pdu request) = IsPlacedRequest earlier request
IsPlaced earlier message = takes (stage_within earlier) message ≡ true

abbrev pub IsNested : History → Type 0
IsNested [] = Unit {0}
IsNested (entry ∷ earlier) = IsPlaced earlier entry.message × IsNested earlier

-- What a read was shown: the file's version isn't below that of then, and where it is that one, the file shows from
-- where the read began what it showed then.
pub record IsShown (file : File) (fadu : FaduId) (context : Context) (version : ℕ) (elements : List Element) (position : ℕ) : Type 0 where
  pub rising : version ≤ file.version
  pub same : file.version ≡ version → (from : ℕ) × (shown file.tree from fadu context ≡ Ok (elements, position))

abbrev pub IsShownIn : Option File → FaduId → Context → Given → Type 0
IsShownIn (Some file) fadu context (Showed version elements position) = IsShown file fadu context version elements position
IsShownIn _ fadu context given = Unit {0}

abbrev pub IsFaithful : Option File → Movement → Given → Type 0
IsFaithful file (Reads fadu context) given = IsShownIn file fadu context given
IsFaithful file (Writes operation fadu) given = Unit {0}

-- a transfer under way: acknowledgements and restarts are of checks that stood, and what was shown is what is there
pub record IsMoving (file : Option File) (history : History) (transfer : Transfer) : Type 0 where
  pub named : NamesKnownChecks 0 (happened history)
  pub faithful : IsFaithful file transfer.movement transfer.given

abbrev pub IsThere : List File → Selection → Type 0
IsThere files selection = IsSome (file_named selection.file files)

abbrev pub file_of : List File → Option Selection → Option File
file_of files None = None
file_of files (Some selection) = file_named selection.file files

pub record IsSoundIn (files : List File) (history : History) : Type 0 where
  pub nested : IsNested history
  pub there : IfSome (selection history) (IsThere files)
  pub moving : IfSome (under_way history) (IsMoving (file_of files (selection history)) history)

-- PARTIES. A pending group has items that a group may have.
abbrev pub IsItem : Pdu → Type 0
IsItem item = takes stages.Grouping (messages.Pdu item) ≡ true

abbrev pub HasItems : Group → Type 0
HasItems group = AllByRecursion IsItem group.items

pub record IsSoundParty (files : List File) (party : StandingParty) : Type 0 where
  pub sound : IsSoundIn files party.history
  pub grouped : IfSome (pending party.trace) HasItems

-- DOCKETS. A docket retains no association; its open has its activity.
pub record IsSoundDocket (files : List File) (docket : Docket) : Type 0 where
  pub bare : association docket.history ≡ None
  pub selected : IsSome (selection docket.history)
  pub opened : activity_in (regime docket.history) ≡ Some docket.activity
  pub sound : IsSoundIn files docket.history

-- OPEN REGIMES, of parties and of dockets: whose, with its activity where it is recoverable, and the number of its open.
pub record Standing : Type 0 where
  pub identity : List ℕ
  pub activity : Option ℕ
  pub number : ℕ

abbrev pub standing_by : (identity : List ℕ) → Option Regime → List Standing
standing_by identity None = []
standing_by identity (Some regime) = record { identity = identity; activity = regime.activity; number = regime.number } ∷ []

abbrev pub standing_of_party : StandingParty → List Standing
standing_of_party party = standing_by (identity_of party) (regime party.history)

abbrev pub standing_of_docket : Docket → List Standing
standing_of_docket docket = standing_by docket.identity (regime docket.history)

abbrev pub standing_regimes : State → List Standing
standing_regimes state = flat_map standing_of_docket state.dockets ++ flat_map standing_of_party state.parties

abbrev pub is_same_number : Standing → Standing → Bool
is_same_number one other = nat_eq one.number other.number

abbrev pub is_same_activity : Option ℕ → Option ℕ → Bool
is_same_activity (Some one) (Some other) = nat_eq one other
is_same_activity (Some one) None = false
is_same_activity None other = false

-- one identity has one recoverable open of an activity
abbrev pub is_same_open : Standing → Standing → Bool
is_same_open one other = bytes_eq one.identity other.identity && is_same_activity one.activity other.activity

abbrev pub is_recoverable : Standing → Bool
is_recoverable one = is_some one.activity

abbrev pub IsBefore : (next : ℕ) → Standing → Type 0
IsBefore next one = one.number < next

-- CONTROLS. What is held of a selected file: its name now, and the controls of the selection and of the open in it.
pub record Use : Type 0 where
  pub file : List ℕ
  pub controls : Controls

abbrev pub use_by : Option Regime → Option Selection → List Use
use_by regime None = []
use_by regime (Some selection) = record { file = selection.file; controls = controls_by selection regime } ∷ []

abbrev pub use_in : History → List Use
use_in history = use_by (regime history) (selection history)

abbrev pub use_of_party : StandingParty → List Use
use_of_party party = use_in party.history

abbrev pub use_of_docket : Docket → List Use
use_of_docket docket = use_in docket.history

abbrev pub uses : State → List Use
uses state = flat_map use_of_docket state.dockets ++ flat_map use_of_party state.parties

-- one bars what the other may do
abbrev pub are_clashing : Controls → Controls → Bool
are_clashing one other = list_any (λ (pair : Control × Control). clash pair.0 pair.1) (zip one.each other.each)

-- two uses of one file that can't stand together
abbrev pub do_clash : Use → Use → Bool
do_clash one other = bytes_eq one.file other.file && are_clashing one.controls other.controls

-- WHAT MAY BE DONE by the controls of a selection, of the open in it and of a transfer.
pub record Holding : Type 0 where
  pub selection : Selection
  pub opened : Option Regime
  pub moving : Option Transfer

abbrev pub holding_by : Option Regime → Option Transfer → Option Selection → List Holding
holding_by opened moving None = []
holding_by opened moving (Some selection) = record { selection = selection; opened = opened; moving = moving } ∷ []

abbrev pub holding_in : History → List Holding
holding_in history = holding_by (regime history) (under_way history) (selection history)

abbrev pub holding_of_party : StandingParty → List Holding
holding_of_party party = holding_in party.history

abbrev pub holding_of_docket : Docket → List Holding
holding_of_docket docket = holding_in docket.history

abbrev pub holdings : State → List Holding
holdings state = flat_map holding_of_docket state.dockets ++ flat_map holding_of_party state.parties

-- the mode is one of what was requested, and its controls let it be done
pub record IsUsableOpen (selection : Selection) (regime : Regime) : Type 0 where
  pub within : includes selection.requested.value regime.mode.value ≡ true
  pub usable : contents_usable regime.mode regime.controls ≡ true

-- a transfer that isn't refused is of the mode
abbrev pub IsInMode : Actions → Movement → Given → Type 0
IsInMode mode (Reads fadu context) (Showed version elements position) = has mode actions.Read ≡ true
IsInMode mode (Writes operation fadu) Nothing = has mode (action_of operation) ≡ true
IsInMode mode movement given = Unit {0}

abbrev pub IsOfMode : Option Regime → Transfer → Type 0
IsOfMode opened transfer = IsInMode (mode_in opened) transfer.movement transfer.given

pub record IsUsable (holding : Holding) : Type 0 where
  pub attributes : attributes_usable holding.selection.requested holding.selection.controls ≡ true
  pub opened : IfSome holding.opened (IsUsableOpen holding.selection)
  pub moving : IfSome holding.moving (IsOfMode holding.opened)

-- FILES. A file is of its document type and within its limits, and so is its version.
pub record IsLimited (file : File) : Type 0 where
  pub typed : option_map (λ (doc : DocType). constraint_of doc.kind) (doc_type file.contents) ≡ Some file.tree.constraint
  pub shaped : IsFile file.tree
  pub counted : file.version ≤ most_version

pub record AreLimited (files : List File) : Type 0 where
  pub each : AllByRecursion IsLimited files
  pub counted : length files ≤ MOST_FILES
  pub roomy : octets_of_files files ≤ MOST_FILESTORE_OCTETS

-- STATES
abbrev pub link_of : StandingParty → ℕ
link_of party = party.link

abbrev pub name_of : File → List ℕ
name_of file = file.name

-- open regimes have numbers of their own, below the next one, and there are few that are recoverable
pub record AreNumbered (next : ℕ) (regimes : List Standing) : Type 0 where
  pub before : AllByRecursion (IsBefore next) regimes
  pub apart : IsDistinct is_same_number regimes
  pub differing : IsDistinct is_same_open regimes
  pub few : count_by is_recoverable regimes ≤ most_dockets

pub record IsSound (state : State) : Type 0 where
  pub linked : IsDistinct nat_eq (map link_of state.parties)
  pub filed : IsDistinct bytes_eq (map name_of state.files)
  pub limited : AreLimited state.files
  pub numbered : AreNumbered state.concluded (standing_regimes state)
  pub agreed : IsDistinct do_clash (uses state)
  pub usable : AllByRecursion IsUsable (holdings state)
  pub parties : AllByRecursion (IsSoundParty state.files) state.parties
  pub dockets : AllByRecursion (IsSoundDocket state.files) state.dockets

-- An incarnation of the responder begins with what was kept, whatever histories its dockets have, and no party.
pub record Begins (tables : Tables) (state : State) : Type 0 where
  pub kept : tables_of state ≡ tables
  pub alone : state.parties ≡ []
  pub sound : IsSound state

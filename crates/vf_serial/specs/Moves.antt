-- What the messages of a run do to files and to the regimes in which they are open (ISO 8571-2; profile), in order. A
-- recovered regime is the one that it was, and has the number of its open.
use Rattle.std.specs.Prelude.{ℕ, Bool, ◌||◌, List, [], ◌∷◌, ◌++◌, flat_map, count_by, Option, None, Some, if◌then◌else◌, nat_le}
use Rattle.vf_attr.specs.declared.file.File.{File}
use Rattle.vf_base.specs.declared.action.Actions.{Actions}
use Rattle.vf_base.specs.declared.element.Element.{Element}
use Rattle.vf_doctype.specs.DocumentTypes.{doc_type}
use Rattle.vf_doctype.specs.Units.{units}
use Rattle.vf_doctype.specs.declared.doc_type.DocType.{DocType}
use Rattle.vf_elements.specs.declared.message.Message.{Message}
use Rattle.vf_elements.specs.declared.message.Message.TheVariants as messages
use Rattle.vf_elements.specs.declared.message.Said.{Said}
use Rattle.vf_filestore.specs.Files.{file_named}
use Rattle.vf_pdu.specs.declared.pdu.Pdu.{Pdu}
use Rattle.vf_pdu.specs.declared.pdu.Pdu.TheVariants.{CreateRequest, DeleteRequest, ChangeAttribRequest, OpenRequest, CloseRequest}
use Rattle.vf_tree.specs.Acts.{Locates, Reads, Erases}
use Rattle.vf_tree.specs.FileTree.{DataUnit, FileTree}
use Rattle.vf_filestore.specs.Aborts.{Setting}
use Rattle.vf_filestore.specs.Conclusion.{concluded, concluding_entry, grants, has_abort, taken_up}
use Rattle.vf_filestore.specs.Decision as decisions
use Rattle.vf_filestore.specs.Decision.{Decision, decision, trial_decision}
use Rattle.vf_filestore.specs.Diagnostics.{superseded}
use Rattle.vf_filestore.specs.Dockets.{dropped}
use Rattle.vf_filestore.specs.Ending.{units_or_none}
use Rattle.vf_filestore.specs.Groups.{is_good, trial}
use Rattle.vf_filestore.specs.History.{Entry, Given, Made, History, Regime, regime}
use Rattle.vf_filestore.specs.Opening.{act_of}
use Rattle.vf_filestore.specs.Performed as performances
use Rattle.vf_filestore.specs.Performed.{Performed, performed}
use Rattle.vf_filestore.specs.Runs.{Event, Arrives, Takes, Faults, Stops, after_event}
use Rattle.vf_filestore.specs.Stage.{Group}
use Rattle.vf_filestore.specs.State.{Docket, State, StandingParty, activity_of, docket_of, mode_in, name_in, party_of, with_party}
use Rattle.vf_filestore.specs.Transition.{aborts, associates, superseded_by, with_message}
use Rattle.vf_serial.specs.FileModel.{Operation}
use Rattle.vf_serial.specs.Isolating.{may_change, may_read}

-- A file goes by its name at the time, and a regime by its number.
pub data Move : Type 0 where
  Opened : (file : List ℕ) → Regime → Move
  Acted : (file : List ℕ) → (regime : ℕ) → Operation → Move
  Ceased : (file : List ℕ) → (regime : ℕ) → Move
  Created : (file : List ℕ) → (contents : FileTree) → Move
  Renamed : (old new : List ℕ) → Move
  Deleted : (file : List ℕ) → Move

-- OPERATIONS that an entry tells. Values are the units that the file's document type makes of them.
abbrev pub units_in : Option DocType → List Element → List DataUnit
units_in None values = []
units_in (Some doc) values = units_or_none (units doc values)

abbrev pub operation_in : Option DocType → performances.Operation → Operation
operation_in doc (performances.Located fadu) = record { act = Locates fadu; shown = [] }
operation_in doc (performances.Read fadu context shown) = record { act = Reads fadu context; shown = shown }
operation_in doc (performances.Wrote operation fadu values) = record { act = act_of operation fadu (units_in doc values); shown = [] }
operation_in doc (performances.Erased fadu) = record { act = Erases fadu; shown = [] }

-- A regime that neither reads nor changes the contents performs nothing on them, where it locates, too.
abbrev pub works : Actions → Bool
works mode = may_read mode || may_change mode

abbrev pub acted : Option DocType → Actions → Option Performed → List Move
acted doc mode None = []
acted doc mode (Some done) =
    if works mode then Acted done.file done.regime (operation_in doc done.operation) ∷ [] else []

abbrev pub doc_of : Option File → Option DocType
doc_of None = None
doc_of (Some file) = doc_type file.contents

-- ENTRIES, after this history, with which files there are before them and after
abbrev pub opened : (file : List ℕ) → Option Regime → List Move
opened file None = []
opened file (Some regime) = Opened file regime ∷ []

abbrev pub ceased : (file : List ℕ) → Option Regime → List Move
ceased file None = []
ceased file (Some regime) = Ceased file regime.number ∷ []

abbrev pub created : Given → (file : List ℕ) → Option File → List Move
created Made file (Some made) = Created file made.tree ∷ []
created _ file made = []

abbrev pub renamed : (old : List ℕ) → Option (List ℕ) → List Move
renamed old None = []
renamed old (Some new) = Renamed old new ∷ []

abbrev pub moves_by_request : (files later : List File) → History → Entry → Pdu → List Move
moves_by_request files later earlier entry (OpenRequest mode contents controls activity) =
    opened (name_in earlier) (regime (entry ∷ earlier))
moves_by_request files later earlier entry CloseRequest = ceased (name_in earlier) (regime earlier)
moves_by_request files later earlier entry (CreateRequest over name contents permitted terms requested controls password) =
    created entry.given name (file_named name later)
moves_by_request files later earlier entry (ChangeAttribRequest name permitted terms others) = renamed (name_in earlier) name
moves_by_request files later earlier entry DeleteRequest = Deleted (name_in earlier) ∷ []
moves_by_request files later earlier entry request =
    acted (doc_of (file_named (name_in earlier) files)) (mode_in (regime earlier)) (performed earlier entry)

abbrev pub moves_by_message : (files later : List File) → History → Entry → Message → List Move
moves_by_message files later earlier entry (messages.Pdu request) = moves_by_request files later earlier entry request
moves_by_message files later earlier entry message = []

abbrev pub moves_by : (files later : List File) → History → Entry → List Move
moves_by files later earlier entry = moves_by_message files later earlier entry entry.message

-- ENDS. A regime that leaves no docket ceases where its association ends.
abbrev pub lost : Option ℕ → (file : List ℕ) → Option Regime → List Move
lost None file regime = ceased file regime
lost (Some activity) file regime = []

abbrev pub lost_by : StandingParty → List Move
lost_by party = lost (activity_of party) (name_in party.history) (regime party.history)

abbrev pub broken_of : Option StandingParty → List Move
broken_of None = []
broken_of (Some party) = lost_by party

abbrev pub by_break : (link : ℕ) → State → List Move
by_break link state = broken_of (party_of link state.parties)

abbrev pub dropped_of : Option Docket → List Move
dropped_of None = []
dropped_of (Some docket) = ceased (name_in docket.history) (regime docket.history)

-- TRANSITIONS, by what a message comes to
abbrev pub by_abort : (link : ℕ) → List Said → State → List Move
by_abort link said state = if has_abort said then by_break link state else []

abbrev pub by_grant : State → StandingParty → Setting → Message → Given → List Move
by_grant state party setting message given =
    let entry = concluding_entry state party setting message given in
    let after = concluded state party entry in
    moves_by state.files after.files (taken_up state party message) entry ++ by_abort party.link entry.said after

abbrev pub by_item : (State → List Move) → Setting → Pdu → State → StandingParty → Decision → List Move
by_item later setting item state party (decisions.Grants given) =
    by_grant state party setting (messages.Pdu item) given ++ later (grants state party setting (messages.Pdu item) given).state
by_item later setting item state party _ = later state

abbrev pub by_item_of : (State → List Move) → Setting → Pdu → State → Option StandingParty → List Move
by_item_of later setting item state None = later state
by_item_of later setting item state (Some party) = by_item later setting item state party (trial_decision state party setting item)

abbrev pub by_items : (link : ℕ) → Setting → List Pdu → State → List Move
by_items link setting [] state = []
by_items link setting (item ∷ items) state =
    by_item_of (by_items link setting items) setting item state (party_of link state.parties)

-- a group below its threshold does nothing
abbrev pub by_group : State → (link : ℕ) → Setting → Group → List Move
by_group state link setting group =
    if nat_le group.threshold (count_by is_good (trial link setting group.items state).tried)
    then by_items link setting group.items state else []

abbrev pub by_decision : State → StandingParty → Setting → Message → Decision → List Move
by_decision state party setting message (decisions.Aborts number) = by_break party.link state
by_decision state party setting message (decisions.Refuses diagnostic) =
    if associates message then by_break party.link state else []
by_decision state party setting message (decisions.Grants given) = by_grant state party setting message given
by_decision state party setting message decisions.Waits = []
by_decision state party setting message (decisions.Groups group) = by_group state party.link setting group
by_decision state party setting message decisions.Ends = by_break party.link state
by_decision state party setting message decisions.Leaves = by_break party.link state

abbrev pub by_answer : State → StandingParty → Setting → Message → List Move
by_answer state party setting message =
    let heard = with_message message party in
    by_decision (record state { parties = with_party heard state.parties }) heard setting message (decision state party setting message)

-- an association that gives way to a recovery is broken first
abbrev pub by_taking_over : Option StandingParty → State → StandingParty → Setting → Message → List Move
by_taking_over None state party setting message = by_answer state party setting message
by_taking_over (Some other) state party setting message =
    by_break other.link state ++ by_answer (aborts state other superseded 0).state party setting message

abbrev pub by_transition_of : State → Setting → Message → Option StandingParty → List Move
by_transition_of state setting message None = []
by_transition_of state setting message (Some party) = by_taking_over (superseded_by state party message) state party setting message

-- RUNS, in which dockets may be dropped too
pub data Happening : Type 0 where
  Happens : Event → Happening
  Drops : (identity : List ℕ) (activity : ℕ) → Happening

abbrev pub after : State → Happening → State
after state (Happens event) = (after_event state event).state
after state (Drops identity activity) = dropped identity activity state

abbrev pub state_after : List Happening → State → State
state_after [] state = state
state_after (happening ∷ happenings) state = state_after happenings (after state happening)

abbrev pub by_event : State → Event → List Move
by_event state (Arrives link) = []
by_event state (Takes link setting message) = by_transition_of state setting message (party_of link state.parties)
by_event state (Faults link number place) = by_break link state
by_event state Stops = flat_map lost_by state.parties

abbrev pub by_happening : State → Happening → List Move
by_happening state (Happens event) = by_event state event
by_happening state (Drops identity activity) = dropped_of (docket_of identity activity state.dockets)

abbrev pub moves : List Happening → State → List Move
moves [] state = []
moves (happening ∷ happenings) state = by_happening state happening ++ moves happenings (after state happening)

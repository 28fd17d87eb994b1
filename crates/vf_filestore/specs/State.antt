-- The state of the abstract filestore (ISO 8571-2, virtual filestore; profile). It has no stage, no locks, no window
-- and no position: those are read off histories.
use Rattle.std.specs.Prelude.{ℕ, Bool, ◌&&◌, not, List, [], ◌∷◌, filter, find, Option, None, Some, if◌then◌else◌, nat_eq}
use Rattle.std.specs.Str.{bytes_eq}
use Rattle.vf_attr.specs.declared.file.File.{File}
use Rattle.vf_base.specs.declared.action.Actions.{Actions}
use Rattle.vf_elements.specs.declared.message.Message.{Message}
use Rattle.vf_tables.specs.declared.task.Task.{Task}
use Rattle.vf_tables.specs.declared.user.User.{User}
use Rattle.vf_filestore.specs.Files.{file_named}
use Rattle.vf_filestore.specs.History.{Association, History, Regime, Selection, association, guest, regime, selection}

-- a party that stands: its link, all messages that came on it, and those that were concluded, both the newest first
pub record StandingParty : Type 0 where
  pub link : ℕ
  pub trace : List Message
  pub history : History

-- what a recoverable open regime leaves that lost its association: whose it is, and what it retains of the history
pub record Docket : Type 0 where
  pub identity : List ℕ
  pub activity : ℕ
  pub history : History

-- Users, and the tasks of an initiator on this store, are those of the tables: no message changes them. Files, parties and
-- dockets stand in the order in which they came. The number of messages that were concluded so far numbers the next one;
-- no code keeps it.
pub record State : Type 0 where
  pub users : List User
  pub files : List File
  pub parties : List StandingParty
  pub dockets : List Docket
  pub tasks : List Task
  pub concluded : ℕ

abbrev pub arrived : ℕ → StandingParty
arrived link = record { link = link; trace = []; history = [] }

abbrev pub is_of_link : ℕ → StandingParty → Bool
is_of_link link party = nat_eq party.link link

abbrev pub party_of : ℕ → List StandingParty → Option StandingParty
party_of link parties = find (is_of_link link) parties

-- the parties with this one in the place of its link's
abbrev pub with_party : StandingParty → List StandingParty → List StandingParty
with_party next [] = []
with_party next (party ∷ parties) = if nat_eq party.link next.link then next ∷ parties else party ∷ with_party next parties

abbrev pub without_party : ℕ → List StandingParty → List StandingParty
without_party link parties = filter (λ party. not (is_of_link link party)) parties

abbrev pub is_docket_of : (identity : List ℕ) (activity : ℕ) → Docket → Bool
is_docket_of identity activity docket = bytes_eq docket.identity identity && nat_eq docket.activity activity

abbrev pub docket_of : (identity : List ℕ) (activity : ℕ) → List Docket → Option Docket
docket_of identity activity dockets = find (is_docket_of identity activity) dockets

abbrev pub without_docket : (identity : List ℕ) (activity : ℕ) → List Docket → List Docket
without_docket identity activity dockets = filter (λ docket. not (is_docket_of identity activity docket)) dockets

-- What is read off a party where a regime stands; the rest of each line is where none does.
abbrev pub identity_in : Option Association → List ℕ
identity_in None = guest
identity_in (Some association) = association.identity

abbrev pub identity_of : StandingParty → List ℕ
identity_of party = identity_in (association party.history)

abbrev pub units_in : Option Association → ℕ
units_in None = 0
units_in (Some association) = association.units

abbrev pub units_of : StandingParty → ℕ
units_of party = units_in (association party.history)

abbrev pub window_in : Option Association → ℕ
window_in None = 1
window_in (Some association) = association.window

abbrev pub file_in : Option Selection → List ℕ
file_in None = []
file_in (Some selection) = selection.file

-- the selected file's name, and the file
abbrev pub name_in : History → List ℕ
name_in history = file_in (selection history)

abbrev pub selected_file : State → History → Option File
selected_file state history = file_named (name_in history) state.files

abbrev pub requested_in : Option Selection → Actions
requested_in None = record { value = 0 }
requested_in (Some selection) = selection.requested

abbrev pub mode_in : Option Regime → Actions
mode_in None = record { value = 0 }
mode_in (Some regime) = regime.mode

abbrev pub activity_in : Option Regime → Option ℕ
activity_in None = None
activity_in (Some regime) = regime.activity

-- the activity of a recoverable open
abbrev pub activity_of : StandingParty → Option ℕ
activity_of party = activity_in (regime party.history)

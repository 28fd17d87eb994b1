-- The use of one file in a run (profile): from its creation on, or from where the run begins, under whatever name.
use Rattle.std.specs.Prelude.{ℕ, Bool, true, not, ◌&&◌, ◌||◌, List, [], ◌∷◌, ◌++◌, flat_map, map, Option, None, Some, if◌then◌else◌, nat_eq}
use Rattle.std.specs.List.{list_all}
use Rattle.std.specs.Str.{bytes_eq}
use Rattle.vf_attr.specs.declared.file.File.{File}
use Rattle.vf_filestore.specs.History.{History, Regime, Selection, position, regime, selection}
use Rattle.vf_filestore.specs.State.{Docket, State, StandingParty}
use Rattle.vf_serial.specs.FileModel.{Operation, World}
use Rattle.vf_serial.specs.Isolating.{isolates}
use Rattle.vf_serial.specs.Moves.{Move, Opened, Acted, Ceased, Created, Renamed, Deleted, Happening, moves}
use Rattle.vf_serial.specs.Schedule.{Place, Performs, Ceases}

-- its schedule among the moves, from where it has this name on
abbrev pub schedule : (file : List ℕ) → List Move → List (Place Operation)
schedule file [] = []
schedule file (Opened other regime ∷ later) = schedule file later
schedule file (Acted other regime operation ∷ later) =
    if bytes_eq other file then Performs regime operation ∷ schedule file later else schedule file later
schedule file (Ceased other regime ∷ later) =
    if bytes_eq other file then Ceases regime ∷ schedule file later else schedule file later
schedule file (Created other contents ∷ later) = schedule file later
schedule file (Renamed old new ∷ later) = if bytes_eq old file then schedule new later else schedule file later
schedule file (Deleted other ∷ later) = if bytes_eq other file then [] else schedule file later

-- whether all regimes isolate that open it
abbrev pub all_isolate : (file : List ℕ) → List Move → Bool
all_isolate file [] = true
all_isolate file (Opened other regime ∷ later) = (not (bytes_eq other file) || isolates regime) && all_isolate file later
all_isolate file (Acted other regime operation ∷ later) = all_isolate file later
all_isolate file (Ceased other regime ∷ later) = all_isolate file later
all_isolate file (Created other contents ∷ later) = all_isolate file later
all_isolate file (Renamed old new ∷ later) = if bytes_eq old file then all_isolate new later else all_isolate file later
all_isolate file (Deleted other ∷ later) = if bytes_eq other file then true else all_isolate file later

-- the name that it has at the end, unless it is deleted
abbrev pub last_name : (file : List ℕ) → List Move → Option (List ℕ)
last_name file [] = Some file
last_name file (Opened other regime ∷ later) = last_name file later
last_name file (Acted other regime operation ∷ later) = last_name file later
last_name file (Ceased other regime ∷ later) = last_name file later
last_name file (Created other contents ∷ later) = last_name file later
last_name file (Renamed old new ∷ later) = if bytes_eq old file then last_name new later else last_name file later
last_name file (Deleted other ∷ later) = if bytes_eq other file then None else last_name file later

-- WHERE A RUN BEGINS: the regimes that stand, of parties and of dockets, with their files and positions
pub record Standing : Type 0 where
  pub file : List ℕ
  pub regime : Regime
  pub position : ℕ

abbrev pub standing_by : (position : ℕ) → Option Selection → Option Regime → List Standing
standing_by position (Some selection) (Some regime) =
    record { file = selection.file; regime = regime; position = position } ∷ []
standing_by position selection regime = []

abbrev pub standing_in : History → List Standing
standing_in history = standing_by (position history) (selection history) (regime history)

abbrev pub standing_of_party : StandingParty → List Standing
standing_of_party party = standing_in party.history

abbrev pub standing_of_docket : Docket → List Standing
standing_of_docket docket = standing_in docket.history

abbrev pub standing : State → List Standing
standing state = flat_map standing_of_docket state.dockets ++ flat_map standing_of_party state.parties

abbrev pub position_among : List Standing → (regime : ℕ) → ℕ
position_among [] regime = 0
position_among (one ∷ others) regime = if nat_eq one.regime.number regime then one.position else position_among others regime

abbrev pub isolate_on : (file : List ℕ) → List Standing → Bool
isolate_on file all = list_all (λ (one : Standing). not (bytes_eq one.file file) || isolates one.regime) all

-- A USE: the name at its begin, the contents and the positions, whether all regimes isolate that stand, and the moves
-- from there on. A file that is created is in no regime yet.
pub record Use : Type 0 where
  pub file : List ℕ
  pub world : World
  pub isolated : Bool
  pub moves : List Move

abbrev pub nowhere : (regime : ℕ) → ℕ
nowhere regime = 0

abbrev pub made : List Move → List Use
made [] = []
made (Created file contents ∷ later) =
    record { file = file; world = record { tree = contents; position = nowhere }; isolated = true; moves = later } ∷ made later
made (Opened file regime ∷ later) = made later
made (Acted file regime operation ∷ later) = made later
made (Ceased file regime ∷ later) = made later
made (Renamed old new ∷ later) = made later
made (Deleted file ∷ later) = made later

abbrev pub begun : List Standing → List Move → File → Use
begun all later file = record {
  file = file.name;
  world = record { tree = file.tree; position = position_among all };
  isolated = isolate_on file.name all;
  moves = later;
}

-- each file of a run: those that are there at its begin, and those that are created
abbrev pub uses : List Happening → State → List Use
uses happenings state =
    let all = moves happenings state in map (begun (standing state) all) state.files ++ made all

-- all its open regimes isolate
abbrev pub is_isolated : Use → Bool
is_isolated use_of = use_of.isolated && all_isolate use_of.file use_of.moves

abbrev pub schedule_of : Use → List (Place Operation)
schedule_of use_of = schedule use_of.file use_of.moves

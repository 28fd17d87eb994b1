-- What a store keeps of a state (profile): the users, the files, an entry for each docket and each recoverable open
-- that stands, and the tasks. A break and a stop change none of it.
use Rattle.std.specs.Prelude.{ℕ, ◌+◌, false, List, [], ◌∷◌, ◌++◌, flat_map, take, fold, Option, None, Some, if◌then◌else◌, nat_le}
use Rattle.vf_base.specs.declared.access.FaduId.{FaduId}
use Rattle.vf_base.specs.declared.access.FaduId.TheVariants.{Begin}
use Rattle.vf_base.specs.declared.element.Element.{Element}
use Rattle.vf_pdu_fields.specs.declared.operation.WriteOperation.{WriteOperation}
use Rattle.vf_pdu_fields.specs.declared.operation.WriteOperation.TheVariants as writes
use Rattle.vf_tables.specs.declared.docket.Direction.{Direction}
use Rattle.vf_tables.specs.declared.docket.Direction.TheVariants.{Idle, Read, Write}
use Rattle.vf_tables.specs.declared.docket.Docket.{Docket}
use Rattle.vf_tables.specs.declared.docket.Operation.{Operation}
use Rattle.vf_tables.specs.declared.docket.Operation.TheVariants.{Insert, Replace, Extend}
use Rattle.vf_tables.specs.declared.docket.Regime as tables
use Rattle.vf_tables.specs.declared.tables.Tables.{Tables}
use Rattle.vf_transfer.specs.Transfer.{standing}
use Rattle.vf_filestore.specs.Dockets.{docket_left_by}
use Rattle.vf_filestore.specs.History.{Given, Refused, History, Regime, Selection, done, last, position, regime, selection}
use Rattle.vf_filestore.specs.Holders.{controls_by}
use Rattle.vf_filestore.specs.Recovering.{version_in}
use Rattle.vf_filestore.specs.State as states
use Rattle.vf_filestore.specs.State.{State, mode_in}
use Rattle.vf_filestore.specs.Transfers.{Movement, Reads, Writes, Transfer, happened, point, under_way}

-- THE TRANSFER OF AN OPEN REGIME. Where none is under way, and for what the one under way has no value of, a field is 0.
abbrev pub operation_of : WriteOperation → Operation
operation_of writes.Insert = Insert
operation_of writes.Replace = Replace
operation_of writes.Extend = Extend

abbrev pub direction_by : Movement → Direction
direction_by (Reads fadu context) = Read context
direction_by (Writes operation fadu) = Write (operation_of operation)

abbrev pub direction_of : Option Transfer → Direction
direction_of None = Idle
direction_of (Some transfer) = direction_by transfer.movement

abbrev pub fadu_by : Movement → FaduId
fadu_by (Reads fadu context) = fadu
fadu_by (Writes operation fadu) = fadu

abbrev pub fadu_of : Option Transfer → FaduId
fadu_of None = Begin
fadu_of (Some transfer) = fadu_by transfer.movement

-- the number of the diagnostic that refuses a transfer, else 0
abbrev pub refused_in : Given → ℕ
refused_in (Refused version number) = number
refused_in _ = 0

abbrev pub refused_of : Option Transfer → ℕ
refused_of None = 0
refused_of (Some transfer) = refused_in transfer.given

-- the last acknowledged check
abbrev pub point_of : History → Option Transfer → ℕ
point_of history None = 0
point_of history (Some transfer) = point history

-- the file's version at the request of a read
abbrev pub version_by : Movement → Given → ℕ
version_by (Reads fadu context) given = version_in given
version_by (Writes operation fadu) given = 0

abbrev pub version_of : Option Transfer → ℕ
version_of None = 0
version_of (Some transfer) = version_by transfer.movement transfer.given

-- of a write the values before its first acknowledged check, and between each two of them
abbrev pub pieces_of : History → List (List Element)
pieces_of history = take (point history) (standing 0 (happened history)).closed

abbrev pub staged_by : History → Movement → List (List Element)
staged_by history (Reads fadu context) = []
staged_by history (Writes operation fadu) = pieces_of history

abbrev pub staged_of : History → Option Transfer → List (List Element)
staged_of history None = []
staged_of history (Some transfer) = staged_by history transfer.movement

-- THE ROW OF AN OPEN REGIME
abbrev pub regime_by : states.Docket → Option Regime → Selection → Option Transfer → tables.Regime
regime_by docket regime selection moving = record {
  identity = docket.identity;
  activity = docket.activity;
  file = selection.file;
  requested = selection.requested;
  controls = controls_by selection regime;
  mode = mode_in regime;
  password = selection.password;
  position = position docket.history;
  number = done docket.history + 1;
  last = last docket.history;
  window = 0;
  direction = direction_of moving;
  fadu = fadu_of moving;
  refused = refused_of moving;
  point = point_of docket.history moving;
  ended = false;
  version = version_of moving;
}

abbrev pub row_in : states.Docket → Option Regime → Option Transfer → Option Selection → List Docket
row_in docket regime moving None = []
row_in docket regime moving (Some selection) =
    record { regime = regime_by docket regime selection moving; staged = staged_of docket.history moving } ∷ []

abbrev pub row_of : states.Docket → List Docket
row_of docket = row_in docket (regime docket.history) (under_way docket.history) (selection docket.history)

abbrev pub number_in : Option Regime → ℕ
number_in None = 0
number_in (Some regime) = regime.number

-- the number of its open
abbrev pub number_of_open : states.Docket → ℕ
number_of_open docket = number_in (regime docket.history)

abbrev pub in_order : states.Docket → List states.Docket → List states.Docket
in_order docket [] = docket ∷ []
in_order docket (other ∷ later) =
    if nat_le (number_of_open other) (number_of_open docket) then other ∷ in_order docket later else docket ∷ other ∷ later

-- ALL TABLES. The dockets, and those that parties would leave, stand in the order of their opens.
abbrev pub all_dockets : State → List states.Docket
all_dockets state =
    fold (λ ordered docket. in_order docket ordered) [] (state.dockets ++ flat_map docket_left_by state.parties)

abbrev pub tables_of : State → Tables
tables_of state = record {
  users = state.users;
  files = state.files;
  dockets = flat_map row_of (all_dockets state);
  tasks = state.tasks;
}

-- What `dockets` prints of a store (profile): a line for each docket in the order of their opens, those of the regimes that
-- stand among them, then one for each task.
use Rattle.std.specs.Prelude.{ℕ, List, [], ◌∷◌, ◌++◌, Option, None, Some, codes, decimal}
use Rattle.std.specs.List.{flat_map}
use Rattle.vf_journal.specs.Image.{Refusal, records_of, refusal}
use Rattle.vf_store.specs.Represented.{read_from}
use Rattle.vf_tables.specs.Entries.{no_tables}
use Rattle.vf_tables.specs.declared.docket.Direction.{Direction}
use Rattle.vf_tables.specs.declared.docket.Direction.TheVariants.{Idle, Read, Write}
use Rattle.vf_tables.specs.declared.docket.Docket.{Docket}
use Rattle.vf_tables.specs.declared.tables.Tables.{Tables}
use Rattle.vf_tables.specs.declared.task.Task.{Task}
use Rattle.vf_tables.specs.declared.task.Way.{Way}
use Rattle.vf_tables.specs.declared.task.Way.TheVariants.{Get, Put}
use Rattle.vf_cli_printing.specs.Printed.{Printed, Prints, line_feed}
use Rattle.vf_store_commands.specs.ErrorLines.{no_store_line}
use Rattle.vf_store_commands.specs.Listing.{numbers_between}
use Rattle.vf_store_commands.specs.UserLines.{tab}

abbrev pub direction_word : Direction → List ℕ
direction_word Idle = codes "idle"
direction_word (Read context) = codes "read"
direction_word (Write operation) = codes "write"

abbrev pub way_word : Way → List ℕ
way_word Get = codes "get"
way_word Put = codes "put"

-- a number between tabs
abbrev pub number_between : ℕ → List ℕ
number_between number = tab ∷ (decimal number ++ tab ∷ [])

-- the word `docket`, the identity and the activity, which transfer is under way, the number of that transfer or of the next
-- one, the last checkpoint that is acknowledged, and the file, with tabs between
abbrev pub docket_line : Docket → List ℕ
docket_line docket =
    codes "docket" ++ (tab ∷ (docket.regime.identity ++ (number_between docket.regime.activity ++ (direction_word docket.regime.direction
    ++ (numbers_between docket.regime.number docket.regime.point ++ (docket.regime.file ++ line_feed ∷ []))))))

-- the word `task`, the activity, whether it sends or fetches, the number of the transfer, the last checkpoint that is
-- acknowledged, and the file, with tabs between
abbrev pub task_line : Task → List ℕ
task_line task =
    codes "task" ++ (number_between task.plan.activity ++ (way_word task.plan.way
    ++ (numbers_between task.plan.number task.plan.point ++ (task.plan.file ++ line_feed ∷ []))))

abbrev pub docket_lines : Tables → List ℕ
docket_lines tables = flat_map docket_line tables.dockets ++ flat_map task_line tables.tasks

-- what is printed of a disk that is no store, or of one of which these are the lines
abbrev pub printed_of : Option Refusal → List ℕ → Printed
printed_of (Some refused) lines = record { octets = no_store_line refused.place; status = 8 }
printed_of None lines = record { octets = lines; status = 0 }

-- what is printed of an image
abbrev pub printed_by_dockets : List ℕ → Printed
printed_by_dockets image = printed_of (refusal image) (docket_lines (read_from (records_of image) no_tables))

abbrev pub PrintsDockets : List ℕ → ℕ → Option (List ℕ) → Option (List ℕ) → Type 0
PrintsDockets image status old new = Prints (4 ∷ 5 ∷ 9 ∷ []) (printed_by_dockets image) status old new

-- What a filestore keeps, as lists whose entries are found by a key: a user by its identity, a file by its name, a
-- docket by its initiator's identity and its activity, a task by its activity.
use Rattle.std.specs.Prelude.{ℕ, Bool, ◌&&◌, nat_eq, List, [], ◌∷◌, find, Option, if◌then◌else◌}
use Rattle.std.specs.Cmp.Lexicographic.{pointwise}
use Rattle.vf_attr.specs.declared.file.File.{File}
use Rattle.vf_tables.specs.declared.docket.Docket.{Docket}
use Rattle.vf_tables.specs.declared.tables.Tables.{Tables}
use Rattle.vf_tables.specs.declared.task.Task.{Task}
use Rattle.vf_tables.specs.declared.user.User.{User}

-- the tables of a filestore that is just made
abbrev pub no_tables : Tables
no_tables = record { users = []; files = []; dockets = []; tasks = [] }

abbrev pub is_user : List ℕ → User → Bool
is_user identity user = pointwise nat_eq identity user.identity

abbrev pub is_file : List ℕ → File → Bool
is_file name file = pointwise nat_eq name file.name

abbrev pub is_docket : List ℕ → ℕ → Docket → Bool
is_docket identity activity docket = pointwise nat_eq identity docket.regime.identity && nat_eq activity docket.regime.activity

abbrev pub is_task : ℕ → Task → Bool
is_task activity task = nat_eq activity task.plan.activity

abbrev pub user_of : List ℕ → Tables → Option User
user_of identity tables = find (is_user identity) tables.users

abbrev pub file_of : List ℕ → Tables → Option File
file_of name tables = find (is_file name) tables.files

abbrev pub docket_of : List ℕ → ℕ → Tables → Option Docket
docket_of identity activity tables = find (is_docket identity activity) tables.dockets

abbrev pub task_of : ℕ → Tables → Option Task
task_of activity tables = find (is_task activity) tables.tasks

-- an entry in the place of the one that is meant, or after all others
abbrev pub put : {A : Type 0} → (A → Bool) → A → List A → List A
put is_meant entry [] = entry ∷ []
put is_meant entry (other ∷ entries) = if is_meant other then entry ∷ entries else other ∷ put is_meant entry entries

-- with the entry that is meant changed, in its place
abbrev pub changed : {A : Type 0} → (A → Bool) → (A → A) → List A → List A
changed is_meant change [] = []
changed is_meant change (other ∷ entries) = if is_meant other then change other ∷ entries else other ∷ changed is_meant change entries

-- without the entry that is meant
abbrev pub dropped : {A : Type 0} → (A → Bool) → List A → List A
dropped is_meant [] = []
dropped is_meant (other ∷ entries) = if is_meant other then entries else other ∷ dropped is_meant entries

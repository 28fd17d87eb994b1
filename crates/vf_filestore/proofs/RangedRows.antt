-- The tables of a reached state have their fields in the ranges that they have in a record, so that a store may keep them.
use Rattle.std.proofs.Common.{◌≡◌, ℕ, ◌+◌, ◌≤◌, Bool, true, false, cond, ◌&&◌, List, [], ◌∷◌, ◌++◌, map, option_map, Option, None, Some, refl, ap, subst, ◌∙◌, arith}
use Rattle.std.specs.Prelude.{IfSome, flat_map, nat_le}
use Rattle.std.specs.List.{AllByRecursion, list_all}
use Rattle.std.specs.Option.{option_map_or}
use Rattle.std.proofs.lemmas.Bool.{and_parts, le-leb}
use Rattle.vf_attr.specs.declared.file.File.{File}
use Rattle.vf_base.specs.declared.access.Constraint.{Constraint}
use Rattle.vf_doctype.specs.DocumentTypes.{constraint_of, has_parameters, is_fixed, kind_of}
use Rattle.vf_doctype.specs.declared.doc_type.DocType.{DocType}
use Rattle.vf_doctype.specs.declared.doc_type.Kind.{Kind}
use Rattle.vf_pdu_fields.proofs.Plain.{some_is}
use Rattle.vf_tables.specs.Fitting.{are_short, are_units_of, is_activity, is_constraint, is_in_range, is_numbered, is_plan, is_regime, is_short, is_string_of}
use Rattle.vf_tables.specs.Snapshot.{snapshot, stages_of, task_stages_of}
use Rattle.vf_tables.specs.Validity.{is_valid}
use Rattle.vf_tables.specs.declared.change.Change.{Change}
use Rattle.vf_tables.specs.declared.change.Change.TheVariants.{PutDocket, PutFile, PutTask, PutUser}
use Rattle.vf_tables.specs.declared.docket.Docket as tables
use Rattle.vf_tables.specs.declared.limits.TheConstants.{MOST_TRANSFERS}
use Rattle.vf_tables.specs.declared.task.Task.{Task}
use Rattle.vf_tables.specs.declared.user.User.{User}
use Rattle.vf_transfer.specs.Transfer.{standing}
use Rattle.vf_filestore.specs.Dockets.{docket_left_by}
use Rattle.vf_filestore.specs.History.{History, Regime, Selection, done, regime, selection}
use Rattle.vf_filestore.specs.Keeping.{AreHistoriesKept, AreHistoriesOf, AreKept, EachAfter, IsKeptEntry, all_strings}
use Rattle.vf_filestore.specs.Ranges.{IsRangedFile, IsReadEntry, ReachedIsKept, is_of_class}
use Rattle.vf_filestore.specs.Sound.{IsLimited, IsSound, IsSoundDocket}
use Rattle.vf_filestore.specs.State.{Docket, State, activity_in}
use Rattle.vf_filestore.specs.Tables.{fadu_of, regime_by, row_in, row_of, staged_of, tables_of}
use Rattle.vf_filestore.specs.Transfers.{Movement, Reads, Writes, Transfer, happened, point, under_way}
use Rattle.vf_filestore.proofs.Broken.{stopped_sound}
use Rattle.vf_filestore.proofs.FilesKept.{constraint_same}
use Rattle.vf_filestore.proofs.Kept.{ordered}
use Rattle.vf_filestore.proofs.KeptMoves.{kept_lasts}
use Rattle.vf_filestore.proofs.KeptStates.{kept_valid}
use Rattle.vf_filestore.proofs.Lasting.{each_left_by_all}
use Rattle.vf_filestore.proofs.Leading.{all_joined, both}
use Rattle.vf_filestore.proofs.Lists.{all_append, all_both, flat_map-append}
use Rattle.vf_filestore.proofs.OrderedRows.{all_ordered}
use Rattle.vf_filestore.proofs.Ranged.{AreSayable, stages_fine}
use Rattle.vf_filestore.proofs.ReadHistories.{ArePiecesSayable, IsActive, IsOfFadu, IsShortSelection, all_active, all_of_fadus, all_sayable, all_short, all_taken, few_done, read_lasts}
use Rattle.vf_filestore.proofs.Written.{IsOfWrite, IsWrittenBy}

-- ---- files

-- the document type of a file's contents, by its kind
abbrev doc_of : File → Kind → DocType
doc_of file kind = record { kind = kind; class = file.contents.class; longest = file.contents.longest; is_fixed = is_fixed file.contents }

file_ranged : (file : File) → IsRangedFile file → IsLimited file → is_in_range (PutFile file) ≡ true
file_ranged file ranged limited =
    both (are_short file.terms) (option_map_or (λ (kind : Kind). are_units_of kind file) (kind_of file.contents.kind) false) ranged.terms
    (by (has_parameters file.contents) (kind_of file.contents.kind) ranged.strings limited.typed)
  where
    by : (b : Bool) (kind : Option Kind) → IfSome (cond b (option_map (doc_of file) kind) None) (λ (doc : DocType). all_strings (is_of_class doc) file.tree.units ≡ true)
        → option_map (λ (doc : DocType). constraint_of doc.kind) (cond b (option_map (doc_of file) kind) None) ≡ Some file.tree.constraint → option_map_or (λ (kind : Kind). are_units_of kind file) kind false ≡ true
    by true (Some kind) strings typed =
        let same : constraint_of kind ≡ file.tree.constraint = some_is (constraint_of kind) file.tree.constraint typed in
        let constraint : is_constraint (constraint_of kind) file.tree.constraint ≡ true = ap (λ (one : Constraint). is_constraint one file.tree.constraint) same ∙ constraint_same file.tree.constraint in
        both (is_constraint (constraint_of kind) file.tree.constraint) (all_strings (is_string_of kind file.contents.class) file.tree.units) constraint strings
    by true None strings typed = absurd cc
    by false kind strings typed = absurd cc

files_ranged : (files : List File) → AllByRecursion IsRangedFile files → AllByRecursion IsLimited files → list_all is_in_range (map (λ (file : File). PutFile file) files) ≡ true
files_ranged [] ranged limited = refl
files_ranged (file ∷ files) ranged limited =
    both (is_in_range (PutFile file)) (list_all is_in_range (map (λ (file : File). PutFile file) files)) (file_ranged file ranged.0 limited.0) (files_ranged files ranged.1 limited.1)

-- ---- rows of dockets

-- what is known of an open that is kept
record IsKnown (docket : Docket) (opened : Option Regime) (moving : Option Transfer) (one : Option Selection) : Type 0 where
  activity : activity_in opened ≡ Some docket.activity
  short : IfSome one IsShortSelection
  active : IfSome opened IsActive
  numbered : IfSome moving IsOfFadu
  few : done docket.history ≤ MOST_TRANSFERS
  sayable : IfSome moving (IsOfWrite ArePiecesSayable (happened docket.history))

-- the activity of the docket is that of its open
pub activity_ranged : (docket : Docket) (opened : Option Regime) → activity_in opened ≡ Some docket.activity → IfSome opened IsActive → is_activity docket.activity ≡ true
activity_ranged docket None is active = absurd cc
activity_ranged docket (Some opened) is active = subst (λ (one : Option ℕ). IfSome one (λ activity. is_activity activity ≡ true)) is active

fadu_ranged : (moving : Option Transfer) → IfSome moving IsOfFadu → is_numbered (fadu_of moving) ≡ true
fadu_ranged None numbered = refl
fadu_ranged (Some transfer) numbered = numbered

regime_ranged : (docket : Docket) (opened : Option Regime) (moving : Option Transfer) (one : Selection) → IsKnown docket opened moving (Some one) → is_regime (regime_by docket opened one moving) ≡ true
regime_ranged docket opened moving one known =
    let number = done docket.history + 1 in
    let activity = activity_ranged docket opened known.activity known.active in
    let within = both (nat_le 1 number) (nat_le number (MOST_TRANSFERS + 1)) (le-leb 1 number (omega arith)) (le-leb number (MOST_TRANSFERS + 1) (omega (arith, known.few))) in
    let numbered = fadu_ranged moving known.numbered in
    λ i. activity i && known.short i && within i && numbered i

pieces_sayable : (history : History) (moving : Option Transfer) → IfSome moving (IsOfWrite ArePiecesSayable (happened history)) → AllByRecursion AreSayable (staged_of history moving)
pieces_sayable history None said = tt
pieces_sayable history (Some transfer) said = by transfer.movement said
  where
    by : (movement : Movement) → IsWrittenBy ArePiecesSayable (happened history) movement → AllByRecursion AreSayable (staged_of history (Some (record { movement = movement; given = transfer.given })))
    by (Reads fadu context) said = tt
    by (Writes operation fadu) said = all_taken AreSayable (point history) (standing 0 (happened history)).closed said.closed

all_in_range : (changes : List Change) → AllByRecursion (λ (change : Change). is_in_range change ≡ true) changes → list_all is_in_range changes ≡ true
all_in_range [] all = refl
all_in_range (change ∷ changes) all = both (is_in_range change) (list_all is_in_range changes) all.0 (all_in_range changes all.1)

-- a row, and its pieces
record IsRowRanged (rows : List tables.Docket) : Type 0 where
  regimes : list_all is_in_range (map (λ (docket : tables.Docket). PutDocket docket.regime) rows) ≡ true
  pieces : list_all is_in_range (flat_map stages_of rows) ≡ true

row_ranged : (docket : Docket) (opened : Option Regime) (moving : Option Transfer) (one : Option Selection) → IsKnown docket opened moving one → IsRowRanged (row_in docket opened moving one)
row_ranged docket opened moving None known = record { regimes = refl; pieces = refl }
row_ranged docket opened moving (Some one) known =
    let row : tables.Docket = record { regime = regime_by docket opened one moving; staged = staged_of docket.history moving } in
    let regime = regime_ranged docket opened moving one known in
    let pieces = all_in_range (stages_of row)
    (stages_fine docket.identity docket.activity 0 (staged_of docket.history moving) (activity_ranged docket opened known.activity known.active) (pieces_sayable docket.history moving known.sayable)) in
    record { regimes = both (is_in_range (PutDocket row.regime)) true regime refl; pieces = all_joined is_in_range (stages_of row) [] pieces refl }

docket_ranged : (files : List File) (docket : Docket) → IsSoundDocket files docket → AreKept docket.history → EachAfter IsReadEntry docket.history → IsRowRanged (row_of docket)
docket_ranged files docket sound kept read =
    row_ranged docket (regime docket.history) (under_way docket.history) (selection docket.history) (record {
      activity = sound.opened;
      short = all_short docket.history read;
      active = all_active docket.history read;
      numbered = all_of_fadus docket.history read;
      few = few_done docket.history sound.sound.nested read;
      sayable = all_sayable docket.history read kept;
    })

map_append : {A B : Type 0} (f : A → B) (xs ys : List A) → map f (xs ++ ys) ≡ map f xs ++ map f ys
map_append f [] ys = refl
map_append {B = B} f (x ∷ xs) ys = ap (λ (rest : List B). f x ∷ rest) (map_append f xs ys)

rows_ranged : (dockets : List Docket) → AllByRecursion (λ (docket : Docket). IsRowRanged (row_of docket)) dockets → IsRowRanged (flat_map row_of dockets)
rows_ranged [] each = record { regimes = refl; pieces = refl }
rows_ranged (docket ∷ dockets) each =
    let rest = rows_ranged dockets each.1 in
    let put : tables.Docket → Change = λ (docket : tables.Docket). PutDocket docket.regime in
    record {
      regimes =
          ap (list_all is_in_range) (map_append put (row_of docket) (flat_map row_of dockets))
          ∙ all_joined is_in_range (map put (row_of docket)) (map put (flat_map row_of dockets)) each.0.regimes rest.regimes;
      pieces =
          ap (list_all is_in_range) (flat_map-append stages_of (row_of docket) (flat_map row_of dockets))
          ∙ all_joined is_in_range (flat_map stages_of (row_of docket)) (flat_map stages_of (flat_map row_of dockets)) each.0.pieces rest.pieces;
    }

dockets_ranged : (state : State) → IsSound state → AreHistoriesKept state → AreHistoriesOf IsReadEntry state → IsRowRanged (tables_of state).dockets
dockets_ranged state sound kept read =
    let after = stopped_sound state sound in
    let all = state.dockets ++ flat_map docket_left_by state.parties in
    let histories = all_append (λ (docket : Docket). AreKept docket.history) state.dockets (flat_map docket_left_by state.parties) kept.dockets (each_left_by_all IsKeptEntry kept_lasts state.files state.parties sound.parties kept.parties) in
    let entries = all_append (λ (docket : Docket). EachAfter IsReadEntry docket.history) state.dockets (flat_map docket_left_by state.parties) read.dockets (each_left_by_all IsReadEntry read_lasts state.files state.parties sound.parties read.parties) in
    let known = all_both (λ (docket : Docket). AreKept docket.history) (λ (docket : Docket). EachAfter IsReadEntry docket.history)
    (λ (docket : Docket). AreKept docket.history × EachAfter IsReadEntry docket.history) all (λ docket kept read. (kept, read)) histories entries in
    let each = all_both (IsSoundDocket state.files) (λ (docket : Docket). AreKept docket.history × EachAfter IsReadEntry docket.history) (λ (docket : Docket). IsRowRanged (row_of docket)) all
    (λ docket sound known. docket_ranged state.files docket sound known.0 known.1) after.dockets known in
    rows_ranged (ordered [] all) (all_ordered (λ (docket : Docket). IsRowRanged (row_of docket)) all each)

-- ---- users and tasks

users_ranged : (users : List User) → list_all (λ (user : User). is_short user.password) users ≡ true → list_all is_in_range (map (λ (user : User). PutUser user) users) ≡ true
users_ranged [] short = refl
users_ranged (user ∷ users) short =
    let parts = and_parts (is_short user.password) (list_all (λ (user : User). is_short user.password) users) short in
    both (is_short user.password) (list_all is_in_range (map (λ (user : User). PutUser user) users)) parts.0 (users_ranged users parts.1)

plans_ranged : (tasks : List Task) → list_all (λ (task : Task). is_plan task.plan) tasks ≡ true → list_all is_in_range (map (λ (task : Task). PutTask task.plan) tasks) ≡ true
plans_ranged [] plans = refl
plans_ranged (task ∷ tasks) plans =
    let parts = and_parts (is_plan task.plan) (list_all (λ (task : Task). is_plan task.plan) tasks) plans in
    both (is_plan task.plan) (list_all is_in_range (map (λ (task : Task). PutTask task.plan) tasks)) parts.0 (plans_ranged tasks parts.1)

task_pieces_ranged : (tasks : List Task) → list_all (λ (task : Task). list_all is_in_range (task_stages_of task)) tasks ≡ true → list_all is_in_range (flat_map task_stages_of tasks) ≡ true
task_pieces_ranged [] pieces = refl
task_pieces_ranged (task ∷ tasks) pieces =
    let parts = and_parts (list_all is_in_range (task_stages_of task)) (list_all (λ (task : Task). list_all is_in_range (task_stages_of task)) tasks) pieces in
    all_joined is_in_range (task_stages_of task) (flat_map task_stages_of tasks) parts.0 (task_pieces_ranged tasks parts.1)

-- ---- all tables

pub reached_kept : ReachedIsKept
reached_kept state reached =
    let all = tables_of state in
    let ranged = reached.ranged in
    let users = map (λ (user : User). PutUser user) all.users in
    let files = map (λ (file : File). PutFile file) all.files in
    let regimes = map (λ (docket : tables.Docket). PutDocket docket.regime) all.dockets in
    let pieces = flat_map stages_of all.dockets in
    let plans = map (λ (task : Task). PutTask task.plan) all.tasks in
    let task_pieces = flat_map task_stages_of all.tasks in
    let rows = dockets_ranged state reached.sound reached.kept.histories ranged.histories in
    let tasks_are = all_joined is_in_range plans task_pieces (plans_ranged state.tasks ranged.others.plans) (task_pieces_ranged state.tasks ranged.others.pieces) in
    let from_pieces = all_joined is_in_range pieces (plans ++ task_pieces) rows.pieces tasks_are in
    let from_regimes = all_joined is_in_range regimes (pieces ++ (plans ++ task_pieces)) rows.regimes from_pieces in
    let from_files = all_joined is_in_range files (regimes ++ (pieces ++ (plans ++ task_pieces))) (files_ranged state.files ranged.files reached.sound.limited.each) from_regimes in
    let from_users = all_joined is_in_range users (files ++ (regimes ++ (pieces ++ (plans ++ task_pieces)))) (users_ranged state.users ranged.others.users_short) from_files in
    both (is_valid all) (list_all is_in_range (snapshot all)) (kept_valid state reached.sound reached.kept) from_users

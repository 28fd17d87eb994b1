-- Between tables that a store may keep each change has its fields in their ranges, and so the changes fit.
use Rattle.std.proofs.Common.{◌≡◌, ℕ, zero, suc, ◌+◌, Bool, true, false, cond, List, [], ◌∷◌, ◌++◌, drop, length, map, Option, None, Some, is_some, refl}
use Rattle.std.specs.Prelude.{find, flat_map, nat_lt}
use Rattle.std.specs.List.{AllByRecursion, list_all}
use Rattle.std.specs.Option.{option_map_or}
use Rattle.std.proofs.lemmas.Bool.{and_parts}
use Rattle.vf_attr.specs.Attributes.{attributes_of}
use Rattle.vf_attr.specs.declared.file.File.{File}
use Rattle.vf_base.specs.declared.element.Element.{Element}
use Rattle.vf_doctype.specs.DocumentTypes.{kind_of}
use Rattle.vf_doctype.specs.declared.doc_type.Kind.{Kind}
use Rattle.vf_tables.specs.Changes.{after, staged_in}
use Rattle.vf_tables.specs.Fitting.{all_fit, are_short, are_units_of, fits, is_activity, is_in_range, is_numbered, is_regime, is_sayable, is_short, is_within, stands_in}
use Rattle.vf_tables.specs.Snapshot.{is_kept, snapshot, stages_after, stages_of, task_stages_of}
use Rattle.vf_tables.specs.Validity.{is_valid}
use Rattle.vf_tables.specs.declared.change.Change.{Change}
use Rattle.vf_tables.specs.declared.change.Change.TheVariants.{PutUser, PutFile, PutDocket, CutStage, DropDocket, DropFile, PutAttributes, PutTask}
use Rattle.vf_tables.specs.declared.docket.Docket.{Docket}
use Rattle.vf_tables.specs.declared.docket.Regime.{Regime}
use Rattle.vf_tables.specs.declared.limits.TheConstants.{MOST_TRANSFERS}
use Rattle.vf_tables.specs.declared.tables.Tables.{Tables}
use Rattle.vf_tables.specs.declared.task.Task.{Task}
use Rattle.vf_tables.specs.declared.user.User.{User}
use Rattle.vf_tree.specs.Same.{are_same_units}
use Rattle.vf_filestore.specs.Changes.{all_piece_changes, all_stand, change_of, common, delta, docket_changes, file_changes, is_same_file, is_same_open, is_same_regime, piece_changes}
use Rattle.vf_filestore.specs.Laws.{DifferencesFit, MessagesFit}
use Rattle.vf_filestore.specs.Tables.{tables_of}
use Rattle.vf_filestore.specs.Transition.{transition}
use Rattle.vf_filestore.proofs.Leading.{both}
use Rattle.vf_filestore.proofs.Lists.{all-from_flat_map, all_append, all_left, all_map, all_right, all_unmap}
use Rattle.vf_filestore.proofs.Recorded.{differences_lead}

abbrev pub IsFine : Change → Type 0
IsFine change = is_in_range change ≡ true

abbrev pub AreSayable : List Element → Type 0
AreSayable piece = list_all is_sayable piece ≡ true

abbrev pub IsFineFile : File → Type 0
IsFineFile file = is_in_range (PutFile file) ≡ true

abbrev pub IsFineDocket : Docket → Type 0
IsFineDocket docket = is_regime docket.regime ≡ true

all_of : {A : Type 0} (test : A → Bool) (xs : List A) → list_all test xs ≡ true → AllByRecursion (λ x. test x ≡ true) xs
all_of test [] is = tt
all_of test (x ∷ xs) is = let parts = and_parts (test x) (list_all test xs) is in (parts.0, all_of test xs parts.1)

-- ---- files

some_where : {A : Type 0} (test : A → Bool) (one : Option A) → option_map_or test one false ≡ true → is_some one ≡ true
some_where test None is = is
some_where test (Some x) is = refl

change_fine : (before after : File) → IsFineFile after → IsFine (change_of before after)
change_fine before after fine = by (are_same_units before.tree.units after.tree.units)
  where
    by : (same : Bool) → IsFine (cond same (PutAttributes before.name after.name (attributes_of after)) (PutFile after))
    by true =
        let parts = and_parts (are_short after.terms) (option_map_or (λ (kind : Kind). are_units_of kind after) (kind_of after.contents.kind) false) fine in
        both (are_short after.terms) (is_some (kind_of after.contents.kind)) parts.0 (some_where (λ (kind : Kind). are_units_of kind after) (kind_of after.contents.kind) parts.1)
    by false = fine

files_fine : (files later : List File) → AllByRecursion IsFineFile later → AllByRecursion IsFine (file_changes files later)
files_fine [] later fine = all_map PutFile IsFine later fine
files_fine (before ∷ files) [] fine = (refl, files_fine files [] tt)
files_fine (before ∷ files) (after ∷ later) fine =
    by (is_same_file before after) (nat_lt (length later) (length files)) (files_fine files later fine.1) (files_fine files (after ∷ later) fine)
  where
    by : (same fewer : Bool) → AllByRecursion IsFine (file_changes files later) → AllByRecursion IsFine (file_changes files (after ∷ later))
        → AllByRecursion IsFine (cond same (file_changes files later) (cond fewer (DropFile before.name ∷ file_changes files (after ∷ later)) (change_of before after ∷ file_changes files later)))
    by true _ on there = on
    by false true on there = (refl, there)
    by false false on there = (change_fine before after fine.0, on)

-- ---- dockets

active : (regime : Regime) → is_regime regime ≡ true → is_activity regime.activity ≡ true
active regime is =
    (and_parts (is_activity regime.activity) (is_short regime.password) (and_parts _ (is_within 1 (MOST_TRANSFERS + 1) regime.number) (and_parts _ (is_numbered regime.fadu) is).0).0).0

dockets_fine : (dockets later : List Docket) → AllByRecursion IsFineDocket dockets → AllByRecursion IsFineDocket later → AllByRecursion IsFine (docket_changes dockets later)
dockets_fine [] later fine fine_later = all_map (λ (docket : Docket). PutDocket docket.regime) IsFine later fine_later
dockets_fine (before ∷ dockets) [] fine fine_later = (active before.regime fine.0, dockets_fine dockets [] fine.1 tt)
dockets_fine (before ∷ dockets) (after ∷ later) fine fine_later =
    by (is_same_regime before.regime after.regime) (is_same_open before after) (dockets_fine dockets later fine.1 fine_later.1) (dockets_fine dockets (after ∷ later) fine.1 fine_later)
  where
    by : (same one : Bool) → AllByRecursion IsFine (docket_changes dockets later) → AllByRecursion IsFine (docket_changes dockets (after ∷ later))
        → AllByRecursion IsFine (cond same (docket_changes dockets later)
        (cond one (PutDocket after.regime ∷ docket_changes dockets later) (DropDocket before.regime.identity before.regime.activity ∷ docket_changes dockets (after ∷ later))))
    by true _ on there = on
    by false true on there = (fine_later.0, on)
    by false false on there = (active before.regime fine.0, there)

-- ---- pieces

all_dropped : (n : ℕ) (pieces : List (List Element)) → AllByRecursion AreSayable pieces → AllByRecursion AreSayable (drop n pieces)
all_dropped zero pieces all = all
all_dropped (suc n) [] all = tt
all_dropped (suc n) (piece ∷ pieces) all = all_dropped n pieces all.1

said : (identity : List ℕ) (activity pieces : ℕ) (staged : List (List Element)) → AllByRecursion IsFine (stages_after identity activity pieces staged) → AllByRecursion AreSayable staged
said identity activity pieces [] all = tt
said identity activity pieces (piece ∷ staged) all = ((and_parts (is_activity activity) (list_all is_sayable piece) all.0).1, said identity activity (pieces + 1) staged all.1)

pub stages_fine : (identity : List ℕ) (activity pieces : ℕ) (staged : List (List Element)) → is_activity activity ≡ true → AllByRecursion AreSayable staged
    → AllByRecursion IsFine (stages_after identity activity pieces staged)
stages_fine identity activity pieces [] is all = tt
stages_fine identity activity pieces (piece ∷ staged) is all = (both (is_activity activity) (list_all is_sayable piece) is all.0, stages_fine identity activity (pieces + 1) staged is all.1)

pieces_fine : (regime : Regime) (before after : List (List Element)) → is_regime regime ≡ true → AllByRecursion AreSayable after → AllByRecursion IsFine (piece_changes regime before after)
pieces_fine regime before after is all =
    let n = common before after in
    all_append IsFine (cond (nat_lt n (length before)) (CutStage regime.identity regime.activity n ∷ []) []) (stages_after regime.identity regime.activity n (drop n after))
    (cut (nat_lt n (length before)) n) (stages_fine regime.identity regime.activity n (drop n after) (active regime is) (all_dropped n after all))
  where
    cut : (fewer : Bool) (n : ℕ) → AllByRecursion IsFine (cond fewer (CutStage regime.identity regime.activity n ∷ []) [])
    cut true n = (active regime is, tt)
    cut false n = tt

all_pieces_fine : (dockets later : List Docket) → AllByRecursion IsFineDocket later → AllByRecursion (λ (docket : Docket). AllByRecursion IsFine (stages_of docket)) later
    → AllByRecursion IsFine (all_piece_changes dockets later)
all_pieces_fine dockets [] fine stages = tt
all_pieces_fine dockets (docket ∷ later) fine stages =
    let before = staged_in (find (is_same_open docket) dockets) in
    all_append IsFine (piece_changes docket.regime before docket.staged) (all_piece_changes dockets later)
    (pieces_fine docket.regime before docket.staged fine.0 (said docket.regime.identity docket.regime.activity 0 docket.staged stages.0)) (all_pieces_fine dockets later fine.1 stages.1)

-- ---- all of it

pub record AreFine (tables : Tables) : Type 0 where
  pub files : AllByRecursion IsFineFile tables.files
  pub dockets : AllByRecursion IsFineDocket tables.dockets
  pub stages : AllByRecursion (λ (docket : Docket). AllByRecursion IsFine (stages_of docket)) tables.dockets

pub kept_fine : (tables : Tables) → is_kept tables ≡ true → AreFine tables
kept_fine tables kept =
    let users = map (λ (user : User). PutUser user) tables.users in
    let files = map (λ (file : File). PutFile file) tables.files in
    let dockets = map (λ (docket : Docket). PutDocket docket.regime) tables.dockets in
    let stages = flat_map stages_of tables.dockets in
    let tasks = map (λ (task : Task). PutTask task.plan) tables.tasks ++ flat_map task_stages_of tables.tasks in
    let all = all_of is_in_range (snapshot tables) (and_parts (is_valid tables) (list_all is_in_range (snapshot tables)) kept).1 in
    let from_files = all_right IsFine users (files ++ (dockets ++ (stages ++ tasks))) all in
    let from_dockets = all_right IsFine files (dockets ++ (stages ++ tasks)) from_files in
    let from_stages = all_right IsFine dockets (stages ++ tasks) from_dockets in
    record {
      files = all_unmap (λ (file : File). PutFile file) IsFine tables.files (all_left IsFine files (dockets ++ (stages ++ tasks)) from_files);
      dockets = all_unmap (λ (docket : Docket). PutDocket docket.regime) IsFine tables.dockets (all_left IsFine dockets (stages ++ tasks) from_dockets);
      stages = all-from_flat_map stages_of IsFine tables.dockets (all_left IsFine stages tasks from_stages);
    }

pub delta_fine : (before after : Tables) → AreFine before → AreFine after → AllByRecursion IsFine (delta before after)
delta_fine before after fine fine_after =
    all_append IsFine (file_changes before.files after.files) (docket_changes before.dockets after.dockets ++ all_piece_changes before.dockets after.dockets) (files_fine before.files after.files fine_after.files)
    (all_append IsFine (docket_changes before.dockets after.dockets) (all_piece_changes before.dockets after.dockets) (dockets_fine before.dockets after.dockets fine.dockets fine_after.dockets)
    (all_pieces_fine before.dockets after.dockets fine_after.dockets fine_after.stages))

pub all_fitting : (tables : Tables) (changes : List Change) → AllByRecursion IsFine changes → all_stand tables changes ≡ true → all_fit tables changes ≡ true
all_fitting tables [] fine stand = refl
all_fitting tables (change ∷ changes) fine stand =
    let parts = and_parts (stands_in tables change) (all_stand (after tables change) changes) stand in
    both (fits tables change) (all_fit (after tables change) changes) (both (is_in_range change) (stands_in tables change) fine.0 parts.0) (all_fitting (after tables change) changes fine.1 parts.1)

pub differences_fit : DifferencesFit
differences_fit before after kept kept_after stand = all_fitting before (delta before after) (delta_fine before after (kept_fine before kept) (kept_fine after kept_after)) stand

pub messages_fit : MessagesFit
messages_fit state link setting message sound not_end kept kept_after =
    differences_fit (tables_of state) (tables_of (transition state link setting message).state) kept kept_after (differences_lead state link setting message sound not_end).stand

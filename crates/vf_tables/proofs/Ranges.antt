-- Tables that are kept lead to such ones, by changes that fit and leave valid tables.
use Rattle.std.proofs.Common.{◌≡◌, ℕ, zero, suc, ◌+◌, Bool, true, false, ◌&&◌, if◌then◌else◌, List, [], ◌∷◌, ◌++◌, take, Option, None, Some, refl, ◌∙◌}
use Rattle.std.specs.Prelude.{IfSome, find, is_none, length, map, nat_eq, nat_le, not}
use Rattle.std.specs.List.{flat_map, list_all}
use Rattle.std.specs.Option.{option_map, option_map_or}
use Rattle.std.proofs.lemmas.List.Folds.{list_all-append, list_all-map}
use Rattle.vf_attr.specs.declared.attributes.Attributes.{Attributes}
use Rattle.vf_attr.specs.declared.file.File.{File}
use Rattle.vf_base.specs.declared.element.Element.{Element}
use Rattle.vf_base.specs.declared.element.Element.TheVariants.{Descriptor, Enter, Exit, Text, Binary}
use Rattle.vf_doctype.specs.Checks.{fault, has_length}
use Rattle.vf_doctype.specs.DocumentTypes.{constraint_of, doc_type, has_parameters, is_fixed, kind_of}
use Rattle.vf_doctype.specs.declared.doc_type.DocType.{DocType}
use Rattle.vf_doctype.specs.declared.doc_type.Kind.{Kind}
use Rattle.vf_doctype.specs.declared.doc_type.Kind.TheVariants.{Ftam1, Ftam2, Ftam3}
use Rattle.vf_tables.specs.declared.change.Change.{Change}
use Rattle.vf_tables.specs.declared.change.Change.TheVariants.{PutUser, PutFile, PutAttributes, DropFile, PutDocket, Stage, CutStage, DropDocket, PutTask, StageTask, CutTask, DropTask}
use Rattle.vf_tables.specs.declared.docket.Docket.{Docket}
use Rattle.vf_tables.specs.declared.docket.Regime.{Regime}
use Rattle.vf_tables.specs.declared.tables.Tables.{Tables}
use Rattle.vf_tables.specs.declared.task.Plan.{Plan}
use Rattle.vf_tables.specs.declared.task.Task.{Task}
use Rattle.vf_tables.specs.declared.task.Way.{Way}
use Rattle.vf_tables.specs.declared.user.User.{User}
use Rattle.vf_tables.specs.Entries.{changed, dropped, is_docket, is_file, is_task, is_user, put}
use Rattle.vf_tables.specs.Changes.{after, after_all, cut_to, renamed, staged_for, staged_in, task_cut_to, with_piece, with_plan, with_regime, with_task_piece}
use Rattle.vf_tables.specs.Fitting.{all_fit, are_short, are_units_of, fits, is_activity, is_constraint, is_in_range, is_plan, is_regime, is_sayable, is_short, is_string_of, stands_in}
use Rattle.vf_tables.specs.Snapshot.{is_kept, snapshot, stages_after, stages_of, task_stages_after, task_stages_of}
use Rattle.vf_tables.specs.Validity.{all_differ, are_within, exclude, have_keys, is_file_of, is_valid, is_valid_docket, is_valid_file, is_valid_task}
use Rattle.vf_tables.specs.declared.limits.TheConstants.{MOST_TERMS}
use Rattle.vf_doctype.specs.declared.errors.DocError.{DocError}
use Rattle.vf_doctype.specs.declared.errors.DocError.TheVariants.{BadElement, TooLong}

pub both : (a b : Bool) → a ≡ true → b ≡ true → (a && b) ≡ true
both true b first second = second
both false b first second = cc

pub first_of : (a b : Bool) → (a && b) ≡ true → a ≡ true
first_of true b is = refl
first_of false b is = is

pub second_of : (a b : Bool) → (a && b) ≡ true → b ≡ true
second_of true b is = is
second_of false b is = cc

-- LISTS
module _ {A : Type 0} where
  pub joined : (p : A → Bool) (xs ys : List A) → list_all p xs ≡ true → list_all p ys ≡ true → list_all p (xs ++ ys) ≡ true
  joined p xs ys first second = list_all-append p xs ys ∙ both (list_all p xs) (list_all p ys) first second

  pub left_part : (p : A → Bool) (xs ys : List A) → list_all p (xs ++ ys) ≡ true → list_all p xs ≡ true
  left_part p xs ys all = let parts = list_all-append p xs ys in first_of (list_all p xs) (list_all p ys) cc

  pub right_part : (p : A → Bool) (xs ys : List A) → list_all p (xs ++ ys) ≡ true → list_all p ys ≡ true
  right_part p xs ys all = let parts = list_all-append p xs ys in second_of (list_all p xs) (list_all p ys) cc

  pub weaken : (p q : A → Bool) → ((x : A) → p x ≡ true → q x ≡ true) → (xs : List A) → list_all p xs ≡ true → list_all q xs ≡ true
  weaken p q gives [] all = refl
  weaken p q gives (x ∷ xs) all = both (q x) (list_all q xs) (gives x (first_of (p x) (list_all p xs) all)) (weaken p q gives xs (second_of (p x) (list_all p xs) all))

  -- of two tests that both hold of each
  pub weaken_both : (p q r : A → Bool) → ((x : A) → p x ≡ true → q x ≡ true → r x ≡ true) → (xs : List A) → list_all p xs ≡ true → list_all q xs ≡ true → list_all r xs ≡ true
  weaken_both p q r gives [] all others = refl
  weaken_both p q r gives (x ∷ xs) all others =
      both (r x) (list_all r xs) (gives x (first_of (p x) (list_all p xs) all) (first_of (q x) (list_all q xs) others))
      (weaken_both p q r gives xs (second_of (p x) (list_all p xs) all) (second_of (q x) (list_all q xs) others))

  pub all_taken : (p : A → Bool) (count : ℕ) (xs : List A) → list_all p xs ≡ true → list_all p (take count xs) ≡ true
  all_taken p zero xs all = refl
  all_taken p (suc count) [] all = refl
  all_taken p (suc count) (x ∷ xs) all = both (p x) (list_all p (take count xs)) (first_of (p x) (list_all p xs) all) (all_taken p count xs (second_of (p x) (list_all p xs) all))

  found_case : (p m : A → Bool) (x : A) (xs : List A) (b : Bool) → p x ≡ true → IfSome (find m xs) (λ y. p y ≡ true) → IfSome (if b then Some x else find m xs) (λ y. p y ≡ true)
  found_case p m x xs true good rest = good
  found_case p m x xs false good rest = rest

  pub found : (p m : A → Bool) (xs : List A) → list_all p xs ≡ true → IfSome (find m xs) (λ x. p x ≡ true)
  found p m [] all = tt
  found p m (x ∷ xs) all = found_case p m x xs (m x) (first_of (p x) (list_all p xs) all) (found p m xs (second_of (p x) (list_all p xs) all))

  put_case : (p m : A → Bool) (entry other : A) (entries : List A) (b : Bool) → p entry ≡ true → p other ≡ true → list_all p entries ≡ true → list_all p (put m entry entries) ≡ true
      → list_all p (if b then entry ∷ entries else other ∷ put m entry entries) ≡ true
  put_case p m entry other entries true good old all rest = both (p entry) (list_all p entries) good all
  put_case p m entry other entries false good old all rest = both (p other) (list_all p (put m entry entries)) old rest

  pub all_put : (p m : A → Bool) (entry : A) (entries : List A) → p entry ≡ true → list_all p entries ≡ true → list_all p (put m entry entries) ≡ true
  all_put p m entry [] good all = both (p entry) true good refl
  all_put p m entry (other ∷ entries) good all =
      put_case p m entry other entries (m other) good (first_of (p other) (list_all p entries) all) (second_of (p other) (list_all p entries) all)
      (all_put p m entry entries good (second_of (p other) (list_all p entries) all))

  changed_case : (p m : A → Bool) (f : A → A) (other : A) (entries : List A) (b : Bool) → p (f other) ≡ true → p other ≡ true → list_all p entries ≡ true → list_all p (changed m f entries) ≡ true
      → list_all p (if b then f other ∷ entries else other ∷ changed m f entries) ≡ true
  changed_case p m f other entries true good old all rest = both (p (f other)) (list_all p entries) good all
  changed_case p m f other entries false good old all rest = both (p other) (list_all p (changed m f entries)) old rest

  pub all_changed : (p m : A → Bool) (f : A → A) → ((x : A) → p x ≡ true → p (f x) ≡ true) → (entries : List A) → list_all p entries ≡ true → list_all p (changed m f entries) ≡ true
  all_changed p m f keeps [] all = refl
  all_changed p m f keeps (other ∷ entries) all =
      let good = first_of (p other) (list_all p entries) all in
      let rest = second_of (p other) (list_all p entries) all in
      changed_case p m f other entries (m other) (keeps other good) good rest (all_changed p m f keeps entries rest)

  dropped_case : (p m : A → Bool) (other : A) (entries : List A) (b : Bool) → p other ≡ true → list_all p entries ≡ true → list_all p (dropped m entries) ≡ true
      → list_all p (if b then entries else other ∷ dropped m entries) ≡ true
  dropped_case p m other entries true old all rest = all
  dropped_case p m other entries false old all rest = both (p other) (list_all p (dropped m entries)) old rest

  pub all_dropped : (p m : A → Bool) (entries : List A) → list_all p entries ≡ true → list_all p (dropped m entries) ≡ true
  all_dropped p m [] all = refl
  all_dropped p m (other ∷ entries) all =
      dropped_case p m other entries (m other) (first_of (p other) (list_all p entries) all) (second_of (p other) (list_all p entries) all)
      (all_dropped p m entries (second_of (p other) (list_all p entries) all))

-- ENTRIES. What holds of each entry of tables that changes make, whether they are valid yet or not.
abbrev pub is_user_good : User → Bool
is_user_good user = is_short user.password

-- the element is a string
abbrev pub is_string : Element → Bool
is_string (Text class octets) = true
is_string (Binary octets) = true
is_string (Descriptor name filled) = false
is_string Enter = false
is_string Exit = false

abbrev pub are_strings : List (List Element) → Bool
are_strings units = list_all (λ (unit : List Element). list_all is_string unit) units

abbrev pub is_file_good : File → Bool
is_file_good file = are_short file.terms && are_strings file.tree.units

abbrev pub are_pieces : List (List Element) → Bool
are_pieces pieces = list_all (λ (piece : List Element). list_all is_sayable piece) pieces

abbrev pub is_docket_good : Docket → Bool
is_docket_good docket = is_regime docket.regime && are_pieces docket.staged

abbrev pub is_task_good : Task → Bool
is_task_good task = is_plan task.plan && are_pieces task.staged

pub record AreGood (tables : Tables) : Type 0 where
  pub users : list_all is_user_good tables.users ≡ true
  pub files : list_all is_file_good tables.files ≡ true
  pub dockets : list_all is_docket_good tables.dockets ≡ true
  pub tasks : list_all is_task_good tables.tasks ≡ true

-- a string of a document type is a string
string_of : (kind : Kind) (class : ℕ) (element : Element) → is_string_of kind class element ≡ true → is_string element ≡ true
string_of kind class (Text other octets) is = refl
string_of kind class (Binary octets) is = refl
string_of Ftam1 class (Descriptor name filled) is = is
string_of Ftam2 class (Descriptor name filled) is = is
string_of Ftam3 class (Descriptor name filled) is = is
string_of Ftam1 class Enter is = is
string_of Ftam2 class Enter is = is
string_of Ftam3 class Enter is = is
string_of Ftam1 class Exit is = is
string_of Ftam2 class Exit is = is
string_of Ftam3 class Exit is = is

strings_of_kind : (kind : Kind) (file : File) → are_units_of kind file ≡ true → are_strings file.tree.units ≡ true
strings_of_kind kind file is =
    weaken (λ (unit : List Element). list_all (is_string_of kind file.contents.class) unit) (λ (unit : List Element). list_all is_string unit)
    (λ unit all. weaken (is_string_of kind file.contents.class) is_string (string_of kind file.contents.class) unit all) file.tree.units
    (second_of (is_constraint (constraint_of kind) file.tree.constraint) _ is)

strings_in : (kind : Option Kind) (file : File) → option_map_or (λ (k : Kind). are_units_of k file) kind false ≡ true → are_strings file.tree.units ≡ true
strings_in None file is = cc
strings_in (Some kind) file is = strings_of_kind kind file is

file_good : (file : File) → is_in_range (PutFile file) ≡ true → is_file_good file ≡ true
file_good file is = both (are_short file.terms) (are_strings file.tree.units) (first_of (are_short file.terms) _ is) (strings_in (kind_of file.contents.kind) file (second_of (are_short file.terms) _ is))

-- the pieces of the entry that is found
staged_good : (docket : Option Docket) → IfSome docket (λ d. is_docket_good d ≡ true) → are_pieces (staged_in docket) ≡ true
staged_good None good = refl
staged_good (Some docket) good = second_of (is_regime docket.regime) (are_pieces docket.staged) good

staged_for_good : (task : Option Task) → IfSome task (λ t. is_task_good t ≡ true) → are_pieces (staged_for task) ≡ true
staged_for_good None good = refl
staged_for_good (Some task) good = second_of (is_plan task.plan) (are_pieces task.staged) good

regime_put : (regime : Regime) (dockets : List Docket) → is_regime regime ≡ true → list_all is_docket_good dockets ≡ true → list_all is_docket_good (with_regime regime dockets) ≡ true
regime_put regime dockets good all =
    let meant = is_docket regime.identity regime.activity in
    let pieces = staged_good (find meant dockets) (found is_docket_good meant dockets all) in
    all_put is_docket_good meant (record { regime = regime; staged = staged_in (find meant dockets) }) dockets (both (is_regime regime) (are_pieces (staged_in (find meant dockets))) good pieces) all

plan_put : (plan : Plan) (tasks : List Task) → is_plan plan ≡ true → list_all is_task_good tasks ≡ true → list_all is_task_good (with_plan plan tasks) ≡ true
plan_put plan tasks good all =
    let meant = is_task plan.activity in
    let pieces = staged_for_good (find meant tasks) (found is_task_good meant tasks all) in
    all_put is_task_good meant (record { plan = plan; staged = staged_for (find meant tasks) }) tasks (both (is_plan plan) (are_pieces (staged_for (find meant tasks))) good pieces) all

piece_more : (elements : List Element) → list_all is_sayable elements ≡ true → (docket : Docket) → is_docket_good docket ≡ true → is_docket_good (with_piece elements docket) ≡ true
piece_more elements sayable docket good =
    both (is_regime docket.regime) (are_pieces (docket.staged ++ elements ∷ [])) (first_of (is_regime docket.regime) (are_pieces docket.staged) good)
    (joined (λ (piece : List Element). list_all is_sayable piece) docket.staged (elements ∷ []) (second_of (is_regime docket.regime) (are_pieces docket.staged) good) (both (list_all is_sayable elements) true sayable refl))

pieces_cut : (point : ℕ) (docket : Docket) → is_docket_good docket ≡ true → is_docket_good (cut_to point docket) ≡ true
pieces_cut point docket good =
    both (is_regime docket.regime) (are_pieces (take point docket.staged)) (first_of (is_regime docket.regime) (are_pieces docket.staged) good)
    (all_taken (λ (piece : List Element). list_all is_sayable piece) point docket.staged (second_of (is_regime docket.regime) (are_pieces docket.staged) good))

task_piece_more : (elements : List Element) → list_all is_sayable elements ≡ true → (task : Task) → is_task_good task ≡ true → is_task_good (with_task_piece elements task) ≡ true
task_piece_more elements sayable task good =
    both (is_plan task.plan) (are_pieces (task.staged ++ elements ∷ [])) (first_of (is_plan task.plan) (are_pieces task.staged) good)
    (joined (λ (piece : List Element). list_all is_sayable piece) task.staged (elements ∷ []) (second_of (is_plan task.plan) (are_pieces task.staged) good) (both (list_all is_sayable elements) true sayable refl))

task_pieces_cut : (point : ℕ) (task : Task) → is_task_good task ≡ true → is_task_good (task_cut_to point task) ≡ true
task_pieces_cut point task good =
    both (is_plan task.plan) (are_pieces (take point task.staged)) (first_of (is_plan task.plan) (are_pieces task.staged) good)
    (all_taken (λ (piece : List Element). list_all is_sayable piece) point task.staged (second_of (is_plan task.plan) (are_pieces task.staged) good))

attributes_put : (name : List ℕ) (attributes : Attributes) → are_short attributes.terms ≡ true → (file : File) → is_file_good file ≡ true → is_file_good (renamed name attributes file) ≡ true
attributes_put name attributes short file good = both (are_short attributes.terms) (are_strings file.tree.units) short (second_of (are_short file.terms) (are_strings file.tree.units) good)

-- one change
pub good_after : (tables : Tables) (change : Change) → AreGood tables → is_in_range change ≡ true → AreGood (after tables change)
good_after tables (PutUser user) good is = record { users = all_put is_user_good (is_user user.identity) user tables.users is good.users; files = good.files; dockets = good.dockets; tasks = good.tasks }
good_after tables (PutFile file) good is = record { users = good.users; files = all_put is_file_good (is_file file.name) file tables.files (file_good file is) good.files; dockets = good.dockets; tasks = good.tasks }
good_after tables (PutAttributes old name attributes) good is = record {
  users = good.users;
  files = all_changed is_file_good (is_file old) (renamed name attributes) (attributes_put name attributes (first_of (are_short attributes.terms) _ is)) tables.files good.files;
  dockets = good.dockets;
  tasks = good.tasks;
}
good_after tables (DropFile name) good is = record { users = good.users; files = all_dropped is_file_good (is_file name) tables.files good.files; dockets = good.dockets; tasks = good.tasks }
good_after tables (PutDocket regime) good is = record { users = good.users; files = good.files; dockets = regime_put regime tables.dockets is good.dockets; tasks = good.tasks }
good_after tables (Stage identity activity first last elements) good is = record {
  users = good.users;
  files = good.files;
  dockets = all_changed is_docket_good (is_docket identity activity) (with_piece elements) (piece_more elements (second_of (is_activity activity) (list_all is_sayable elements) is)) tables.dockets good.dockets;
  tasks = good.tasks;
}
good_after tables (CutStage identity activity point) good is = record {
  users = good.users;
  files = good.files;
  dockets = all_changed is_docket_good (is_docket identity activity) (cut_to point) (pieces_cut point) tables.dockets good.dockets;
  tasks = good.tasks;
}
good_after tables (DropDocket identity activity) good is = record { users = good.users; files = good.files; dockets = all_dropped is_docket_good (is_docket identity activity) tables.dockets good.dockets; tasks = good.tasks }
good_after tables (PutTask plan) good is = record { users = good.users; files = good.files; dockets = good.dockets; tasks = plan_put plan tables.tasks is good.tasks }
good_after tables (StageTask activity point elements) good is = record {
  users = good.users;
  files = good.files;
  dockets = good.dockets;
  tasks = all_changed is_task_good (is_task activity) (with_task_piece elements) (task_piece_more elements (second_of (is_activity activity) (list_all is_sayable elements) is)) tables.tasks good.tasks;
}
good_after tables (CutTask activity point) good is = record {
  users = good.users;
  files = good.files;
  dockets = good.dockets;
  tasks = all_changed is_task_good (is_task activity) (task_cut_to point) (task_pieces_cut point) tables.tasks good.tasks;
}
good_after tables (DropTask activity) good is = record { users = good.users; files = good.files; dockets = good.dockets; tasks = all_dropped is_task_good (is_task activity) tables.tasks good.tasks }

pub good_after_all : (changes : List Change) (tables : Tables) → AreGood tables → all_fit tables changes ≡ true → AreGood (after_all tables changes)
good_after_all [] tables good fit = good
good_after_all (change ∷ changes) tables good fit =
    good_after_all changes (after tables change) (good_after tables change good (first_of (is_in_range change) (stands_in tables change) (first_of (fits tables change) (all_fit (after tables change) changes) fit)))
    (second_of (fits tables change) (all_fit (after tables change) changes) fit)

-- SNAPSHOTS. Each change of a snapshot is in its range where each entry is good, and the files are valid.
module _ {A B : Type 0} where
  pub all_of_parts : (p : B → Bool) (f : A → List B) (q : A → Bool) → ((x : A) → q x ≡ true → list_all p (f x) ≡ true) → (xs : List A) → list_all q xs ≡ true → list_all p (flat_map f xs) ≡ true
  all_of_parts p f q each [] all = refl
  all_of_parts p f q each (x ∷ xs) all = joined p (f x) (flat_map f xs) (each x (first_of (q x) (list_all q xs) all)) (all_of_parts p f q each xs (second_of (q x) (list_all q xs) all))

  pub parts_of_all : (p : B → Bool) (f : A → List B) (q : A → Bool) → ((x : A) → list_all p (f x) ≡ true → q x ≡ true) → (xs : List A) → list_all p (flat_map f xs) ≡ true → list_all q xs ≡ true
  parts_of_all p f q each [] all = refl
  parts_of_all p f q each (x ∷ xs) all = both (q x) (list_all q xs) (each x (left_part p (f x) (flat_map f xs) all)) (parts_of_all p f q each xs (right_part p (f x) (flat_map f xs) all))

  pub all_mapped : (p : B → Bool) (f : A → B) (xs : List A) → list_all (λ x. p (f x)) xs ≡ true → list_all p (map f xs) ≡ true
  all_mapped p f xs all = list_all-map p f xs ∙ all

  pub mapped_all : (p : B → Bool) (f : A → B) (xs : List A) → list_all p (map f xs) ≡ true → list_all (λ x. p (f x)) xs ≡ true
  mapped_all p f xs all = let same = list_all-map p f xs in cc

stages_good : (identity : List ℕ) (activity count : ℕ) (pieces : List (List Element)) → list_all is_in_range (stages_after identity activity count pieces) ≡ true → are_pieces pieces ≡ true
stages_good identity activity count [] all = refl
stages_good identity activity count (piece ∷ pieces) all =
    both (list_all is_sayable piece) (are_pieces pieces) (second_of (is_activity activity) (list_all is_sayable piece) (first_of (is_activity activity && list_all is_sayable piece) _ all))
    (stages_good identity activity (count + 1) pieces (second_of (is_activity activity && list_all is_sayable piece) _ all))

good_stages : (identity : List ℕ) (activity count : ℕ) (pieces : List (List Element)) → is_activity activity ≡ true → are_pieces pieces ≡ true → list_all is_in_range (stages_after identity activity count pieces) ≡ true
good_stages identity activity count [] active all = refl
good_stages identity activity count (piece ∷ pieces) active all =
    both (is_activity activity && list_all is_sayable piece) _ (both (is_activity activity) (list_all is_sayable piece) active (first_of (list_all is_sayable piece) (are_pieces pieces) all))
    (good_stages identity activity (count + 1) pieces active (second_of (list_all is_sayable piece) (are_pieces pieces) all))

task_stages_good : (way : Way) (activity count : ℕ) (pieces : List (List Element)) → list_all is_in_range (task_stages_after way activity count pieces) ≡ true → are_pieces pieces ≡ true
task_stages_good way activity count [] all = refl
task_stages_good way activity count (piece ∷ pieces) all =
    both (list_all is_sayable piece) (are_pieces pieces) (second_of (is_activity activity) (list_all is_sayable piece) (first_of (is_activity activity && list_all is_sayable piece) _ all))
    (task_stages_good way activity (count + 1) pieces (second_of (is_activity activity && list_all is_sayable piece) _ all))

good_task_stages : (way : Way) (activity count : ℕ) (pieces : List (List Element)) → is_activity activity ≡ true → are_pieces pieces ≡ true → list_all is_in_range (task_stages_after way activity count pieces) ≡ true
good_task_stages way activity count [] active all = refl
good_task_stages way activity count (piece ∷ pieces) active all =
    both (is_activity activity && list_all is_sayable piece) _ (both (is_activity activity) (list_all is_sayable piece) active (first_of (list_all is_sayable piece) (are_pieces pieces) all))
    (good_task_stages way activity (count + 1) pieces active (second_of (list_all is_sayable piece) (are_pieces pieces) all))

-- what a snapshot says of the entries
good_of_snapshot : (tables : Tables) → list_all is_in_range (snapshot tables) ≡ true → AreGood tables
good_of_snapshot tables all =
    let users = map (λ (user : User). PutUser user) tables.users in
    let files = map (λ (file : File). PutFile file) tables.files in
    let dockets = map (λ (docket : Docket). PutDocket docket.regime) tables.dockets in
    let stages = flat_map stages_of tables.dockets in
    let tasks = map (λ (task : Task). PutTask task.plan) tables.tasks in
    let task_stages = flat_map task_stages_of tables.tasks in
    let second = right_part is_in_range users (files ++ (dockets ++ (stages ++ (tasks ++ task_stages)))) all in
    let third = right_part is_in_range files (dockets ++ (stages ++ (tasks ++ task_stages))) second in
    let fourth = right_part is_in_range dockets (stages ++ (tasks ++ task_stages)) third in
    let fifth = right_part is_in_range stages (tasks ++ task_stages) fourth in
    record {
      users = mapped_all is_in_range (λ (user : User). PutUser user) tables.users (left_part is_in_range users (files ++ (dockets ++ (stages ++ (tasks ++ task_stages)))) all);
      files = weaken (λ (file : File). is_in_range (PutFile file)) is_file_good file_good tables.files
          (mapped_all is_in_range (λ (file : File). PutFile file) tables.files (left_part is_in_range files (dockets ++ (stages ++ (tasks ++ task_stages))) second));
      dockets = weaken_both (λ (docket : Docket). is_regime docket.regime) (λ (docket : Docket). are_pieces docket.staged) is_docket_good
          (λ docket regime pieces. both (is_regime docket.regime) (are_pieces docket.staged) regime pieces) tables.dockets
          (mapped_all is_in_range (λ (docket : Docket). PutDocket docket.regime) tables.dockets (left_part is_in_range dockets (stages ++ (tasks ++ task_stages)) third))
          (parts_of_all is_in_range stages_of (λ (docket : Docket). are_pieces docket.staged) (λ docket found. stages_good docket.regime.identity docket.regime.activity 0 docket.staged found) tables.dockets
          (left_part is_in_range stages (tasks ++ task_stages) fourth));
      tasks = weaken_both (λ (task : Task). is_plan task.plan) (λ (task : Task). are_pieces task.staged) is_task_good
          (λ task plan pieces. both (is_plan task.plan) (are_pieces task.staged) plan pieces) tables.tasks
          (mapped_all is_in_range (λ (task : Task). PutTask task.plan) tables.tasks (left_part is_in_range tasks task_stages fifth))
          (parts_of_all is_in_range task_stages_of (λ (task : Task). are_pieces task.staged) (λ task found. task_stages_good task.plan.way task.plan.activity 0 task.staged found) tables.tasks
          (right_part is_in_range tasks task_stages fifth));
    }

abbrev doc_of : File → Kind → DocType
doc_of file kind = record { kind = kind; class = file.contents.class; longest = file.contents.longest; is_fixed = is_fixed file.contents }

no_fault : (taken long : Bool) → (let wrong : Option DocError = if not taken then Some BadElement else if not long then Some TooLong else None in is_none wrong) ≡ true → taken ≡ true
no_fault true long none = refl
no_fault false long none = none

-- a string that a document type takes is one of its strings
taken : (file : File) (kind : Kind) (element : Element) → is_string element ≡ true → is_none (fault (doc_of file kind) element) ≡ true → is_string_of kind file.contents.class element ≡ true
taken file Ftam1 (Text other octets) string none = first_of (nat_eq other file.contents.class) _ (no_fault _ _ none)
taken file Ftam2 (Text other octets) string none = first_of (nat_eq other file.contents.class) _ (no_fault _ _ none)
taken file Ftam3 (Text other octets) string none = no_fault false (has_length (doc_of file Ftam3) (Text other octets)) none
taken file Ftam1 (Binary octets) string none = no_fault false (has_length (doc_of file Ftam1) (Binary octets)) none
taken file Ftam2 (Binary octets) string none = no_fault false (has_length (doc_of file Ftam2) (Binary octets)) none
taken file Ftam3 (Binary octets) string none = refl
taken file kind (Descriptor name filled) string none = cc
taken file kind Enter string none = cc
taken file kind Exit string none = cc

units_taken : (file : File) (kind : Kind) → are_strings file.tree.units ≡ true → is_file_of file (doc_of file kind) ≡ true → are_units_of kind file ≡ true
units_taken file kind strings is =
    both (is_constraint (constraint_of kind) file.tree.constraint) (list_all (λ (unit : List Element). list_all (is_string_of kind file.contents.class) unit) file.tree.units)
    (first_of (is_constraint (constraint_of kind) file.tree.constraint) (list_all (λ (unit : List Element). list_all (λ element. is_none (fault (doc_of file kind) element)) unit) file.tree.units) is)
    (weaken_both (λ (unit : List Element). list_all is_string unit) (λ (unit : List Element). list_all (λ element. is_none (fault (doc_of file kind) element)) unit)
    (λ (unit : List Element). list_all (is_string_of kind file.contents.class) unit)
    (λ unit are none. weaken_both is_string (λ element. is_none (fault (doc_of file kind) element)) (is_string_of kind file.contents.class) (taken file kind) unit are none) file.tree.units strings
    (second_of (is_constraint (constraint_of kind) file.tree.constraint) (list_all (λ (unit : List Element). list_all (λ element. is_none (fault (doc_of file kind) element)) unit) file.tree.units) is))

typed : (file : File) (parameters : Bool) (kind : Option Kind) → are_strings file.tree.units ≡ true
    → (let doc : Option DocType = if parameters then option_map (doc_of file) kind else None in option_map_or (is_file_of file) doc false) ≡ true → option_map_or (λ (k : Kind). are_units_of k file) kind false ≡ true
typed file true (Some kind) strings is = units_taken file kind strings is
typed file true None strings is = is
typed file false kind strings is = cc

file_in_range : (file : File) → is_file_good file ≡ true → is_valid_file file ≡ true → is_in_range (PutFile file) ≡ true
file_in_range file good valid =
    both (are_short file.terms) (option_map_or (λ (k : Kind). are_units_of k file) (kind_of file.contents.kind) false) (first_of (are_short file.terms) (are_strings file.tree.units) good)
    (typed file (has_parameters file.contents) (kind_of file.contents.kind) (second_of (are_short file.terms) (are_strings file.tree.units) good)
    (second_of (nat_le (length file.terms) MOST_TERMS) (option_map_or (is_file_of file) (doc_type file.contents) false) valid))

active : (docket : Docket) → is_docket_good docket ≡ true → is_activity docket.regime.activity ≡ true
active docket good = first_of (is_activity docket.regime.activity) _ (first_of _ _ (first_of _ _ (first_of (is_regime docket.regime) (are_pieces docket.staged) good)))

task_active : (task : Task) → is_task_good task ≡ true → is_activity task.plan.activity ≡ true
task_active task good = first_of (is_activity task.plan.activity) _ (first_of _ _ (first_of _ _ (first_of _ _ (first_of (is_plan task.plan) (are_pieces task.staged) good))))

-- and what the entries say of it
snapshot_of_good : (tables : Tables) → AreGood tables → list_all is_valid_file tables.files ≡ true → list_all is_in_range (snapshot tables) ≡ true
snapshot_of_good tables good valid =
    let users = map (λ (user : User). PutUser user) tables.users in
    let files = map (λ (file : File). PutFile file) tables.files in
    let dockets = map (λ (docket : Docket). PutDocket docket.regime) tables.dockets in
    let stages = flat_map stages_of tables.dockets in
    let tasks = map (λ (task : Task). PutTask task.plan) tables.tasks in
    let task_stages = flat_map task_stages_of tables.tasks in
    joined is_in_range users (files ++ (dockets ++ (stages ++ (tasks ++ task_stages)))) (all_mapped is_in_range (λ (user : User). PutUser user) tables.users good.users)
    (joined is_in_range files (dockets ++ (stages ++ (tasks ++ task_stages)))
    (all_mapped is_in_range (λ (file : File). PutFile file) tables.files (weaken_both is_file_good is_valid_file (λ (file : File). is_in_range (PutFile file)) file_in_range tables.files good.files valid))
    (joined is_in_range dockets (stages ++ (tasks ++ task_stages))
    (all_mapped is_in_range (λ (docket : Docket). PutDocket docket.regime) tables.dockets
    (weaken is_docket_good (λ (docket : Docket). is_regime docket.regime) (λ docket is. first_of (is_regime docket.regime) (are_pieces docket.staged) is) tables.dockets good.dockets))
    (joined is_in_range stages (tasks ++ task_stages)
    (all_of_parts is_in_range stages_of is_docket_good
    (λ docket is. good_stages docket.regime.identity docket.regime.activity 0 docket.staged (active docket is) (second_of (is_regime docket.regime) (are_pieces docket.staged) is)) tables.dockets good.dockets)
    (joined is_in_range tasks task_stages
    (all_mapped is_in_range (λ (task : Task). PutTask task.plan) tables.tasks
    (weaken is_task_good (λ (task : Task). is_plan task.plan) (λ task is. first_of (is_plan task.plan) (are_pieces task.staged) is) tables.tasks good.tasks))
    (all_of_parts is_in_range task_stages_of is_task_good
    (λ task is. good_task_stages task.plan.way task.plan.activity 0 task.staged (task_active task is) (second_of (is_plan task.plan) (are_pieces task.staged) is)) tables.tasks good.tasks)))))

files_valid : (tables : Tables) → is_valid tables ≡ true → list_all is_valid_file tables.files ≡ true
files_valid tables is =
    let a = have_keys tables in
    let b = are_within tables in
    let c = list_all is_valid_file tables.files in
    let d = list_all (is_valid_docket tables.files) tables.dockets in
    let e = all_differ exclude tables.dockets in
    let f = list_all is_valid_task tables.tasks in
    second_of (a && b) c (first_of (a && b && c) d (first_of (a && b && c && d) e (first_of (a && b && c && d && e) f is)))

pub kept_stay : (tables : Tables) (changes : List Change) → is_kept tables ≡ true → all_fit tables changes ≡ true → is_valid (after_all tables changes) ≡ true → is_kept (after_all tables changes) ≡ true
kept_stay tables changes kept fit valid =
    let good = good_after_all changes tables (good_of_snapshot tables (second_of (is_valid tables) (list_all is_in_range (snapshot tables)) kept)) fit in
    both (is_valid (after_all tables changes)) (list_all is_in_range (snapshot (after_all tables changes))) valid (snapshot_of_good (after_all tables changes) good (files_valid (after_all tables changes) valid))

-- A docket or a task may be dropped out of valid tables, and what the commit of that leaves.
use Rattle.std.proofs.Common.{◌≡◌, ◌<◌, ◌≤◌, ◌∙◌, ℕ, suc, Bool, true, false, ◌&&◌, not, nat_le, if◌then◌else◌, List, [], ◌∷◌, length, Option, Some, Err, refl, subst, arith}
use Rattle.std.specs.Prelude.{is_some}
use Rattle.std.specs.List.{list_all}
use Rattle.std.proofs.lemmas.Bool.Decides.{nat_tests}
use Rattle.vf_journal.specs.declared.error.JournalError.{JournalError}
use Rattle.vf_journal.specs.declared.error.JournalError.TheVariants.{NotAStore, Full, DiskFault, NoMemory}
use Rattle.vf_store.specs.Answers.{CommitAnswers}
use Rattle.vf_store.specs.Commit.{AreFitting}
use Rattle.vf_store.specs.Represented.{Represents, made}
use Rattle.vf_store.specs.StoreState.{IsRepresented, StoreState}
use Rattle.vf_store.proofs.Kept.{made_kept}
use Rattle.vf_store.proofs.Runs.{represented}
use Rattle.vf_tables.specs.Entries.{docket_of, dropped, is_docket, is_file, is_task, is_user, task_of}
use Rattle.vf_tables.specs.Fitting.{fits, is_activity, stands_in}
use Rattle.vf_tables.specs.Laws.{KeptStay}
use Rattle.vf_tables.specs.Sums.{octets_of_files}
use Rattle.vf_tables.specs.Validity.{all_differ, are_within, exclude, have_keys, is_valid, is_valid_docket, is_valid_file, is_valid_task}
use Rattle.vf_tables.specs.declared.docket.Docket.{Docket as DocketMeant}
use Rattle.vf_tables.specs.declared.limits.TheConstants.{MOST_DOCKETS, MOST_FILES, MOST_FILESTORE_OCTETS, MOST_TASKS, MOST_USERS}
use Rattle.vf_tables.specs.declared.tables.Tables.{Tables}
use Rattle.vf_tables.specs.declared.task.Task.{Task as TaskMeant}
use Rattle.vf_store_commands.specs.Dropping.{HasActivity, HoldsTables, IsDropError, drop_of, without}
use Rattle.vf_store_commands.specs.declared.dropping.KeptEntry.{KeptEntry}
use Rattle.vf_store_commands.specs.declared.dropping.KeptEntry.TheVariants.{Docket, Task}
use Rattle.vf_store_commands.specs.declared.limits.TheConstants.{STORE_LIMIT}
use Rattle.vf_store_commands.proofs.Bools.{both_true, first_of, second_of}

-- ---- a list without one entry

module _ {A : Type 0} (m : A → Bool) where
  length_by : (x : A) (xs : List A) (b : Bool) → length (dropped m xs) ≤ length xs → length (if b then xs else x ∷ dropped m xs) ≤ suc (length xs)
  length_by x xs true rest = omega arith
  length_by x xs false rest = omega arith

  length_dropped : (xs : List A) → length (dropped m xs) ≤ length xs
  length_dropped [] = omega arith
  length_dropped (x ∷ xs) = length_by x xs (m x) (length_dropped xs)

  all_by : (p : A → Bool) (x : A) (xs : List A) (b : Bool) → list_all p (x ∷ xs) ≡ true → list_all p (dropped m xs) ≡ true → list_all p (if b then xs else x ∷ dropped m xs) ≡ true
  all_by p x xs true all rest = second_of (p x) (list_all p xs) all
  all_by p x xs false all rest = both_true (p x) (list_all p (dropped m xs)) (first_of (p x) (list_all p xs) all) rest

  all_dropped : (p : A → Bool) (xs : List A) → list_all p xs ≡ true → list_all p (dropped m xs) ≡ true
  all_dropped p [] all = refl
  all_dropped p (x ∷ xs) all = all_by p x xs (m x) all (all_dropped p xs (second_of (p x) (list_all p xs) all))

  differ_by : (same : A → A → Bool) (x : A) (xs : List A) (b : Bool) → all_differ same (x ∷ xs) ≡ true → all_differ same (dropped m xs) ≡ true → all_differ same (if b then xs else x ∷ dropped m xs) ≡ true
  differ_by same x xs true all rest = second_of (list_all (λ other. not (same x other)) xs) (all_differ same xs) all
  differ_by same x xs false all rest =
      both_true (list_all (λ other. not (same x other)) (dropped m xs)) (all_differ same (dropped m xs))
      (all_dropped (λ other. not (same x other)) xs (first_of (list_all (λ other. not (same x other)) xs) (all_differ same xs) all)) rest

  differ_dropped : (same : A → A → Bool) (xs : List A) → all_differ same xs ≡ true → all_differ same (dropped m xs) ≡ true
  differ_dropped same [] all = refl
  differ_dropped same (x ∷ xs) all = differ_by same x xs (m x) all (differ_dropped same xs (second_of (list_all (λ other. not (same x other)) xs) (all_differ same xs) all))

fewer : (n k most : ℕ) → n ≤ k → nat_le k most ≡ true → nat_le n most ≡ true
fewer n k most less few = grind (arith, nat_tests)

-- ---- valid tables without one entry

valid_without_docket : (tables : Tables) (m : DocketMeant → Bool) → is_valid tables ≡ true → is_valid (record tables { dockets = dropped m tables.dockets }) ≡ true
valid_without_docket tables m valid =
    let less = dropped m tables.dockets in
    let users = all_differ (λ user. is_user user.identity) tables.users in
    let files = all_differ (λ file. is_file file.name) tables.files in
    let apart : DocketMeant → DocketMeant → Bool = λ docket. is_docket docket.regime.identity docket.regime.activity in
    let dockets = all_differ apart tables.dockets in
    let tasks = all_differ (λ (task : TaskMeant). is_task task.plan.activity) tables.tasks in
    let some_users = nat_le (length tables.users) MOST_USERS in
    let some_files = nat_le (length tables.files) MOST_FILES in
    let some_dockets = nat_le (length tables.dockets) MOST_DOCKETS in
    let some_tasks = nat_le (length tables.tasks) MOST_TASKS in
    let octets = nat_le (octets_of_files tables.files) MOST_FILESTORE_OCTETS in
    let a = have_keys tables in
    let b = are_within tables in
    let c = list_all is_valid_file tables.files in
    let d = list_all (is_valid_docket tables.files) tables.dockets in
    let e = all_differ exclude tables.dockets in
    let f = list_all is_valid_task tables.tasks in
    let to_e = first_of (a && b && c && d && e) f valid in
    let to_d = first_of (a && b && c && d) e to_e in
    let to_c = first_of (a && b && c) d to_d in
    let to_b = first_of (a && b) c to_c in
    let keys = first_of a b to_b in
    let within = second_of a b to_b in
    let three = first_of (users && files && dockets) tasks keys in
    let two = first_of (users && files) dockets three in
    let keys_are : have_keys (record tables { dockets = less }) ≡ true =
    both_true (users && files && all_differ apart less) tasks
    (both_true (users && files) (all_differ apart less) two (differ_dropped m apart tables.dockets (second_of (users && files) dockets three))) (second_of (users && files && dockets) tasks keys) in
    let four = first_of (some_users && some_files && some_dockets && some_tasks) octets within in
    let some_three = first_of (some_users && some_files && some_dockets) some_tasks four in
    let few = fewer (length less) (length tables.dockets) MOST_DOCKETS (length_dropped m tables.dockets) (second_of (some_users && some_files) some_dockets some_three) in
    let within_are : are_within (record tables { dockets = less }) ≡ true =
    both_true (some_users && some_files && nat_le (length less) MOST_DOCKETS && some_tasks) octets
    (both_true (some_users && some_files && nat_le (length less) MOST_DOCKETS) some_tasks
    (both_true (some_users && some_files) (nat_le (length less) MOST_DOCKETS) (first_of (some_users && some_files) some_dockets some_three) few)
    (second_of (some_users && some_files && some_dockets) some_tasks four))
    (second_of (some_users && some_files && some_dockets && some_tasks) octets within) in
    let a' = have_keys (record tables { dockets = less }) in
    let b' = are_within (record tables { dockets = less }) in
    let d' = list_all (is_valid_docket tables.files) less in
    let e' = all_differ exclude less in
    both_true (a' && b' && c && d' && e') f
    (both_true (a' && b' && c && d') e'
    (both_true (a' && b' && c) d' (both_true (a' && b') c (both_true a' b' keys_are within_are) (second_of (a && b) c to_c))
    (all_dropped m (is_valid_docket tables.files) tables.dockets (second_of (a && b && c) d to_d)))
    (differ_dropped m exclude tables.dockets (second_of (a && b && c && d) e to_e)))
    (second_of (a && b && c && d && e) f valid)

valid_without_task : (tables : Tables) (m : TaskMeant → Bool) → is_valid tables ≡ true → is_valid (record tables { tasks = dropped m tables.tasks }) ≡ true
valid_without_task tables m valid =
    let less = dropped m tables.tasks in
    let apart : TaskMeant → TaskMeant → Bool = λ task. is_task task.plan.activity in
    let others = all_differ (λ user. is_user user.identity) tables.users && all_differ (λ file. is_file file.name) tables.files
    && all_differ (λ (docket : DocketMeant). is_docket docket.regime.identity docket.regime.activity) tables.dockets in
    let tasks = all_differ apart tables.tasks in
    let some_others = nat_le (length tables.users) MOST_USERS && nat_le (length tables.files) MOST_FILES && nat_le (length tables.dockets) MOST_DOCKETS in
    let some_tasks = nat_le (length tables.tasks) MOST_TASKS in
    let octets = nat_le (octets_of_files tables.files) MOST_FILESTORE_OCTETS in
    let a = have_keys tables in
    let b = are_within tables in
    let c = list_all is_valid_file tables.files in
    let d = list_all (is_valid_docket tables.files) tables.dockets in
    let e = all_differ exclude tables.dockets in
    let f = list_all is_valid_task tables.tasks in
    let to_e = first_of (a && b && c && d && e) f valid in
    let to_d = first_of (a && b && c && d) e to_e in
    let to_c = first_of (a && b && c) d to_d in
    let to_b = first_of (a && b) c to_c in
    let keys = first_of a b to_b in
    let within = second_of a b to_b in
    let four = first_of (some_others && some_tasks) octets within in
    let keys_are : have_keys (record tables { tasks = less }) ≡ true =
    both_true others (all_differ apart less) (first_of others tasks keys) (differ_dropped m apart tables.tasks (second_of others tasks keys)) in
    let few = fewer (length less) (length tables.tasks) MOST_TASKS (length_dropped m tables.tasks) (second_of some_others some_tasks four) in
    let within_are : are_within (record tables { tasks = less }) ≡ true =
    both_true (some_others && nat_le (length less) MOST_TASKS) octets (both_true some_others (nat_le (length less) MOST_TASKS) (first_of some_others some_tasks four) few)
    (second_of (some_others && some_tasks) octets within) in
    let a' = have_keys (record tables { tasks = less }) in
    let b' = are_within (record tables { tasks = less }) in
    both_true (a' && b' && c && d && e) (list_all is_valid_task less)
    (both_true (a' && b' && c && d) e
    (both_true (a' && b' && c) d (both_true (a' && b') c (both_true a' b' keys_are within_are) (second_of (a && b) c to_c)) (second_of (a && b && c) d to_d))
    (second_of (a && b && c && d) e to_e))
    (all_dropped m is_valid_task tables.tasks (second_of (a && b && c && d && e) f valid))

-- ---- the change that drops what is kept

valid_without : (kept : KeptEntry) (tables : Tables) → is_valid tables ≡ true → is_valid (without kept tables) ≡ true
valid_without (Docket identity activity) tables valid = valid_without_docket tables (is_docket identity activity) valid
valid_without (Task activity) tables valid = valid_without_task tables (is_task activity) valid

in_range : (kept : KeptEntry) (tables : Tables) → HasActivity kept → stands_in tables (drop_of kept) ≡ true → fits tables (drop_of kept) ≡ true
in_range (Docket identity activity) tables good stands = both_true (is_activity activity) (is_some (docket_of identity activity tables)) good stands
in_range (Task activity) tables good stands = both_true (is_activity activity) (is_some (task_of activity tables)) good stands

pub fitting_drop : (kept : KeptEntry) (tables : Tables) → is_valid tables ≡ true → HasActivity kept → stands_in tables (drop_of kept) ≡ true → AreFitting tables (drop_of kept ∷ [])
fitting_drop kept tables valid good stands = record {
  each = both_true (fits tables (drop_of kept)) true (in_range kept tables good stands) refl;
  valid = valid_without kept tables valid;
}

-- ---- a store that represents its tables

-- tables that records make are valid
pub made_valid : KeptStay → (records : List (List ℕ)) (tables : Tables) → made records ≡ Some tables → is_valid tables ≡ true
made_valid stay records tables making = first_of (is_valid tables) _ (made_kept stay records tables making)

module _ {D : Type 0} (shown : D → Option (List ℕ)) (may_leave : D → List ℕ → Type 0) where
  pub holds_of : (store : StoreState D) (tables : Tables) → IsRepresented shown may_leave store → store.tables ≡ tables → HoldsTables shown may_leave store.disk tables
  holds_of store tables stands is = record {
    image = stands.on.image;
    shows = stands.on.shows;
    represents = subst (λ (t : Tables). Represents stands.on.image t) is (represented stands.on.image stands.records store.tables stands.making stands.on.holds);
    synced = stands.on.synced;
  }

-- why the commit of a drop failed
pub commit_error : {D : Type 0} (end limit : ℕ) (old new : StoreState D) (before now : ℕ) (error : JournalError) → limit ≡ STORE_LIMIT
    → CommitAnswers {T = Unit {0}} old new end limit before now (Err error) → IsDropError end error
commit_error end limit old new before now (NotAStore place found expected) is answers = absurd answers
commit_error end limit old new before now (Full length bound) is answers = (subst (λ (n : ℕ). n < end) is answers.0, answers.1, answers.2 ∙ is)
commit_error end limit old new before now DiskFault is answers = tt
commit_error end limit old new before now NoMemory is answers = tt

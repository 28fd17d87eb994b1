-- What changes of one task alone make of tables in which it stands.
use Rattle.std.proofs.Common.{◌≡◌, ◌≤◌, ◌+◌, ℕ, true, ◌&&◌, nat_eq, nat_le, List, [], ◌∷◌, ◌++◌, length, find, refl, sym, ap, subst, ◌∙◌, append_assoc, append-nil, length-append, arith, Some}
use Rattle.std.specs.List.{list_all}
use Rattle.std.proofs.lemmas.Bool.Decides.{nat_tests}
use Rattle.vf_attr.specs.declared.file.File.{File}
use Rattle.vf_base.specs.declared.element.Element.{Element}
use Rattle.vf_tables.specs.Changes.{after, after_all, staged_for, task_cut_to, with_task_piece}
use Rattle.vf_tables.specs.Entries.{dropped, is_docket, is_file, is_task, is_user, put, task_of}
use Rattle.vf_tables.specs.Fitting.{all_fit, is_activity, is_plan, is_sayable, takes_task_piece}
use Rattle.vf_tables.specs.Snapshot.{task_stages_after}
use Rattle.vf_tables.specs.Sums.{octets_of_files}
use Rattle.vf_tables.specs.Validity.{all_differ, are_within, exclude, have_keys, is_valid, is_valid_docket, is_valid_file, is_valid_task}
use Rattle.vf_tables.specs.declared.change.Change.{Change}
use Rattle.vf_tables.specs.declared.change.Change.TheVariants.{PutTask, StageTask, CutTask, DropTask}
use Rattle.vf_tables.specs.declared.docket.Docket.{Docket}
use Rattle.vf_tables.specs.declared.limits.TheConstants.{MOST_DOCKETS, MOST_FILES, MOST_FILESTORE_OCTETS, MOST_TASKS, MOST_USERS}
use Rattle.vf_tables.specs.declared.tables.Tables.{Tables}
use Rattle.vf_tables.specs.declared.task.Plan.{Plan}
use Rattle.vf_tables.specs.declared.task.Task.{Task}
use Rattle.vf_tables.specs.declared.task.Way.TheVariants.{Get}
use Rattle.vf_tables.specs.declared.user.User.{User}
use Rattle.vf_initiator.proofs.TaskEntries.{all_dropped, all_put, are_apart, both, changed_put, differ_dropped, differ_put, find_put, first_of, length_dropped, length_put, put_put, second_of}

-- the tables with this task in the place of the one of the activity
abbrev pub with_one : ℕ → Task → Tables → Tables
with_one activity task tables = record tables { tasks = put (is_task activity) task tables.tasks }

-- ---- changes one after the other

pub fit_then : (tables : Tables) (xs ys : List Change) → all_fit tables xs ≡ true → all_fit (after_all tables xs) ys ≡ true → all_fit tables (xs ++ ys) ≡ true
fit_then tables [] ys first second = second
fit_then tables (change ∷ xs) ys first second =
    let fits = all_fit (after tables change) xs in
    both _ (all_fit (after tables change) (xs ++ ys)) (first_of _ fits first) (fit_then (after tables change) xs ys (second_of _ fits first) second)

pub after_then : (tables : Tables) (xs ys : List Change) → after_all tables (xs ++ ys) ≡ after_all (after_all tables xs) ys
after_then tables [] ys = refl
after_then tables (change ∷ xs) ys = after_then (after tables change) xs ys

-- the task of the activity was this, and is that
pub record Leads (tables : Tables) (activity : ℕ) (task : Task) (changes : List Change) (task' : Task) : Type 0 where
  pub fit : all_fit (with_one activity task tables) changes ≡ true
  pub lead : after_all (with_one activity task tables) changes ≡ with_one activity task' tables

pub leads_none : (tables : Tables) (activity : ℕ) (task task' : Task) → task ≡ task' → Leads tables activity task [] task'
leads_none tables activity task task' same = record { fit = refl; lead = ap (λ (t : Task). with_one activity t tables) same }

pub leads_then : (tables : Tables) (activity : ℕ) (task task1 task2 : Task) (xs ys : List Change)
    → Leads tables activity task xs task1 → Leads tables activity task1 ys task2 → Leads tables activity task (xs ++ ys) task2
leads_then tables activity task task1 task2 xs ys first second =
    let start = with_one activity task tables in
    record {
      fit = fit_then start xs ys first.fit (subst (λ (t : Tables). all_fit t ys ≡ true) (sym first.lead) second.fit);
      lead = after_then start xs ys ∙ (ap (λ (t : Tables). after_all t ys) first.lead ∙ second.lead);
    }

-- ---- a row, a cut, pieces

itself : (a : ℕ) → nat_eq a a ≡ true
itself a = grind (arith, nat_tests)

pub leads_row : (tables : Tables) (row : Plan) (task : Task) → is_task row.activity task ≡ true → is_plan row ≡ true → Leads tables row.activity task (PutTask row ∷ []) (record task { plan = row })
leads_row tables row task meant good =
    let m = is_task row.activity in
    let new = record task { plan = row } in
    let found : staged_for (find m (put m task tables.tasks)) ≡ task.staged = ap staged_for (find_put m task tables.tasks meant) in
    record {
      fit = both (is_plan row && true) true (both (is_plan row) true good refl) refl;
      lead = ap (λ (tasks : List Task). record tables { tasks = tasks })
          (ap (λ (staged : List (List Element)). put m (record { plan = row; staged = staged }) (put m task tables.tasks)) found ∙ put_put m task new tables.tasks meant);
    }

pub leads_cut : (tables : Tables) (activity standing : ℕ) (task : Task) → is_task activity task ≡ true → is_activity activity ≡ true
    → Leads tables activity task (CutTask activity standing ∷ []) (task_cut_to standing task)
leads_cut tables activity standing task meant good =
    let m = is_task activity in
    record {
      fit = rw (find_put m task tables.tasks meant) (both (is_activity activity && true) true (both (is_activity activity) true good refl) refl);
      lead = ap (λ (tasks : List Task). record tables { tasks = tasks }) (changed_put m (task_cut_to standing) task tables.tasks meant);
    }

pub leads_stage : (tables : Tables) (activity point : ℕ) (elements : List Element) (task : Task) → is_task activity task ≡ true → is_activity activity ≡ true → list_all is_sayable elements ≡ true
    → takes_task_piece point task ≡ true → Leads tables activity task (StageTask activity point elements ∷ []) (with_task_piece elements task)
leads_stage tables activity point elements task meant good sayable takes =
    let m = is_task activity in
    let ranged : (is_activity activity && list_all is_sayable elements) ≡ true = both (is_activity activity) (list_all is_sayable elements) good sayable in
    record {
      fit = rw (find_put m task tables.tasks meant) (both ((is_activity activity && list_all is_sayable elements) && takes_task_piece point task) true (both (is_activity activity && list_all is_sayable elements) (takes_task_piece point task) ranged takes) refl);
      lead = ap (λ (tasks : List Task). record tables { tasks = tasks }) (changed_put m (with_task_piece elements) task tables.tasks meant);
    }

-- the pieces of a get, of which so many stand
pub leads_stages : (tables : Tables) (activity count : ℕ) (pieces : List (List Element)) (task : Task) → is_task activity task ≡ true → is_activity activity ≡ true → task.plan.way ≡ Get → count ≡ length task.staged
    → list_all (λ (piece : List Element). list_all is_sayable piece) pieces ≡ true
    → Leads tables activity task (task_stages_after Get activity count pieces) (record task { staged = task.staged ++ pieces })
leads_stages tables activity count [] task meant good gets counted sayable = leads_none tables activity task (record task { staged = task.staged ++ [] }) (ap (λ (staged : List (List Element)). record task { staged = staged }) (sym (append-nil task.staged)))
leads_stages tables activity count (elements ∷ pieces) task meant good gets counted sayable =
    let next = with_task_piece elements task in
    let more : count + 1 ≡ length next.staged = omega (arith, length-append task.staged (elements ∷ [])) in
    let takes : takes_task_piece (count + 1) task ≡ true = rw (gets, counted) (itself (length task.staged + 1)) in
    let first = leads_stage tables activity (count + 1) elements task meant good (first_of (list_all is_sayable elements) _ sayable) takes in
    let rest = leads_stages tables activity (count + 1) pieces next meant good gets more (second_of (list_all is_sayable elements) _ sayable) in
    let last : Leads tables activity next (task_stages_after Get activity (count + 1) pieces) (record task { staged = task.staged ++ elements ∷ pieces }) =
    subst (λ (staged : List (List Element)). Leads tables activity next (task_stages_after Get activity (count + 1) pieces) (record task { staged = staged })) (append_assoc task.staged (elements ∷ []) pieces) rest in
    leads_then tables activity task next (record task { staged = task.staged ++ elements ∷ pieces }) (StageTask activity (count + 1) elements ∷ []) (task_stages_after Get activity (count + 1) pieces) first last

-- ---- valid tables stay so

-- the tests of tables, with those of their tasks apart
pub is_valid_by : (tables : Tables) (tasks : List Task) → is_valid tables ≡ true
    → all_differ are_apart tasks ≡ true → nat_le (length tasks) MOST_TASKS ≡ true → list_all is_valid_task tasks ≡ true → is_valid (record tables { tasks = tasks }) ≡ true
is_valid_by tables tasks valid differ few good =
    let users = all_differ (λ (user : User). is_user user.identity) tables.users in
    let files = all_differ (λ (file : File). is_file file.name) tables.files in
    let dockets = all_differ (λ (docket : Docket). is_docket docket.regime.identity docket.regime.activity) tables.dockets in
    let own = all_differ are_apart tables.tasks in
    let some_users = nat_le (length tables.users) MOST_USERS in
    let some_files = nat_le (length tables.files) MOST_FILES in
    let some_dockets = nat_le (length tables.dockets) MOST_DOCKETS in
    let some_tasks = nat_le (length tables.tasks) MOST_TASKS in
    let octets = nat_le (octets_of_files tables.files) MOST_FILESTORE_OCTETS in
    let c = list_all is_valid_file tables.files in
    let d = list_all (is_valid_docket tables.files) tables.dockets in
    let e = all_differ exclude tables.dockets in
    let f = list_all is_valid_task tables.tasks in
    let a = have_keys tables in
    let b = are_within tables in
    let to_e = first_of (a && b && c && d && e) f valid in
    let to_d = first_of (a && b && c && d) e to_e in
    let to_c = first_of (a && b && c) d to_d in
    let to_b = first_of (a && b) c to_c in
    let keys_are : have_keys (record tables { tasks = tasks }) ≡ true = both (users && files && dockets) (all_differ are_apart tasks) (first_of (users && files && dockets) own (first_of a b to_b)) differ in
    let in_b = second_of a b to_b in
    let three = first_of (some_users && some_files && some_dockets) some_tasks (first_of (some_users && some_files && some_dockets && some_tasks) octets in_b) in
    let within_are : are_within (record tables { tasks = tasks }) ≡ true =
    both (some_users && some_files && some_dockets && nat_le (length tasks) MOST_TASKS) octets (both (some_users && some_files && some_dockets) (nat_le (length tasks) MOST_TASKS) three few)
    (second_of (some_users && some_files && some_dockets && some_tasks) octets in_b) in
    let a' = have_keys (record tables { tasks = tasks }) in
    let b' = are_within (record tables { tasks = tasks }) in
    both (a' && b' && c && d && e) (list_all is_valid_task tasks)
    (both (a' && b' && c && d) e (both (a' && b' && c) d (both (a' && b') c (both a' b' keys_are within_are) (second_of (a && b) c to_c)) (second_of (a && b && c) d to_d)) (second_of (a && b && c && d) e to_e)) good

-- what valid tables say of their tasks
pub record AreTasks (tables : Tables) : Type 0 where
  pub differ : all_differ are_apart tables.tasks ≡ true
  pub few : nat_le (length tables.tasks) MOST_TASKS ≡ true
  pub good : list_all is_valid_task tables.tasks ≡ true

pub are_tasks : (tables : Tables) → is_valid tables ≡ true → AreTasks tables
are_tasks tables valid =
    let c = list_all is_valid_file tables.files in
    let d = list_all (is_valid_docket tables.files) tables.dockets in
    let e = all_differ exclude tables.dockets in
    let f = list_all is_valid_task tables.tasks in
    let a = have_keys tables in
    let b = are_within tables in
    let some_three = nat_le (length tables.users) MOST_USERS && nat_le (length tables.files) MOST_FILES && nat_le (length tables.dockets) MOST_DOCKETS in
    let to_b = first_of (a && b) c (first_of (a && b && c) d (first_of (a && b && c && d) e (first_of (a && b && c && d && e) f valid))) in
    record {
      differ = second_of _ (all_differ are_apart tables.tasks) (first_of a b to_b);
      few = second_of some_three (nat_le (length tables.tasks) MOST_TASKS) (first_of (some_three && nat_le (length tables.tasks) MOST_TASKS) (nat_le (octets_of_files tables.files) MOST_FILESTORE_OCTETS) (second_of a b to_b));
      good = second_of (a && b && c && d && e) f valid;
    }

-- with another task in the place of the one of its activity
pub valid_put : (tables : Tables) (activity : ℕ) (old new : Task) → is_valid tables ≡ true → task_of activity tables ≡ Some old → new.plan.activity ≡ activity → is_valid_task new ≡ true → is_valid (with_one activity new tables) ≡ true
valid_put tables activity old new valid found of good =
    let m = is_task activity in
    let are = are_tasks tables valid in
    is_valid_by tables (put m new tables.tasks) valid (differ_put activity new of old tables.tasks found ∙ are.differ)
    (ap (λ (n : ℕ). nat_le n MOST_TASKS) (length_put m old new tables.tasks found) ∙ are.few) (all_put m is_valid_task new tables.tasks good are.good)

fewer : (n k most : ℕ) → n ≤ k → nat_le k most ≡ true → nat_le n most ≡ true
fewer n k most less few = grind (arith, nat_tests)

-- without it
pub valid_dropped : (tables : Tables) (activity : ℕ) → is_valid tables ≡ true → is_valid (record tables { tasks = dropped (is_task activity) tables.tasks }) ≡ true
valid_dropped tables activity valid =
    let m = is_task activity in
    let are = are_tasks tables valid in
    is_valid_by tables (dropped m tables.tasks) valid (differ_dropped m are_apart tables.tasks are.differ)
    (fewer (length (dropped m tables.tasks)) (length tables.tasks) MOST_TASKS (length_dropped m tables.tasks) are.few) (all_dropped m is_valid_task tables.tasks are.good)

-- a task that stands may be dropped
pub fit_dropped : (tables : Tables) (activity : ℕ) (task : Task) → task_of activity tables ≡ Some task → is_activity activity ≡ true → all_fit tables (DropTask activity ∷ []) ≡ true
fit_dropped tables activity task found good = rw found (both (is_activity activity && true) true (both (is_activity activity) true good refl) refl)

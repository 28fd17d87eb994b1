-- Tables that records may make keep tasks that a store may keep.
use Rattle.std.proofs.Common.{◌≡◌, ℕ, ◌+◌, Bool, true, ◌&&◌, List, [], ◌∷◌, ◌++◌, map, refl, sym, ◌∙◌, Some}
use Rattle.std.specs.List.{flat_map, list_all}
use Rattle.std.proofs.lemmas.List.Folds.{list_all-append, list_all-map}
use Rattle.vf_attr.specs.declared.file.File.{File}
use Rattle.vf_base.specs.declared.element.Element.{Element}
use Rattle.vf_initiator.proofs.TaskEntries.{both, first_of, second_of}
use Rattle.vf_initiator.specs.Keepable.{are_pieces, is_keepable}
use Rattle.vf_tables.specs.Entries.{is_task, task_of}
use Rattle.vf_tables.specs.Fitting.{is_activity, is_in_range, is_plan, is_sayable}
use Rattle.vf_tables.specs.Snapshot.{is_kept, snapshot, stages_of, task_stages_after, task_stages_of}
use Rattle.vf_tables.specs.Validity.{is_valid, is_valid_task}
use Rattle.vf_tables.specs.declared.change.Change.TheVariants.{PutUser, PutFile, PutDocket, PutTask}
use Rattle.vf_tables.specs.declared.docket.Docket.{Docket}
use Rattle.vf_tables.specs.declared.tables.Tables.{Tables}
use Rattle.vf_tables.specs.declared.task.Task.{Task}
use Rattle.vf_tables.specs.declared.task.Way.{Way}
use Rattle.vf_tables.specs.declared.user.User.{User}
use Rattle.vf_initiator.proofs.TaskChanges.{are_tasks}
use Rattle.vf_transact.proofs.NewTasks.{good_found}

module _ {A : Type 0} (p : A → Bool) where
  front : (xs ys : List A) → list_all p (xs ++ ys) ≡ true → list_all p xs ≡ true
  front xs ys all = first_of (list_all p xs) (list_all p ys) (sym (list_all-append p xs ys) ∙ all)

  back : (xs ys : List A) → list_all p (xs ++ ys) ≡ true → list_all p ys ≡ true
  back xs ys all = second_of (list_all p xs) (list_all p ys) (sym (list_all-append p xs ys) ∙ all)

pieces_by : (way : Way) (activity count : ℕ) (pieces : List (List Element)) → list_all is_in_range (task_stages_after way activity count pieces) ≡ true → are_pieces pieces ≡ true
pieces_by way activity count [] all = refl
pieces_by way activity count (piece ∷ pieces) all =
    let here = is_activity activity && list_all is_sayable piece in
    let later = list_all is_in_range (task_stages_after way activity (count + 1) pieces) in
    both (list_all is_sayable piece) (are_pieces pieces) (second_of (is_activity activity) (list_all is_sayable piece) (first_of here later all)) (pieces_by way activity (count + 1) pieces (second_of here later all))

all_pieces : (tasks : List Task) → list_all is_in_range (flat_map task_stages_of tasks) ≡ true → list_all (λ (task : Task). are_pieces task.staged) tasks ≡ true
all_pieces [] all = refl
all_pieces (task ∷ tasks) all =
    both (are_pieces task.staged) (list_all (λ (task : Task). are_pieces task.staged) tasks)
    (pieces_by task.plan.way task.plan.activity 0 task.staged (front is_in_range (task_stages_of task) (flat_map task_stages_of tasks) all))
    (all_pieces tasks (back is_in_range (task_stages_of task) (flat_map task_stages_of tasks) all))

pub keepable : (tables : Tables) (activity : ℕ) (task : Task) → is_kept tables ≡ true → task_of activity tables ≡ Some task → is_keepable task ≡ true
keepable tables activity task kept found =
    let m = is_task activity in
    let valid = first_of (is_valid tables) (list_all is_in_range (snapshot tables)) kept in
    let all = second_of (is_valid tables) (list_all is_in_range (snapshot tables)) kept in
    let users = map (λ (user : User). PutUser user) tables.users in
    let files = map (λ (file : File). PutFile file) tables.files in
    let dockets = map (λ (docket : Docket). PutDocket docket.regime) tables.dockets in
    let stages = flat_map stages_of tables.dockets in
    let rows = map (λ (task : Task). PutTask task.plan) tables.tasks in
    let pieces = flat_map task_stages_of tables.tasks in
    let second = back is_in_range users (files ++ (dockets ++ (stages ++ (rows ++ pieces)))) all in
    let third = back is_in_range files (dockets ++ (stages ++ (rows ++ pieces))) second in
    let fourth = back is_in_range dockets (stages ++ (rows ++ pieces)) third in
    let fifth = back is_in_range stages (rows ++ pieces) fourth in
    let plans : list_all (λ (task : Task). is_plan task.plan) tables.tasks ≡ true = sym (list_all-map is_in_range (λ (task : Task). PutTask task.plan) tables.tasks) ∙ front is_in_range rows pieces fifth in
    let staged = all_pieces tables.tasks (back is_in_range rows pieces fifth) in
    both (is_plan task.plan && are_pieces task.staged) (is_valid_task task)
    (both (is_plan task.plan) (are_pieces task.staged) (good_found m (λ (task : Task). is_plan task.plan) task tables.tasks found plans) (good_found m (λ (task : Task). are_pieces task.staged) task tables.tasks found staged))
    (good_found m is_valid_task task tables.tasks found (are_tasks tables valid).good)

-- A new task that a store may keep: its changes fit valid tables, and lead to valid ones that keep it.
use Rattle.std.proofs.Common.{◌≡◌, ℕ, suc, Bool, true, false, ◌&&◌, not, nat_eq, nat_le, if◌then◌else◌, List, [], ◌∷◌, length, find, refl, sym, ap, subst, ◌∙◌, arith, Option, None, Some}
use Rattle.std.specs.List.{list_all}
use Rattle.std.proofs.lemmas.Bool.Decides.{nat_tests}
use Rattle.vf_initiator.proofs.TaskChanges.{Leads, are_tasks, is_valid_by, leads_none, leads_stage, with_one}
use Rattle.vf_initiator.proofs.TaskEntries.{all_put, are_apart, both, first_of, second_of}
use Rattle.vf_initiator.specs.Assignments.{given_of}
use Rattle.vf_initiator.specs.Keepable.{LeadTo, are_pieces, is_keepable, with_kept}
use Rattle.vf_initiator.specs.Says.{beginning, task_at}
use Rattle.vf_initiator.specs.declared.plan.Plan.{Plan}
use Rattle.vf_initiator.specs.declared.plan.Task as tasks
use Rattle.vf_initiator.specs.declared.plan.Task.TheVariants as ways
use Rattle.vf_tables.specs.Changes.{after, after_all, staged_for}
use Rattle.vf_tables.specs.Entries.{is_task, put, task_of}
use Rattle.vf_tables.specs.Fitting.{all_fit, fits, is_activity, is_plan, is_sayable, is_within}
use Rattle.vf_tables.specs.Validity.{all_differ, is_valid, is_valid_task}
use Rattle.vf_tables.specs.declared.change.Change.{Change}
use Rattle.vf_tables.specs.declared.change.Change.TheVariants.{PutTask, StageTask}
use Rattle.vf_tables.specs.declared.limits.TheConstants.{MOST_EVERY, MOST_POINT, MOST_TASKS, MOST_TRANSFERS}
use Rattle.vf_tables.specs.declared.tables.Tables.{Tables}
use Rattle.vf_tables.specs.declared.task.Plan as kept
use Rattle.vf_tables.specs.declared.task.Task.{Task}
use Rattle.vf_transact.specs.Starting.{keeping_under}

-- ---- an entry that is put where none was meant

module _ {A : Type 0} (m : A → Bool) where
  abbrev found_in : Bool → A → List A → Option A
  found_in b x xs = if b then Some x else find m xs

  length_by : (e x : A) (xs : List A) (b : Bool) → found_in b x xs ≡ None → (find m xs ≡ None → length (put m e xs) ≡ suc (length xs)) → length (if b then e ∷ xs else x ∷ put m e xs) ≡ suc (suc (length xs))
  length_by e x xs true none rest = absurd cc
  length_by e x xs false none rest = ap suc (rest none)

  pub length_new : (e : A) (xs : List A) → find m xs ≡ None → length (put m e xs) ≡ suc (length xs)
  length_new e [] none = refl
  length_new e (x ∷ xs) none = length_by e x xs (m x) none (length_new e xs)

  -- one that is found is such as all are
  good_by : (p : A → Bool) (e x : A) (xs : List A) (b : Bool) → found_in b x xs ≡ Some e → p x ≡ true → (find m xs ≡ Some e → p e ≡ true) → p e ≡ true
  good_by p e x xs true found good rest = let same : x ≡ e = cc in ap p (sym same) ∙ good
  good_by p e x xs false found good rest = rest found

  pub good_found : (p : A → Bool) (e : A) (xs : List A) → find m xs ≡ Some e → list_all p xs ≡ true → p e ≡ true
  good_found p e [] found all = absurd cc
  good_found p e (x ∷ xs) found all = good_by p e x xs (m x) found (first_of (p x) (list_all p xs) all) (λ later. good_found p e xs later (second_of (p x) (list_all p xs) all))

apart_by : (a b : ℕ) → nat_eq b a ≡ false → not (nat_eq a b) ≡ true
apart_by a b other = let same : nat_eq a b ≡ false = grind (arith, nat_tests) in ap not same

module _ (activity : ℕ) (task : Task) (of : task.plan.activity ≡ activity) where
  abbrev meant : Task → Bool
  meant = is_task activity

  differ_by : (x : Task) (xs : List Task) (b : Bool) → meant x ≡ b → (let found : Option Task = if b then Some x else find meant xs in found) ≡ None → all_differ are_apart (x ∷ xs) ≡ true
      → (find meant xs ≡ None → all_differ are_apart (put meant task xs) ≡ true) → all_differ are_apart (if b then task ∷ xs else x ∷ put meant task xs) ≡ true
  differ_by x xs true is none all rest = absurd cc
  differ_by x xs false is none all rest =
      let p = λ (other : Task). not (are_apart x other) in
      let apart : p task ≡ true = apart_by x.plan.activity task.plan.activity (ap (λ (a : ℕ). nat_eq a x.plan.activity) of ∙ is) in
      both (list_all p (put meant task xs)) (all_differ are_apart (put meant task xs)) (all_put meant p task xs apart (first_of (list_all p xs) (all_differ are_apart xs) all)) (rest none)

  pub differ_new : (xs : List Task) → find meant xs ≡ None → all_differ are_apart xs ≡ true → all_differ are_apart (put meant task xs) ≡ true
  differ_new [] none all = refl
  differ_new (x ∷ xs) none all = differ_by x xs (meant x) refl none all (λ later. differ_new xs later (second_of (list_all (λ other. not (are_apart x other)) xs) (all_differ are_apart xs) all))

-- ---- tables stay valid with a task more

fewer : (count count' most : ℕ) → count' ≡ suc count → nat_le most count ≡ false → nat_le count' most ≡ true
fewer count count' most more room = grind (arith, nat_tests)

pub valid_new : (tables : Tables) (activity : ℕ) (task : Task) → is_valid tables ≡ true → task_of activity tables ≡ None → nat_le MOST_TASKS (length tables.tasks) ≡ false → task.plan.activity ≡ activity → is_valid_task task ≡ true
    → is_valid (with_one activity task tables) ≡ true
valid_new tables activity task valid none room of good =
    let m = is_task activity in
    let are = are_tasks tables valid in
    is_valid_by tables (put m task tables.tasks) valid (differ_new activity task of tables.tasks none are.differ)
    (fewer (length tables.tasks) (length (put m task tables.tasks)) MOST_TASKS (length_new m task tables.tasks none) room)
    (all_put m is_valid_task task tables.tasks good are.good)

-- ---- the changes of a new task

abbrev bare : kept.Plan → Task
bare row = record { plan = row; staged = [] }

row_first : (tables : Tables) (row : kept.Plan) → task_of row.activity tables ≡ None → after tables (PutTask row) ≡ with_one row.activity (bare row) tables
row_first tables row none =
    ap (λ (found : Option Task). record tables { tasks = put (is_task row.activity) (record { plan = row; staged = staged_for found }) tables.tasks }) none

row_then : (tables : Tables) (row : kept.Plan) (changes : List Change) (task : Task) → task_of row.activity tables ≡ None → is_plan row ≡ true → Leads tables row.activity (bare row) changes task → is_valid (with_one row.activity task tables) ≡ true
    → LeadTo tables (PutTask row ∷ changes) (with_one row.activity task tables)
row_then tables row changes task none good leads valid =
    let first = row_first tables row none in
    record {
      fit = both (fits tables (PutTask row)) (all_fit (after tables (PutTask row)) changes) (both (is_plan row) true good refl) (subst (λ (t : Tables). all_fit t changes ≡ true) (sym first) leads.fit);
      lead = ap (λ (t : Tables). after_all t changes) first ∙ leads.lead;
      valid = valid;
    }

itself : (a : ℕ) → nat_eq a a ≡ true
itself a = grind (arith, nat_tests)

-- the parts of a task that a store may keep
pub record Parts (task : Task) : Type 0 where
  pub row : is_plan task.plan ≡ true
  pub active : is_activity task.plan.activity ≡ true
  pub sayable : are_pieces task.staged ≡ true
  pub valid : is_valid_task task ≡ true

pub parts_of : (task : Task) → is_keepable task ≡ true → Parts task
parts_of task is =
    let plan = task.plan in
    let a = is_activity plan.activity in
    let b = is_within 1 3 plan.kind in
    let c = is_within 1 MOST_EVERY plan.every in
    let d = is_within 1 MOST_TRANSFERS plan.number in
    let two = first_of (is_plan plan && are_pieces task.staged) (is_valid_task task) is in
    let row = first_of (is_plan plan) (are_pieces task.staged) two in
    record {
      row = row;
      active = first_of a b (first_of (a && b) c (first_of (a && b && c) d (first_of (a && b && c && d) (nat_le plan.point MOST_POINT) row)));
      sayable = second_of (is_plan plan) (are_pieces task.staged) two;
      valid = second_of (is_plan plan && are_pieces task.staged) (is_valid_task task) is;
    }

module _ (identity : List ℕ) (password : Option (List ℕ)) (wanted : Option ℕ) (activity : ℕ) (tables : Tables) (valid : is_valid tables ≡ true) (none : task_of activity tables ≡ None) (room : nat_le MOST_TASKS (length tables.tasks) ≡ false) where
  abbrev plan_with : tasks.Task → Plan
  plan_with task = record { task = task; identity = identity; password = password; activity = wanted }

  abbrev new_task : tasks.Task → Task
  new_task task = task_at (given_of (plan_with task) None) (beginning (plan_with task) None) activity

  leads_by : (task : tasks.Task) → is_keepable (new_task task) ≡ true → LeadTo tables (keeping_under (plan_with task) (Some activity)) (with_kept activity (Some (new_task task)) tables)
  leads_by (ways.Put name kind every elements) is =
      let task = new_task (ways.Put name kind every elements) in
      let parts = parts_of task is in
      let sayable = first_of (list_all is_sayable elements) true parts.sayable in
      row_then tables task.plan (StageTask activity 0 elements ∷ []) task none parts.row
      (leads_stage tables activity 0 elements (bare task.plan) (itself activity) parts.active sayable refl) (valid_new tables activity task valid none room refl parts.valid)
  leads_by (ways.Get name kind every) is =
      let task = new_task (ways.Get name kind every) in
      let parts = parts_of task is in
      row_then tables task.plan [] task none parts.row (leads_none tables activity (bare task.plan) task refl) (valid_new tables activity task valid none room refl parts.valid)

-- the changes of a new task
pub new_leads : (plan : Plan) (activity : ℕ) (tables : Tables) → is_valid tables ≡ true → task_of activity tables ≡ None → nat_le MOST_TASKS (length tables.tasks) ≡ false
    → is_keepable (task_at (given_of plan None) (beginning plan None) activity) ≡ true
    → LeadTo tables (keeping_under plan (Some activity)) (with_kept activity (Some (task_at (given_of plan None) (beginning plan None) activity)) tables)
new_leads plan activity tables valid none room is = leads_by plan.identity plan.password plan.activity activity tables valid none room plan.task is

-- Which task is taken up is the one that the tables keep.
use Rattle.std.specs.Prelude.{is_ok, nat_le, if◌then◌else◌}
use Rattle.std.proofs.Common.{◌≡◌, ℕ, Bool, true, false, length, Option, Some, None, Result, Ok, Err, refl, sym, ap, ◌∙◌}
use Rattle.std.proofs.lemmas.Bool.{false≢true}
use Rattle.vf_tables.specs.Entries.{task_of}
use Rattle.vf_tables.specs.declared.limits.TheConstants.{MOST_TASKS}
use Rattle.vf_tables.specs.declared.tables.Tables.{Tables}
use Rattle.vf_tables.specs.declared.task.Task.{Task}
use Rattle.vf_transact.specs.Starting.{is_of, kept_in, refused, taken_up, taken_up_by, taken_up_under}
use Rattle.vf_transact.specs.declared.error.TransactError.{TransactError}
use Rattle.vf_transact.specs.declared.error.TransactError.TheVariants as errors
use Rattle.vf_transact.specs.declared.words.PlanWords.{PlanWords}

value_or : Option Task → Result (Option Task) TransactError → Option Task
value_or other (Ok task) = task
value_or other (Err error) = other

abbrev Found : Type 0
Found = Result (Option Task) TransactError

abbrev good : Option Task → Found
good task = Ok task

abbrev bad : TransactError → Found
bad error = Err error

same_value : (one other : Option Task) → good one ≡ good other → one ≡ other
unfolding value_or
same_value one other is = ap (value_or one) is

not_both : (error : TransactError) (task : Option Task) → bad error ≡ good task → ⊥
not_both error task is = false≢true (ap is_ok is)

by_test : (b : Bool) (task found : Option Task) (error : TransactError) → (if b then good task else bad error) ≡ good found → task ≡ found
by_test true task found error is = same_value task found is
by_test false task found error is = absurd (not_both error found is)

by_room : (b : Bool) (found : Option Task) (error : TransactError) → (if b then bad error else good None) ≡ good found → None ≡ found
by_room true found error is = absurd (not_both error found is)
by_room false found error is = same_value None found is

by_task : (words : PlanWords) (count : ℕ) (kept found : Option Task) → taken_up_under words count kept ≡ Ok found → kept ≡ found
by_task words count (Some task) found is = by_test (is_of words task.plan) (Some task) found errors.InUse is
by_task words count None found is = by_room (nat_le MOST_TASKS count) found (refused 35) is

by_activity : (words : PlanWords) (tables : Tables) (activity : Option ℕ) (found : Option Task) → taken_up_by words tables activity ≡ Ok found → kept_in activity tables ≡ found
by_activity words tables None found is = same_value None found is
by_activity words tables (Some activity) found is = by_task words (length tables.tasks) (task_of activity tables) found is

pub kept_is : (words : PlanWords) (tables : Tables) (found : Option Task) → taken_up words tables ≡ Ok found → kept_in words.activity tables ≡ found
kept_is words tables found is = by_activity words tables words.activity found is

-- ---- what is found is a task of these words, and none where there is room for it

abbrev pub IsFound : PlanWords → Tables → Task → Option ℕ → Type 0
IsFound words tables task None = ⊥
IsFound words tables task (Some activity) = (task_of activity tables ≡ Some task) × (is_of words task.plan ≡ true)

found_test : (words : PlanWords) (b : Bool) (other task : Task) (error : TransactError) → is_of words other.plan ≡ b → (if b then good (Some other) else bad error) ≡ good (Some task)
    → (let kept : Option Task = Some other in kept ≡ Some task) × (is_of words task.plan ≡ true)
found_test words true other task error of is =
    let found : Some other ≡ Some task = same_value (Some other) (Some task) is in
    let same : other ≡ task = cc in
    (found, ap (λ (t : Task). is_of words t.plan) (sym same) ∙ of)
found_test words false other task error of is = absurd (not_both error (Some task) is)

found_under : (words : PlanWords) (count : ℕ) (kept : Option Task) (task : Task) → taken_up_under words count kept ≡ Ok (Some task) → (kept ≡ Some task) × (is_of words task.plan ≡ true)
found_under words count (Some other) task is = found_test words (is_of words other.plan) other task errors.InUse refl is
found_under words count None task is = let none : None ≡ Some task = by_room (nat_le MOST_TASKS count) (Some task) (refused 35) is in absurd cc

found_by : (words : PlanWords) (tables : Tables) (task : Task) (activity : Option ℕ) → taken_up_by words tables activity ≡ Ok (Some task) → IsFound words tables task activity
found_by words tables task None is = let none : None ≡ Some task = same_value None (Some task) is in absurd cc
found_by words tables task (Some activity) is = found_under words (length tables.tasks) (task_of activity tables) task is

pub is_found : (words : PlanWords) (tables : Tables) (task : Task) → taken_up words tables ≡ Ok (Some task) → IsFound words tables task words.activity
is_found words tables task is = found_by words tables task words.activity is

abbrev pub HasRoom : Tables → Option ℕ → Type 0
HasRoom tables None = Unit {0}
HasRoom tables (Some activity) = (task_of activity tables ≡ None) × (nat_le MOST_TASKS (length tables.tasks) ≡ false)

room_test : (b : Bool) (error : TransactError) → (if b then bad error else good None) ≡ good None → b ≡ false
room_test true error is = absurd (not_both error None is)
room_test false error is = refl

room_under : (words : PlanWords) (count : ℕ) (kept : Option Task) → taken_up_under words count kept ≡ Ok None → (kept ≡ None) × (nat_le MOST_TASKS count ≡ false)
room_under words count (Some other) is = let none : Some other ≡ None = by_test (is_of words other.plan) (Some other) None errors.InUse is in absurd cc
room_under words count None is = (refl, room_test (nat_le MOST_TASKS count) (refused 35) is)

room_by : (words : PlanWords) (tables : Tables) (activity : Option ℕ) → taken_up_by words tables activity ≡ Ok None → HasRoom tables activity
room_by words tables None is = tt
room_by words tables (Some activity) is = room_under words (length tables.tasks) (task_of activity tables) is

pub has_room : (words : PlanWords) (tables : Tables) → taken_up words tables ≡ Ok None → HasRoom tables words.activity
has_room words tables is = room_by words tables words.activity is

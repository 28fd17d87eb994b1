-- What a task that is taken up begins its first connection with.
use Rattle.std.proofs.Common.{◌≡◌, ◌≤◌, ℕ, Bool, true, false, List, Option, None, Some, refl, sym, ap, ◌∙◌, is_some, arith}
use Rattle.vf_base.specs.declared.element.Element.{Element}
use Rattle.vf_initiator.specs.Assignments.{kind_in}
use Rattle.vf_initiator.specs.declared.plan.Plan.{Plan}
use Rattle.vf_tables.specs.declared.tables.Tables.{Tables}
use Rattle.vf_tables.specs.declared.task.Task.{Task}
use Rattle.vf_transact.specs.Connecting.{kept_when}
use Rattle.vf_transact.specs.Starting.{connections_by, connections_of, kept_in, plan_of, task_by}
use Rattle.vf_transact.specs.declared.words.PlanWords.{PlanWords}

kind_by : (put : Bool) (words : PlanWords) (elements : List Element) → kind_in (task_by put words elements) ≡ words.kind
kind_by true words elements = refl
kind_by false words elements = refl

pub kind_of : (words : PlanWords) (elements : List Element) (plan : Plan) → plan ≡ plan_of words elements → words.kind ≡ kind_in plan.task
kind_of words elements plan is = sym (ap (λ (p : Plan). kind_in p.task) is ∙ kind_by words.put words elements)

none_by : (kept : Option Task) → false ≡ is_some kept → kept ≡ None
none_by None is = refl
none_by (Some task) is = absurd (let no : false ≡ true = is in cc)

-- the task as it was kept, by whether it was
pub kept_of : (activity : Option ℕ) (tables tables' : Tables) (is_kept : Bool) → is_kept ≡ is_some (kept_in activity tables) → (is_kept ≡ true → tables' ≡ tables) → kept_in activity tables ≡ kept_when is_kept activity tables'
kept_of activity tables tables' true is same = ap (λ (t : Tables). kept_in activity t) (sym (same refl))
kept_of activity tables tables' false is same = none_by (kept_in activity tables) is

some_by : (activity : Option ℕ) (tries : ℕ) → 1 ≤ connections_by activity tries
some_by None tries = omega arith
some_by (Some activity) tries = omega arith

pub connections_some : (words : PlanWords) → 1 ≤ connections_of words
connections_some words = some_by words.activity words.tries

-- What the store keeps of a task that is taken up: one that was kept stands as it is kept, and the changes of a new one lead to the
-- tables that keep it.
use Rattle.std.specs.Prelude.{IfOk, if◌then◌else◌}
use Rattle.std.proofs.Common.{◌≡◌, ℕ, Bool, true, false, ◌&&◌, nat_eq, nat_le, List, [], ◌∷◌, Option, Some, None, Result, Ok, Err, inl, inr, refl, sym, ap, subst, ◌∙◌, append-nil, arith}
use Rattle.std.specs.Cmp.Lexicographic.{pointwise}
use Rattle.std.proofs.lemmas.Bool.Decides.{nat_tests}
use Rattle.std.proofs.lemmas.Slice.Eq.{bytes_eq-Decides}
use Rattle.vf_base.specs.declared.element.Element.{Element}
use Rattle.vf_initiator.proofs.Gathers.{AreKept, IsWithin, nothing_within, pieces_kept_of, within_by}
use Rattle.vf_initiator.proofs.TaskEntries.{both, first_of, found_meant, put_same, second_of}
use Rattle.vf_initiator.specs.Assignments.{file_in, given_of, kind_in, way_in}
use Rattle.vf_initiator.specs.Keepable.{BeginsKept, IsOwn, LeadTo, StandsAsKept, are_pieces, is_keepable, is_within_file, with_kept}
use Rattle.vf_initiator.specs.Says.{beginning, task_at, task_kept}
use Rattle.vf_initiator.specs.declared.conduct.Conduct.{Conduct}
use Rattle.vf_initiator.specs.declared.given.Given.{Given}
use Rattle.vf_initiator.specs.declared.plan.Plan.{Plan}
use Rattle.vf_store.proofs.Kept.{made_kept}
use Rattle.vf_store.specs.StoreState.{IsRepresented, StoreState}
use Rattle.vf_tables.specs.Entries.{is_task}
use Rattle.vf_tables.specs.Fitting.{is_activity, is_plan, is_short, is_within}
use Rattle.vf_tables.specs.Laws.{KeptStay}
use Rattle.vf_tables.specs.Snapshot.{is_kept, snapshot}
use Rattle.vf_tables.specs.Fitting.{is_in_range}
use Rattle.vf_tables.specs.Validity.{is_valid, is_valid_task}
use Rattle.vf_tables.specs.declared.limits.TheConstants.{MOST_EVERY}
use Rattle.vf_tables.specs.declared.tables.Tables.{Tables}
use Rattle.vf_tables.specs.declared.task.Task.{Task}
use Rattle.vf_tables.specs.declared.task.Way.{Way}
use Rattle.vf_tables.specs.declared.task.Way.TheVariants.{Get, Put}
use Rattle.std.specs.List.{list_all}
use Rattle.vf_transact.proofs.Found.{HasRoom, IsFound, has_room, is_found, kept_is}
use Rattle.vf_transact.proofs.Kept.{found, going_on}
use Rattle.vf_transact.proofs.KeptTables.{keepable}
use Rattle.vf_initiator.proofs.TaskChanges.{are_tasks}
use Rattle.vf_transact.proofs.NewTasks.{good_found, new_leads}
use Rattle.vf_transact.specs.Connecting.{KeepsAs, KeepsUnder}
use Rattle.vf_transact.specs.Conversation.{tables_at, tables_under, talk_begun}
use Rattle.vf_transact.specs.Starting.{BeginsNew, IsPlanned, IsTakenUp, TakenUp, TakesUp, are_words, elements_for, is_activity_wanted, is_of, is_same_way, kept_in, keeping_under, plan_of, taken_up, taken_up_new, taken_up_of, taken_up_with, taken_with, task_by, way_of}
use Rattle.vf_transact.specs.Transaction.{KeepsStore, first_kept, kept_new, tables_kept}
use Rattle.vf_transact.specs.declared.error.TransactError.{TransactError}
use Rattle.vf_transact.specs.declared.starting.Begun.{Begun}
use Rattle.vf_transact.specs.declared.words.PlanWords.{PlanWords}

-- ---- the tables of a store are valid

module _ {D : Type 0} (shown : D → Option (List ℕ)) (may_leave : D → List ℕ → Type 0) where
  pub represented_kept : KeptStay → (store : StoreState D) → IsRepresented shown may_leave store → is_kept store.tables ≡ true
  represented_kept stay store represented = made_kept stay represented.records store.tables represented.making

  pub represented_valid : KeptStay → (store : StoreState D) → IsRepresented shown may_leave store → is_valid store.tables ≡ true
  represented_valid stay store represented = first_of (is_valid store.tables) (list_all is_in_range (snapshot store.tables)) (represented_kept stay store represented)

-- ---- tables that keep a task as it stands, where it goes on

at_none : (given : Given) (c : Conduct) (tables : Tables) → given.assignment.activity ≡ None → tables_at given c tables ≡ tables
at_none given c tables is = ap (λ (a : Option ℕ). tables_under a given c tables) is

module _ (plan : Plan) (task : Option Task) (tables : Tables) (activity : ℕ) where
  -- before anything is heard
  at_some : plan.activity ≡ Some activity → tables_at (given_of plan task) (beginning plan task) tables ≡ with_kept activity (Some (task_at (given_of plan task) (beginning plan task) activity)) tables
  at_some is =
      let given = given_of plan task in
      let c = beginning plan task in
      ap (λ (a : Option ℕ). tables_under a given c tables) is ∙ ap (λ (t : Option Task). with_kept activity t tables) (going_on given c activity is refl)

-- ---- a task that was kept

same_way : (one other : Way) → is_same_way one other ≡ true → one ≡ other
same_way Get Get is = refl
same_way Get Put is = absurd cc
same_way Put Get is = absurd cc
same_way Put Put is = refl

way_is : (words : PlanWords) (put : Bool) → (if put then Put else Get) ≡ way_in (task_by put words [])
way_is words true = refl
way_is words false = refl

kind_is : (words : PlanWords) (put : Bool) → words.kind ≡ kind_in (task_by put words [])
kind_is words true = refl
kind_is words false = refl

file_is : (words : PlanWords) (put : Bool) → words.name ≡ file_in (task_by put words [])
file_is words true = refl
file_is words false = refl

same_number : (a b : ℕ) → nat_eq a b ≡ true → a ≡ b
same_number a b is = grind (arith, nat_tests)

is_own : (words : PlanWords) (task : Task) (activity : ℕ) → nat_eq activity task.plan.activity ≡ true → is_of words task.plan ≡ true → IsOwn (plan_of words []) task activity
is_own words task activity under of =
    let a = is_same_way task.plan.way (way_of words) in
    let b = nat_eq task.plan.kind words.kind in
    let c = pointwise nat_eq task.plan.file words.name in
    record {
      under = sym (same_number activity task.plan.activity under);
      way = same_way task.plan.way (way_of words) (first_of a b (first_of (a && b) c of)) ∙ way_is words words.put;
      kind = same_number task.plan.kind words.kind (second_of a b (first_of (a && b) c of)) ∙ kind_is words words.put;
      file = (bytes_eq-Decides task.plan.file words.name).0 (second_of (a && b) c of) ∙ file_is words words.put;
    }

abbrev pub Same : Type 0
Same = (plan : Plan) (task : Task) (activity : ℕ) → StandsAsKept plan task activity

abbrev pub Begins : Type 0
Begins = (plan : Plan) (task : Option Task) (activity : ℕ) → BeginsKept plan task activity

-- the tables keep the task as it is before anything is heard
abbrev pub KeepsBegun : Plan → Option Task → Tables → Type 0
KeepsBegun plan task tables = KeepsAs (given_of plan task) (talk_begun plan task) tables

stands_by : Same → (words : PlanWords) (tables : Tables) (task : Task) (wanted : Option ℕ) → words.activity ≡ wanted → IsFound words tables task wanted → is_valid tables ≡ true
    → tables_kept (record { plan = plan_of words []; kept = Some task }) tables ≡ tables
stands_by same words tables task None is found valid = absurd found
stands_by same words tables task (Some activity) is found valid =
    let plan = plan_of words [] in
    let m = is_task activity in
    let own = is_own words task activity (found_meant m task tables.tasks found.0) found.1 in
    let good = good_found m is_valid_task task tables.tasks found.0 (are_tasks tables valid).good in
    at_some plan (Some task) tables activity is
    ∙ ap (λ (t : Task). with_kept activity (Some t) tables) (same plan task activity own good)
    ∙ ap (λ (tasks : List Task). record tables { tasks = tasks }) (put_same m task tables.tasks found.0)

-- it is kept as it is
pub stands : Same → (words : PlanWords) (tables : Tables) (task : Task) → taken_up words tables ≡ Ok (Some task) → is_valid tables ≡ true → tables_kept (record { plan = plan_of words []; kept = Some task }) tables ≡ tables
stands same words tables task is valid = stands_by same words tables task words.activity refl (is_found words tables task is) valid

begins_by : Same → Begins → (words : PlanWords) (tables : Tables) (task : Task) (wanted : Option ℕ) → words.activity ≡ wanted → IsFound words tables task wanted → is_kept tables ≡ true
    → KeepsUnder (given_of (plan_of words []) (Some task)) (talk_begun (plan_of words []) (Some task)) wanted tables
begins_by same begins words tables task None is found kept = tt
begins_by same begins words tables task (Some activity) is found kept =
    let plan = plan_of words [] in
    let given = given_of plan (Some task) in
    let c = beginning plan (Some task) in
    let m = is_task activity in
    let good = keepable tables activity task kept found.0 in
    let as_is = same plan task activity (is_own words task activity (found_meant m task tables.tasks found.0) found.1) (second_of _ (is_valid_task task) good) in (
      found.0 ∙ sym (going_on given c activity is refl ∙ ap (λ (t : Task). let o : Option Task = Some t in o) as_is),
      begins plan (Some task) activity is (ap is_keepable as_is ∙ good),
    )

-- and a connection may begin with it
pub begins_kept : Same → Begins → (words : PlanWords) (tables : Tables) (task : Task) → taken_up words tables ≡ Ok (Some task) → is_kept tables ≡ true → KeepsBegun (plan_of words []) (Some task) tables
begins_kept same begins words tables task is kept =
    (first_of (is_valid tables) (list_all is_in_range (snapshot tables)) kept, begins_by same begins words tables task words.activity refl (is_found words tables task is) kept)

-- ---- a new one

within_pieces : (elements : List Element) → is_within_file elements ≡ true → AreKept (elements ∷ [])
within_pieces elements within = pieces_kept_of (elements ∷ []) (subst IsWithin (sym (append-nil elements)) (within_by elements within))

module _ (words : PlanWords) (elements : List Element) (activity : ℕ) (active : is_activity activity ≡ true) (kind : is_within 1 3 words.kind ≡ true) (every : is_within 1 MOST_EVERY words.every ≡ true) where
  abbrev plan_put : Bool → Plan
  plan_put put = record { task = task_by put words elements; identity = words.identity; password = words.password; activity = words.activity }

  abbrev new_task : Bool → Task
  new_task put = task_at (given_of (plan_put put) None) (beginning (plan_put put) None) activity

  keepable_by : (task : Task) → is_plan task.plan ≡ true → (are : AreKept task.staged) → is_valid_task task ≡ true → is_keepable task ≡ true
  keepable_by task row are valid = both (is_plan task.plan && are_pieces task.staged) (is_valid_task task) (both (is_plan task.plan) (are_pieces task.staged) row are.sayable) valid

  row_good : (is_activity activity && is_within 1 3 words.kind && is_within 1 MOST_EVERY words.every && true && true) ≡ true
  row_good =
      let a = is_activity activity in
      let b = is_within 1 3 words.kind in
      let c = is_within 1 MOST_EVERY words.every in
      both (a && b && c && true) true (both (a && b && c) true (both (a && b) c (both a b active kind) every) refl) refl

  new_keepable : (put : Bool) → is_within_file elements ≡ true → is_keepable (new_task put) ≡ true
  new_keepable true within =
      let are = within_pieces elements within in
      keepable_by (new_task true) row_good are (both _ _ (both _ _ are.short are.octets) are.parts)
  new_keepable false within = keepable_by (new_task false) row_good (pieces_kept_of [] nothing_within) refl

-- the parts of words in their ranges
pub record Ranges (words : PlanWords) : Type 0 where
  pub kind : is_within 1 3 words.kind ≡ true
  pub every : is_within 1 MOST_EVERY words.every ≡ true
  pub active : is_activity_wanted words.activity ≡ true

pub ranges_of : (words : PlanWords) → are_words words ≡ true → Ranges words
ranges_of words are =
    let a = is_within 1 3 words.kind in
    let b = is_within 1 MOST_EVERY words.every in
    let c = is_short words.password in
    let d = is_activity_wanted words.activity in
    let to_d = first_of (a && b && c && d) (nat_le words.tries 100) are in
    let to_b = first_of (a && b) c (first_of (a && b && c) d to_d) in
    record { kind = first_of a b to_b; every = second_of a b to_b; active = second_of (a && b && c) d to_d }

leads_by : (words : PlanWords) (elements : List Element) (tables : Tables) (wanted : Option ℕ) → words.activity ≡ wanted → are_words words ≡ true → is_within_file elements ≡ true → is_valid tables ≡ true → HasRoom tables wanted
    → LeadTo tables (keeping_under (plan_of words elements) wanted) (kept_new (plan_of words elements) tables)
leads_by words elements tables None is are within valid room =
    record { fit = refl; lead = sym (at_none (given_of (plan_of words elements) None) (beginning (plan_of words elements) None) tables is); valid = ap is_valid (at_none (given_of (plan_of words elements) None) (beginning (plan_of words elements) None) tables is) ∙ valid }
leads_by words elements tables (Some activity) is are within valid room =
    let plan = plan_of words elements in
    let ranges = ranges_of words are in
    let active : is_activity activity ≡ true = ap is_activity_wanted (sym is) ∙ ranges.active in
    let good = new_keepable words elements activity active ranges.kind ranges.every words.put within in
    subst (λ (t : Tables). LeadTo tables (keeping_under plan (Some activity)) t) (sym (at_some plan None tables activity is)) (new_leads plan activity tables valid room.0 room.1 good)

-- its changes lead to the tables that keep it
pub leads : (words : PlanWords) (elements : List Element) (tables : Tables) → are_words words ≡ true → is_within_file elements ≡ true → is_valid tables ≡ true → taken_up words tables ≡ Ok None
    → LeadTo tables (keeping_under (plan_of words elements) words.activity) (kept_new (plan_of words elements) tables)
leads words elements tables are within valid is = leads_by words elements tables words.activity refl are within valid (has_room words tables is)

module _ (begins : Begins) (words : PlanWords) (elements : List Element) (tables : Tables) where
  abbrev new_plan : Plan
  new_plan = plan_of words elements

  begins_new_by : (wanted : Option ℕ) → words.activity ≡ wanted → are_words words ≡ true → is_within_file elements ≡ true → KeepsUnder (given_of new_plan None) (talk_begun new_plan None) wanted (tables_under wanted (given_of new_plan None) (beginning new_plan None) tables)
  begins_new_by None is are within = tt
  begins_new_by (Some activity) is are within =
      let given = given_of new_plan None in
      let c = beginning new_plan None in
      let ranges = ranges_of words are in
      let active : is_activity activity ≡ true = ap is_activity_wanted (sym is) ∙ ranges.active in
      let good = new_keepable words elements activity active ranges.kind ranges.every words.put within in
      (found given c activity tables (task_kept given c) (going_on given c activity is refl), begins new_plan None activity is good)

  -- a connection may begin with it
  pub begins_new : are_words words ≡ true → is_within_file elements ≡ true → is_valid tables ≡ true → taken_up words tables ≡ Ok None → KeepsBegun new_plan None (kept_new new_plan tables)
  begins_new are within valid is = ((leads words elements tables are within valid is).valid, begins_new_by words.activity refl are within)

-- ---- what is taken up

abbrev pub taken_of : Plan → Option Task → TakenUp
taken_of plan task = record { plan = plan; kept = task }

-- it is the plan, with its task as the tables keep it
pub taken_is : (words : PlanWords) (tables : Tables) (elements : List Element) (found : Option Task) (plan : Plan) → taken_up words tables ≡ Ok found → plan ≡ plan_of words elements → taken_of (plan_of words elements) found ≡ taken_with plan tables
taken_is words tables elements found plan is planned =
    let kept : kept_in plan.activity tables ≡ found = ap (λ (p : Plan). kept_in p.activity tables) planned ∙ kept_is words tables found is in
    ap (λ (p : Plan). taken_of p found) (sym planned) ∙ ap (λ (task : Option Task). taken_of plan task) (sym kept)

pub takes_up_new : (words : PlanWords) (tables : Tables) (octets : List ℕ) (result : Result Begun TransactError) → taken_up words tables ≡ Ok None → BeginsNew words (elements_for words octets) result → TakesUp (taken_up_of words tables octets) tables result
takes_up_new words tables octets (Ok begun) is begins =
    let same = taken_is words tables begins.0 None begun.plan is begins.2.plan in (
      ap (taken_up_with words octets) is ∙ ap (taken_up_new words) begins.1 ∙ ap (λ (taken : TakenUp). let r : Result TakenUp TransactError = Ok taken in r) same,
      subst (λ (taken : TakenUp). IsTakenUp taken begun) same begins.2,
    )
takes_up_new words tables octets (Err error) is (inl refused) = inl (ap (taken_up_with words octets) is ∙ ap (taken_up_new words) refused)
takes_up_new words tables octets (Err error) is (inr interrupted) = inr interrupted

-- what is kept of a new task before the first connection
pub new_trail : (words : PlanWords) (tables : Tables) (meant : Result (List Element) TransactError) (elements : List Element) (plan : Plan) → meant ≡ Ok elements → plan ≡ plan_of words elements → kept_new plan tables ∷ [] ≡ first_kept (taken_up_new words meant) tables
new_trail words tables meant elements plan is planned =
    ap (λ (p : Plan). kept_new p tables ∷ []) planned ∙ sym (ap (λ (m : Result (List Element) TransactError). first_kept (taken_up_new words m) tables) is)

-- ---- the changes of a plan that was made, and what is so in a store

pub leads_planned : (words : PlanWords) (elements : List Element) (tables : Tables) (plan : Plan) → plan ≡ plan_of words elements → are_words words ≡ true → is_within_file elements ≡ true → is_valid tables ≡ true → taken_up words tables ≡ Ok None
    → LeadTo tables (keeping_under plan words.activity) (kept_new plan tables)
leads_planned words elements tables plan planned are within valid none =
    subst (λ (p : Plan). LeadTo tables (keeping_under p words.activity) (kept_new p tables)) (sym planned) (leads words elements tables are within valid none)

abbrev pub IsOfWords : PlanWords → Begun → Type 0
IsOfWords words begun = ((elements : List Element) × (begun.plan ≡ plan_of words elements)) × (begun.is_kept ≡ false)

module _ {D : Type 0} (shown : D → Option (List ℕ)) (may_leave : D → List ℕ → Type 0) (moment : D → ℕ) (left_since : D → ℕ → List ℕ → Type 0) (words : PlanWords) (tables : Tables) (none : taken_up words tables ≡ Ok None) (old new : StoreState D) where
  abbrev KeepsAll : Tables → Type 0
  KeepsAll tables' = KeepsStore shown may_leave moment left_since old new (tables' ∷ []) tables' false

  pub new_kept : (result : Result Begun TransactError) → IfOk result (λ begun. KeepsAll (kept_new begun.plan tables)) → IfOk result (IsOfWords words) → IfOk result (λ begun. KeepsAll (tables_kept (taken_with begun.plan tables) tables))
  new_kept (Ok begun) keeps of =
      let same = taken_is words tables of.0.0 None begun.plan none of.0.1 in
      subst KeepsAll (ap (λ (p : Plan). kept_new p tables) of.0.1 ∙ ap (λ (taken : TakenUp). tables_kept taken tables) same) keeps
  new_kept (Err error) keeps of = tt

  pub new_begins : Begins → are_words words ≡ true → is_valid tables ≡ true → (result : Result Begun TransactError) → IfOk result (λ begun. KeepsAll (kept_new begun.plan tables)) → IfOk result (IsPlanned words)
      → IfOk result (λ begun. KeepsBegun begun.plan (kept_in begun.plan.activity tables) new.tables)
  new_begins begins are valid (Ok begun) keeps planned =
      let plan = plan_of words planned.elements in
      let same = taken_is words tables planned.elements None begun.plan none planned.plan in
      let now : kept_new plan tables ≡ new.tables = ap (λ (p : Plan). kept_new p tables) (sym planned.plan) ∙ sym (keeps.stands refl).1 in
      subst (λ (taken : TakenUp). KeepsBegun taken.plan taken.kept new.tables) same (subst (λ (t : Tables). KeepsBegun plan None t) now (begins_new begins words planned.elements tables are planned.within valid none))
  new_begins begins are valid (Err error) keeps planned = tt

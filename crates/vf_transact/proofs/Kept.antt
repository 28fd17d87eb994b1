-- A task that is kept as it stands, from a piece to the next one.
use Rattle.std.proofs.Common.{◌≡◌, ℕ, Bool, true, List, [], ◌++◌, Option, Some, None, refl, sym, ap, subst, ◌∙◌, arith, nat_eq, ◌&&◌}
use Rattle.vf_initiator.specs.Assignments.{given_of}
use Rattle.vf_initiator.specs.Keepable.{BeginsKept, IsOwn, LeadTo, MayKeep, StandsAsKept, TakesKept, are_pieces, is_keepable, with_kept}
use Rattle.vf_initiator.specs.Keeping.{changes_by, changes_since, mark_of}
use Rattle.vf_initiator.specs.Represents.{resumed}
use Rattle.vf_initiator.specs.Says.{beginning, activity_after, activity_kept, doing_in, doing_of, task_at, task_kept, task_under}
use Rattle.vf_initiator.specs.Talking.{Takes, Talk}
use Rattle.vf_initiator.specs.declared.conduct.Conduct.{Conduct}
use Rattle.vf_initiator.specs.declared.doing.Doing.{Doing}
use Rattle.vf_initiator.specs.declared.doing.Doing.TheVariants.{Going, Ended, Failed}
use Rattle.vf_initiator.specs.declared.doing.TaskError.{TaskError}
use Rattle.vf_initiator.specs.declared.doing.TaskError.TheVariants.{Refused, PeerFault, PeerAbort, OutOfPlace, Budget}
use Rattle.vf_initiator.specs.declared.given.Given.{Given}
use Rattle.vf_initiator.specs.declared.plan.Plan.{Plan}
use Rattle.std.proofs.lemmas.Bool.Decides.{nat_tests}
use Rattle.vf_initiator.proofs.TaskEntries.{find_put, second_of}
use Rattle.vf_tables.specs.Entries.{is_task, task_of}
use Rattle.vf_tables.specs.declared.task.Task.{Task}
use Rattle.vf_tables.specs.Fitting.{is_plan}
use Rattle.vf_tables.specs.Validity.{is_valid, is_valid_task}
use Rattle.vf_tables.specs.declared.change.Change.{Change}
use Rattle.vf_tables.specs.declared.tables.Tables.{Tables}
use Rattle.vf_transact.specs.Connecting.{GoesOn, KeepsAs, KeepsUnder}
use Rattle.vf_transact.specs.Conversation.{tables_at, tables_under, talk_begun}
use Rattle.vf_transact.specs.Starting.{kept_in}

-- without an activity nothing is kept, however a task stands
failed_none : (error : TaskError) → activity_after (Failed error) None ≡ None
failed_none (Refused diagnostic) = refl
failed_none (PeerFault layer name at) = refl
failed_none (PeerAbort number) = refl
failed_none (OutOfPlace after) = refl
failed_none Budget = refl

never_kept : (how : Doing) → activity_after how None ≡ None
never_kept Going = refl
never_kept Ended = refl
never_kept (Failed error) = failed_none error

no_changes : (given : Given) (talk after : Talk) → given.assignment.activity ≡ None → changes_since given (mark_of given talk.conduct) after.conduct ≡ []
no_changes given talk after none =
    let before : activity_kept talk.conduct.stage given.assignment.activity ≡ None = ap (λ (a : Option ℕ). activity_after (doing_in talk.conduct.stage) a) none ∙ never_kept (doing_in talk.conduct.stage) in
    ap (λ (a : Option ℕ). changes_by given (mark_of given talk.conduct) after.conduct a (activity_kept after.conduct.stage a)) before

abbrev pub Law : Type 0
Law = (given : Given) (offer : Bool) (activity : ℕ) (talk : Talk) (piece octets : List ℕ) (talk' : Talk) → TakesKept given offer activity talk piece octets talk'

leads_by : Law → (given : Given) (offer : Bool) (talk : Talk) (piece octets : List ℕ) (after : Talk) (tables : Tables) (activity : Option ℕ) → given.assignment.activity ≡ activity → is_valid tables ≡ true
    → KeepsUnder given talk activity tables → Takes given offer (resumed talk) piece octets after → LeadTo tables (changes_since given (mark_of given talk.conduct) after.conduct) (tables_under activity given after.conduct tables)
leads_by law given offer talk piece octets after tables None is valid keeps takes =
    subst (λ (changes : List Change). LeadTo tables changes tables) (sym (no_changes given talk after is)) (record { fit = refl; lead = refl; valid = valid })
leads_by law given offer talk piece octets after tables (Some activity) is valid keeps takes = (law given offer activity talk piece octets after is keeps.1 takes).1 tables valid keeps.0

-- the changes of a piece lead to the tables with the task as it then stands
pub leads : Law → (given : Given) (offer : Bool) (talk : Talk) (piece octets : List ℕ) (after : Talk) (tables : Tables) → KeepsAs given talk tables → Takes given offer (resumed talk) piece octets after
    → LeadTo tables (changes_since given (mark_of given talk.conduct) after.conduct) (tables_at given after.conduct tables)
leads law given offer talk piece octets after tables keeps takes = leads_by law given offer talk piece octets after tables given.assignment.activity refl keeps.0 keeps.1 takes

-- ---- and these keep it so, where it goes on

pub going_on : (given : Given) (c : Conduct) (activity : ℕ) → given.assignment.activity ≡ Some activity → doing_of c ≡ Going → task_kept given c ≡ Some (task_at given c activity)
going_on given c activity is going =
    ap (λ (how : Doing). task_under given c (activity_after how given.assignment.activity)) going ∙ ap (λ (a : Option ℕ). task_under given c a) is

same_activity : (activity : ℕ) → nat_eq activity activity ≡ true
same_activity activity = grind (arith, nat_tests)

pub found : (given : Given) (c : Conduct) (activity : ℕ) (tables : Tables) (task : Option Task) → task ≡ Some (task_at given c activity) → task_of activity (with_kept activity task tables) ≡ task
found given c activity tables task is =
    subst (λ (t : Option Task). task_of activity (with_kept activity t tables) ≡ t) (sym is) (find_put (is_task activity) (task_at given c activity) tables.tasks (same_activity activity))

under_by : Law → (given : Given) (offer : Bool) (talk : Talk) (piece octets : List ℕ) (after : Talk) (tables : Tables) (activity : Option ℕ) → given.assignment.activity ≡ activity
    → KeepsUnder given talk activity tables → Takes given offer (resumed talk) piece octets after → doing_of after.conduct ≡ Going → KeepsUnder given after activity (tables_under activity given after.conduct tables)
under_by law given offer talk piece octets after tables None is keeps takes going = tt
under_by law given offer talk piece octets after tables (Some activity) is keeps takes going =
    let kept = going_on given after.conduct activity is going in
    (found given after.conduct activity tables (task_kept given after.conduct) kept, (law given offer activity talk piece octets after is keeps.1 takes).0)

pub goes_on : Law → (given : Given) (offer : Bool) (talk : Talk) (piece octets : List ℕ) (after : Talk) (tables : Tables) → KeepsAs given talk tables → Takes given offer (resumed talk) piece octets after → doing_of after.conduct ≡ Going
    → KeepsAs given after (tables_at given after.conduct tables)
goes_on law given offer talk piece octets after tables keeps takes going =
    ((leads law given offer talk piece octets after tables keeps takes).valid, under_by law given offer talk piece octets after tables given.assignment.activity refl keeps.1 takes going)

-- of changes that were appended to none
pub leads_for : Law → (given : Given) (offer : Bool) (talk : Talk) (piece octets : List ℕ) (after : Talk) (tables : Tables) (none changes : List Change) → none ≡ [] → changes ≡ none ++ changes_since given (mark_of given talk.conduct) after.conduct
    → KeepsAs given talk tables → Takes given offer (resumed talk) piece octets after → LeadTo tables changes (tables_at given after.conduct tables)
leads_for law given offer talk piece octets after tables none changes empty is keeps takes =
    let same : changes ≡ changes_since given (mark_of given talk.conduct) after.conduct = is ∙ ap (λ (l : List Change). l ++ changes_since given (mark_of given talk.conduct) after.conduct) empty in
    subst (λ (l : List Change). LeadTo tables l (tables_at given after.conduct tables)) (sym same) (leads law given offer talk piece octets after tables keeps takes)

-- ---- the next connection begins with the task as the tables keep it

abbrev pub SameLaw : Type 0
SameLaw = (plan : Plan) (task : Task) (activity : ℕ) → StandsAsKept plan task activity

abbrev pub BegunLaw : Type 0
BegunLaw = (plan : Plan) (task : Option Task) (activity : ℕ) → BeginsKept plan task activity

-- a connection that begins with the task as it is kept
abbrev Begins : Plan → Option Task → (activity : ℕ) → Tables → Type 0
Begins plan kept activity tables =
    (task_of activity tables ≡ task_kept (given_of plan kept) (beginning plan kept)) × MayKeep (given_of plan kept) activity (beginning plan kept)

begins_with : SameLaw → BegunLaw → (plan : Plan) (task : Task) (activity : ℕ) (tables : Tables) → plan.activity ≡ Some activity → IsOwn plan task activity → is_keepable task ≡ true → task_of activity tables ≡ Some task → Begins plan (Some task) activity tables
begins_with same begun plan task activity tables is own keepable found =
    let valid : is_valid_task task ≡ true = second_of (is_plan task.plan && are_pieces task.staged) (is_valid_task task) keepable in
    let whole : task_at (given_of plan (Some task)) (beginning plan (Some task)) activity ≡ task = same plan task activity own valid in (
      found ∙ sym (going_on (given_of plan (Some task)) (beginning plan (Some task)) activity is refl ∙ ap Some whole),
      begun plan (Some task) activity is (subst (λ (t : Task). is_keepable t ≡ true) (sym whole) keepable),
    )

again_by : SameLaw → BegunLaw → (plan : Plan) (kept : Option Task) (talk : Talk) (tables : Tables) (activity : Option ℕ) → plan.activity ≡ activity → doing_of talk.conduct ≡ Going → KeepsUnder (given_of plan kept) talk activity tables
    → KeepsUnder (given_of plan (kept_in activity tables)) (talk_begun plan (kept_in activity tables)) activity tables
again_by same begun plan kept talk tables None is going keeps = tt
again_by same begun plan kept talk tables (Some activity) is going keeps =
    let task = task_at (given_of plan kept) talk.conduct activity in
    let found : task_of activity tables ≡ Some task = keeps.0 ∙ going_on (given_of plan kept) talk.conduct activity is going in
    let own : IsOwn plan task activity = record { under = refl; way = refl; kind = refl; file = refl } in
    subst (λ (k : Option Task). Begins plan k activity tables) (sym found) (begins_with same begun plan task activity tables is own keeps.1.keepable found)

pub keeps_again : SameLaw → BegunLaw → (plan : Plan) (kept : Option Task) (tables : Tables) → GoesOn (given_of plan kept) tables
    → KeepsAs (given_of plan (kept_in plan.activity tables)) (talk_begun plan (kept_in plan.activity tables)) tables
keeps_again same begun plan kept tables on = (on.keeps.0, again_by same begun plan kept on.talk tables plan.activity refl on.going on.keeps.1)

-- Where a record would end for which the disk is full.
use Rattle.std.proofs.Common.{◌≡◌, ℕ, Bool, true, false, List, Option, None, Some, Result, Ok, Err, refl, sym, ap, subst, ◌∙◌, nat_le, length, if◌then◌else◌}
use Rattle.std.proofs.lemmas.Bool.{false≢true}
use Rattle.vf_journal.specs.declared.error.JournalError.{JournalError}
use Rattle.vf_journal.specs.declared.error.JournalError.TheVariants as stores
use Rattle.vf_store.specs.Answers.{CommitAnswers}
use Rattle.vf_store.specs.Commit.{placed}
use Rattle.vf_store.specs.StoreState.{IsRepresented, StoreState}
use Rattle.vf_tables.specs.Entries.{task_of}
use Rattle.vf_tables.specs.declared.change.Change.{Change}
use Rattle.vf_tables.specs.declared.limits.TheConstants.{MOST_TASKS}
use Rattle.vf_tables.specs.declared.tables.Tables.{Tables}
use Rattle.vf_tables.specs.declared.task.Task.{Task}
use Rattle.vf_transact.specs.Starting.{is_of, of_input, refused, taken_up, taken_up_by, taken_up_under}
use Rattle.vf_transact.specs.Transaction.{AtFull, EndsOn}
use Rattle.vf_transact.specs.Writing.{HasCause}
use Rattle.vf_transact.specs.declared.error.TransactError.{TransactError}
use Rattle.vf_transact.specs.declared.error.TransactError.TheVariants as errors
use Rattle.vf_transact.specs.declared.words.PlanWords.{PlanWords}

pub full_weaker : (error : TransactError) (P Q : ℕ → Type 0) → ((place : ℕ) → P place → Q place) → AtFull error P → AtFull error Q
full_weaker (errors.Task error) P Q weaken at = tt
full_weaker (errors.Broken connections) P Q weaken at = tt
full_weaker errors.InUse P Q weaken at = tt
full_weaker errors.InputFault P Q weaken at = tt
full_weaker errors.OutputFault P Q weaken at = tt
full_weaker (errors.Store (stores.NotAStore place found expected)) P Q weaken at = tt
full_weaker (errors.Store (stores.Full place bound)) P Q weaken at = weaken place at
full_weaker (errors.Store stores.DiskFault) P Q weaken at = tt
full_weaker (errors.Store stores.NoMemory) P Q weaken at = tt
full_weaker errors.NoMemory P Q weaken at = tt

-- by a commit
pub commit_full : {D : Type 0} (old new : StoreState D) (changes : List Change) (limit before now : ℕ) (error : JournalError) → CommitAnswers {S = StoreState D} {T = Unit {0}} old new (placed old.journal old.tables changes).end limit before now (Err error)
    → AtFull (errors.Store error) (λ place. (place ≡ (placed old.journal old.tables changes).end) × (new ≡ old))
commit_full old new changes limit before now (stores.NotAStore place found expected) answers = tt
commit_full old new changes limit before now (stores.Full place bound) answers = (answers.1, answers.3)
commit_full old new changes limit before now stores.DiskFault answers = tt
commit_full old new changes limit before now stores.NoMemory answers = tt

-- over its disk
pub full_on : {D : Type 0} (shown : D → Option (List ℕ)) (may_leave : D → List ℕ → Type 0) (old new : StoreState D) (changes changes' : List Change) (error : TransactError) → IsRepresented shown may_leave old → changes ≡ changes'
    → AtFull error (λ place. (place ≡ (placed old.journal old.tables changes).end) × (new ≡ old)) → AtFull error (EndsOn shown may_leave new.disk old.tables changes')
full_on shown may_leave old new changes changes' error stands same at =
    full_weaker error (λ place. (place ≡ (placed old.journal old.tables changes).end) × (new ≡ old)) (EndsOn shown may_leave new.disk old.tables changes')
    (λ place is. subst (λ (store : StoreState _). EndsOn shown may_leave store.disk old.tables changes' place) (sym is.1) (old.journal, (stands, is.0 ∙ ap (λ (l : List Change). (placed old.journal old.tables l).end) same))) at

-- errors by which no disk is full
pub never_written : (error : TransactError) (before now : ℕ) (P : ℕ → Type 0) → HasCause {T = Unit {0}} (Err error) before now → AtFull error P
never_written (errors.Task error) before now P cause = tt
never_written (errors.Broken connections) before now P cause = tt
never_written errors.InUse before now P cause = tt
never_written errors.InputFault before now P cause = tt
never_written errors.OutputFault before now P cause = tt
never_written (errors.Store error) before now P cause = absurd cause
never_written errors.NoMemory before now P cause = tt

pub never_read : (error : TransactError) (P : ℕ → Type 0) → of_input error ≡ true → AtFull error P
never_read (errors.Task error) P of = tt
never_read (errors.Broken connections) P of = tt
never_read errors.InUse P of = tt
never_read errors.InputFault P of = tt
never_read errors.OutputFault P of = tt
never_read (errors.Store error) P of = absurd (false≢true of)
never_read errors.NoMemory P of = tt

-- which task is taken up is told without the disk
abbrev Found : Type 0
Found = Result (Option Task) TransactError

abbrev good : Option Task → Found
good task = Ok task

abbrev bad : TransactError → Found
bad error = Err error

pub same_fault : (found : Found) (one other : TransactError) → found ≡ Err one → found ≡ Err other → one ≡ other
same_fault found one other first second = cc

pub no_fault : (found : Found) (task : Option Task) (error : TransactError) → found ≡ Ok task → found ≡ Err error → ⊥
no_fault found task error one two = cc

by_error : (found : Found) (error other : TransactError) (P : ℕ → Type 0) → found ≡ Err other → AtFull other P → found ≡ Err error → AtFull error P
by_error found error other P one at two = let same : other ≡ error = same_fault found other error one two in subst (λ (e : TransactError). AtFull e P) same at

not_found : (found : Found) (task : Option Task) (error : TransactError) (P : ℕ → Type 0) → found ≡ Ok task → found ≡ Err error → AtFull error P
not_found found task error P one two = absurd (no_fault found task error one two)

by_use : (b : Bool) (task : Task) (error : TransactError) (P : ℕ → Type 0) → (if b then good (Some task) else bad errors.InUse) ≡ Err error → AtFull error P
by_use true task error P is = not_found (good (Some task)) (Some task) error P refl is
by_use false task error P is = by_error (bad errors.InUse) error errors.InUse P refl tt is

by_count : (b : Bool) (error : TransactError) (P : ℕ → Type 0) → (if b then bad (refused 35) else good None) ≡ Err error → AtFull error P
by_count true error P is = by_error (bad (refused 35)) error (refused 35) P refl tt is
by_count false error P is = not_found (good None) None error P refl is

by_task : (words : PlanWords) (count : ℕ) (task : Option Task) (error : TransactError) (P : ℕ → Type 0) → taken_up_under words count task ≡ Err error → AtFull error P
by_task words count (Some task) error P is = by_use (is_of words task.plan) task error P is
by_task words count None error P is = by_count (nat_le MOST_TASKS count) error P is

by_activity : (words : PlanWords) (tables : Tables) (activity : Option ℕ) (error : TransactError) (P : ℕ → Type 0) → taken_up_by words tables activity ≡ Err error → AtFull error P
by_activity words tables None error P is = not_found (good None) None error P refl is
by_activity words tables (Some activity) error P is = by_task words (length tables.tasks) (task_of activity tables) error P is

pub never_found : (words : PlanWords) (tables : Tables) (error : TransactError) (P : ℕ → Type 0) → taken_up words tables ≡ Err error → AtFull error P
never_found words tables error P is = by_activity words tables words.activity error P is

-- Which calls of its disk an incarnation makes for the events that come to it, and how they end where one of them is stopped
-- (profile). Writes, cuts and syncs are counted, from 1.
use Rattle.std.specs.Prelude.{ℕ, max, nat_lt, Bool, true, false, List, [], ◌∷◌, ◌++◌, Option, None, Some, if◌then◌else◌}
use Rattle.vf_base.specs.declared.events.ScriptEvent.{ScriptEvent}
use Rattle.vf_cli_script.specs.declared.line.Stop.{Stop}
use Rattle.vf_cli_script.specs.declared.script.Life.{Life}
use Rattle.vf_disk.specs.Plans.{StopPlan, planned, stopping}
use Rattle.vf_disk.specs.State.{left_by, settled}
use Rattle.vf_disk.specs.Steps.{Ending, ending_of}
use Rattle.vf_disk.specs.declared.crash_form.CrashForm.{CrashForm}
use Rattle.vf_disk.specs.declared.crash_form.CrashForm.TheVariants.{Keep}
use Rattle.vf_disk.specs.declared.step.Step.{Step}
use Rattle.vf_disk.specs.declared.step.Step.TheVariants.{Synced}
use Rattle.vf_filestore.specs.State.{State}
use Rattle.vf_journal.specs.JournalState.{JournalState, when_opened}
use Rattle.vf_journal.specs.Layout.{new_journal}
use Rattle.vf_responder.specs.Answers.{at_end}
use Rattle.vf_responder.specs.Commits.{Commit, commits_by}
use Rattle.vf_responder.specs.Run.{trail}
use Rattle.vf_responder.specs.Serving.{Serving, unheard}
use Rattle.vf_store.specs.Commit.{after_commit, commit_steps, placed}
use Rattle.vf_store_commands.specs.Making.{users_alone}
use Rattle.vf_tables.specs.Entries.{no_tables}
use Rattle.vf_tables.specs.Snapshot.{snapshot}
use Rattle.vf_tables.specs.declared.user.User.{User}

-- THE COMMITS of events, in the order in which they come
abbrev pub commits_in : Serving → List ScriptEvent → List Commit
commits_in serving [] = []
commits_in serving (event ∷ later) = commits_by event serving ++ commits_in (at_end serving (trail event serving)) later

-- THE CALLS by which commits are written, one after another, where none is stopped. Of one whose record would end past the limit none
-- is made, nor of any after it.
pub record Calls : Type 0 where
  pub steps : List Step
  pub full : Bool

abbrev pub then_calls : List Step → Calls → Calls
then_calls steps later = record { steps = steps ++ later.steps; full = later.full }

abbrev pub calls_by : JournalState → List Commit → Calls
calls_by journal [] = record { steps = []; full = false }
calls_by journal (commit ∷ later) =
    if nat_lt journal.limit (placed journal commit.tables commit.changes).end then record { steps = []; full = true }
    else then_calls (commit_steps journal commit.tables commit.changes) (calls_by (after_commit journal commit.tables commit.changes) later)

-- THE STOP that is asked for, and what the crash at the end makes of what isn't synced
abbrev pub plan_by : Option Stop → StopPlan
plan_by None = planned []
plan_by (Some stop) = stopping 0 (max stop.call 1)

abbrev pub form_by : Option Stop → CrashForm
form_by None = Keep
form_by (Some stop) = stop.form

-- HOW FAR IT COMES, on a disk that holds an image as synced, with these events: they all go through, or the stopped call is one of
-- those that they have made, or the store is full. The first call is a sync, as the store is opened.
pub data Outcome : Type 0 where
  Through : Outcome
  Stopped : Outcome
  Filled : Outcome

abbrev pub outcome_by : (failed full : Bool) → Outcome
outcome_by true full = Stopped
outcome_by false true = Filled
outcome_by false false = Through

abbrev pub calls_of : Life → (image : List ℕ) → State → List ScriptEvent → Calls
calls_of life image state events = calls_by (when_opened image life.limit) (commits_in (unheard state) events)

abbrev pub ending : Life → (image : List ℕ) → State → List ScriptEvent → Ending
ending life image state events = ending_of (Synced ∷ (calls_of life image state events).steps) (plan_by life.stop) (settled image)

abbrev pub outcome : Life → (image : List ℕ) → State → List ScriptEvent → Outcome
outcome life image state events = outcome_by (ending life image state events).failed (calls_of life image state events).full

-- and what the crash then leaves
abbrev pub left_after : Life → (image : List ℕ) → State → List ScriptEvent → List ℕ
left_after life image state events = left_by (form_by life.stop) (ending life image state events).state

-- THE DISK BEFORE THE FIRST LIFE: a new store, with the users in one record. No limit bounds it.
abbrev pub no_limit : ℕ
no_limit = 18446744073709551615

abbrev pub first_commits : List User → List Commit
first_commits [] = []
first_commits (user ∷ users) = record { tables = no_tables; changes = snapshot (users_alone (user ∷ users)) } ∷ []

abbrev pub first_ending : List User → Ending
first_ending users = ending_of (calls_by (when_opened new_journal no_limit) (first_commits users)).steps (planned []) (settled new_journal)

abbrev pub first_image : List User → List ℕ
first_image users = left_by Keep (first_ending users).state

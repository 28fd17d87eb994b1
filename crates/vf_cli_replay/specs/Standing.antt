-- What the code keeps while an incarnation runs, and what its calls owe, in the words of lives.
use Rattle.std.specs.Prelude.{◌≡◌, ℕ, false, max, List, [], ◌∷◌, ◌++◌, Option, None, Some}
use Rattle.vf_base.specs.declared.events.ScriptEvent.{ScriptEvent}
use Rattle.vf_cli_script.specs.declared.line.Act.{Act}
use Rattle.vf_cli_script.specs.declared.line.Stop.{Stop}
use Rattle.vf_cli_script.specs.declared.script.Life.{Life}
use Rattle.vf_disk.specs.Calls.{SyncsAndLooks}
use Rattle.vf_disk.specs.Memory.{Memory, state as state_of}
use Rattle.vf_disk.specs.Plans.{counted_down, sooner}
use Rattle.vf_disk.specs.State.{left_by as left_in, settled}
use Rattle.vf_disk.specs.Steps.{LeavesState, step_fails}
use Rattle.vf_disk.specs.declared.step.Step.TheVariants.{Synced}
use Rattle.vf_filestore.specs.State.{State}
use Rattle.vf_incarnations.specs.Incarnations.{after_all, left_by}
use Rattle.vf_journal.specs.JournalState.{when_opened}
use Rattle.vf_journal.specs.Layout.{new_journal}
use Rattle.vf_journal.specs.declared.error.JournalError.TheVariants.{DiskFault, Full}
use Rattle.vf_responder.specs.Along.{RepresentsAlong}
use Rattle.vf_responder.specs.Commits.{AreMade, AreMadeUpTo, Commit, DiskTells, commits_by, telling}
use Rattle.vf_responder.specs.Represents.{Represents}
use Rattle.vf_responder.specs.Run.{trail}
use Rattle.vf_responder.specs.Serving.{Serving}
use Rattle.vf_store.specs.StoreState.{IsRepresented, StoreState}
use Rattle.vf_tables.specs.declared.user.User.{User}
use Rattle.vf_cli_calling.specs.Calling.{Calling}
use Rattle.vf_cli_replay.specs.Saying.{SaysLine}
use Rattle.vf_cli_replay.specs.Calls.{commits_in, first_ending, form_by, no_limit, plan_by}
use Rattle.vf_cli_replay.specs.Living.{LiveOn, Lived, Lives, episodes_of, lines_of}
use Rattle.vf_cli_replay.specs.Disks.{Keeps, may_leave, shown}
use Rattle.vf_cli_replay.specs.Hearing.{AreEnds}
use Rattle.vf_cli_replay.specs.Running.{Course, Event, GoesAlong, IsWithin, Running, answered, end_on, with_end}
use Rattle.vf_cli_replay.specs.declared.halt.Halt.{Halt}
use Rattle.vf_cli_replay.specs.declared.halt.Halt.TheVariants as halts
use Rattle.vf_cli_replay.specs.declared.links.Links.{Links}

-- ---- AN INCARNATION that runs on a disk in memory, which represents its tables
pub record Stands (links : Links) (running : Running) : Type 0 where
  pub responder : Represents links.responder running.serving
  pub stored : IsRepresented shown may_leave links.responder.store
  pub callers : AreEnds links.callers.entries running.ends

-- What a calling end said, where there is one; nothing has come of it yet.
abbrev pub SpeaksOn : Running → ℕ → Act → Option Calling → Option (List ℕ) → Links → Type 0
SpeaksOn running link act None octets links = (octets ≡ None) × Stands links running
SpeaksOn running link act (Some caller) None links = ⊥
SpeaksOn running link act (Some caller) (Some octets) links =
    (later : Calling) × (SaysLine caller act octets later × Stands links (record running { ends = with_end link later running.ends }))

abbrev pub HasSpoken : Running → ℕ → Act → Option (List ℕ) → Links → Type 0
HasSpoken running link act octets links = SpeaksOn running link act (end_on link running.ends) octets links

-- WHERE IT ENDED within an event: each image that a crash may leave represents the tables after some number of the answers to it;
pub record Leaves (serving : Serving) (event : ScriptEvent) (disk : Memory) : Type 0 where
  pub each : (image : List ℕ) → may_leave disk image → RepresentsAlong serving (trail event serving) image

-- and of the commits that were owed it made the first, up to one within which a call failed, or which is too long.
abbrev pub tells : DiskTells Memory
tells = telling (λ (disk : Memory). Some disk.plan) (λ (disk : Memory). Some (state_of disk)) (λ (disk : Memory). disk.lacks)

abbrev pub Halted : Halt → List Commit → (old new : StoreState Memory) → Type 0
Halted halts.Stopped commits old new = AreMadeUpTo tells DiskFault commits old new
Halted halts.Full commits old new = (place limit : ℕ) × AreMadeUpTo tells (Full place limit) commits old new

-- An event came: its answers were heard, or it ended within it.
abbrev pub HasCome : Running → ScriptEvent → (text : List ℕ) → StoreState Memory → Links → (text' : List ℕ) → Option Halt → Type 0
HasCome running event text store links text' None =
    (text' ≡ text ++ (answered running event).lines) × Stands links (answered running event).after
    × AreMade tells (commits_by event running.serving) store links.responder.store
HasCome running event text store links text' (Some halt) =
    (text' ≡ text) × Leaves running.serving event links.responder.store.disk × Halted halt (commits_by event running.serving) store links.responder.store

-- Events were to come: they were all answered, or it ended within one of them.
pub record HasGone (running : Running) (all : List Event) (text : List ℕ) (store : StoreState Memory) (links : Links) (text' : List ℕ) : Type 0 where
  pub course : Course
  pub goes : GoesAlong running all course
  pub lines : text' ≡ text ++ course.lines
  pub stands : Stands links course.after
  pub made : AreMade tells (commits_in running.serving course.events) store links.responder.store

pub record HasEnded (running : Running) (all : List Event) (text : List ℕ) (store : StoreState Memory) (halt : Halt) (last : StoreState Memory) (text' : List ℕ) : Type 0 where
  pub within : IsWithin running all
  pub lines : text' ≡ text ++ within.course.lines
  pub leaves : Leaves within.now.serving within.brought last.disk
  pub between : StoreState Memory
  pub before : AreMade tells (commits_in running.serving within.course.events) store between
  pub halts : Halted halt (commits_by within.brought within.now.serving) between last

abbrev pub HasHappened : Running → List Event → (text : List ℕ) → StoreState Memory → Links → (text' : List ℕ) → Option Halt → Type 0
HasHappened running all text store links text' None = HasGone running all text store links text'
HasHappened running all text store links text' (Some halt) = HasEnded running all text store halt links.responder.store text'

-- ---- A LIFE on a disk that held an image. Where no call found no memory it is one that is allowed, of which the crash leaves what
-- it is to leave.
pub record IsLived (life : Life) (image : List ℕ) (state : State) (text text' left : List ℕ) : Type 0 where
  pub lived : Lived
  pub lives : Lives life image state lived
  pub lines : text' ≡ text ++ lived.lines
  pub leaves : lived.left ≡ left

pub record LivesOn (life : Life) (image : List ℕ) (state : State) (text : List ℕ) (disk : Memory) (text' : List ℕ) : Type 0 where
  pub each : (left : List ℕ) → disk.lacks ≡ 0 → may_leave disk left → left ≡ left_in (form_by life.stop) (state_of disk) → IsLived life image state text text' left

-- ---- THE STOP that is asked for. Calls count from 1.
abbrev pub with_stop : Option Stop → Memory → Memory
with_stop None disk = disk
with_stop (Some stop) disk = record disk { plan = record disk.plan { until_stop = Some (sooner (max stop.call 1) disk.plan.until_stop) } }

-- As its store was opened: no call but a sync is counted, which wasn't the stopped one.
pub record IsOpened (life : Life) (image : List ℕ) (store : StoreState Memory) : Type 0 where
  pub goes : step_fails (plan_by life.stop) Synced ≡ false
  pub failing : store.disk.plan.numbers.failing ≡ []
  pub stop : store.disk.plan.until_stop ≡ counted_down (plan_by life.stop).until_stop
  pub state : state_of store.disk ≡ settled image
  pub journal : record store.journal { prepared = None } ≡ when_opened image life.limit

pub record HasLived (life : Life) (image : List ℕ) (state : State) (text : List ℕ) (disk : Memory) (text' : List ℕ) : Type 0 where
  pub lived : Lived
  pub lives : Lives life image state lived
  pub lines : text' ≡ text ++ lived.lines
  pub keeps : Keeps disk lived.left (left_by lived.incarnation state)

-- what the last of them left
abbrev pub image_after : List ℕ → List Lived → List ℕ
image_after image [] = image
image_after image (lived ∷ all) = image_after lived.left all

pub record HaveLived (image : List ℕ) (state : State) (lives : List Life) (text : List ℕ) (disk : Memory) (text' : List ℕ) : Type 0 where
  pub all : List Lived
  pub live : LiveOn image state lives all
  pub lines : text' ≡ text ++ lines_of all
  pub keeps : Keeps disk (image_after image all) (after_all (episodes_of all) state)

-- ---- BEFORE THE FIRST LIFE: a store as it is opened, one that is just made, and one with the users.
pub record Opens (image : List ℕ) (disk : Memory) (store : StoreState Memory) : Type 0 where
  pub calls : SyncsAndLooks (Some disk.plan) (Some store.disk.plan) false
  pub made : LeavesState (Synced ∷ []) (Some disk.plan) (Some (state_of disk)) (Some (state_of store.disk))
  pub journal : store.journal ≡ when_opened image no_limit

pub record IsNew (store : StoreState Memory) : Type 0 where
  pub failing : store.disk.plan.numbers.failing ≡ []
  pub stop : store.disk.plan.until_stop ≡ None
  pub state : state_of store.disk ≡ settled new_journal
  pub journal : store.journal ≡ when_opened new_journal no_limit

abbrev pub IsFirst : List User → StoreState Memory → Type 0
IsFirst users store = state_of store.disk ≡ (first_ending users).state

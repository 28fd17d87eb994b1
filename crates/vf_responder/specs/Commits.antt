-- Which commits of the store answers take, one after another, and how far they are made (profile). What a message changes is
-- one commit, and a message that changes nothing takes none. So what the disk is called for follows from the answers alone.
use Rattle.std.specs.Prelude.{◌≡◌, ℕ, ◌<◌, ◌≤◌, Bool, true, false, List, [], ◌∷◌, ◌++◌, Option, None, Some, Result, Ok, Err}
use Rattle.vf_base.specs.declared.events.ScriptEvent.{ScriptEvent}
use Rattle.vf_disk.specs.Plans.{StopPlan}
use Rattle.vf_disk.specs.State.{State as DiskState}
use Rattle.vf_disk.specs.Steps.{MakesSteps}
use Rattle.vf_elements.specs.declared.message.Message.{Message}
use Rattle.vf_filestore.specs.Records.{changes_by}
use Rattle.vf_filestore.specs.Runs.{Event, Takes}
use Rattle.vf_filestore.specs.State.{State, StandingParty, party_of}
use Rattle.vf_journal.specs.declared.error.JournalError.{JournalError}
use Rattle.vf_journal.specs.declared.error.JournalError.TheVariants.{NotAStore, Full, DiskFault, NoMemory}
use Rattle.vf_stack.specs.declared.indication.Indication.{Indication}
use Rattle.vf_store.specs.Commit.{after_commit, commit_steps, placed}
use Rattle.vf_store.specs.StoreState.{StoreState}
use Rattle.vf_tables.specs.declared.change.Change.{Change}
use Rattle.vf_tables.specs.declared.tables.Tables.{Tables}
use Rattle.vf_responder.specs.Answers.{Answer, octets_heard, told, told_all}
use Rattle.vf_responder.specs.AnswersTo.{to_event, to_indication, to_indications, to_meant, to_octets}
use Rattle.vf_responder.specs.Meanings as meant
use Rattle.vf_responder.specs.Represents.{Kept, Represents}
use Rattle.vf_responder.specs.Run.{tables_in, trail}
use Rattle.vf_responder.specs.Serving.{Serving}
use Rattle.vf_responder.specs.Steps.{taking}

-- A COMMIT: the tables before it, and what it changes of them.
pub record Commit : Type 0 where
  pub tables : Tables
  pub changes : List Change

abbrev pub commit_of : Tables → List Change → List Commit
commit_of tables [] = []
commit_of tables (change ∷ changes) = record { tables = tables; changes = change ∷ changes } ∷ []

-- what an event changes; a message alone does
abbrev pub changes_in : State → Option Event → List Change
changes_in state (Some (Takes link setting message)) = changes_by state link setting message
changes_in state _ = []

-- THE COMMITS of answers, each of which is one to an event, from a state on
abbrev pub commits : Serving → List Answer → List (Option Event) → List Commit
commits serving (answer ∷ later) (event ∷ events) =
    commit_of (tables_in serving) (changes_in serving.filestore event) ++ commits answer.state later events
commits serving _ _ = []

abbrev pub commits_by : ScriptEvent → Serving → List Commit
commits_by event serving = commits serving (trail event serving) (to_event event serving)

-- A disk may tell its plan, its state, and how many calls found no memory.
pub record DiskTells (D : Type 0) : Type 0 where
  pub plan : D → Option StopPlan
  pub state : D → Option DiskState
  pub lacks : D → ℕ

abbrev pub telling : {D : Type 0} → (D → Option StopPlan) → (D → Option DiskState) → (D → ℕ) → DiskTells D
telling plan state lacks = record { plan = plan; state = state; lacks = lacks }

-- ONE COMMIT. Its record ends within the limit, and its calls are made: all of them, or up to one that fails.
pub record IsWritten {D : Type 0} (tells : DiskTells D) (commit : Commit) (old new : StoreState D) (failed : Bool) : Type 0 where
  pub tables : old.tables ≡ commit.tables
  pub within : (placed old.journal commit.tables commit.changes).end ≤ old.journal.limit
  pub steps : MakesSteps (commit_steps old.journal commit.tables commit.changes) (tells.plan old.disk) (tells.plan new.disk)
      (tells.state old.disk) (tells.state new.disk) failed (tells.lacks old.disk) (tells.lacks new.disk)

pub record IsMade {D : Type 0} (tells : DiskTells D) (commit : Commit) (old new : StoreState D) : Type 0 where
  pub written : IsWritten tells commit old new false
  pub journal : new.journal ≡ after_commit old.journal commit.tables commit.changes

-- ALL OF THEM, one after another. Without any the store and its disk stay as they are.
abbrev pub AreMade : {D : Type 0} → DiskTells D → List Commit → StoreState D → StoreState D → Type 0
AreMade tells [] old new = new ≡ old
AreMade {D} tells (commit ∷ later) old new = (mid : StoreState D) × IsMade tells commit old mid × AreMade tells later mid new

-- AT AN ERROR the first of them were made. By a fault of the disk the next one is made up to a call that fails, and where the disk
-- is full its record would end past the limit; where memory is wanting it isn't begun.
abbrev pub IsNext : {D : Type 0} → DiskTells D → JournalError → List Commit → StoreState D → StoreState D → Type 0
IsNext tells DiskFault [] old new = ⊥
IsNext tells DiskFault (commit ∷ later) old new = IsWritten tells commit old new true
IsNext tells (Full place limit) [] old new = ⊥
IsNext tells (Full place limit) (commit ∷ later) old new =
    (new ≡ old) × (old.tables ≡ commit.tables) × (place ≡ (placed old.journal commit.tables commit.changes).end) × (old.journal.limit < place)
IsNext tells NoMemory rest old new = new ≡ old
IsNext tells (NotAStore place found expected) rest old new = ⊥

pub record AreMadeUpTo {D : Type 0} (tells : DiskTells D) (error : JournalError) (all : List Commit) (old new : StoreState D) : Type 0 where
  pub made : List Commit
  pub rest : List Commit
  pub is : all ≡ made ++ rest
  pub between : StoreState D
  pub first : AreMade tells made old between
  pub next : IsNext tells error rest between new

abbrev pub CommitsSo : {D T : Type 0} → DiskTells D → List Commit → StoreState D → StoreState D → Result T JournalError → Type 0
CommitsSo tells all old new (Ok done) = AreMade tells all old new
CommitsSo tells all old new (Err error) = AreMadeUpTo tells error all old new

-- so it is by every state that is represented
abbrev pub CommitsAlong : {D T : Type 0} → DiskTells D → (Serving → List Commit) → Kept D → StoreState D → Result T JournalError → Type 0
CommitsAlong tells all kept new result = (serving : Serving) → Represents kept serving → CommitsSo tells (all serving) kept.store new result

-- OF PARTS of what is answered: to a message that an indication brings to the link's party, to an indication, to some of them, and
-- to octets
abbrev pub to_taking_by : (moment : ℕ) → Indication → Serving → Option StandingParty → Message → List (Option Event)
to_taking_by moment indication serving None message = []
to_taking_by moment indication serving (Some party) message = to_meant moment indication serving party (meant.Takes message)

abbrev pub to_taking : (moment link : ℕ) → Serving → Indication → Message → List (Option Event)
to_taking moment link serving indication message = to_taking_by moment indication serving (party_of link serving.filestore.parties) message

abbrev pub commits_taking : (moment link : ℕ) → Serving → Indication → Message → List Commit
commits_taking moment link serving indication message =
    commits serving (taking moment link serving indication message) (to_taking moment link serving indication message)

abbrev pub commits_told : (moment link : ℕ) → Serving → Indication → List Commit
commits_told moment link serving indication =
    commits serving (told moment link serving indication) (to_indication moment link serving indication)

abbrev pub commits_told_all : (moment link : ℕ) → Serving → List Indication → List Commit
commits_told_all moment link serving all = commits serving (told_all moment link serving all) (to_indications moment link serving all)

abbrev pub commits_heard : (moment link : ℕ) → Serving → List ℕ → List Commit
commits_heard moment link serving octets = commits serving (octets_heard moment link serving octets) (to_octets moment link serving octets)

-- A task from its words to its report (profile), where the dial, the disk, the input and the output tell what comes and goes on
-- them.
use Rattle.std.specs.Prelude.{◌≡◌, ◌⊎◌, ◌+◌, ◌<◌, ℕ, zero, suc, Bool, true, false, List, [], ◌∷◌, ◌++◌, length, min, reverse, Option, None, Some, Result, Ok, Err, is_some}
use Rattle.vf_base.specs.Dial.{Call, Connections}
use Rattle.vf_base.specs.Faults.{HasRisen, HasRisenBy, counted}
use Rattle.vf_disk.specs.Disk.{LeavesOnly}
use Rattle.vf_initiator.specs.Output.{written}
use Rattle.vf_initiator.specs.Keeping.{changes_since, mark_of}
use Rattle.vf_initiator.specs.Says.{beginning, elements_of}
use Rattle.vf_initiator.specs.Assignments.{given_of, kind_in}
use Rattle.vf_initiator.specs.declared.doing.Doing.{Doing}
use Rattle.vf_initiator.specs.declared.doing.Doing.TheVariants.{Going, Ended, Failed}
use Rattle.vf_initiator.specs.declared.doing.TaskError.TheVariants.{Budget}
use Rattle.vf_initiator.specs.declared.given.Given.{Given}
use Rattle.vf_initiator.specs.declared.plan.Plan.{Plan}
use Rattle.vf_initiator.specs.declared.plan.Report.{Report}
use Rattle.vf_journal.specs.declared.error.JournalError.TheVariants as stores
use Rattle.vf_journal.specs.Image.{Refusal, refusal}
use Rattle.vf_journal.specs.JournalState.{JournalState}
use Rattle.vf_store.specs.Represented.{Represents}
use Rattle.vf_store.specs.Commit.{placed}
use Rattle.vf_store.specs.StoreState.{IsRepresented, StoreState, TablesStand}
use Rattle.vf_tables.specs.declared.change.Change.{Change}
use Rattle.vf_tables.specs.declared.tables.Tables.{Tables}
use Rattle.vf_tables.specs.declared.task.Task.{Task}
use Rattle.vf_tree.specs.FileTree.{octets_of_unit}
use Rattle.vf_transact.specs.Conversation.{AnswersAll, AnswersLastInPart, Converses, IsSpent, Standing, TakesOne, doing_at, standing_first, tables_at}
use Rattle.vf_transact.specs.Starting.{TakenUp, connections_of, interrupts, keeping, kept_in, octets_sent, taken_up, taken_up_with}
use Rattle.vf_transact.specs.Writing.{PassesFront}
use Rattle.vf_transact.specs.declared.error.TransactError.{TransactError}
use Rattle.vf_transact.specs.declared.error.TransactError.TheVariants as errors
use Rattle.vf_transact.specs.declared.words.PlanWords.{PlanWords}

abbrev pub Answer : Type 0
Answer = Result Report TransactError

-- ---- the outside

-- the octets of the output before and after
pub record Outside : Type 0 where
  pub output : List ℕ
  pub output' : List ℕ

-- how many calls of the dial have failed, and how many connections were lost or not had
pub record Counts : Type 0 where
  pub faults : ℕ
  pub lost : ℕ

abbrev pub HasFailed : Counts → Counts → Type 0
HasFailed before after = HasRisen before.faults after.faults

abbrev pub IsLost : Counts → Counts → Type 0
IsLost before after = after.lost ≡ counted before.lost

abbrev pub AreSame : Counts → Counts → Type 0
AreSame before after = (after.faults ≡ before.faults) × (after.lost ≡ before.lost)

-- The connection stood until it was closed, or its last call failed.
abbrev pub MayBeLost : Counts → Counts → Type 0
MayBeLost before after = AreSame before after ⊎ (IsLost before after × HasFailed before after)

abbrev pub NothingWritten : Outside → Type 0
NothingWritten outside = outside.output' ≡ outside.output

-- of a get what it received; a put has received nothing
abbrev pub written_at : Plan → Standing → List ℕ
written_at plan at = written (kind_in plan.task) (elements_of at.talk.conduct)

-- something but the task itself ended the call
abbrev pub is_interruption : Answer → Bool
is_interruption (Ok report) = false
is_interruption (Err error) = interrupts error

-- ---- ends

abbrev pub report_of : TakenUp → Standing → Report
report_of begun at =
    record { octets = min (octets_sent begun + octets_of_unit (elements_of at.talk.conduct)) 18446744073709551615; resumed = is_some begun.kept }

-- The task isn't going on: it ended well, and what a get received was written, all of it; or it failed, and nothing was. It fails
-- too where the connection gave as much as one may.
abbrev pub Concludes : TakenUp → (heard : List ℕ) → Standing → Doing → Answer → Outside → Type 0
Concludes begun heard at Ended answer outside =
    (answer ≡ Ok (report_of begun at)) × (outside.output' ≡ outside.output ++ written_at begun.plan at)
Concludes begun heard at (Failed error) answer outside = (answer ≡ Err (errors.Task error)) × NothingWritten outside
Concludes begun heard at Going answer outside = (answer ≡ Err (errors.Task Budget)) × IsSpent heard × NothingWritten outside

-- A piece more was heard, and the call was interrupted as it was taken: where the task ended well by it, a front of what a get
-- received was written.
abbrev pub WritesFront : Plan → Standing → Doing → Outside → Type 0
WritesFront plan at Ended outside = PassesFront (written_at plan at) (Some outside.output) (Some outside.output')
WritesFront plan at Going outside = NothingWritten outside
WritesFront plan at (Failed error) outside = NothingWritten outside

-- Every connection but the first one of the call that makes the task recovers it.
abbrev pub kept_at : TakenUp → (is_first : Bool) → Tables → Option Task
kept_at begun true tables = begun.kept
kept_at begun false tables = kept_in begun.plan.activity tables

-- ---- CONNECTIONS. Of each that was had it is told what was said and heard on it; one that wasn't had isn't told.

-- Of an error by which the disk is full: where the record that was to be written would end.
abbrev pub AtFull : TransactError → (ℕ → Type 0) → Type 0
AtFull (errors.Store (stores.Full length bound)) holds = holds length
AtFull error holds = Unit {0}

-- The changes by which the task is kept as it stands then.
abbrev pub changes_to : Given → Standing → Standing → List Change
changes_to given at at' = changes_since given (mark_of given at.talk.conduct) at'.talk.conduct

-- The call was interrupted by a piece that was heard: memory was wanting to take it; or it was taken, and what it is to write or to
-- keep was begun.
abbrev pub InterruptsTaking : (Tables → List Change → ℕ → Type 0) → Plan → Option Task → (unanswered : List ℕ) → (next : List Tables) → Standing → Outside → TransactError → Type 0
InterruptsTaking ends plan kept unanswered next at outside error =
    ((next ≡ []) × NothingWritten outside × (error ≡ errors.NoMemory))
    ⊎ ((octets : List ℕ) × (at' : Standing) × (TakesOne (given_of plan kept) unanswered octets at at' × (next ≡ at'.tables ∷ [])
    × WritesFront plan at' (doing_at at') outside × AtFull error (ends at.tables (changes_to (given_of plan kept) at at'))))

-- A connection on which the call was interrupted: all that was heard was answered, and the task goes on; but a piece that was heard
-- then isn't answered.
pub record StopsTaking (ends : Tables → List Change → ℕ → Type 0) (plan : Plan) (kept : Option Task) (call : Call) (outside : Outside) (trail : List Tables) (tables tables' : Tables) (error : TransactError) : Type 0 where
  pub heard : List ℕ
  pub unanswered : List ℕ
  pub first : List Tables
  pub next : List Tables
  pub at : Standing
  pub heard_is : call.heard ≡ heard ++ unanswered
  pub some : 0 < length unanswered
  pub answered : AnswersAll plan kept heard call.said first (standing_first plan kept tables) at
  pub going : doing_at at ≡ Going
  pub trail_is : trail ≡ first ++ next
  pub tables_are : tables' ≡ at.tables
  pub stops : InterruptsTaking ends plan kept unanswered next at outside error

-- Of a get that has ended all that it received was written, and else nothing.
abbrev pub WritesWhole : Plan → Standing → Doing → Outside → Type 0
WritesWhole plan at Ended outside = outside.output' ≡ outside.output ++ written_at plan at
WritesWhole plan at Going outside = NothingWritten outside
WritesWhole plan at (Failed error) outside = NothingWritten outside

-- A connection on which memory was wanting to spell the rest of an answer: a long answer is said while it is spelled, so that the
-- other end hears its first octets at once, and what was said can't be taken back. All before it was answered; the piece was taken,
-- what it is to write was written, and the tables with the task as it then stands are those that stand.
pub record StopsSaying (plan : Plan) (kept : Option Task) (call : Call) (outside : Outside) (trail : List Tables) (tables tables' : Tables) (error : TransactError) : Type 0 where
  pub at : Standing
  pub in_part : AnswersLastInPart plan kept call.heard call.said trail (standing_first plan kept tables) at
  pub going : doing_at in_part.middle ≡ Going
  pub some : 0 < length in_part.piece
  pub tables_are : tables' ≡ at.tables
  pub writes : WritesWhole plan at (doing_at at) outside
  pub error_is : error ≡ errors.NoMemory

abbrev pub StopsWithin : (Tables → List Change → ℕ → Type 0) → Plan → Option Task → Call → Outside → (trail : List Tables) → (tables tables' : Tables) → TransactError → Type 0
StopsWithin ends plan kept call outside trail tables tables' error =
    StopsTaking ends plan kept call outside trail tables tables' error ⊎ StopsSaying plan kept call outside trail tables tables' error

-- Nothing is begun, or the call is interrupted before a connection.
abbrev pub StopsBefore : List Call → Outside → Counts → Counts → (tables tables' : Tables) → Type 0
StopsBefore calls outside counts counts' tables tables' = (calls ≡ []) × NothingWritten outside × AreSame counts counts' × (tables' ≡ tables)

-- by a fault of the output or of the disk, by a full disk, or by want of memory
abbrev pub interrupts_connection : TransactError → Bool
interrupts_connection errors.OutputFault = true
interrupts_connection (errors.Store (stores.NotAStore at found expected)) = false
interrupts_connection (errors.Store error) = true
interrupts_connection errors.NoMemory = true
interrupts_connection error = false

abbrev pub Interrupts : Answer → (TransactError → Type 0) → Type 0
Interrupts (Ok report) holds = ⊥
Interrupts (Err error) holds = (interrupts_connection error ≡ true) × holds error

-- Of `all` connections so many are left to be tried, over tables that are kept; the others were lost or not had. Each that is had
-- converses: it says what belongs to what it hears, and a front of the last octets only where a call of the dial failed on it.
abbrev pub Connects : (Tables → List Change → ℕ → Type 0) → TakenUp → Outside → (all left : ℕ) → (is_first : Bool) → Counts → Counts → List Call → (trail : List Tables) → (tables tables' : Tables) → Answer → Type 0
Connects ends begun outside all zero is_first counts counts' calls trail tables tables' answer =
    StopsBefore calls outside counts counts' tables tables' × (trail ≡ []) × (answer ≡ Err (errors.Broken all))
Connects ends begun outside all (suc left) is_first counts counts' calls trail tables tables' answer =
    let kept = kept_at begun is_first tables in
    -- it isn't had, since a call of the dial failed, and the next one is tried
    ((next : Counts) × (IsLost counts next × HasFailed counts next × Connects ends begun outside all left false next counts' calls trail tables tables' answer))
    -- memory is wanting before it
    ⊎ (StopsBefore calls outside counts counts' tables tables' × (trail ≡ []) × (answer ≡ Err errors.NoMemory))
    -- it is lost while the task goes on, since a call of the dial failed or the other end ended the stream, and the next one is tried
    ⊎ ((call : Call) × (later : List Call) × (first others : List Tables) × (at : Standing) × (next : Counts)
    × ((calls ≡ call ∷ later)
    × Converses begun.plan kept call.heard call.said (HasFailed counts next) first (standing_first begun.plan kept tables) at
    × (doing_at at ≡ Going) × IsLost counts next × (HasFailed counts next ⊎ (call.left ≡ [])) × (trail ≡ first ++ others)
    × Connects ends begun outside all left false next counts' later others at.tables tables' answer))
    -- the task isn't going on
    ⊎ ((call : Call) × (at : Standing)
    × ((calls ≡ call ∷ [])
    × Converses begun.plan kept call.heard call.said (HasFailed counts counts') trail (standing_first begun.plan kept tables) at
    × (tables' ≡ at.tables) × Concludes begun call.heard at (doing_at at) answer outside × MayBeLost counts counts'))
    -- the call is interrupted on it
    ⊎ ((call : Call) × ((calls ≡ call ∷ []) × AreSame counts counts' × Interrupts answer (StopsWithin ends begun.plan kept call outside trail tables tables')))

-- ---- ALL OF IT, over the tables of the store and the input. The trail has the tables after each commit; it is as told here too
-- where the last of these commits failed. Before the first connection the task is kept as it stands then.
abbrev pub tables_kept : TakenUp → Tables → Tables
tables_kept begun tables = tables_at (given_of begun.plan begun.kept) (beginning begun.plan begun.kept) tables

-- of a new task
abbrev pub kept_new : Plan → Tables → Tables
kept_new plan tables = tables_kept (record { plan = plan; kept = None }) tables

-- what is kept before the first connection
abbrev pub first_kept : Result TakenUp TransactError → Tables → List Tables
first_kept (Ok begun) tables = tables_kept begun tables ∷ []
first_kept (Err error) tables = []

-- as the first of all
abbrev pub FullFirst : (Tables → List Change → ℕ → Type 0) → Result TakenUp TransactError → Tables → (place : ℕ) → Type 0
FullFirst ends (Ok begun) tables place = (begun.kept ≡ None) × ends tables (keeping begun.plan) place
FullFirst ends (Err error) tables place = ⊥

abbrev pub AnswersFull : Answer → (ℕ → Type 0) → Type 0
AnswersFull (Ok report) holds = Unit {0}
AnswersFull (Err error) holds = AtFull error holds

abbrev pub TransactsBegun : (Tables → List Change → ℕ → Type 0) → PlanWords → Result TakenUp TransactError → List Call → Outside → Counts → Counts → (trail : List Tables) → (tables tables' : Tables) → Answer → Type 0
TransactsBegun ends words (Err error) calls outside counts counts' trail tables tables' answer =
    StopsBefore calls outside counts counts' tables tables' × (trail ≡ []) × ((answer ≡ Err error) ⊎ (is_interruption answer ≡ true)) × AnswersFull answer (FullFirst ends (Err error) tables)
TransactsBegun ends words (Ok begun) calls outside counts counts' trail tables tables' answer =
    (StopsBefore calls outside counts counts' tables tables' × (trail ≡ tables_kept begun tables ∷ []) × (is_interruption answer ≡ true) × AnswersFull answer (FullFirst ends (Ok begun) tables))
    ⊎ ((others : List Tables)
    × ((trail ≡ tables_kept begun tables ∷ others)
    × Connects ends begun outside (connections_of words) (connections_of words) true counts counts' calls others (tables_kept begun tables) tables' answer))

-- Over a store that was opened: which task is taken up is told before all else.
abbrev pub TransactsFound : (Tables → List Change → ℕ → Type 0) → PlanWords → (input : List ℕ) → Result (Option Task) TransactError → List Call → Outside → Counts → Counts → (trail : List Tables) → (tables tables' : Tables) → Answer → Type 0
TransactsFound ends words input (Err error) calls outside counts counts' trail tables tables' answer =
    StopsBefore calls outside counts counts' tables tables' × (trail ≡ []) × (answer ≡ Err error)
TransactsFound ends words input (Ok found) calls outside counts counts' trail tables tables' answer =
    TransactsBegun ends words (taken_up_with words input (Ok found)) calls outside counts counts' trail tables tables' answer

-- the store isn't opened
abbrev pub IsNotOpened : Answer → Type 0
IsNotOpened (Err (errors.Store (stores.Full length bound))) = ⊥
IsNotOpened (Err (errors.Store error)) = Unit {0}
IsNotOpened answer = ⊥

abbrev pub Transacts : (Tables → List Change → ℕ → Type 0) → PlanWords → (input : List ℕ) → List Call → Outside → Counts → Counts → (trail : List Tables) → (tables tables' : Tables) → Answer → Type 0
Transacts ends words input calls outside counts counts' trail tables tables' answer =
    (StopsBefore calls outside counts counts' tables tables' × (trail ≡ []) × IsNotOpened answer)
    ⊎ TransactsFound ends words input (taken_up words tables) calls outside counts counts' trail tables tables' answer

-- ---- THE DISK

-- Where a record of these changes would end on a disk on which a journal stands that represents the tables.
abbrev pub EndsOn : {D : Type 0} → (D → Option (List ℕ)) → (D → List ℕ → Type 0) → D → Tables → List Change → (place : ℕ) → Type 0
EndsOn shown may_leave disk tables changes place =
    (journal : JournalState) × (TablesStand shown may_leave journal disk tables × (place ≡ (placed journal tables changes).end))

-- the image represents one of these tables
abbrev pub RepresentsOneOf : List Tables → List ℕ → Type 0
RepresentsOneOf [] image = ⊥
RepresentsOneOf (tables ∷ others) image = Represents image tables ⊎ RepresentsOneOf others image

-- the last one, if there is any
abbrev pub last_of : List Tables → List Tables
last_of [] = []
last_of (tables ∷ []) = tables ∷ []
last_of (tables ∷ next ∷ later) = last_of (next ∷ later)

-- a read gives an image that represents the tables, and so does a crash
abbrev pub IsLeft : {D : Type 0} → (D → Option (List ℕ)) → (D → List ℕ → Type 0) → D → Tables → Type 0
IsLeft shown may_leave disk tables =
    (image : List ℕ) × ((shown disk ≡ Some image) × Represents image tables × ((left : List ℕ) → may_leave disk left → Represents left tables))

abbrev pub is_disk : TransactError → Bool
is_disk (errors.Store stores.DiskFault) = true
is_disk error = false

abbrev pub has_disk_fault : {T : Type 0} → Result T TransactError → Bool
has_disk_fault (Ok value) = false
has_disk_fault (Err error) = is_disk error

-- A call over a disk that keeps these tables, also after a crash. At any moment a crash leaves those or some of the trail. In the
-- end it leaves those that the task has come to, or the last ones of the trail, where it was a commit that failed; and the
-- former alone, unless the disk failed.
pub record Keeps {D : Type 0} (shown : D → Option (List ℕ)) (may_leave : D → List ℕ → Type 0) (moment : D → ℕ) (left_since : D → ℕ → List ℕ → Type 0) (disk disk' : D) (trail : List Tables) (tables tables' : Tables) (answer : Answer) : Type 0 where
  pub any_moment : LeavesOnly moment left_since disk disk' (RepresentsOneOf (tables ∷ trail))
  pub now : (image : List ℕ) → may_leave disk' image → RepresentsOneOf (tables' ∷ last_of trail) image
  pub left : has_disk_fault answer ≡ false → IsLeft shown may_leave disk' tables'

-- what the calls of a dial are that were made since, oldest first
abbrev pub HasCalls : Connections → List Call → Connections → Type 0
HasCalls before calls after = after.calls ≡ reverse calls ++ before.calls

-- the same of a store: a call that is interrupted by anything but the disk leaves it represented
pub record KeepsStore {D : Type 0} (shown : D → Option (List ℕ)) (may_leave : D → List ℕ → Type 0) (moment : D → ℕ) (left_since : D → ℕ → List ℕ → Type 0) (old new : StoreState D) (trail : List Tables) (tables' : Tables) (is_fault : Bool) : Type 0 where
  pub any_moment : LeavesOnly moment left_since old.disk new.disk (RepresentsOneOf (old.tables ∷ trail))
  pub now : (image : List ℕ) → may_leave new.disk image → RepresentsOneOf (tables' ∷ last_of trail) image
  pub stands : is_fault ≡ false → IsRepresented shown may_leave new × (new.tables ≡ tables')

-- what the dial and the output tell at a moment
pub record Seen : Type 0 where
  pub told : Option Connections
  pub taken : Option (List ℕ)
  pub counts : Counts

-- What a call owes where all of the outside tells what it holds.
pub record DoesTransact {D : Type 0} (shown : D → Option (List ℕ)) (may_leave : D → List ℕ → Type 0) (moment : D → ℕ) (left_since : D → ℕ → List ℕ → Type 0) (words : PlanWords) (input : List ℕ) (disk disk' : D) (before : Connections) (output : List ℕ) (counts : Counts) (seen : Seen) (tables : Tables) (answer : Answer) : Type 0 where
  pub after : Connections
  pub output' : List ℕ
  pub calls : List Call
  pub trail : List Tables
  pub tables' : Tables
  pub told_is : seen.told ≡ Some after
  pub taken_is : seen.taken ≡ Some output'
  pub called : HasCalls before calls after
  pub transacts : Transacts (EndsOn shown may_leave disk') words input calls (record { output = output; output' = output' }) counts seen.counts trail tables tables' answer
  pub keeps : ((image : List ℕ) → may_leave disk image → Represents image tables) → Keeps shown may_leave moment left_since disk disk' trail tables tables' answer

-- A disk whose image is no store is refused for that, unless it fails.
abbrev pub RefusesBy : Option Refusal → Answer → Type 0
RefusesBy None answer = Unit {0}
RefusesBy (Some refusal) answer =
    (answer ≡ Err (errors.Store (stores.NotAStore refusal.place refusal.found refusal.expected))) ⊎ (answer ≡ Err (errors.Store stores.DiskFault))

abbrev pub IsRefused : (image : List ℕ) → Answer → Type 0
IsRefused image answer = RefusesBy (refusal image) answer

-- ---- CAUSES. None is told without its fault.

-- In each of so many connections a call of the dial failed, or the other end ended the stream.
abbrev pub BreaksByCause : {T : Type 0} → (connections lost lost' : ℕ) → Result T TransactError → Type 0
BreaksByCause connections lost lost' (Err (errors.Broken count)) = (count ≡ connections) × HasRisenBy count lost lost'
BreaksByCause connections lost lost' result = Unit {0}

-- of a commit
abbrev pub CommitByCause : {T : Type 0} → (limit disk disk' : ℕ) → Result T TransactError → Type 0
CommitByCause limit disk disk' (Ok done) = disk' ≡ disk
CommitByCause limit disk disk' (Err (errors.Store stores.DiskFault)) = HasRisen disk disk'
CommitByCause limit disk disk' (Err (errors.Store (stores.Full length bound))) = (limit < length) × (bound ≡ limit) × (disk' ≡ disk)
CommitByCause limit disk disk' (Err (errors.Store stores.NoMemory)) = disk' ≡ disk
CommitByCause limit disk disk' (Err error) = ⊥

-- where the record of these changes would end, and then all is as before
abbrev pub FullAt : {D T : Type 0} → (changes : List Change) → (old new : StoreState D) → Result T TransactError → Type 0
FullAt changes old new (Ok done) = Unit {0}
FullAt changes old new (Err error) = AtFull error (λ place. (place ≡ (placed old.journal old.tables changes).end) × (new ≡ old))

-- of what makes commits
abbrev pub StoreByCause : {T : Type 0} → (limit disk disk' : ℕ) → Result T TransactError → Type 0
StoreByCause limit disk disk' (Err (errors.Store stores.DiskFault)) = HasRisen disk disk'
StoreByCause limit disk disk' (Err (errors.Store (stores.Full length bound))) = (limit < length) × (bound ≡ limit) × (disk' ≡ disk)
StoreByCause limit disk disk' (Err (errors.Store (stores.NotAStore at found expected))) = ⊥
StoreByCause limit disk disk' result = disk' ≡ disk

-- Of a call over a disk: that it is no store is told by its octets alone.
abbrev pub DiskByCause : {T : Type 0} → (image : Option (List ℕ)) → (limit disk disk' : ℕ) → Result T TransactError → Type 0
DiskByCause image limit disk disk' (Err (errors.Store (stores.NotAStore at found expected))) =
    ((octets : List ℕ) → image ≡ Some octets → refusal octets ≡ Some (record { place = at; found = found; expected = expected })) × (disk' ≡ disk)
DiskByCause image limit disk disk' result = StoreByCause limit disk disk' result

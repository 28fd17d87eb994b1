-- What one connection of a task owes, where the outside tells what it holds.
use Rattle.std.specs.Prelude.{◌≡◌, ◌⊎◌, ℕ, ◌+◌, Bool, true, false, List, [], ◌∷◌, ◌++◌, min, Option, None, Some, Result, Ok, Err, is_some, if◌then◌else◌}
use Rattle.vf_base.specs.Dial.{Call, Connections}
use Rattle.vf_base.specs.Faults.{HasRisen, counted}
use Rattle.vf_base.specs.declared.element.Element.{Element}
use Rattle.vf_initiator.specs.Assignments.{given_of, kind_in}
use Rattle.vf_initiator.specs.Keepable.{MayKeep}
use Rattle.vf_initiator.specs.Keeping.{changes_since, mark_of}
use Rattle.vf_initiator.specs.Represents.{Owes, Represents, resumed}
use Rattle.vf_initiator.specs.Output.{written}
use Rattle.vf_initiator.specs.Says.{doing_of, elements_of, task_kept}
use Rattle.vf_initiator.specs.Talking.{Takes, Talk}
use Rattle.vf_initiator.specs.declared.doing.Doing.{Doing}
use Rattle.vf_initiator.specs.declared.doing.Doing.TheVariants as doings
use Rattle.vf_initiator.specs.declared.doing.TaskError.{TaskError}
use Rattle.vf_initiator.specs.declared.doing.TaskError.TheVariants.{Budget}
use Rattle.vf_initiator.specs.declared.given.Given.{Given}
use Rattle.vf_initiator.specs.declared.initiator.Initiator.{Initiator}
use Rattle.vf_initiator.specs.declared.plan.Plan.{Plan}
use Rattle.vf_store.specs.StoreState.{IsRepresented, StoreState}
use Rattle.vf_tables.specs.Entries.{task_of}
use Rattle.vf_tables.specs.Validity.{is_valid}
use Rattle.vf_tables.specs.declared.change.Change.{Change}
use Rattle.vf_tables.specs.declared.tables.Tables.{Tables}
use Rattle.vf_tables.specs.declared.task.Task.{Task}
use Rattle.vf_tpkt.specs.Tpdu.{packet, request}
use Rattle.vf_tree.specs.FileTree.{octets_of_unit}
use Rattle.vf_transact.specs.Conversation.{Converses, IsFront, IsSpent, Standing, doing_at, standing_first, tables_at, talk_begun}
use Rattle.vf_transact.specs.Starting.{TakenUp, kept_in, octets_sent, taken_up}
use Rattle.vf_transact.specs.Transaction.{Answer, AreSame, AtFull, Connects, Counts, EndsOn, HasCalls, HasFailed, IsLost, KeepsStore, MayBeLost, NothingWritten, Outside, Seen, StopsBefore, StopsWithin, TransactsFound, has_disk_fault, interrupts_connection, is_disk, written_at}
use Rattle.vf_transact.specs.Writing.{PassesAll, PassesFront}
use Rattle.vf_transact.specs.declared.connecting.Outcome.{Outcome}
use Rattle.vf_transact.specs.declared.connecting.Outcome.TheVariants.{Broke, Ended, Failed}
use Rattle.vf_transact.specs.declared.error.TransactError.{TransactError}
use Rattle.vf_transact.specs.declared.error.TransactError.TheVariants as errors
use Rattle.vf_transact.specs.declared.words.PlanWords.{PlanWords}

-- ---- the newest connection of a dial

-- On the newest connection so much was said and heard; these came before it.
pub record IsOn (before : List Call) (said heard : List ℕ) (told : Option Connections) : Type 0 where
  pub now : Connections
  pub left : List ℕ
  pub told_is : told ≡ Some now
  pub calls_are : now.calls ≡ record { said = said; heard = heard; left = left } ∷ before

-- Octets were said on it; a front of them, where that failed.
abbrev pub SaysOn : (before : List Call) → (said heard octets : List ℕ) → Option Connections → (stands : Bool) → Type 0
SaysOn before said heard octets told true = IsOn before (said ++ octets) heard told
SaysOn before said heard octets told false = (front : List ℕ) × (IsFront front octets × IsOn before (said ++ front) heard told)

-- An answer is said whole unless a send failed or memory was wanting; only a failed send ends the connection.
abbrev pub is_whole : {E : Type 0} → Result Bool E → Bool
is_whole (Ok stands) = stands
is_whole (Err error) = false

abbrev pub still_stands : {E : Type 0} → Result Bool E → Bool
still_stands (Ok stands) = stands
still_stands (Err error) = true

-- Where the connection stands, all that waited was said.
pub record OwesAfter (i : Initiator) (talk : Talk) (i' : Initiator) (stands : Bool) : Type 0 where
  pub later : List ℕ
  pub owes : Owes i' talk later
  pub given_is : i'.given ≡ i.given
  pub all : stands ≡ true → Represents i' talk

-- A piece was heard on it; or none, where the other end ended the stream or that failed.
abbrev pub HearsOn : (before : List Call) → (said heard : List ℕ) → Option Connections → (faults faults' : ℕ) → Option (List ℕ) → Type 0
HearsOn before said heard told faults faults' None = (on : IsOn before said heard told) × (HasRisen faults faults' ⊎ (on.left ≡ []))
HearsOn before said heard told faults faults' (Some piece) = IsOn before said (heard ++ piece) told

-- the counts of a dial after a call: the connection stands, and nothing failed
abbrev pub StandsOr : (stands : Bool) → (faults faults' : ℕ) → Type 0
StandsOr true faults faults' = faults' ≡ faults
StandsOr false faults faults' = HasRisen faults faults'

-- ---- a task that the tables keep as it stands, and may keep

abbrev pub KeepsUnder : Given → Talk → Option ℕ → Tables → Type 0
KeepsUnder given talk None tables = Unit {0}
KeepsUnder given talk (Some activity) tables = (task_of activity tables ≡ task_kept given talk.conduct) × MayKeep given activity talk.conduct

abbrev pub KeepsAs : Given → Talk → Tables → Type 0
KeepsAs given talk tables = (is_valid tables ≡ true) × KeepsUnder given talk given.assignment.activity tables

-- ---- one piece

-- A piece was taken, and what is to be sent for it was appended, but for what waits.
pub record TakesIn (i : Initiator) (talk : Talk) (piece said : List ℕ) (i' : Initiator) (after : Talk) (said' : List ℕ) (doing : Doing) : Type 0 where
  pub octets : List ℕ
  pub rest : List ℕ
  pub takes : Takes i.given (is_some i.given.assignment.activity) (resumed talk) piece octets after
  pub owes : Owes i' after rest
  pub given_is : i'.given ≡ i.given
  pub sent : said' ++ rest ≡ said ++ octets
  pub doing_is : doing ≡ doing_of after.conduct

-- of a get that has ended all that it received was written, and else nothing
abbrev pub Writes : (kind : ℕ) → List Element → Doing → Option (List ℕ) → Option (List ℕ) → Type 0
Writes kind elements doings.Ended old new = PassesAll (written kind elements) old new
Writes kind elements doings.Going old new = new ≡ old
Writes kind elements (doings.Failed error) old new = new ≡ old

-- or a front of that
abbrev pub WritesPart : (kind : ℕ) → List Element → Doing → Option (List ℕ) → Option (List ℕ) → Type 0
WritesPart kind elements doings.Ended old new = PassesFront (written kind elements) old new
WritesPart kind elements doings.Going old new = new ≡ old
WritesPart kind elements (doings.Failed error) old new = new ≡ old

-- The store keeps the task as it stands after the piece.
pub record KeepsPiece {D : Type 0} (shown : D → Option (List ℕ)) (may_leave : D → List ℕ → Type 0) (moment : D → ℕ) (left_since : D → ℕ → List ℕ → Type 0) (given : Given) (after : Talk) (doing : Doing) (old new : StoreState D) : Type 0 where
  pub keeps : KeepsStore shown may_leave moment left_since old new (tables_at given after.conduct old.tables ∷ []) (tables_at given after.conduct old.tables) false
  pub goes_on : doing ≡ doings.Going → KeepsAs given after new.tables

-- A piece that wasn't answered: memory was wanting to take it; or it was taken, what it is to write or to keep was begun, and the
-- tables with the task as it then stands are the next ones.
abbrev pub LosesPiece : (Tables → List Change → ℕ → Type 0) → Given → (kind : ℕ) → Talk → (piece : List ℕ) → Tables → (next : List Tables) → Option (List ℕ) → Option (List ℕ) → TransactError → Type 0
LosesPiece ends given kind talk piece tables next old new error =
    ((next ≡ []) × (new ≡ old) × (error ≡ errors.NoMemory))
    ⊎ ((octets : List ℕ) × (after : Talk)
    × (Takes given (is_some given.assignment.activity) (resumed talk) piece octets after × (next ≡ tables_at given after.conduct tables ∷ [])
    × WritesPart kind (elements_of after.conduct) (doing_of after.conduct) old new
    × AtFull error (ends tables (changes_since given (mark_of given talk.conduct) after.conduct))))

-- the store keeps as before
pub record LosesIn {D : Type 0} (shown : D → Option (List ℕ)) (may_leave : D → List ℕ → Type 0) (moment : D → ℕ) (left_since : D → ℕ → List ℕ → Type 0) (given : Given) (kind : ℕ) (talk : Talk) (piece : List ℕ) (old new : StoreState D) (output output' : Option (List ℕ)) (error : TransactError) : Type 0 where
  pub next : List Tables
  pub loses : LosesPiece (EndsOn shown may_leave new.disk) given kind talk piece old.tables next output output' error
  pub keeps : KeepsStore shown may_leave moment left_since old new next old.tables (is_disk error)

-- ---- a connection

-- It failed by what the task came to; or it gave as much as one may.
abbrev pub FailsBy : (heard : List ℕ) → Doing → TaskError → Type 0
FailsBy heard (doings.Failed why) error = error ≡ why
FailsBy heard doings.Ended error = ⊥
FailsBy heard doings.Going error = (error ≡ Budget) × IsSpent heard

-- It was lost as the task went on, or the task isn't going on.
abbrev pub Leaves : Plan → Call → Standing → Outcome → Outside → Counts → Counts → Type 0
Leaves plan call at Broke outside counts counts' =
    (doing_at at ≡ doings.Going) × NothingWritten outside × IsLost counts counts' × (HasFailed counts counts' ⊎ (call.left ≡ []))
Leaves plan call at (Ended octets) outside counts counts' =
    (doing_at at ≡ doings.Ended) × (octets ≡ min (octets_of_unit (elements_of at.talk.conduct)) 18446744073709551615)
    × (outside.output' ≡ outside.output ++ written_at plan at) × MayBeLost counts counts'
Leaves plan call at (Failed error) outside counts counts' = FailsBy call.heard (doing_at at) error × NothingWritten outside × MayBeLost counts counts'

-- A connection that was had, whatever came of it: what was said and heard on it, the tables after each piece, and those in the end.
pub record ComesTo (plan : Plan) (kept : Option Task) (call : Call) (outside : Outside) (counts counts' : Counts) (trail : List Tables) (tables tables' : Tables) (outcome : Outcome) : Type 0 where
  pub at : Standing
  pub converses : Converses plan kept call.heard call.said (HasFailed counts counts') trail (standing_first plan kept tables) at
  pub tables_are : tables' ≡ at.tables
  pub leaves : Leaves plan call at outcome outside counts counts'

abbrev pub GoesThrough : (Tables → List Change → ℕ → Type 0) → Plan → Option Task → Call → Outside → Counts → Counts → (trail : List Tables) → (tables tables' : Tables) → Result Outcome TransactError → Type 0
GoesThrough ends plan kept call outside counts counts' trail tables tables' (Ok outcome) = ComesTo plan kept call outside counts counts' trail tables tables' outcome
GoesThrough ends plan kept call outside counts counts' trail tables tables' (Err error) =
    AreSame counts counts' × (interrupts_connection error ≡ true) × StopsWithin ends plan kept call outside trail tables tables' error

-- One that wasn't had, or before which memory was wanting.
abbrev pub IsNotHad : List Call → Outside → Counts → Counts → (tables tables' : Tables) → Result Outcome TransactError → Type 0
IsNotHad calls outside counts counts' tables tables' (Ok Broke) = (calls ≡ []) × NothingWritten outside × IsLost counts counts' × HasFailed counts counts' × (tables' ≡ tables)
IsNotHad calls outside counts counts' tables tables' (Ok outcome) = ⊥
IsNotHad calls outside counts counts' tables tables' (Err error) = StopsBefore calls outside counts counts' tables tables' × (error ≡ errors.NoMemory)

abbrev pub TriesOnce : (Tables → List Change → ℕ → Type 0) → Plan → Option Task → List Call → Outside → Counts → Counts → (trail : List Tables) → (tables tables' : Tables) → Result Outcome TransactError → Type 0
TriesOnce ends plan kept calls outside counts counts' trail tables tables' result =
    ((trail ≡ []) × IsNotHad calls outside counts counts' tables tables' result)
    ⊎ ((call : Call) × ((calls ≡ call ∷ []) × GoesThrough ends plan kept call outside counts counts' trail tables tables' result))

-- ---- where the outside tells what it holds

-- The tables keep a task that goes on.
pub record GoesOn (given : Given) (tables : Tables) : Type 0 where
  pub talk : Talk
  pub going : doing_of talk.conduct ≡ doings.Going
  pub keeps : KeepsAs given talk tables

abbrev pub IfBroke : Result Outcome TransactError → Type 0 → Type 0
IfBroke (Ok Broke) holds = holds
IfBroke result holds = Unit {0}

-- A connection that has just been had, for a task that the store keeps as it begins.
pub record IsBegun {D : Type 0} (shown : D → Option (List ℕ)) (may_leave : D → List ℕ → Type 0) (plan : Plan) (kept : Option Task) (before : List Call) (output : List ℕ) (kind : ℕ) (first : List ℕ) (i : Initiator) (seen : Seen) (store : StoreState D) : Type 0 where
  pub given_is : i.given ≡ given_of plan kept
  pub represents : Represents i (talk_begun plan kept)
  pub first_is : first ≡ packet request
  pub kind_is : kind ≡ kind_in plan.task
  pub on : IsOn before [] [] seen.told
  pub taken_is : seen.taken ≡ Some output
  pub stands : IsRepresented shown may_leave store
  pub keeps : KeepsAs (given_of plan kept) (talk_begun plan kept) store.tables

-- what is owed of it
pub record IsThrough {D : Type 0} (shown : D → Option (List ℕ)) (may_leave : D → List ℕ → Type 0) (moment : D → ℕ) (left_since : D → ℕ → List ℕ → Type 0) (plan : Plan) (kept : Option Task) (before : List Call) (output : List ℕ) (counts : Counts) (old : StoreState D) (seen : Seen) (new : StoreState D) (result : Result Outcome TransactError) : Type 0 where
  pub said : List ℕ
  pub heard : List ℕ
  pub output' : List ℕ
  pub trail : List Tables
  pub tables' : Tables
  pub on : IsOn before said heard seen.told
  pub taken_is : seen.taken ≡ Some output'
  pub goes : GoesThrough (EndsOn shown may_leave new.disk) plan kept (record { said = said; heard = heard; left = on.left }) (record { output = output; output' = output' }) counts seen.counts trail old.tables tables' result
  pub keeps : KeepsStore shown may_leave moment left_since old new trail tables' (has_disk_fault result)
  pub again : IfBroke result (GoesOn (given_of plan kept) new.tables)

-- how the tables keep a task that goes on from earlier connections, if it does
abbrev pub kept_when : (goes_on : Bool) → Option ℕ → Tables → Option Task
kept_when goes_on activity tables = if goes_on then kept_in activity tables else None

-- A task that the store keeps as a connection is to begin with it.
pub record MayBegin {D : Type 0} (shown : D → Option (List ℕ)) (may_leave : D → List ℕ → Type 0) (plan : Plan) (kept : Option Task) (store : StoreState D) : Type 0 where
  pub stands : IsRepresented shown may_leave store
  pub keeps : KeepsAs (given_of plan kept) (talk_begun plan kept) store.tables

abbrev pub outcome_of : Result (Plan × Outcome) TransactError → Result Outcome TransactError
outcome_of (Ok tried) = Ok tried.1
outcome_of (Err error) = Err error

-- What is owed of a connection that is tried; the task then goes on with how the tables keep it.
pub record IsTried {D : Type 0} (shown : D → Option (List ℕ)) (may_leave : D → List ℕ → Type 0) (moment : D → ℕ) (left_since : D → ℕ → List ℕ → Type 0) (plan : Plan) (kept : Option Task) (before : Connections) (output : List ℕ) (counts : Counts) (old : StoreState D) (seen : Seen) (new : StoreState D) (result : Result Outcome TransactError) : Type 0 where
  pub after : Connections
  pub output' : List ℕ
  pub calls : List Call
  pub trail : List Tables
  pub tables' : Tables
  pub told_is : seen.told ≡ Some after
  pub taken_is : seen.taken ≡ Some output'
  pub called : HasCalls before calls after
  pub tries : TriesOnce (EndsOn shown may_leave new.disk) plan kept calls (record { output = output; output' = output' }) counts seen.counts trail old.tables tables' result
  pub keeps : KeepsStore shown may_leave moment left_since old new trail tables' (has_disk_fault result)
  pub again : IfBroke result (MayBegin shown may_leave plan (kept_in plan.activity new.tables) new)

-- ---- all connections

-- the report, where so many octets were received
abbrev pub reported : TakenUp → Result ℕ TransactError → Answer
reported begun (Ok received) = Ok (record { octets = min (min (octets_sent begun) 18446744073709551615 + received) 18446744073709551615; resumed = is_some begun.kept })
reported begun (Err error) = Err error

-- A call that is to do a task that was taken up, on so many connections: the store keeps it as the first of them begins.
pub record MayConnect {D : Type 0} (shown : D → Option (List ℕ)) (may_leave : D → List ℕ → Type 0) (begun : TakenUp) (plan : Plan) (is_kept : Bool) (kind : ℕ) (before : Connections) (output : List ℕ) (seen : Seen) (store : StoreState D) : Type 0 where
  pub plan_is : plan ≡ begun.plan
  pub kept_is : begun.kept ≡ kept_when is_kept begun.plan.activity store.tables
  pub kind_is : kind ≡ kind_in begun.plan.task
  pub told_is : seen.told ≡ Some before
  pub taken_is : seen.taken ≡ Some output
  pub begins : MayBegin shown may_leave begun.plan begun.kept store

-- What is owed of all the connections of a call.
pub record AreTried {D : Type 0} (shown : D → Option (List ℕ)) (may_leave : D → List ℕ → Type 0) (moment : D → ℕ) (left_since : D → ℕ → List ℕ → Type 0) (begun : TakenUp) (connections : ℕ) (before : Connections) (output : List ℕ) (counts : Counts) (old : StoreState D) (seen : Seen) (new : StoreState D) (result : Answer) : Type 0 where
  pub after : Connections
  pub output' : List ℕ
  pub calls : List Call
  pub trail : List Tables
  pub tables' : Tables
  pub told_is : seen.told ≡ Some after
  pub taken_is : seen.taken ≡ Some output'
  pub called : HasCalls before calls after
  pub connects : Connects (EndsOn shown may_leave new.disk) begun (record { output = output; output' = output' }) connections connections true counts seen.counts calls trail old.tables tables' result
  pub keeps : KeepsStore shown may_leave moment left_since old new trail tables' (has_disk_fault result)

-- What is owed of all of a task, over a store.
pub record IsDone {D : Type 0} (shown : D → Option (List ℕ)) (may_leave : D → List ℕ → Type 0) (moment : D → ℕ) (left_since : D → ℕ → List ℕ → Type 0) (words : PlanWords) (input : List ℕ) (before : Connections) (output : List ℕ) (counts : Counts) (old : StoreState D) (seen : Seen) (new : StoreState D) (result : Answer) : Type 0 where
  pub after : Connections
  pub output' : List ℕ
  pub calls : List Call
  pub trail : List Tables
  pub tables' : Tables
  pub told_is : seen.told ≡ Some after
  pub taken_is : seen.taken ≡ Some output'
  pub called : HasCalls before calls after
  pub transacts : TransactsFound (EndsOn shown may_leave new.disk) words input (taken_up words old.tables) calls (record { output = output; output' = output' }) counts seen.counts trail old.tables tables' result
  pub keeps : KeepsStore shown may_leave moment left_since old new trail tables' (has_disk_fault result)

-- ---- causes: a connection that was lost or not had counts as one, and no other fault is told without its count
abbrev pub LostBy : (lost lost' : ℕ) → Outcome → Type 0
LostBy lost lost' Broke = lost' ≡ counted lost
LostBy lost lost' outcome = Unit {0}

-- the output failed where its count rose, and in no other case did that rise
abbrev pub WritesByCause : {T : Type 0} → ℕ → ℕ → Result T TransactError → Type 0
WritesByCause old new (Err errors.OutputFault) = HasRisen old new
WritesByCause old new result = new ≡ old

-- an error by which a piece or a connection is interrupted: the task didn't fail, and the input isn't read
abbrev pub is_no_failure : TransactError → Bool
is_no_failure errors.OutputFault = true
is_no_failure (errors.Store error) = true
is_no_failure errors.NoMemory = true
is_no_failure error = false

abbrev pub IsNoFailure : {T : Type 0} → Result T TransactError → Type 0
IsNoFailure (Ok value) = Unit {0}
IsNoFailure (Err error) = is_no_failure error ≡ true

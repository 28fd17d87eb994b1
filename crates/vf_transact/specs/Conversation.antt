-- One connection of a task (profile): what is said to what is heard, and which tables the disk keeps meanwhile.
use Rattle.std.specs.Prelude.{◌≡◌, ◌⊎◌, ℕ, ◌≤◌, List, [], ◌∷◌, ◌++◌, length, Option, None, Some, is_some}
use Rattle.std.specs.List.{flat_map}
use Rattle.vf_initiator.specs.Asking.{associate}
use Rattle.vf_initiator.specs.Assignments.{assignment_of, given_of}
use Rattle.vf_initiator.specs.Keepable.{with_kept}
use Rattle.vf_initiator.specs.Represents.{resumed}
use Rattle.vf_initiator.specs.Says.{beginning, doing_of, task_kept}
use Rattle.vf_initiator.specs.Talking.{Takes, Talk, begun}
use Rattle.vf_initiator.specs.declared.conduct.Conduct.{Conduct}
use Rattle.vf_initiator.specs.declared.doing.Doing.{Doing}
use Rattle.vf_initiator.specs.declared.given.Given.{Given}
use Rattle.vf_initiator.specs.declared.plan.Plan.{Plan}
use Rattle.vf_session.specs.declared.units.TokenSide.TheVariants.{Initiator}
use Rattle.vf_stack.specs.Association.{Association}
use Rattle.vf_stack.specs.Pieces.{TellOnce}
use Rattle.vf_tables.specs.declared.tables.Tables.{Tables}
use Rattle.vf_tables.specs.declared.task.Task.{Task}
use Rattle.vf_tpkt.specs.Tpdu.{packet, request}

-- how the initiator stands on its connection, and the tables that are kept
pub record Standing : Type 0 where
  pub talk : Talk
  pub tables : Tables

abbrev pub doing_at : Standing → Doing
doing_at at = doing_of at.talk.conduct

-- before anything is heard
abbrev pub talk_begun : Plan → Option Task → Talk
talk_begun plan kept = begun (associate plan (assignment_of plan kept)) (beginning plan kept)

abbrev pub standing_first : Plan → Option Task → Tables → Standing
standing_first plan kept tables = record { talk = talk_begun plan kept; tables = tables }

-- The tables with the task as it stands, or without it where it ended. A task without an activity isn't kept.
abbrev pub tables_under : Option ℕ → Given → Conduct → Tables → Tables
tables_under None given c tables = tables
tables_under (Some activity) given c tables = with_kept activity (task_kept given c) tables

abbrev pub tables_at : Given → Conduct → Tables → Tables
tables_at given c tables = tables_under given.assignment.activity given c tables

-- Octets tell one thing at most, by the last of them: wherever they are cut, those before the cut tell nothing, or those after it
-- do.
abbrev pub TellsOnce : Association → List ℕ → Type 0
TellsOnce a octets = (first second : List ℕ) → octets ≡ first ++ second → TellOnce Initiator a first second

-- A piece of the connection is taken. It tells one thing at most, so that nothing is heard past what is to be answered first.
-- What is to be said to its octets is said by the table, and the task is to be kept as it stands then.
pub record TakesOne (given : Given) (piece octets : List ℕ) (at at' : Standing) : Type 0 where
  pub once : TellsOnce at.talk.association piece
  pub takes : Takes given (is_some given.assignment.activity) (resumed at.talk) piece octets at'.talk
  pub kept : at'.tables ≡ tables_at given at'.talk.conduct at.tables

-- Pieces, one after another, with the tables after each of them.
abbrev pub TakesPieces : Given → (pieces : List (List ℕ)) → (octets : List ℕ) → (trail : List Tables) → Standing → Standing → Type 0
TakesPieces given [] octets trail at at' = (octets ≡ []) × (trail ≡ []) × (at' ≡ at)
TakesPieces given (piece ∷ pieces) octets trail at at' =
    (first : List ℕ) × (others : List ℕ) × (later : List Tables) × (middle : Standing)
    × (TakesOne given piece first at middle × TakesPieces given pieces others later middle at'
    × (octets ≡ first ++ others) × (trail ≡ middle.tables ∷ later))

-- All that was heard was answered, in whatever pieces it came; the CR is said first.
pub record AnswersAll (plan : Plan) (kept : Option Task) (heard said : List ℕ) (trail : List Tables) (at at' : Standing) : Type 0 where
  pub pieces : List (List ℕ)
  pub answers : List ℕ
  pub heard_is : flat_map (λ piece. piece) pieces ≡ heard
  pub takes : TakesPieces (given_of plan kept) pieces answers trail at at'
  pub said_is : said ≡ packet request ++ answers

abbrev pub IsFront : (front octets : List ℕ) → Type 0
IsFront front octets = (rest : List ℕ) × (octets ≡ front ++ rest)

-- Of the answer to the last piece a front was said, and of all before it everything.
pub record AnswersLastInPart (plan : Plan) (kept : Option Task) (heard said : List ℕ) (trail : List Tables) (at at' : Standing) : Type 0 where
  pub earlier : List ℕ
  pub piece : List ℕ
  pub before : List ℕ
  pub answer : List ℕ
  pub front : List ℕ
  pub first : List Tables
  pub middle : Standing
  pub answered : AnswersAll plan kept earlier before first at middle
  pub takes : TakesOne (given_of plan kept) piece answer middle at'
  pub heard_is : heard ≡ earlier ++ piece
  pub trail_is : trail ≡ first ++ at'.tables ∷ []
  pub said_is : said ≡ before ++ front
  pub is_front : IsFront front answer

-- Nothing was heard, and of the CR a front was said.
pub record BeginsInPart (heard said : List ℕ) (trail : List Tables) (at at' : Standing) : Type 0 where
  pub unheard : heard ≡ []
  pub nothing : trail ≡ []
  pub stays : at' ≡ at
  pub is_front : IsFront said (packet request)

-- A connection on which so much was heard and said: all was answered; or a send failed, by which a front of its octets was said.
abbrev pub Converses : Plan → Option Task → (heard said : List ℕ) → (has_failed : Type 0) → (trail : List Tables) → (at at' : Standing) → Type 0
Converses plan kept heard said has_failed trail at at' =
    AnswersAll plan kept heard said trail at at'
    ⊎ (has_failed × (BeginsInPart heard said trail at at' ⊎ AnswersLastInPart plan kept heard said trail at at'))

-- One connection gives at most so many octets.
abbrev pub IsSpent : (heard : List ℕ) → Type 0
IsSpent heard = 1073741824 ≤ length heard

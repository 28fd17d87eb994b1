-- Which talks an initiator represents, and what its calls owe for each of them.
use Rattle.std.specs.Prelude.{◌≡◌, ℕ, Bool, false, List, [], ◌++◌, is_some, length}
use Rattle.vf_initiator.specs.Keeping.{changes_since, mark_of}
use Rattle.vf_initiator.specs.Rows.{is_over}
use Rattle.vf_initiator.specs.Says.{doing_of}
use Rattle.vf_initiator.specs.Talking.{AreSent, Takes, Talk}
use Rattle.vf_initiator.specs.declared.doing.Doing.{Doing}
use Rattle.vf_initiator.specs.declared.initiator.Initiator.{Initiator}
use Rattle.vf_initiator.specs.Gathering.{marked}
use Rattle.vf_session.specs.declared.units.TokenSide.TheVariants as sides
use Rattle.vf_stack.specs.Association.{Association}
use Rattle.vf_stack.specs.Represents.{Represents as IsStackOf, offer_of, side_of}
use Rattle.vf_tables.specs.declared.change.Change.{Change}

-- The stack is the calling end of the association, and all else is as it is kept, but for how many octets came.
pub record Holds (i : Initiator) (talk : Talk) : Type 0 where
  pub association : IsStackOf i.stack talk.association
  pub side : side_of i.stack ≡ sides.Initiator
  pub offer : offer_of i.stack ≡ is_some i.given.assignment.activity
  pub greeting : i.greeting ≡ talk.greeting
  pub conduct : i.conduct ≡ talk.conduct

-- The octets are counted as long as the task goes on. All that was to be said is spelled.
pub record Represents (i : Initiator) (talk : Talk) : Type 0 where
  pub holds : Holds i talk
  pub octets : is_over talk.conduct.stage ≡ false → i.octets ≡ length talk.association.stream
  pub waits : i.waiting.items ≡ []

-- The same, but for requests that wait to be spelled: the stack is that of an association from which they are sent, as these
-- octets, by which it comes to that of the talk.
pub record Lags (i : Initiator) (talk : Talk) (rest : List ℕ) : Type 0 where
  pub now : Association
  pub holds : Holds i (record talk { association = now })
  pub sends : AreSent (is_some i.given.assignment.activity) now i.waiting.items rest talk.association

-- Once these octets are spelled too, the talk is represented.
pub record Owes (i : Initiator) (talk : Talk) (rest : List ℕ) : Type 0 where
  pub lags : Lags i talk rest
  pub octets : is_over talk.conduct.stage ≡ false → i.octets ≡ length talk.association.stream

-- The talk as a call begins: its pieces are those that are kept.
abbrev pub resumed : Talk → Talk
resumed talk = record talk { conduct = record talk.conduct { gathered = marked talk.conduct.gathered } }

-- A piece of the connection was taken: what is sent for it and what is changed by it were appended.
pub record TakesPiece (i : Initiator) (talk : Talk) (piece : List ℕ) (changes : List Change) (out : List ℕ) (i' : Initiator) (changes' : List Change) (out' : List ℕ) (doing : Doing) : Type 0 where
  pub after : Talk
  pub octets : List ℕ
  pub takes : Takes i.given (is_some i.given.assignment.activity) (resumed talk) piece octets after
  pub represents : Represents i' after
  pub given_is : i'.given ≡ i.given
  pub sent : out' ≡ out ++ octets
  pub changed : changes' ≡ changes ++ changes_since i.given (mark_of i.given talk.conduct) after.conduct
  pub doing_is : doing ≡ doing_of after.conduct

-- The same, but the requests that answer the last message may wait: what is sent for it was appended but for these octets.
pub record TakesWaiting (i : Initiator) (talk : Talk) (piece : List ℕ) (changes : List Change) (out : List ℕ) (i' : Initiator) (changes' : List Change) (out' : List ℕ) (doing : Doing) : Type 0 where
  pub after : Talk
  pub octets : List ℕ
  pub rest : List ℕ
  pub takes : Takes i.given (is_some i.given.assignment.activity) (resumed talk) piece octets after
  pub owes : Owes i' after rest
  pub given_is : i'.given ≡ i.given
  pub sent : out' ++ rest ≡ out ++ octets
  pub changed : changes' ≡ changes ++ changes_since i.given (mark_of i.given talk.conduct) after.conduct
  pub doing_is : doing ≡ doing_of after.conduct

-- A front of what waited was appended; and where no more waits, all of it, so that the talk is represented.
pub record IsSaid (i : Initiator) (talk : Talk) (rest out : List ℕ) (i' : Initiator) (out' : List ℕ) (more : Bool) : Type 0 where
  pub later : List ℕ
  pub owes : Owes i' talk later
  pub given_is : i'.given ≡ i.given
  pub together : out' ++ later ≡ out ++ rest
  pub all : more ≡ false → (later ≡ []) × Represents i' talk

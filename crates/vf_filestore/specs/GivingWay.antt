-- A message is answered once the association that stands in its way is gone (profile): this abort and the answer are each a
-- step of its own, and neither touches the parties of other links.
use Rattle.std.specs.Prelude.{◌≡◌, ◌≢◌, ◌↔◌, ℕ, ◌+◌, true, List, [], ◌∷◌, ◌++◌, find, length, IfSome, Option, None, Some, is_some, if◌then◌else◌}
use Rattle.vf_elements.specs.declared.message.Message.{Message}
use Rattle.vf_elements.specs.declared.message.Said.TheVariants as answers
use Rattle.vf_filestore.specs.Aborts.{Setting}
use Rattle.vf_filestore.specs.Diagnostics.{superseded}
use Rattle.vf_filestore.specs.Dockets.{broken}
use Rattle.vf_filestore.specs.Opening.{is_at}
use Rattle.vf_filestore.specs.Ranges.{IsReached}
use Rattle.vf_filestore.specs.Records.{changes_by, given_way}
use Rattle.vf_filestore.specs.Runs.{arrives}
use Rattle.vf_filestore.specs.Sayable.{CanTell}
use Rattle.vf_filestore.specs.Sound.{IsSound}
use Rattle.vf_filestore.specs.State.{State, StandingParty, arrived, party_of}
use Rattle.vf_filestore.specs.Tables.{tables_of}
use Rattle.vf_filestore.specs.Transition.{Sent, Turn, answered, on_link, superseded_by, transition}

-- what the association in the way is told first
abbrev pub told_first : Option StandingParty → List Sent
told_first None = []
told_first (Some other) = on_link other.link (answers.Abort superseded 0 ∷ [])

-- the state in which a party answers
abbrev pub answering_in : State → StandingParty → Message → State
answering_in state party message = given_way (superseded_by state party message) state

-- what is sent in the state without the one in the way, and what was sent to it
abbrev pub turn_after : Option StandingParty → State → (link : ℕ) → StandingParty → Setting → Message → Turn
turn_after first state link party setting message =
    let answer = answered state party setting message in record { sent = told_first first ++ on_link link answer.said; state = answer.state }

-- it stands on a link of its own, which is another
pub record IsInWay (state : State) (link : ℕ) (other : StandingParty) : Type 0 where
  pub stands : party_of other.link state.parties ≡ Some other
  pub apart : other.link ≢ link

-- The transition by a message of the link's party: once one that is in its way is gone, nothing is, and what is kept is as it
-- was; so are the parties of all other links.
pub record IsAnsweredAfter (state : State) (link : ℕ) (party : StandingParty) (setting : Setting) (message : Message) : Type 0 where
  pub in_way : IfSome (superseded_by state party message) (IsInWay state link)
  pub turn : transition state link setting message ≡ turn_after (superseded_by state party message) (answering_in state party message) link party setting message
  pub nobody : superseded_by (answering_in state party message) party message ≡ None
  pub alone : transition (answering_in state party message) link setting message ≡ turn_after None (answering_in state party message) link party setting message
  pub changes : changes_by (answering_in state party message) link setting message ≡ changes_by state link setting message
  pub stands : party_of link (answering_in state party message).parties ≡ Some party
  pub others : (one : ℕ) → IfSome (superseded_by state party message) (λ other. other.link ≢ one) → party_of one (answering_in state party message).parties ≡ party_of one state.parties
  pub sound : IsSound (answering_in state party message)
  pub reached : IsReached state → IsReached (answering_in state party message)
  pub telling : CanTell state → CanTell (answering_in state party message)
  pub kept : tables_of (answering_in state party message) ≡ tables_of state

abbrev pub AnswersFollow : Type 0
AnswersFollow =
    (state : State) (link : ℕ) (party : StandingParty) (setting : Setting) (message : Message) → IsSound state → party_of link state.parties ≡ Some party
    → IsAnsweredAfter state link party setting message

-- It is found by its open wherever it is looked for: a state that is sound has no other party with this identity and activity.
abbrev pub OneIsInWay : Type 0
OneIsInWay =
    (state : State) (identity : List ℕ) (activity : ℕ) (other : StandingParty) → IsSound state
    → find (is_at identity activity) state.parties ≡ Some other ↔ (party_of other.link state.parties ≡ Some other) × (is_at identity activity other ≡ true)

-- OTHER LINKS. Whatever a party answers, each of them has the party that it had.
abbrev pub AnswersLeaveOthers : Type 0
AnswersLeaveOthers =
    (state : State) (party : StandingParty) (setting : Setting) (message : Message) (other : ℕ) → other ≢ party.link
    → party_of other (answered state party setting message).state.parties ≡ party_of other state.parties

-- So it is where an association is gone, by an abort or otherwise, and where one arrives.
abbrev pub BreaksLeaveOthers : Type 0
BreaksLeaveOthers = (state : State) (link other : ℕ) → other ≢ link → party_of other (broken link state).parties ≡ party_of other state.parties

abbrev pub ArrivalsLeaveOthers : Type 0
ArrivalsLeaveOthers = (state : State) (link other : ℕ) → other ≢ link → party_of other (arrives link state).parties ≡ party_of other state.parties

-- THE LINK ITSELF has no party then, or a new one.
abbrev pub BreaksLeaveNone : Type 0
BreaksLeaveNone = (state : State) (link : ℕ) → party_of link (broken link state).parties ≡ None

abbrev pub ArrivalsStand : Type 0
ArrivalsStand = (state : State) (link : ℕ) → party_of link state.parties ≡ None → party_of link (arrives link state).parties ≡ Some (arrived link)

-- HOW MANY STAND. A message's party stands on or is gone, and there is no other change of their number.
abbrev pub gone_of : Option StandingParty → ℕ
gone_of party = if is_some party then 0 else 1

abbrev pub AnswersCount : Type 0
AnswersCount =
    (state : State) (party : StandingParty) (setting : Setting) (message : Message) → IsSound state → party_of party.link state.parties ≡ Some party
    → length (answered state party setting message).state.parties + gone_of (party_of party.link (answered state party setting message).state.parties)
    ≡ length state.parties

abbrev pub BreaksCount : Type 0
BreaksCount =
    (state : State) (link : ℕ) (party : StandingParty) → IsSound state → party_of link state.parties ≡ Some party
    → length (broken link state).parties + 1 ≡ length state.parties

abbrev pub ArrivalsCount : Type 0
ArrivalsCount = (state : State) (link : ℕ) → length (arrives link state).parties ≡ length state.parties + 1

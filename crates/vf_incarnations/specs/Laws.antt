-- What holds of incarnations one after another (profile): they are one run of the filestore, with a stop at the end of each.
use Rattle.std.specs.Prelude.{◌≡◌, ◌⊎◌, List, [], ◌∷◌, ◌++◌, Option, None, Some}
use Rattle.vf_base.specs.declared.events.ScriptEvent.{ScriptEvent}
use Rattle.vf_filestore.specs.Keeping.{AreOthersValid}
use Rattle.vf_filestore.specs.Laws.{IsNew}
use Rattle.vf_filestore.specs.Ranges.{AreOthersRanged, IsReached, WasRead}
use Rattle.vf_filestore.specs.Runs.{Event, Stops, after_event, beginning}
use Rattle.vf_filestore.specs.Runs as filestore
use Rattle.vf_filestore.specs.State.{State}
use Rattle.vf_filestore.specs.Tables.{tables_of}
use Rattle.vf_serial.specs.Laws.{AreNew, EachUse, IsUsedSerially}
use Rattle.vf_serial.specs.Moves as moves
use Rattle.vf_tables.specs.declared.user.User.{User}
use Rattle.vf_responder.specs.Answers.{Answer, at_end}
use Rattle.vf_responder.specs.FilestoreRuns.{IsSaying}
use Rattle.vf_responder.specs.Run.{run, tables_in}
use Rattle.vf_responder.specs.Serving.{IsBegun, Serving, unheard}
use Rattle.vf_incarnations.specs.Incarnations.{Incarnation, Episode, Incarnates, Drops, after, after_all, answers, left_by}
use Rattle.vf_incarnations.specs.Messages.{events_among, happenings, to_events, to_incarnation}

-- AN ANSWER is what the filestore does to the event that it is to: it leads to that state, and says, on the link of a party, what
-- is sent. A link that arrives is new, and each message was read from octets.
pub record Does (serving : Serving) (answer : Answer) (event : Event) : Type 0 where
  pub new : IsNew event serving.filestore
  pub read : WasRead event
  pub leads : answer.state.filestore ≡ (after_event serving.filestore event).state
  pub says : ((after_event serving.filestore event).sent ≡ []) ⊎ IsSaying serving answer (after_event serving.filestore event).sent

-- one that is to none leaves the filestore as it is
abbrev pub IsTo : Serving → Answer → Option Event → Type 0
IsTo serving answer None = answer.state.filestore ≡ serving.filestore
IsTo serving answer (Some event) = Does serving answer event

abbrev pub AreTo : Serving → List Answer → List (Option Event) → Type 0
AreTo serving [] [] = Unit {0}
AreTo serving (answer ∷ later) (event ∷ events) = IsTo serving answer event × AreTo answer.state later events
AreTo serving _ _ = ⊥

abbrev pub EventsAreAnswered : Type 0
EventsAreAnswered = (events : List ScriptEvent) (serving : Serving) → IsReached serving.filestore → AreTo serving (run events serving) (to_events events serving)

-- A STATE THAT AN INCARNATION MAY BEGIN WITH, as each is that one leaves: it has no party, and messages lead to it that were read.
pub record MayBegin (state : State) : Type 0 where
  pub alone : state.parties ≡ []
  pub reached : IsReached state

-- The responder is opened with it where the disk represents its tables.
abbrev pub BeginsSo : Type 0
BeginsSo = (state : State) → MayBegin state → IsBegun (tables_of state) (unheard state)

-- So may the first one, with a store of users and nothing else.
abbrev pub NewStoresBegin : Type 0
NewStoresBegin = (users : List User) → AreOthersValid users [] → AreOthersRanged users [] → MayBegin (beginning users [])

-- AN INCARNATION is a run of the filestore with a stop at its end. It leaves what a store keeps after its answers, and the next
-- one may begin with that.
pub record IsRun (incarnation : Incarnation) (state : State) : Type 0 where
  pub answered : AreTo (unheard state) (answers incarnation state) (to_incarnation incarnation state)
  pub leads : left_by incarnation state ≡ (filestore.run (events_among (to_incarnation incarnation state) ++ Stops ∷ []) state).state
  pub keeps : tables_of (left_by incarnation state) ≡ tables_in (at_end (unheard state) (answers incarnation state))
  pub begins : MayBegin (left_by incarnation state)

abbrev pub IncarnationsAreRuns : Type 0
IncarnationsAreRuns = (incarnation : Incarnation) (state : State) → MayBegin state → IsRun incarnation state

-- ONE AFTER ANOTHER they are one run, in which each answers what the filestore does to that event in the state that those before
-- it have left.
abbrev pub EachIsRun : List Episode → State → Type 0
EachIsRun [] state = Unit {0}
EachIsRun (Incarnates incarnation ∷ later) state = IsRun incarnation state × EachIsRun later (left_by incarnation state)
EachIsRun (Drops identity activity ∷ later) state = EachIsRun later (after (Drops identity activity) state)

pub record AreOneRun (episodes : List Episode) (state : State) : Type 0 where
  pub each : EachIsRun episodes state
  pub new : AreNew (happenings episodes state) state
  pub leads : after_all episodes state ≡ moves.state_after (happenings episodes state) state
  pub begins : MayBegin (after_all episodes state)

abbrev pub IncarnationsAreOneRun : Type 0
IncarnationsAreOneRun = (episodes : List Episode) (state : State) → MayBegin state → AreOneRun episodes state

-- SERIAL USE. Over all incarnations each file all of whose open regimes isolate is used as if they had used it one after another.
abbrev pub IncarnationsAreSerial : Type 0
IncarnationsAreSerial =
    (episodes : List Episode) (state : State) → MayBegin state
    → EachUse (IsUsedSerially (after_all episodes state).files) (happenings episodes state) state

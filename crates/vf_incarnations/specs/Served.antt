-- A call of `serve` as an incarnation (profile), by what its links tell and what its disk may leave.
use Rattle.std.specs.Prelude.{◌≡◌, ℕ, false, List, [], ◌∷◌, ◌++◌, Option, None, Some, Result, Err}
use Rattle.vf_base.specs.Links.{Traffic, has_note}
use Rattle.vf_base.specs.declared.events.ScriptEvent.{ScriptEvent}
use Rattle.vf_filestore.specs.State.{State}
use Rattle.vf_filestore.specs.Tables.{tables_of}
use Rattle.vf_store.specs.Represented.{Represents}
use Rattle.vf_responder.specs.Along.{RepresentsAlong}
use Rattle.vf_responder.specs.Run.{run}
use Rattle.vf_responder.specs.Served.{IsFront, KeepsAnswered, Serves, answered, but_last, is_shut, lived_with, octets_on}
use Rattle.vf_responder.specs.Serving.{unheard}
use Rattle.vf_responder.specs.declared.error.ServeError.{ServeError}
use Rattle.vf_responder.specs.declared.error.ServeError.TheVariants.{Respond}
use Rattle.vf_responder.specs.declared.serving.Served.{Served}
use Rattle.vf_serial.specs.Laws.{EachUse, IsUsedSerially}
use Rattle.vf_incarnations.specs.Incarnations.{Incarnation, Incarnates, Stop, left_by, sent_by}
use Rattle.vf_incarnations.specs.Laws.{MayBegin}
use Rattle.vf_incarnations.specs.Messages.{happenings}

-- WHERE IT ENDED. Where the responder couldn't go on it stopped within the last event that came, or, where none had come, as the
-- store was opened. Else it was through with all that came.
abbrev pub IsWithin : List ScriptEvent → Option Stop → Type 0
IsWithin events None = events ≡ []
IsWithin events (Some stop) = events ≡ but_last events ++ stop.event ∷ []

abbrev pub EndsSo : {T : Type 0} → Result T ServeError → List ScriptEvent → Option Stop → Type 0
EndsSo (Err (Respond error)) events stop = IsWithin events stop
EndsSo result events stop = stop ≡ None

-- WHAT WAS SENT is what the incarnation sends: on a link on which no send failed all of it, and on each other one the first of it.
pub record IsSentBy (incarnation : Incarnation) (state : State) (traffic : Traffic) : Type 0 where
  pub whole : (link : ℕ) → has_note link traffic.failed ≡ false → traffic.taken link ≡ octets_on link (sent_by incarnation state)
  pub front : (link : ℕ) → IsFront (traffic.taken link) (octets_on link (sent_by incarnation state))
  pub shut : (link : ℕ) → has_note link traffic.shut ≡ is_shut link (sent_by incarnation state)

-- SERIAL USE. In it each file all of whose open regimes isolate is used as if they had used it one after another.
abbrev pub IsSerial : Incarnation → State → Type 0
IsSerial incarnation state = EachUse (IsUsedSerially (left_by incarnation state).files) (happenings (Incarnates incarnation ∷ []) state) state

-- The incarnation that a call was, of which a crash left this image: it answered the events whose replies were sent, with the
-- ends of links on which a send failed, and the image represents what it left.
pub record IsIncarnation {T : Type 0} (state : State) (result : Result T ServeError) (traffic : Traffic) (image : List ℕ) : Type 0 where
  pub incarnation : Incarnation
  pub events : incarnation.events ≡ lived_with (answered result traffic) traffic
  pub ends : EndsSo result traffic.events incarnation.stop
  pub sent : IsSentBy incarnation state traffic
  pub left : Represents image (tables_of (left_by incarnation state))
  pub serial : IsSerial incarnation state

-- So each image that a crash may leave once a call has ended is left by an incarnation, however it ended. Nothing is lost that was
-- answered, and of the event in progress the first messages are there or none.
abbrev pub Incarnated : {D : Type 0} → (D → List ℕ → Type 0) → State → D → Result Served ServeError → Option Traffic → Type 0
Incarnated may_leave state disk result None = ⊥
Incarnated may_leave state disk result (Some traffic) = (image : List ℕ) → may_leave disk image → IsIncarnation state result traffic image

abbrev pub ServingIncarnates : {D : Type 0} → (D → Option (List ℕ)) → (D → List ℕ → Type 0) → Type 0
ServingIncarnates {D} shown may_leave =
    (state : State) (disk : D) (result : Result Served ServeError) (told : Option Traffic) → MayBegin state
    → Serves shown may_leave (unheard state) disk result told → KeepsAnswered may_leave (unheard state) disk result told → Incarnated may_leave state disk result told

-- WHILE IT RUNS. These events begin with those that were given to an incarnation.
abbrev pub last_event : Option Stop → List ScriptEvent
last_event None = []
last_event (Some stop) = stop.event ∷ []

abbrev pub events_to : Incarnation → List ScriptEvent
events_to incarnation = incarnation.events ++ last_event incarnation.stop

pub record StopsAlong (state : State) (events : List ScriptEvent) (image : List ℕ) : Type 0 where
  pub incarnation : Incarnation
  pub later : List ScriptEvent
  pub front : events ≡ events_to incarnation ++ later
  pub left : Represents image (tables_of (left_by incarnation state))

-- Each image that a crash may leave while events are answered is left by an incarnation that stopped there.
abbrev pub EachMomentIsAStop : Type 0
EachMomentIsAStop =
    (state : State) (events : List ScriptEvent) (image : List ℕ) → RepresentsAlong (unheard state) (run events (unheard state)) image
    → StopsAlong state events image

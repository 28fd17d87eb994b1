-- Incarnations of the responder on one store, one after another (profile). Each begins with what the one before it left and
-- with no party, and ends at any moment: where its links are through, or where it is stopped.
use Rattle.std.specs.Prelude.{ℕ, List, [], ◌∷◌, ◌++◌, take, Option, None, Some}
use Rattle.vf_base.specs.declared.events.ScriptEvent.{ScriptEvent}
use Rattle.vf_filestore.specs.Dockets.{dropped, stopped}
use Rattle.vf_filestore.specs.State.{State}
use Rattle.vf_responder.specs.Answers.{Answer, at_end, spoken_in}
use Rattle.vf_responder.specs.Run.{run, trail}
use Rattle.vf_responder.specs.Serving.{Serving, unheard}
use Rattle.vf_responder.specs.declared.event.Reply.{Reply}

-- A stop within an event, after so many of the answers to it. An answer is made where what it changes is on the disk.
pub record Stop : Type 0 where
  pub event : ScriptEvent
  pub answers : ℕ

-- An incarnation: the events that it was given and answered, with the end of each link on which a send failed among them; and
-- where it stopped within one event more, that stop.
pub record Incarnation : Type 0 where
  pub events : List ScriptEvent
  pub stop : Option Stop

-- WHAT IT ANSWERS, in a state with no party: all answers to its events, and the first ones to the event within which it stopped.
abbrev pub whole : Incarnation → State → List Answer
whole incarnation state = run incarnation.events (unheard state)

abbrev pub cut_short : Option Stop → Serving → List Answer
cut_short None serving = []
cut_short (Some stop) serving = take stop.answers (trail stop.event serving)

abbrev pub answers : Incarnation → State → List Answer
answers incarnation state =
    let first = whole incarnation state in first ++ cut_short incarnation.stop (at_end (unheard state) first)

-- What it sends. Replies to an event leave once all answers to it are made, so that those to the last one don't leave where it
-- stopped within that.
abbrev pub sent_by : Incarnation → State → List Reply
sent_by incarnation state = spoken_in (whole incarnation state)

-- The state that it leaves: all associations are gone, and each recoverable open has left its docket.
abbrev pub left_by : Incarnation → State → State
left_by incarnation state = stopped (at_end (unheard state) (answers incarnation state)).filestore

-- ONE AFTER ANOTHER, with dockets that are dropped between two of them by whoever keeps the store.
pub data Episode : Type 0 where
  Incarnates : Incarnation → Episode
  Drops : (identity : List ℕ) (activity : ℕ) → Episode

abbrev pub after : Episode → State → State
after (Incarnates incarnation) state = left_by incarnation state
after (Drops identity activity) state = dropped identity activity state

abbrev pub after_all : List Episode → State → State
after_all [] state = state
after_all (episode ∷ later) state = after_all later (after episode state)

-- what each incarnation sends
abbrev pub sent_by_all : List Episode → State → List (List Reply)
sent_by_all [] state = []
sent_by_all (Incarnates incarnation ∷ later) state = sent_by incarnation state ∷ sent_by_all later (left_by incarnation state)
sent_by_all (Drops identity activity ∷ later) state = sent_by_all later (dropped identity activity state)

-- All that happens to the filestore while incarnations of the responder come one after another (profile).
use Rattle.std.specs.Prelude.{List, [], ◌∷◌, ◌++◌, map, filter_map, take, Option, None, Some}
use Rattle.vf_base.specs.declared.events.ScriptEvent.{ScriptEvent}
use Rattle.vf_filestore.specs.Dockets.{dropped}
use Rattle.vf_filestore.specs.Runs.{Event, Stops}
use Rattle.vf_filestore.specs.State.{State}
use Rattle.vf_serial.specs.Moves.{Happening, Happens}
use Rattle.vf_serial.specs.Moves as moves
use Rattle.vf_responder.specs.Answers.{at_end}
use Rattle.vf_responder.specs.AnswersTo.{to_event}
use Rattle.vf_responder.specs.Run.{trail}
use Rattle.vf_responder.specs.Serving.{Serving, unheard}
use Rattle.vf_incarnations.specs.Incarnations.{Incarnation, Stop, Episode, Incarnates, Drops, left_by, whole}

-- EVENTS, to which the answers are one after another
abbrev pub to_events : List ScriptEvent → Serving → List (Option Event)
to_events [] serving = []
to_events (event ∷ later) serving = to_event event serving ++ to_events later (at_end serving (trail event serving))

-- INCARNATIONS
abbrev pub to_cut_short : Option Stop → Serving → List (Option Event)
to_cut_short None serving = []
to_cut_short (Some stop) serving = take stop.answers (to_event stop.event serving)

abbrev pub to_incarnation : Incarnation → State → List (Option Event)
to_incarnation incarnation state =
    to_events incarnation.events (unheard state) ++ to_cut_short incarnation.stop (at_end (unheard state) (whole incarnation state))

-- those that are events of the filestore
abbrev pub events_among : List (Option Event) → List Event
events_among all = filter_map (λ (one : Option Event). one) all

-- All that happens to the filestore while incarnations come one after another: what is answered in each, at its end a stop, and
-- between two of them dockets that are dropped.
abbrev pub happenings : List Episode → State → List Happening
happenings [] state = []
happenings (Incarnates incarnation ∷ later) state =
    map Happens (events_among (to_incarnation incarnation state) ++ Stops ∷ []) ++ happenings later (left_by incarnation state)
happenings (Drops identity activity ∷ later) state =
    moves.Drops identity activity ∷ happenings later (dropped identity activity state)
